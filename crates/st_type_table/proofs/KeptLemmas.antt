-- What a table keeps has the bodies of its definitions.
use Rattle.std.proofs.Common.{◌≡◌, refl, ℕ, Bool, true, false, List, [], ◌∷◌, Option, Some, None, nat_eq, if◌then◌else◌}
use Rattle.std.specs.Cmp.Lexicographic.{pointwise}
use Rattle.st_il.specs.declared.ty.Ty.{Ty, out-Ty}
use Rattle.st_il.specs.declared.ty.Ty.TheOpen.{Ty-F}
use Rattle.st_il.specs.declared.definition.SyntaxBody.{SyntaxBody}
use Rattle.st_type_table.specs.declared.entry.Entry.{Entry}
use Rattle.st_type_table.specs.Meaning.{body_of, named, named_at}
use Rattle.st_type_table.specs.inner.Kept.{Kept, defs_of, entry_of, entry_at, entry_named}

abbrev pub bodied : Option Entry → Option SyntaxBody
bodied None = None
bodied (Some e) = Some e.body

pub body_of-kept : (kept : Kept) (name : List ℕ) → body_of (defs_of kept) name ≡ bodied (entry_of kept name)
body_of-kept [] name = refl
body_of-kept (e ∷ es) name = by (pointwise nat_eq name e.0) (body_of-kept es name)
  where
    by : (b : Bool) → body_of (defs_of es) name ≡ bodied (entry_of es name)
        → (if b then Some e.1.body else body_of (defs_of es) name) ≡ bodied (if b then Some e.1 else entry_of es name)
    by true h = refl
    by false h = h

named_at-kept : (kept : Kept) (l : Ty-F Ty) → named_at (defs_of kept) l ≡ bodied (entry_at kept l)
named_at-kept kept Ty-F.Bool = refl
named_at-kept kept Ty-F.Nat = refl
named_at-kept kept Ty-F.Int = refl
named_at-kept kept Ty-F.Text = refl
named_at-kept kept (Ty-F.Name name) = body_of-kept kept name
named_at-kept kept (Ty-F.List x) = refl
named_at-kept kept (Ty-F.Opt x) = refl
named_at-kept kept (Ty-F.Tuple xs) = refl

pub named-kept : (kept : Kept) (t : Ty) → named (defs_of kept) t ≡ bodied (entry_named kept t)
named-kept kept t = named_at-kept kept (out-Ty t)
