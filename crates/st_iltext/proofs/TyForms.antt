-- What a type is whose tree is known.
use Rattle.std.proofs.Common.{◌≡◌, ◌≢◌, ℕ, List, map, length, codes, Bool, ◌&&◌, nat_le, sym, ap, ap₂, subst, ◌∙◌, ◌⊎◌, inl, inr}
use Rattle.std.specs.List.{list_all}
use Rattle.st_il.specs.declared.ty.Ty.{Ty, roll-Ty, out-Ty, map-Ty, roll-out-Ty, fold-roll-Ty}
use Rattle.st_il.specs.declared.ty.Ty.TheOpen.{Ty-F}
use Rattle.st_il.specs.declared.ty.Ty.TheVariants as ty
use Rattle.st_text.specs.Text.{TextTree, TextTrees, word, quote, list, none, more}
use Rattle.st_text.specs.Trees.{row_of}
use Rattle.st_iltext.specs.Expressions.{ty_tree}
use Rattle.st_iltext.specs.Written.{ty_written_at, ty_written}
use Rattle.st_iltext.specs.inner.Reading.{IsOf, IsOfNone}
use Rattle.st_iltext.proofs.Rows.{first_of, rest_of, parts_of, all_map, count_map}
use Rattle.st_iltext.proofs.TySame.{ty-tree}

pub ty-written : (l : Ty-F Ty) → ty_written (roll-Ty l) ≡ ty_written_at (map-Ty Ty Bool ty_written l)
ty-written l = fold-roll-Ty Bool ty_written_at l

pub written-List : (t : Ty) → ty_written (ty.List t) ≡ ty_written t
written-List t = ap ty_written (sym (ty.rolls-List t)) ∙ ty-written (Ty-F.List t)

pub written-Opt : (t : Ty) → ty_written (ty.Opt t) ≡ ty_written t
written-Opt t = ap ty_written (sym (ty.rolls-Opt t)) ∙ ty-written (Ty-F.Opt t)

pub written-Tuple : (ts : List Ty) → ty_written (ty.Tuple ts) ≡ (nat_le 2 (length ts) && list_all ty_written ts)
written-Tuple ts = ap ty_written (sym (ty.rolls-Tuple ts)) ∙ ty-written (Ty-F.Tuple ts) ∙ ap₂ (λ (n : ℕ) b. nat_le 2 n && b) (count_map ty_written ts) (all_map ty_written ts)

-- a type whose tree is a list: its head, and the trees behind it
abbrev pub TyParts : TextTree → TextTrees → Ty → Type 0
TyParts h ts t =
    ((h ≡ word (codes "n")) × ((x : List ℕ) × (t ≡ ty.Name x) × (ts ≡ more (quote x) none)))
    ⊎ ((h ≡ word (codes "l")) × ((u : Ty) × (t ≡ ty.List u) × (ts ≡ more (ty_tree u) none)))
    ⊎ ((h ≡ word (codes "o")) × ((u : Ty) × (t ≡ ty.Opt u) × (ts ≡ more (ty_tree u) none)))
    ⊎ ((h ≡ word (codes "t")) × ((us : List Ty) × (t ≡ ty.Tuple us) × (ts ≡ row_of (map ty_tree us))))

parts_at : (l : Ty-F Ty) (h : TextTree) (ts : TextTrees) → ty_tree (roll-Ty l) ≡ list (more h ts) → TyParts h ts (roll-Ty l)
parts_at Ty-F.Bool h ts e = absurd (cc (ty-tree Ty-F.Bool))
parts_at Ty-F.Nat h ts e = absurd (cc (ty-tree Ty-F.Nat))
parts_at Ty-F.Int h ts e = absurd (cc (ty-tree Ty-F.Int))
parts_at Ty-F.Text h ts e = absurd (cc (ty-tree Ty-F.Text))
parts_at (Ty-F.Name x) h ts e = let j = parts_of (sym e ∙ ty-tree (Ty-F.Name x)) in inl (first_of j, (x, ty.rolls-Name x, rest_of j))
parts_at (Ty-F.List u) h ts e = let j = parts_of (sym e ∙ ty-tree (Ty-F.List u)) in inr (inl (first_of j, (u, ty.rolls-List u, rest_of j)))
parts_at (Ty-F.Opt u) h ts e = let j = parts_of (sym e ∙ ty-tree (Ty-F.Opt u)) in inr (inr (inl (first_of j, (u, ty.rolls-Opt u, rest_of j))))
parts_at (Ty-F.Tuple us) h ts e = let j = parts_of (sym e ∙ ty-tree (Ty-F.Tuple us)) in inr (inr (inr (first_of j, (us, ty.rolls-Tuple us, rest_of j))))

pub ty_parts : (t : Ty) (h : TextTree) (ts : TextTrees) → ty_tree t ≡ list (more h ts) → TyParts h ts t
ty_parts t h ts = subst (λ (x : Ty). ty_tree x ≡ list (more h ts) → TyParts h ts x) (roll-out-Ty t) (parts_at (out-Ty t) h ts)

-- the tree is that of this type, or of no type
abbrev pub IsTy : TextTree → Ty → Type 0
IsTy = IsOf ty_tree ty_written

abbrev pub IsNoTy : TextTree → Type 0
IsNoTy = IsOfNone ty_tree ty_written

-- what begins with another head than the four is no type
pub ty_no_head : (h : TextTree) (ts : TextTrees) → h ≢ word (codes "n") → h ≢ word (codes "l") → h ≢ word (codes "o") → h ≢ word (codes "t") → IsNoTy (list (more h ts))
ty_no_head h ts n l o t = record {
  never = λ x p e. elim (ty_parts x h ts (sym e)) [
    | inl d ↦ n d.0
    | inr (inl d) ↦ l d.0
    | inr (inr (inl d)) ↦ o d.0
    | inr (inr (inr d)) ↦ t d.0
  ];
}
