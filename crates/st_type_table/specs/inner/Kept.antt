-- What a table keeps of its definitions, and how it is right.
use Rattle.std.specs.Prelude.{◌≡◌, ◌<◌, ◌↔◌, ℕ, List, [], ◌∷◌, map, Option, Some, None, nat_eq}
use Rattle.std.specs.Map.{lookup}
use Rattle.std.specs.Cmp.Lexicographic.{pointwise}
use Rattle.st_il.specs.declared.ty.Ty.{Ty, out-Ty}
use Rattle.st_il.specs.declared.ty.Ty.TheOpen.{Ty-F}
use Rattle.st_il.specs.declared.definition.SyntaxDef.{SyntaxDef}
use Rattle.st_il.specs.declared.definition.SyntaxBody.{SyntaxBody}
use Rattle.st_il.specs.declared.definition.SyntaxBody.TheVariants as body
use Rattle.st_il.specs.declared.definition.Alternative.{Alternative}
use Rattle.st_type_table.specs.declared.entry.Entry.{Entry}
use Rattle.st_type_table.specs.declared.flat.Flat.{Flat}
use Rattle.st_type_table.specs.Cases.{Flatten, HasCases}
use Rattle.st_type_table.specs.Joins.{AllJoin}
use Rattle.st_type_table.specs.Breach.{IsSound}
use Rattle.st_type_table.specs.Keys.{KeysDiffer}
use Rattle.st_type_table.specs.Leads.{Among, names_in}
use Rattle.st_type_table.specs.inner.KeyIndexes.{IsKeyIndex}

-- what a table keeps: the names of syntaxes, each with its entry
abbrev pub Kept : Type 0
Kept = List (List ℕ × Entry)

-- the definition that an entry is kept of
abbrev pub declared : List ℕ × Entry → SyntaxDef
declared e = record { name = e.0; body = e.1.body }

-- the definitions that a table keeps
abbrev pub defs_of : Kept → List SyntaxDef
defs_of kept = map declared kept

-- the entry of this name
abbrev pub entry_of : Kept → List ℕ → Option Entry
entry_of kept name = lookup (pointwise nat_eq name) kept

-- the entry that a type names, by the top of the type
abbrev pub entry_at : {X : Type 0} → Kept → Ty-F X → Option Entry
entry_at kept (Ty-F.Name name) = entry_of kept name
entry_at kept Ty-F.Bool = None
entry_at kept Ty-F.Nat = None
entry_at kept Ty-F.Int = None
entry_at kept Ty-F.Text = None
entry_at kept (Ty-F.List t) = None
entry_at kept (Ty-F.Opt t) = None
entry_at kept (Ty-F.Tuple ts) = None

-- the entry that a type names
abbrev pub entry_named : Kept → Ty → Option Entry
entry_named kept t = entry_at kept (out-Ty t)

-- the rank of an entry, and 0 where there is none
abbrev pub ranked : Option Entry → ℕ
ranked None = 0
ranked (Some e) = e.rank

-- the rank of the syntax of this name, and 0 where there is none
abbrev pub rank_of : Kept → List ℕ → ℕ
rank_of kept name = ranked (entry_of kept name)

-- the cases of these alternatives are kept, with an index of their keys, which differ
pub record KeepsCases (defs : List SyntaxDef) (alternatives : List Alternative)
    (e : Entry) : Type 0 where
  pub flattened : Flatten defs alternatives e.cases
  pub differ : KeysDiffer e.cases
  pub indexed : IsKeyIndex e.cases e.index

-- what an entry keeps of an alias, a variant or a record with this body is right
abbrev pub IsSettled : Kept → Entry → SyntaxBody → Type 0
IsSettled kept e (body.Alias t) =
    (name : List ℕ) → Among (names_in t) name → rank_of kept name < e.rank
IsSettled kept e (body.Variant alternatives) = KeepsCases (defs_of kept) alternatives e
IsSettled kept e (body.Fields fields) = (0 < e.join_rank) ↔ AllJoin (defs_of kept) fields

-- Aliases lead to smaller ranks, a variant has its cases, with an index of their keys, and a record
-- has a rank where it joins.
abbrev pub AllSettled : Kept → Type 0
AllSettled kept =
    (name : List ℕ) (e : Entry) → entry_of kept name ≡ Some e → IsSettled kept e e.body

-- the type is a variant, itself or through aliases, and the entry keeps its cases
pub record IsVariant (defs : List SyntaxDef) (t : Ty) (e : Entry) : Type 0 where
  pub has : HasCases defs t e.cases
  pub differ : KeysDiffer e.cases
  pub indexed : IsKeyIndex e.cases e.index

-- the definitions break no rule, and what is kept of them is right
pub record IsKept (kept : Kept) : Type 0 where
  pub sound : IsSound (defs_of kept)
  pub settled : AllSettled kept

-- what is kept of a definition with this rank, these cases and this rank of joining
abbrev pub kept_as : SyntaxDef → ℕ → Flat → ℕ → Entry
kept_as d rank f joins = record {
  body = d.body;
  rank = rank;
  cases = f.cases.items;
  index = f.cases.index;
  join_rank = joins;
}

-- what is kept of definitions with these ranks, cases and ranks of joining
abbrev pub kept_of : List SyntaxDef → List ℕ → List Flat → List ℕ → Kept
kept_of [] ranks flats joins = []
kept_of (d ∷ ds) [] flats joins = []
kept_of (d ∷ ds) (r ∷ rs) [] joins = []
kept_of (d ∷ ds) (r ∷ rs) (f ∷ fs) [] = []
kept_of (d ∷ ds) (r ∷ rs) (f ∷ fs) (j ∷ js) =
    (d.name, kept_as d r f j) ∷ kept_of ds rs fs js
