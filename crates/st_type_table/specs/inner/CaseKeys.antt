-- Cases that are kept with their keys.
use Rattle.std.specs.Prelude.{◌≡◌, ◌⊎◌, ℕ, Bool, List, [], ◌∷◌, ◌++◌, slice_get, Some}
use Rattle.std.specs.Bool.{MatchBool}
use Rattle.st_il.specs.Key.{PlainKey, sign, bracket, atom, free}
use Rattle.st_type_table.specs.declared.case_list.CaseList.{CaseList}
use Rattle.st_type_table.specs.declared.case_list.KeptKey.{KeptKey}
use Rattle.st_type_table.specs.declared.case_list.KeptKey.TheVariants as kept_key
use Rattle.st_type_table.specs.declared.entry.CaseDef.{CaseDef}
use Rattle.st_type_table.specs.Keys.{HasKey, SameKey, KeysDiffer}
use Rattle.st_type_table.specs.inner.KeyIndexes.{IsKeyIndex}

-- what a key is that is kept
abbrev pub plain_kept : KeptKey → PlainKey
plain_kept (kept_key.Sign top) = sign top
plain_kept (kept_key.Bracket opening) = bracket opening
plain_kept (kept_key.Atom name) = atom name
plain_kept kept_key.Free = free

-- one of the cases has the key of this tag
abbrev pub Clashes : List CaseDef → List ℕ → Type 0
Clashes [] tag = ⊥
Clashes (c ∷ cs) tag = SameKey c.tag tag ⊎ Clashes cs tag

-- these are the keys of the cases, one after another
abbrev pub AreKeys : List CaseDef → List KeptKey → Type 0
AreKeys [] [] = Unit {0}
AreKeys [] (k ∷ ks) = ⊥
AreKeys (c ∷ cs) [] = ⊥
AreKeys (c ∷ cs) (k ∷ ks) = HasKey c.tag (plain_kept k) × AreKeys cs ks

-- the keys of the cases differ, and are kept, with an index of them
pub record IsKeyed (l : CaseList) : Type 0 where
  pub differ : KeysDiffer l.items
  pub keys : AreKeys l.items l.keys
  pub indexed : IsKeyIndex l.items l.index

-- the case is added, or one of those before it has its key
abbrev pub AddsCase : List CaseDef → List CaseDef → CaseDef → Bool → Type 0
AddsCase before after c added = MatchBool added
    ((after ≡ before ++ c ∷ []) × (Clashes before c.tag → ⊥))
    (Clashes before c.tag)

-- the case of this number of the other list is added, or one of those before it has its key
abbrev pub AddsFrom : List CaseDef → List CaseDef → List CaseDef → ℕ → Bool → Type 0
AddsFrom before after others at added =
    (c : CaseDef) × ((slice_get others at ≡ Some c) × AddsCase before after c added)
