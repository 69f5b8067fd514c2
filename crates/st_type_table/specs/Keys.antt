-- Keys of the tags of cases: which case is the first with a key, and which have the same key.
use Rattle.std.specs.Prelude.{◌≡◌, ℕ, List, [], ◌∷◌, Option, Some, None}
use Rattle.std.specs.List.{AllByRecursion}
use Rattle.st_il.specs.declared.ty.Ty.{Ty}
use Rattle.st_il.specs.declared.definition.SyntaxDef.{SyntaxDef}
use Rattle.st_il.specs.declared.template.Template.{Template}
use Rattle.st_il.specs.Template.{HasTag}
use Rattle.st_il.specs.Key.{PlainKey, key, free}
use Rattle.st_type_table.specs.declared.entry.CaseDef.{CaseDef}
use Rattle.st_type_table.specs.Cases.{HasCases}

-- The key of a tag is that of its template. A tag of no template has none.
pub data HasKey (tag : List ℕ) : PlainKey → Type 0 where
  template : {k : PlainKey} (t : Template) → HasTag t tag → k ≡ key t → HasKey tag k
  none : {k : PlainKey} → ((t : Template) → HasTag t tag → ⊥) → k ≡ free → HasKey tag k

-- the key of a template, where there is one
abbrev pub plain_key : Option Template → PlainKey
plain_key None = free
plain_key (Some t) = key t

-- no case of these has this key
abbrev pub NoneHasKey : PlainKey → List CaseDef → Type 0
NoneHasKey k = AllByRecursion (λ (c : CaseDef). HasKey c.tag k → ⊥)

-- The case is the first of these with this key.
pub data IsFirstWith (k : PlainKey) : List CaseDef → CaseDef → Type 0 where
  here : {c : CaseDef} {cs : List CaseDef} → HasKey c.tag k → IsFirstWith k (c ∷ cs) c
  later : {d c : CaseDef} {cs : List CaseDef} → (HasKey d.tag k → ⊥) → IsFirstWith k cs c
      → IsFirstWith k (d ∷ cs) c

-- the type is a variant, itself or through aliases, and this is its first case with this key
pub record IsCaseWith (defs : List SyntaxDef) (t : Ty) (k : PlainKey) (c : CaseDef) : Type 0 where
  pub cases : List CaseDef
  pub has : HasCases defs t cases
  pub first : IsFirstWith k cases c

-- both tags have one key, or both have none
pub record SameKey (a b : List ℕ) : Type 0 where
  pub key : PlainKey
  pub one : HasKey a key
  pub other : HasKey b key

-- no two of these cases have the same key
abbrev pub KeysDiffer : List CaseDef → Type 0
KeysDiffer [] = Unit {0}
KeysDiffer (c ∷ cs) = AllByRecursion (λ d. SameKey c.tag d.tag → ⊥) cs × KeysDiffer cs
