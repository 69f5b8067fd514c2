-- Keys of tags, and lists of cases whose keys differ.
use Rattle.std.proofs.Common.{◌≡◌, refl, sym, ap, ◌∙◌, subst, ℕ, zero, suc, List, [], ◌∷◌, ◌++◌, Option, Some, None, inl, inr}
use Rattle.std.specs.Prelude.{IfSome, IfNone, slice_get}
use Rattle.std.specs.List.{AllByRecursion}
use Rattle.st_il.specs.declared.template.Template.{Template}
use Rattle.st_il.specs.Template.{HasTag, HasOneTemplate}
use Rattle.st_il.specs.Key.{PlainKey, key}
use Rattle.st_type_table.specs.declared.entry.CaseDef.{CaseDef}
use Rattle.st_type_table.specs.Keys.{HasKey, NoneHasKey, IsFirstWith, here, later, SameKey, KeysDiffer, plain_key}
use Rattle.st_type_table.specs.inner.CaseKeys.{Clashes}

pub HasKey-single : (tag : List ℕ) (k m : PlainKey) → HasOneTemplate tag → HasKey tag k → HasKey tag m → k ≡ m
HasKey-single tag k m one (HasKey.template t h p) (HasKey.template u g q) = p ∙ ap key (one t u h g) ∙ sym q
HasKey-single tag k m one (HasKey.template t h p) (HasKey.none lacks q) = absurd (lacks t h)
HasKey-single tag k m one (HasKey.none lacks p) (HasKey.template u g q) = absurd (lacks u g)
HasKey-single tag k m one (HasKey.none lacks p) (HasKey.none others q) = p ∙ sym q

pub found-key : (tag : List ℕ) (found : Option Template) → IfSome found (λ t. HasTag t tag) → IfNone found ((t : Template) → HasTag t tag → ⊥) → HasKey tag (plain_key found)
found-key tag None some none = HasKey.none none refl
found-key tag (Some t) some none = HasKey.template t some refl

pub KeysDiffer-all : (c : CaseDef) (cs ds : List CaseDef) → AllByRecursion (λ d. SameKey c.tag d.tag → ⊥) cs → AllByRecursion (λ d. SameKey c.tag d.tag → ⊥) ds
    → AllByRecursion (λ d. SameKey c.tag d.tag → ⊥) (cs ++ ds)
KeysDiffer-all c [] ds h g = g
KeysDiffer-all c (x ∷ cs) ds h g = (h.0, KeysDiffer-all c cs ds h.1 g)

pub KeysDiffer-push : (cs : List CaseDef) (c : CaseDef) → KeysDiffer cs → (Clashes cs c.tag → ⊥) → KeysDiffer (cs ++ c ∷ [])
KeysDiffer-push [] c h g = (tt, tt)
KeysDiffer-push (x ∷ cs) c h g = (KeysDiffer-all x cs (c ∷ []) h.0 (λ s. g (inl s), tt), KeysDiffer-push cs c h.1 (λ s. g (inr s)))

at_end : (x : CaseDef) (cs : List CaseDef) (c : CaseDef) → AllByRecursion (λ d. SameKey x.tag d.tag → ⊥) (cs ++ c ∷ []) → SameKey x.tag c.tag → ⊥
at_end x [] c h s = h.0 s
at_end x (y ∷ cs) c h s = at_end x cs c h.1 s

pub KeysDiffer-pull : (cs : List CaseDef) (c : CaseDef) → KeysDiffer (cs ++ c ∷ []) → Clashes cs c.tag → ⊥
KeysDiffer-pull [] c h s = absurd s
KeysDiffer-pull (x ∷ cs) c h (inl s) = at_end x cs c h.0 s
KeysDiffer-pull (x ∷ cs) c h (inr s) = KeysDiffer-pull cs c h.1 s

front_all : (c : CaseDef) (xs ys : List CaseDef) → AllByRecursion (λ d. SameKey c.tag d.tag → ⊥) (xs ++ ys) → AllByRecursion (λ d. SameKey c.tag d.tag → ⊥) xs
front_all c [] ys h = tt
front_all c (x ∷ xs) ys h = (h.0, front_all c xs ys h.1)

back_all : (c : CaseDef) (xs ys : List CaseDef) → AllByRecursion (λ d. SameKey c.tag d.tag → ⊥) (xs ++ ys) → AllByRecursion (λ d. SameKey c.tag d.tag → ⊥) ys
back_all c [] ys h = h
back_all c (x ∷ xs) ys h = back_all c xs ys h.1

pub KeysDiffer-front : (xs ys : List CaseDef) → KeysDiffer (xs ++ ys) → KeysDiffer xs
KeysDiffer-front [] ys h = tt
KeysDiffer-front (x ∷ xs) ys h = (front_all x xs ys h.0, KeysDiffer-front xs ys h.1)

pub KeysDiffer-back : (xs ys : List CaseDef) → KeysDiffer (xs ++ ys) → KeysDiffer ys
KeysDiffer-back [] ys h = h
KeysDiffer-back (x ∷ xs) ys h = KeysDiffer-back xs ys h.1

-- ---- the first case with a key

pub FirstWith-none : (k : PlainKey) (cs : List CaseDef) (c : CaseDef) → NoneHasKey k cs → IsFirstWith k cs c → ⊥
FirstWith-none k [] c none h = elim h [ ]
FirstWith-none k (x ∷ cs) c none (here p) = none.0 p
FirstWith-none k (x ∷ cs) c none (later n h) = FirstWith-none k cs c none.1 h

-- where keys differ, a case with a key is the first
pub FirstWith-differ : (k : PlainKey) (cs : List CaseDef) (n : ℕ) (c : CaseDef) → KeysDiffer cs → slice_get cs n ≡ Some c → HasKey c.tag k → IsFirstWith k cs c
FirstWith-differ k [] n c differ e h = cc
FirstWith-differ k (x ∷ cs) zero c differ e h = let q : x ≡ c = cc in subst (λ z. IsFirstWith k (z ∷ cs) c) (sym q) (here h)
FirstWith-differ k (x ∷ cs) (suc n) c differ e h = later (λ g. apart cs n differ.0 e (record { key = k; one = g; other = h })) (FirstWith-differ k cs n c differ.1 e h)
  where
    apart : (ds : List CaseDef) (m : ℕ) → AllByRecursion (λ d. SameKey x.tag d.tag → ⊥) ds → slice_get ds m ≡ Some c → SameKey x.tag c.tag → ⊥
    apart [] m all e s = cc
    apart (d ∷ ds) zero all e s = let q : c ≡ d = cc in all.0 (subst (λ (z : CaseDef). SameKey x.tag z.tag) q s)
    apart (d ∷ ds) (suc m) all e s = apart ds m all.1 e s

pub NoneHasKey-all : (k : PlainKey) (cs : List CaseDef) → ((n : ℕ) (c : CaseDef) → slice_get cs n ≡ Some c → HasKey c.tag k → ⊥) → NoneHasKey k cs
NoneHasKey-all k [] none = tt
NoneHasKey-all k (x ∷ cs) none = (none 0 x refl, NoneHasKey-all k cs (λ n. none (suc n)))
