-- The mark of a relation, and its text.
use Rattle.std.proofs.Common.{◌≡◌, refl, sym, ◌∙◌, ap, subst, ℕ, zero, suc, ◌+◌, ◌^◌, ◌<◌, ◌≤◌, Bool, true, false, true≢false, List, [], ◌∷◌, drop, length, get_or, Option, Some, None, codes, bytes_eq, arith}
use Rattle.std.specs.Prelude.{All, find, slice_get, if◌then◌else◌}
use Rattle.std.specs.Borrow.{Bor}
use Rattle.std.proofs.lemmas.List.{length-map}
use Rattle.std.proofs.lemmas.Option.{slice_get_within, slice_get_read}
use Rattle.std.proofs.lemmas.Slice.Eq.{bytes_eq-Decides}
use Rattle.st_il.specs.declared.definition.Il.{Il}
use Rattle.st_il.specs.declared.definition.RelationDef.{RelationDef}
use Rattle.st_semantics.specs.declared.unfit.Unfit.{Unfit}
use Rattle.st_order.specs.Known.{all_now}
use Rattle.st_order.specs.Modes.{HasFew}
use Rattle.st_order.specs.Tagged.{IsTagged}
use Rattle.st_il.specs.Names.{Name}
use Rattle.st_il.specs.Definitions.{relations, relation_named}
use Rattle.st_semantics.specs.Directions.{IsStepping}
use Rattle.st_semantics.specs.Marks.{HasUnfit, HasMark, U0, Unsearchable, U5}
use Rattle.st_answers.specs.MarkTexts.{unfit_text, IsMarkText}
use Rattle.st_answers.specs.inner.Marking.{IsFirstNamed}
use Rattle.st_answers.proofs.OrderLines.{now_at as read_at, relations_long}

-- ---- the first relation of a name

-- the test by which it is found
abbrev pub named_test : Name → RelationDef → Bool
named_test name = λ (r : RelationDef). bytes_eq name r.name

-- none before this number has the name
abbrev pub NoneNamedBefore : List (Bor RelationDef) → Name → ℕ → Type 0
NoneNamedBefore refs name i = find (named_test name) (all_now (drop i refs)) ≡ find (named_test name) (all_now refs)

found_at : (name : Name) (refs : List (Bor RelationDef)) (i : ℕ) (r : Bor RelationDef) → slice_get refs i ≡ Some r
    → find (named_test name) (all_now (drop i refs)) ≡ (if bytes_eq name r.now.name then Some r.now else find (named_test name) (all_now (drop (suc i) refs)))
found_at name [] i r is = absurd (cc)
found_at name (x ∷ refs) zero r is =
    let same : x ≡ r = cc in
    ap (λ (z : Bor RelationDef). if bytes_eq name z.now.name then Some z.now else find (named_test name) (all_now refs)) same
found_at name (x ∷ refs) (suc i) r is = found_at name refs i r is

now_at : (refs : List (Bor RelationDef)) (i : ℕ) (r : Bor RelationDef) → slice_get refs i ≡ Some r → slice_get (all_now refs) i ≡ Some r.now
now_at [] i r is = absurd (cc)
now_at (x ∷ refs) zero r is = let same : x ≡ r = cc in ap (λ (z : Bor RelationDef). Some z.now) same
now_at (x ∷ refs) (suc i) r is = now_at refs i r is

pub is_first : (name : Name) (refs : List (Bor RelationDef)) (i : ℕ) (r : Bor RelationDef) → NoneNamedBefore refs name i → slice_get refs i ≡ Some r → bytes_eq name r.now.name ≡ true
    → IsFirstNamed refs name (Some i)
is_first name refs i r before is test =
    let found = ap (λ b. if b then Some r.now else find (named_test name) (all_now (drop (suc i) refs))) test in
    (r.now, now_at refs i r is, sym before ∙ found_at name refs i r is ∙ found, sym ((bytes_eq-Decides name r.now.name).0 test))

pub passes : (name : Name) (refs : List (Bor RelationDef)) (i : ℕ) (r : Bor RelationDef) → NoneNamedBefore refs name i → slice_get refs i ≡ Some r → bytes_eq name r.now.name ≡ false
    → NoneNamedBefore refs name (i + 1)
passes name refs i r before is test =
    let one : i + 1 ≡ suc i = omega arith in
    let found = ap (λ b. if b then Some r.now else find (named_test name) (all_now (drop (suc i) refs))) test in
    subst (NoneNamedBefore refs name) (sym one) (sym (found_at name refs i r is ∙ found) ∙ before)

drop_past : (refs : List (Bor RelationDef)) (i : ℕ) → length refs ≤ i → drop i refs ≡ []
drop_past [] zero le = refl
drop_past [] (suc i) le = refl
drop_past (x ∷ refs) zero le = absurd (omega arith)
drop_past (x ∷ refs) (suc i) le = drop_past refs i (omega arith)

pub none_named : (name : Name) (refs : List (Bor RelationDef)) (i : ℕ) → NoneNamedBefore refs name i → length refs ≤ i → IsFirstNamed refs name None
none_named name refs i before past = sym before ∙ ap (λ z. find (named_test name) (all_now z)) (drop_past refs i past)

-- ---- marks of declared relations

pub unfit_marks : (il : Il) (steps : Bool) (r : RelationDef) (unfit : Unfit) (mark : Option Unfit) (text : List ℕ) → relation_named il r.name ≡ Some r → HasUnfit il r mark → mark ≡ Some unfit
    → text ≡ unfit_text unfit → IsMarkText il steps r.name (Some text)
unfit_marks il steps r unfit mark text found has is text_is = (Unsearchable unfit, HasMark.searched r unfit found (subst (HasUnfit il r) is has) refl, text_is)

pub not_run : (il : Il) (steps : Bool) (r : RelationDef) → relation_named il r.name ≡ Some r → HasUnfit il r None → steps ≡ false → IsMarkText il steps r.name None
not_run il steps r found has not = HasMark.none r found has (λ asked. absurd (true≢false (sym asked ∙ not))) refl

pub runs : (il : Il) (steps : Bool) (r : RelationDef) → relation_named il r.name ≡ Some r → HasUnfit il r None → IsStepping il r → IsMarkText il steps r.name None
runs il steps r found has stepping = HasMark.none r found has (λ asked. stepping) refl

pub leads_away : (il : Il) (steps : Bool) (r : RelationDef) (text : List ℕ) → relation_named il r.name ≡ Some r → HasUnfit il r None → steps ≡ true → (IsStepping il r → ⊥) → text ≡ codes "U5"
    → IsMarkText il steps r.name (Some text)
leads_away il steps r text found has asked not text_is = (U5, HasMark.u5 r found has asked not refl, text_is)

pub undeclared : (il : Il) (steps : Bool) (name : Name) (refs : List (Bor RelationDef)) (text : List ℕ) → all_now refs ≡ relations il → IsFirstNamed refs name None → text ≡ codes "U0"
    → IsMarkText il steps name (Some text)
undeclared il steps name refs text all first text_is = (U0, HasMark.u0 (ap (find (named_test name)) (sym all) ∙ first) refl, text_is)

-- ---- the relation of a number

-- it is within the relations
pub is_within : (refs : List (Bor RelationDef)) (name : Name) (n : ℕ) → IsFirstNamed refs name (Some n) → n < length refs
is_within refs name n (r, there, found, named) =
    let within : n < length (all_now refs) = slice_get_within (all_now refs) n r there in
    let long : length (all_now refs) ≡ length refs = length-map refs (λ (r : Bor RelationDef). r.now) in
    omega arith

-- the relation that stands there is one of a notation
pub tagged_at : (il : Il) (refs : List (Bor RelationDef)) (n : ℕ) (r : Bor RelationDef) → all_now refs ≡ relations il → n < length refs → r ≡ get_or refs n r → All IsTagged (relations il) → IsTagged r.now
tagged_at il refs n r are within is all =
    let there : n < length (relations il) = omega (arith, within, length-map refs (λ (x : Bor RelationDef). x.now), ap length are) in
    subst IsTagged (sym (read_at refs n r r is ∙ ap (λ rs. get_or rs n r.now) are)) (all n r.now there)

-- it is the first of the name, and has this name
pub is_relation : (il : Il) (refs : List (Bor RelationDef)) (name : Name) (n : ℕ) (r : Bor RelationDef) → all_now refs ≡ relations il → IsFirstNamed refs name (Some n) → r ≡ get_or refs n r
    → (relation_named il name ≡ Some r.now) × (r.now.name ≡ name)
is_relation il refs name n r all (one, there, found, named) is =
    let within = is_within refs name n (one, there, found, named) in
    let here : slice_get (all_now refs) n ≡ Some r.now = now_at refs n r (slice_get_read refs (length refs) n r refl within is) in
    let same : one ≡ r.now = cc in
    (ap (find (named_test name)) (sym all) ∙ found ∙ ap Some same, ap (λ (z : RelationDef). z.name) (sym same) ∙ named)

-- The mark of the relation of a name, by what is said of the one of this number under its own name.
pub by_name : (il : Il) (steps : Bool) (refs : List (Bor RelationDef)) (name : Name) (n : ℕ) (r : Bor RelationDef) (mark : Option Unfit) (text : Option (List ℕ)) → all_now refs ≡ relations il
    → IsFirstNamed refs name (Some n) → r ≡ get_or refs n r → HasUnfit il r.now mark
    → (relation_named il r.now.name ≡ Some r.now → HasUnfit il r.now mark → IsMarkText il steps r.now.name text) → IsMarkText il steps name text
by_name il steps refs name n r mark text all (one, there, found, named) is has says =
    let (first, its) = is_relation il refs name n r all (one, there, found, named) is in
    subst (λ z. IsMarkText il steps z text) its (says (ap (relation_named il) its ∙ first) has)

-- its number is small
pub few_at : (il : Il) (refs : List (Bor RelationDef)) (name : Name) (n : ℕ) → all_now refs ≡ relations il → IsFirstNamed refs name (Some n) → HasFew il → n < 2 ^ 32
few_at il refs name n all first few =
    let within = is_within refs name n first in
    let same = ap length all in
    let long = length-map refs (λ (x : Bor RelationDef). x.now) in
    let most = relations_long il.defs in
    let defs = few.0 in
    omega (arith, same, long, most, defs)
