-- Values of which all texts are texts and all numbers in range, by their levels.
use Rattle.std.proofs.Common.{◌≡◌, ◌↔◌, ℕ, ℤ, ◌+◌, ◌<◌, ◌≤◌, refl, sym, ◌∙◌, ap, subst, List, [], ◌∷◌, length, map, drop, get_or, Bool, Some, None}
use Rattle.std.specs.Prelude.{IsTrue}
use Rattle.std.specs.List.{All}
use Rattle.std.proofs.lemmas.List.{drop_more, drop_all}
use Rattle.std.proofs.lemmas.List.Elements.{All-nil, All-cons, All-head, All-tail, All-append}
use Rattle.st_num.specs.Number.{IsNumber}
use Rattle.st_num.specs.Texts.{IsText}
use Rattle.st_il.specs.declared.value.Value.{Value, out-Value, map-Value}
use Rattle.st_il.specs.declared.value.Value.TheOpen.{Value-F}
use Rattle.st_il.specs.Value.{texts_of, texts_at, joined, field_texts}
use Rattle.st_il.specs.Names.{Name, flattened}
use Rattle.st_semantics.specs.Environments.{numbers_of, numbers_at}
use Rattle.st_semantics.proofs.TypedParts.{texts-level, numbers-level}
use Rattle.st_match.specs.inner.Proper.{IsProper, AreProper, FieldsAreProper, ProperAt}
use Rattle.st_match.proofs.Tests.{All-parts}

-- the texts and numbers of a level
abbrev level_texts : Value-F Value → List (List ℕ)
level_texts y = texts_at (map-Value Value (List (List ℕ)) texts_of y)

abbrev level_numbers : Value-F Value → List ℤ
level_numbers y = numbers_at (map-Value Value (List ℤ) numbers_of y)

-- those of several values
parts_texts : (vs : List Value) → AreProper vs → All IsText (joined (map texts_of vs))
parts_texts [] h = All-nil IsText
parts_texts (v ∷ vs) h = All-append IsText (texts_of v) (joined (map texts_of vs)) h.0.texts (parts_texts vs h.1)

parts_numbers : (vs : List Value) → AreProper vs → All IsNumber (flattened (map numbers_of vs))
parts_numbers [] h = All-nil IsNumber
parts_numbers (v ∷ vs) h = All-append IsNumber (numbers_of v) (flattened (map numbers_of vs)) h.0.numbers (parts_numbers vs h.1)

parts_proper : (vs : List Value) → All IsText (joined (map texts_of vs)) → All IsNumber (flattened (map numbers_of vs)) → AreProper vs
parts_proper [] h k = tt
parts_proper (v ∷ vs) h k =
    let t = All-parts IsText (texts_of v) (joined (map texts_of vs)) h in
    let n = All-parts IsNumber (numbers_of v) (flattened (map numbers_of vs)) k in
    (record { texts = t.0; numbers = n.0 }, parts_proper vs t.1 n.1)

-- those of fields
abbrev with_texts : List (Name × Value) → List (Name × List (List ℕ))
with_texts fs = map (λ (f : Name × Value). (f.0, texts_of f.1)) fs

abbrev with_numbers : List (Name × Value) → List (Name × List ℤ)
with_numbers fs = map (λ (f : Name × Value). (f.0, numbers_of f.1)) fs

abbrev fields_numbers : List (Name × Value) → List ℤ
fields_numbers fs = flattened (map (λ (field : Name × List ℤ). field.1) (with_numbers fs))

fields_texts : (fs : List (Name × Value)) → FieldsAreProper fs → All IsText (joined (map field_texts (with_texts fs)))
fields_texts [] h = All-nil IsText
fields_texts (f ∷ fs) h =
    All-append IsText (f.0 ∷ texts_of f.1) (joined (map field_texts (with_texts fs))) (All-cons IsText f.0 (texts_of f.1) h.0.0 h.0.1.texts) (fields_texts fs h.1)

fields_in_range : (fs : List (Name × Value)) → FieldsAreProper fs → All IsNumber (fields_numbers fs)
fields_in_range [] h = All-nil IsNumber
fields_in_range (f ∷ fs) h = All-append IsNumber (numbers_of f.1) (fields_numbers fs) h.0.1.numbers (fields_in_range fs h.1)

fields_proper : (fs : List (Name × Value)) → All IsText (joined (map field_texts (with_texts fs))) → All IsNumber (fields_numbers fs) → FieldsAreProper fs
fields_proper [] h k = tt
fields_proper (f ∷ fs) h k =
    let t = All-parts IsText (f.0 ∷ texts_of f.1) (joined (map field_texts (with_texts fs))) h in
    let n = All-parts IsNumber (numbers_of f.1) (fields_numbers fs) k in
    ((All-head IsText f.0 (texts_of f.1) t.0, record { texts = All-tail IsText f.0 (texts_of f.1) t.0; numbers = n.0 }), fields_proper fs t.1 n.1)

-- ---- a level

level_proper : (y : Value-F Value) → ProperAt y → All IsText (level_texts y) × All IsNumber (level_numbers y)
level_proper (Value-F.Bool truth) h = (All-nil IsText, All-nil IsNumber)
level_proper (Value-F.Num number) h = (All-nil IsText, All-cons IsNumber number [] h (All-nil IsNumber))
level_proper (Value-F.Text text) h = (All-cons IsText text [] h (All-nil IsText), All-nil IsNumber)
level_proper (Value-F.Case tag parts) h = (All-cons IsText tag (joined (map texts_of parts)) h.0 (parts_texts parts h.1), parts_numbers parts h.1)
level_proper (Value-F.Fields fields) h = (fields_texts fields h, fields_in_range fields h)
level_proper (Value-F.Tuple parts) h = (parts_texts parts h, parts_numbers parts h)
level_proper (Value-F.List parts) h = (parts_texts parts h, parts_numbers parts h)
level_proper (Value-F.Opt None) h = (All-nil IsText, All-nil IsNumber)
level_proper (Value-F.Opt (Some part)) h = (h.texts, h.numbers)

proper_level : (y : Value-F Value) → All IsText (level_texts y) → All IsNumber (level_numbers y) → ProperAt y
proper_level (Value-F.Bool truth) h k = tt
proper_level (Value-F.Num number) h k = All-head IsNumber number [] k
proper_level (Value-F.Text text) h k = All-head IsText text [] h
proper_level (Value-F.Case tag parts) h k =
    (All-head IsText tag (joined (map texts_of parts)) h, parts_proper parts (All-tail IsText tag (joined (map texts_of parts)) h) k)
proper_level (Value-F.Fields fields) h k = fields_proper fields h k
proper_level (Value-F.Tuple parts) h k = parts_proper parts h k
proper_level (Value-F.List parts) h k = parts_proper parts h k
proper_level (Value-F.Opt None) h k = tt
proper_level (Value-F.Opt (Some part)) h k = record { texts = h; numbers = k }

-- what decides a level decides the value
pub proper-arm : (v : Value) (r : Bool) → (IsTrue r ↔ ProperAt (out-Value v)) → IsTrue r ↔ IsProper v
proper-arm v r h =
    let t = texts-level [] v (out-Value v) refl in
    let n = numbers-level [] v (out-Value v) refl in (
      λ e. let l = level_proper (out-Value v) (h.0 e) in record { texts = subst (All IsText) (sym t) l.0; numbers = subst (All IsNumber) (sym n) l.1 },
      λ p. h.1 (proper_level (out-Value v) (subst (All IsText) t p.texts) (subst (All IsNumber) n p.numbers)),
    )

-- ---- lists from a position on

pub AreProper-at : (vs : List Value) (i : ℕ) (v : Value) → i < length vs → v ≡ get_or vs i v → AreProper (drop i vs) ↔ (IsProper v × AreProper (drop (i + 1) vs))
AreProper-at vs i v h is =
    let front : drop i vs ≡ v ∷ drop (i + 1) vs = drop_more vs i v h ∙ ap (λ z. z ∷ drop (i + 1) vs) (sym is) in
    (λ p. subst AreProper front p, λ p. subst AreProper (sym front) p)

pub AreProper-end : (vs : List Value) (i : ℕ) → length vs ≤ i → AreProper (drop i vs)
AreProper-end vs i h = subst AreProper (sym (drop_all i vs h)) tt

pub FieldsAreProper-at : (fs : List (Name × Value)) (i : ℕ) (f : Name × Value) → i < length fs → f ≡ get_or fs i f → FieldsAreProper (drop i fs) ↔ ((IsText f.0 × IsProper f.1) × FieldsAreProper (drop (i + 1) fs))
FieldsAreProper-at fs i f h is =
    let front : drop i fs ≡ f ∷ drop (i + 1) fs = drop_more fs i f h ∙ ap (λ z. z ∷ drop (i + 1) fs) (sym is) in
    (λ p. subst FieldsAreProper front p, λ p. subst FieldsAreProper (sym front) p)

pub FieldsAreProper-end : (fs : List (Name × Value)) (i : ℕ) → length fs ≤ i → FieldsAreProper (drop i fs)
FieldsAreProper-end fs i h = subst FieldsAreProper (sym (drop_all i fs h)) tt
