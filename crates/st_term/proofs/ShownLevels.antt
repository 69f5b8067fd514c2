-- How values are shown, level by level.
use Rattle.std.proofs.Common.{◌≡◌, ℕ, List, [], ◌∷◌, ◌++◌, map, codes, Bool, Some, None, ℤ, sym, ap, ◌∙◌}
use Rattle.st_text.specs.Text.{quoted}
use Rattle.st_il.specs.declared.value.Value.{Value, roll-Value, map-Value, fold-roll-Value}
use Rattle.st_il.specs.declared.value.Value.TheOpen.{Value-F}
use Rattle.st_il.specs.declared.value.Value.TheVariants as val
use Rattle.std.specs.Prelude.{Option}
use Rattle.st_term.specs.declared.place.Place.{Place}
use Rattle.st_term.specs.TermText.{Shown, shown, shown_at, everywhere, collection, case_shown, element_text, field_text, listed, separated, wrapped, is_element, truth, number_text}
use Rattle.st_term.specs.inner.Pieces.{shown_field, collected, collection_text}

shown-roll : (l : Value-F Value) → shown (roll-Value l) ≡ shown_at (map-Value Value Shown shown l)
shown-roll l = fold-roll-Value Shown shown_at l

pub shown-Bool : (b : Bool) → shown (val.Bool b) ≡ everywhere (truth b)
shown-Bool b = ap shown (sym (val.rolls-Bool b)) ∙ shown-roll (Value-F.Bool b)

pub shown-Num : (z : ℤ) → shown (val.Num z) ≡ everywhere (number_text z)
shown-Num z = ap shown (sym (val.rolls-Num z)) ∙ shown-roll (Value-F.Num z)

pub shown-Text : (s : List ℕ) → shown (val.Text s) ≡ everywhere (quoted s)
shown-Text s = ap shown (sym (val.rolls-Text s)) ∙ shown-roll (Value-F.Text s)

pub shown-Case : (tag : List ℕ) (vs : List Value) → shown (val.Case tag vs) ≡ case_shown tag (map shown vs)
shown-Case tag vs = ap shown (sym (val.rolls-Case tag vs)) ∙ shown-roll (Value-F.Case tag vs)

pub shown-Fields : (fields : List (List ℕ × Value))
    → shown (val.Fields fields) ≡ everywhere (codes "{" ++ separated (codes ", ") (map field_text (map shown_field fields)) ++ codes "}")
shown-Fields fields = ap shown (sym (val.rolls-Fields fields)) ∙ shown-roll (Value-F.Fields fields)

pub shown-Tuple : (vs : List Value) → shown (val.Tuple vs) ≡ everywhere (codes "(" ++ listed (map shown vs) ++ codes ")")
shown-Tuple vs = ap shown (sym (val.rolls-Tuple vs)) ∙ shown-roll (Value-F.Tuple vs)

pub shown-List : (vs : List Value) → shown (val.List vs) ≡ collection (map element_text (map shown vs))
shown-List vs = ap shown (sym (val.rolls-List vs)) ∙ shown-roll (Value-F.List vs)

pub shown-None : shown (val.Opt None) ≡ collection []
shown-None = ap shown (sym (val.rolls-Opt None)) ∙ shown-roll (Value-F.Opt None)

pub shown-Some : (v : Value) → shown (val.Opt (Some v)) ≡ collection (element_text (shown v) ∷ [])
shown-Some v = ap shown (sym (val.rolls-Opt (Some v))) ∙ shown-roll (Value-F.Opt (Some v))

-- an option is shown as its element, in parentheses where it is an element itself
pub option-at : (v : Value) (o : Option Value) (place : Place) → v ≡ val.Opt o → (shown v).at place ≡ wrapped (is_element place) (collection_text v)
option-at v None place is =
    let same = ap shown is ∙ shown-None in
    ap (λ s. s.at place) same ∙ ap (λ s. wrapped (is_element place) (collected s.elements)) (sym same)
option-at v (Some part) place is =
    let same = ap shown is ∙ shown-Some part in
    ap (λ s. s.at place) same ∙ ap (λ s. wrapped (is_element place) (collected s.elements)) (sym same)
