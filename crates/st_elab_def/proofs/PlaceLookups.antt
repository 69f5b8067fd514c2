-- The places of what is false of the parts of a syntax, by look-ups.
use Rattle.std.proofs.Common.{[], ◌≡◌, refl, sym, ap, ◌∙◌, ℕ, zero, suc, ◌<◌, List, ◌∷◌, length, get_or}
use Rattle.std.specs.Prelude.{flat_map, slice_get, Some, None, Result, Ok, Err, IfOk}
use Rattle.std.proofs.lemmas.Option.{slice_get-get_or}
use Rattle.st_num.specs.declared.rule.RuleId.{RuleId}
use Rattle.st_num.specs.declared.rule.RuleId.TheVariants.{B2, Y7}
use Rattle.st_num.specs.declared.span.Span.{Span}
use Rattle.st_el.specs.declared.notation.Notation.{Notation, out-Notation}
use Rattle.st_el.specs.declared.ty.Typ.{Typ}
use Rattle.st_elab_sig.specs.Signatures.{holes_of}
use Rattle.st_elab_def.specs.declared.names.Named.{Named}
use Rattle.st_elab_def.specs.Phases.{names_in}
use Rattle.st_elab_def.specs.inner.Places.{name_place, bare_place, case_place, alternative_place, cases_place, field_place, fields_place}

-- what is read at a place, and what is behind the end
pub get-there : {A : Type 0} (xs : List A) (i : ℕ) (x : A) → i < length xs → x ≡ get_or xs i x → slice_get xs i ≡ Some x
get-there xs i x h is = slice_get-get_or xs i x h ∙ ap Some (sym is)

-- what is made is what was asked for, in other words
pub if_ok : {A E : Type 0} (P Q : A → Type 0) (r : Result A E) → ((x : A) → P x → Q x) → IfOk r P → IfOk r Q
if_ok P Q (Ok x) f h = f x h
if_ok P Q (Err e) f h = tt

pub name_place-within : (ns : List Named) (number : ℕ) (part : Span) (n : Named) → slice_get ns number ≡ Some n → name_place ns number part ≡ n.at
name_place-within [] zero part n e = cc
name_place-within [] (suc number) part n e = cc
name_place-within (m ∷ ns) zero part n e = let same : m ≡ n = cc in ap (λ (n : Named). n.at) same
name_place-within (m ∷ ns) (suc number) part n e = name_place-within ns number part n e

pub name_place-past : (ns : List Named) (number : ℕ) (part : Span) → slice_get ns number ≡ None → name_place ns number part ≡ part
name_place-past [] number part h = refl
name_place-past (m ∷ ns) zero part h = cc
name_place-past (m ∷ ns) (suc number) part h = name_place-past ns number part h

pub bare_place-other : (part : Span) (t : Typ) (rule : RuleId) → (rule ≡ B2 → ⊥) → bare_place part t rule ≡ part
bare_place-other part t B2 h = absurd (h refl)
bare_place-other part t rule h = refl

pub case_place-other : (n : Notation) (number : ℕ) (rule : RuleId) → (rule ≡ Y7 → ⊥)
    → case_place n number rule ≡ name_place (flat_map names_in (holes_of n)) number (out-Notation n).at
case_place-other n number Y7 h = absurd (h refl)
case_place-other n number rule h = refl

pub field_place-other : (f : List ℕ × Typ) (number : ℕ) (rule : RuleId) (whole : Span) → (rule ≡ B2 → ⊥) → field_place f number rule whole ≡ whole
field_place-other f number B2 whole h = absurd (h refl)
field_place-other f number rule whole h = refl

pub cases_place-within : (ns : List Notation) (part number : ℕ) (rule : RuleId) (whole : Span) (n : Notation) → slice_get ns part ≡ Some n
    → cases_place ns part number rule whole ≡ alternative_place n number rule
cases_place-within [] zero number rule whole n e = cc
cases_place-within [] (suc part) number rule whole n e = cc
cases_place-within (m ∷ ns) zero number rule whole n e = let same : m ≡ n = cc in ap (λ n. alternative_place n number rule) same
cases_place-within (m ∷ ns) (suc part) number rule whole n e = cases_place-within ns part number rule whole n e

pub cases_place-past : (ns : List Notation) (part number : ℕ) (rule : RuleId) (whole : Span) → slice_get ns part ≡ None → cases_place ns part number rule whole ≡ whole
cases_place-past [] part number rule whole h = refl
cases_place-past (m ∷ ns) zero number rule whole h = cc
cases_place-past (m ∷ ns) (suc part) number rule whole h = cases_place-past ns part number rule whole h

pub fields_place-within : (fs : List (List ℕ × Typ)) (part number : ℕ) (rule : RuleId) (whole : Span) (f : List ℕ × Typ) → slice_get fs part ≡ Some f
    → fields_place fs part number rule whole ≡ field_place f number rule whole
fields_place-within [] zero number rule whole f e = cc
fields_place-within [] (suc part) number rule whole f e = cc
fields_place-within (g ∷ fs) zero number rule whole f e = let same : g ≡ f = cc in ap (λ f. field_place f number rule whole) same
fields_place-within (g ∷ fs) (suc part) number rule whole f e = fields_place-within fs part number rule whole f e

pub fields_place-past : (fs : List (List ℕ × Typ)) (part number : ℕ) (rule : RuleId) (whole : Span) → slice_get fs part ≡ None → fields_place fs part number rule whole ≡ whole
fields_place-past [] part number rule whole h = refl
fields_place-past (g ∷ fs) zero number rule whole h = cc
fields_place-past (g ∷ fs) (suc part) number rule whole h = fields_place-past fs part number rule whole h
