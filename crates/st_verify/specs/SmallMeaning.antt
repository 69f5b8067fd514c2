-- What the meaning of rules comes to on a small specification.
use Rattle.std.specs.Prelude.{◌≡◌, ◌↔◌, ℕ, List, [], ◌∷◌, Option, Some, slice_get}
use Rattle.st_deriv.specs.declared.line.Line.{Line}
use Rattle.st_il.specs.declared.small.Small.{Small}
use Rattle.st_il.specs.declared.small.SmallRule.{SmallRule}
use Rattle.st_il.specs.declared.value.Value.{Value}
use Rattle.st_il.specs.declared.value.Value.TheVariants.{Case}
use Rattle.st_il.specs.Small.{IsSmall, il_of}
use Rattle.st_semantics.specs.declared.notes.Notes.{Notes}
use Rattle.st_semantics.specs.declared.verify_rule.VerifyRule.{VerifyRule}
use Rattle.st_il.specs.Names.{Name}
use Rattle.st_semantics.specs.Accepts.{ReadsTo}
use Rattle.st_semantics.specs.Breaches.{KeepModes}
use Rattle.st_semantics.specs.Derivation.{HasTree, Derivable}
use Rattle.st_semantics.specs.Kinds.{AreKinded, ClausesNameOccurring}
use Rattle.st_semantics.specs.Notes.{noted}
use Rattle.st_semantics.specs.Verdict.{Verdict}
use Rattle.st_ilcheck.specs.Typed.{Typed}
use Rattle.st_verify.specs.SmallNotes.{small_noted}
use Rattle.st_verify.specs.SmallVerdict.{FirstBreach}

-- a rule says this judgement: its values are the two atoms of the rule
pub record IsSmallJudgement (s : Small) (relation : Name) (values : List Value) : Type 0 where
  pub relation_is : relation ≡ s.relation
  pub number : ℕ
  pub rule : SmallRule
  pub is_rule : slice_get s.rules number ≡ Some rule
  pub values_are : values ≡ Case rule.from [] ∷ Case rule.to [] ∷ []

-- On a small specification a judgement has a valid tree exactly where one of its rules says it.
abbrev pub LawOfSmallTrees : Type 0
LawOfSmallTrees =
    (s : Small) (relation : Name) (values : List Value)
    → HasTree (il_of s) relation values ↔ IsSmallJudgement s relation values

-- a rule goes from this term to that: each is an atom
pub record IsSmallStep (s : Small) (term next : List Value) : Type 0 where
  pub number : ℕ
  pub rule : SmallRule
  pub is_rule : slice_get s.rules number ≡ Some rule
  pub term_is : term ≡ Case rule.from [] ∷ []
  pub next_is : next ≡ Case rule.to [] ∷ []

-- What is derivable from a term is what one of the rules goes to from it.
abbrev pub LawOfSmallSteps : Type 0
LawOfSmallSteps =
    (s : Small) (term next : List Value)
    → Derivable (il_of s) s.relation term next ↔ IsSmallStep s term next

-- The verdict on a line is the first of the rules of derivations that it breaks, as the code asks
-- them one after another, and no other.
abbrev pub LawOfSmallVerdicts : Type 0
LawOfSmallVerdicts =
    (s : Small) → IsSmall s → (lines : List Line) (notes : Notes) → ReadsTo (il_of s) lines notes
    → (line : Line) (broken answer : Option VerifyRule) → FirstBreach (il_of s) notes line broken
    → Verdict (il_of s) notes line answer ↔ (answer ≡ broken)

-- Behind lines that are read, what the code notes of one line more is what is noted of it.
abbrev pub LawOfSmallNotes : Type 0
LawOfSmallNotes =
    (s : Small) → IsSmall s → (lines : List Line) (notes : Notes) → ReadsTo (il_of s) lines notes
    → (line : Line) → small_noted notes line ≡ noted (il_of s) notes line

-- A small specification keeps the rules M1 to M7, and its iterated premises name only variables of
-- their kind, and only those that occur inside: it has no premises.
abbrev pub LawOfSmallModes : Type 0
LawOfSmallModes =
    (s : Small) → KeepModes (il_of s) × AreKinded (il_of s) × ClausesNameOccurring (il_of s)

-- The internal language of a small specification is typed.
abbrev pub LawOfSmallTyping : Type 0
LawOfSmallTyping = (s : Small) → IsSmall s → Typed (il_of s)
