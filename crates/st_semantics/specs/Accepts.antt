-- Which lists of lines are accepted, and what that vouches for.
use Rattle.std.specs.Prelude.{◌≡◌, ℕ, List, [], ◌∷◌, ◌++◌, Some, None}
use Rattle.st_deriv.specs.declared.line.Ending.{Ending}
use Rattle.st_deriv.specs.declared.line.Line.{Line}
use Rattle.st_deriv.specs.declared.line.Line.TheVariants.{Head, Node, Step, End}
use Rattle.st_deriv.specs.declared.line.NodeLine.{NodeLine}
use Rattle.st_il.specs.declared.definition.Il.{Il}
use Rattle.st_il.specs.declared.value.Value.{Value}
use Rattle.st_semantics.specs.declared.notes.Notes.{Notes}
use Rattle.st_il.specs.Names.{Name}
use Rattle.st_semantics.specs.Breaches.{KeepModes}
use Rattle.st_semantics.specs.Derivation.{HasTree, Derivable}
use Rattle.st_semantics.specs.Notes.{nothing_noted, noted}
use Rattle.st_semantics.specs.Verdict.{Verdict}

-- the lines are taken one after another, nothing is said against any, and this is noted of them
pub data ReadsTo (il : Il) : List Line → Notes → Type 0 where
  none : {notes : Notes} → notes ≡ nothing_noted → ReadsTo il [] notes
  more : {lines all : List Line} {before notes : Notes} (line : Line)
      → ReadsTo il lines before → Verdict il before line None → all ≡ lines ++ line ∷ []
      → notes ≡ noted il before line → ReadsTo il all notes

-- The internal language is typed and keeps the rules M1 to M7, the lines are taken, and the last is
-- an end line.
pub record Accepts (Typed : Il → Type 0) (il : Il) (lines : List Line) : Type 0 where
  pub typed : Typed il
  pub modes : KeepModes il
  pub notes : Notes
  pub read : ReadsTo il lines notes
  pub before : List Line
  pub ending : Ending
  pub ended : lines ≡ before ++ End ending ∷ []

-- behind these lines a step that names that line goes from a term to one that is derivable from it
pub record IsDerivedStep (il : Il) (before : List Line) (line : ℕ) : Type 0 where
  pub format : ℕ
  pub relation : Name
  pub lines : List Line
  pub head : before ≡ Head format relation ∷ lines
  pub notes : Notes
  pub read : ReadsTo il before notes
  pub from : List Value
  pub to : List Value
  pub term_before : notes.term ≡ Some from
  pub term_after : (noted il notes (Step line)).term ≡ Some to
  pub derivable : Derivable il relation from to

-- Each node line's judgement is derived, and each step is.
pub record AreSound (il : Il) (lines : List Line) : Type 0 where
  pub nodes : (before after : List Line) (node : NodeLine) → lines ≡ before ++ Node node ∷ after
      → HasTree il node.relation node.values
  pub steps : (before after : List Line) (line : ℕ) → lines ≡ before ++ Step line ∷ after
      → IsDerivedStep il before line
