-- The lines of a derivation: a run, with a valid tree for each of its steps.
use Rattle.std.specs.Prelude.{◌≡◌, ℕ, ◌+◌, List, [], ◌∷◌, ◌++◌, length, Some, None, slice_get}
use Rattle.st_deriv.specs.declared.line.Ending.{Ending as LastLine}
use Rattle.st_deriv.specs.declared.line.Ending.TheVariants as last
use Rattle.st_deriv.specs.declared.line.Line.{Line}
use Rattle.st_deriv.specs.declared.line.Line.TheVariants.{Head, From, Node, Step, End}
use Rattle.st_deriv.specs.declared.line.NodeLine.{NodeLine}
use Rattle.st_il.specs.declared.definition.Il.{Il}
use Rattle.st_il.specs.declared.definition.RuleDef.{RuleDef}
use Rattle.st_il.specs.declared.tree.Tree.{Tree}
use Rattle.st_il.specs.Names.{Name}
use Rattle.st_il.specs.Definitions.{rules_of, IsRelation}
use Rattle.st_semantics.specs.Derivation.{IsValid}
use Rattle.st_semantics.specs.Directions.{inputs_of, outputs_of}
use Rattle.st_semantics.specs.Transcript.{Term}
use Rattle.st_runs.specs.declared.transcript.Ending.{Ending}
use Rattle.st_runs.specs.declared.transcript.Ending.TheVariants.{Stuck, Fuel}
use Rattle.st_runs.specs.Transcript.{IsTranscript}

-- A valid tree of the relation takes a step:
-- its judgement has the term as inputs and the next as outputs.
pub record IsStepTree (il : Il) (relation : Name) (term next : Term) (tree : Tree) : Type 0 where
  pub valid : IsValid il tree
  pub relation_is : IsRelation il tree.relation relation
  pub inputs_are : inputs_of il relation tree.values ≡ term
  pub outputs_are : outputs_of il relation tree.values ≡ next

-- The line of a tree's root, which names its relation and its rule.
-- So far of a tree without children, by a rule without `otherwise`.
pub record IsNodeOf (il : Il) (tree : Tree) (node : NodeLine) : Type 0 where
  pub relation : IsRelation il tree.relation node.relation
  pub rule : RuleDef
  pub is_rule : slice_get (rules_of il node.relation) tree.rule ≡ Some rule
  pub rule_is : node.rule ≡ rule.name
  pub env : node.env ≡ tree.env
  pub values : node.values ≡ tree.values
  pub no_child : tree.children ≡ []
  pub no_reference : node.children ≡ []
  pub no_evidence : node.evidence ≡ None

-- The lines of a run from the start to a term, over the terms before it:
-- the first two lines, and then for each step the node of a tree that takes it,
-- and behind it the step, which names the node's line.
pub data StepLines (il : Il) (relation : Name) (start : Term) : List Term → Term → List Line
    → Type 0 where
  begins : {lines : List Line} → lines ≡ Head 1 relation ∷ From start ∷ []
      → StepLines il relation start [] start lines
  goes_on : {before : List Term} {term next : Term} {lines all : List Line} (tree : Tree)
      (node : NodeLine)
      → StepLines il relation start before term lines → IsStepTree il relation term next tree
      → IsNodeOf il tree node
      → all ≡ lines ++ Node node ∷ Step (length lines + 1) ∷ []
      → StepLines il relation start (before ++ term ∷ []) next all

-- how the last line says that a run ended
abbrev pub last_line : Ending → LastLine
last_line Stuck = last.Stuck
last_line Fuel = last.Fuel

-- the lines of the derivation of a transcript: those of its steps, and then its end
pub record IsDerivation (il : Il) (relation : Name) (fuel : ℕ) (start : Term) (ending : Ending)
    (lines : List Line) : Type 0 where
  pub before : List Term
  pub last : Term
  pub transcript : IsTranscript il relation fuel start (before ++ last ∷ []) ending
  pub steps : List Line
  pub takes : StepLines il relation start before last steps
  pub lines_are : lines ≡ steps ++ End (last_line ending) ∷ []
