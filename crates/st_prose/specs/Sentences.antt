-- The sentence of a step: its expressions are erased, and printed as source.
use Rattle.std.specs.Prelude.{ℕ, List, [], ◌∷◌, ◌++◌, map, codes}
use Rattle.st_el.specs.SourceText.{separated, source_text, printed_mark}
use Rattle.st_il.specs.declared.definition.Il.{Il}
use Rattle.st_il.specs.declared.expression.IlExp.{IlExp}
use Rattle.st_il.specs.declared.expression.Iteration.{Iteration}
use Rattle.st_erase.specs.Erasure.{erased_exp, erased_iteration}
use Rattle.st_algo.specs.declared.algorithm.AlgoStep.{AlgoStep, fold-AlgoStep}
use Rattle.st_algo.specs.declared.algorithm.AlgoStep.TheOpen.{AlgoStep-F}

-- texts with commas between them, and `nothing` where there are none
abbrev pub listed : List (List ℕ) → List ℕ
listed [] = codes "nothing"
listed (text ∷ texts) = separated (codes ", ") (text ∷ texts)

module _ (il : Il) where
  -- an expression, as the source has it
  abbrev pub exp_text : IlExp → List ℕ
  exp_text e = source_text (erased_exp il e)

  -- expressions with commas between them
  abbrev pub exps_text : List IlExp → List ℕ
  exps_text es = listed (map exp_text es)

  -- how often a loop goes, as the source has it behind what is repeated
  abbrev pub mark_text : Iteration → List ℕ
  mark_text how = (printed_mark (erased_iteration il.defs how)).text

  -- the sentence of a step, where that of the step in a loop is told
  abbrev pub sentence_at : AlgoStep-F (List ℕ) → List ℕ
  sentence_at (AlgoStep-F.Match es) = codes "Match the input with " ++ exps_text es ++ codes "."
  sentence_at (AlgoStep-F.Test e) = codes "Check that " ++ exp_text e ++ codes "."
  sentence_at (AlgoStep-F.Let pattern e) =
      codes "Match the value of " ++ exp_text e ++ codes " with " ++ exp_text pattern ++ codes "."
  sentence_at (AlgoStep-F.Goal relation inputs outputs) =
      codes "Find a result of " ++ relation ++ codes " for " ++ exps_text inputs
      ++ codes " and match it with " ++ exps_text outputs ++ codes "."
  sentence_at (AlgoStep-F.Loop how names inner) =
      codes "For " ++ listed names ++ codes " under " ++ mark_text how ++ codes ": " ++ inner
  sentence_at AlgoStep-F.Otherwise = codes "Check that no earlier rule gives a result."
  sentence_at (AlgoStep-F.Give es) = codes "Give " ++ exps_text es ++ codes "."

  -- the sentence of a step
  abbrev pub sentence : AlgoStep → List ℕ
  sentence = fold-AlgoStep (List ℕ) sentence_at
