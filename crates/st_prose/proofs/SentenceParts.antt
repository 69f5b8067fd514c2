-- The sentences of steps, and texts that are printed in parts.
use Rattle.std.proofs.Common.{◌≡◌, sym, ◌∙◌, ap, ℕ, ◌≤◌, List, ◌∷◌, ◌++◌, append_assoc, length, flat_map, take, codes, arith}
use Rattle.std.proofs.lemmas.Grind.{common_steps}
use Rattle.st_il.specs.declared.definition.Il.{Il}
use Rattle.st_il.specs.declared.expression.IlExp.{IlExp}
use Rattle.st_il.specs.declared.expression.Iteration.{Iteration}
use Rattle.st_algo.specs.declared.algorithm.AlgoStep.{AlgoStep, out-AlgoStep, fold_out-AlgoStep, map-AlgoStep}
use Rattle.st_algo.specs.declared.algorithm.AlgoStep.TheOpen.{AlgoStep-F}
use Rattle.st_algo.specs.declared.algorithm.AlgoStep.TheVariants as step
use Rattle.st_prose.specs.Sentences.{listed, exp_text, exps_text, mark_text, sentence_at, sentence}

-- ---- sentences

sentence-level : (il : Il) (s : AlgoStep) (y : AlgoStep-F AlgoStep) → out-AlgoStep s ≡ y → sentence il s ≡ sentence_at il (map-AlgoStep AlgoStep (List ℕ) (sentence il) y)
sentence-level il s y is =
    fold_out-AlgoStep (List ℕ) (sentence_at il) s ∙ ap (λ z. sentence_at il (map-AlgoStep AlgoStep (List ℕ) (sentence il) z)) is

pub sentence-Let : (il : Il) (s : AlgoStep) (p e : IlExp) → s ≡ step.Let p e
    → sentence il s ≡ codes "Match the value of " ++ exp_text il e ++ codes " with " ++ exp_text il p ++ codes "."
sentence-Let il s p e is = sentence-level il s (AlgoStep-F.Let p e) (ap out-AlgoStep is ∙ step.outs-Let p e)

pub sentence-Goal : (il : Il) (s : AlgoStep) (relation : List ℕ) (inputs outputs : List IlExp) → s ≡ step.Goal relation inputs outputs
    → sentence il s ≡ codes "Find a result of " ++ relation ++ codes " for " ++ exps_text il inputs ++ codes " and match it with " ++ exps_text il outputs ++ codes "."
sentence-Goal il s relation inputs outputs is =
    sentence-level il s (AlgoStep-F.Goal relation inputs outputs) (ap out-AlgoStep is ∙ step.outs-Goal relation inputs outputs)

pub sentence-Loop : (il : Il) (s : AlgoStep) (how : Iteration) (names : List (List ℕ)) (inner : AlgoStep) → s ≡ step.Loop how names inner
    → sentence il s ≡ codes "For " ++ listed names ++ codes " under " ++ mark_text il how ++ codes ": " ++ sentence il inner
sentence-Loop il s how names inner is =
    sentence-level il s (AlgoStep-F.Loop how names inner) (ap out-AlgoStep is ∙ step.outs-Loop how names inner)

-- ---- texts in parts

pub let_parts : (old a e b p d : List ℕ) → (old ++ (a ++ e ++ b)) ++ (p ++ d) ≡ old ++ (a ++ e ++ b ++ p ++ d)
let_parts old a e b p d = grind (arith, common_steps)

pub goal_parts : (old a r b i c o d : List ℕ) → ((old ++ (a ++ r)) ++ (b ++ i ++ c)) ++ (o ++ d) ≡ old ++ (a ++ r ++ b ++ i ++ c ++ o ++ d)
goal_parts old a r b i c o d = grind (arith, common_steps)

pub loop_parts : (old a x b k c d : List ℕ) → (old ++ (a ++ x ++ b ++ k ++ c)) ++ d ≡ old ++ (a ++ x ++ b ++ k ++ c ++ d)
loop_parts old a x b k c d = grind (arith, common_steps)

take_all : {A : Type 0} (xs : List A) (i : ℕ) → length xs ≤ i → take i xs ≡ xs
take_all xs i h = grind (arith, common_steps)

-- what a loop over the names behind the first has printed in the end
pub names_end : (old first rest : List ℕ) (names others : List (List ℕ)) (name : List ℕ) (i : ℕ)
    → names ≡ name ∷ others → first ≡ old ++ name → rest ≡ first ++ flat_map (λ next. codes ", " ++ next) (take i others) → length others ≤ i
    → rest ≡ old ++ listed names
names_end old first rest names others name i e f r h =
    r ∙ ap (λ x. x ++ flat_map (λ next. codes ", " ++ next) (take i others)) f
    ∙ ap (λ xs. (old ++ name) ++ flat_map (λ next. codes ", " ++ next) xs) (take_all others i h)
    ∙ append_assoc old name (flat_map (λ next. codes ", " ++ next) others)
    ∙ ap (λ xs. old ++ listed xs) (sym e)
