use Rattle.std.proofs.Common.{refl, sym, subst, [], ◌∷◌}
use Rattle.st_il.specs.Small.{il_of}
use Rattle.st_num.specs.declared.rule.RuleId.TheVariants.{M3, M4, M6}
use Rattle.st_semantics.specs.Verdict.{Verdict}
use Rattle.st_semantics.proofs.Choices.{law_of_choice}
use Rattle.st_semantics.proofs.Verdicts.{law_of_verdicts}
use Rattle.st_verify.proofs.SmallLines.{noted_same}
use Rattle.st_verify.proofs.SmallModes.{keep_modes, are_kinded, clauses_keep, clauses_name_occurring}
use Rattle.st_verify.proofs.SmallNotings.{read_trees}
use Rattle.st_verify.proofs.SmallTyped.{keeps_types}
use Rattle.st_verify.proofs.SmallTrees.{has_tree_rule, rule_tree, derivable_step, step_derivable}
use Rattle.st_verify.proofs.SmallVerdicts.{verdict_of_breach}
use Rattle.st_verify.proofs.small.small_specifications.Goals as goal

pub returns-clause-trees : goal.returns-clause-trees
returns-clause-trees c = λ s relation values. (has_tree_rule s relation values, rule_tree s relation values)

pub returns-clause-steps : goal.returns-clause-steps
returns-clause-steps c = λ s term next. (derivable_step s term next, step_derivable s term next)

pub returns-clause-verdicts : goal.returns-clause-verdicts
returns-clause-verdicts c = λ s small lines notes read line broken answer first.
    let trees = read_trees (il_of s) lines notes (record { source = s; small = small; means = refl }) read in
    let choice = law_of_choice (il_of s) (clauses_keep s (M3 ∷ M4 ∷ M6 ∷ [])) (clauses_name_occurring s) in
    let verdict = verdict_of_breach s small notes broken line trees first in (
      λ other. law_of_verdicts (il_of s) choice.2 notes line answer broken other verdict,
      λ same. subst (Verdict (il_of s) notes line) (sym same) verdict,
    )

pub returns-clause-notes : goal.returns-clause-notes
returns-clause-notes c = λ s small lines notes read line.
    noted_same s notes line (read_trees (il_of s) lines notes (record { source = s; small = small; means = refl }) read)

pub returns-clause-modes : goal.returns-clause-modes
returns-clause-modes c = λ s. (keep_modes s, are_kinded s, clauses_name_occurring s)

pub returns-clause-typing : goal.returns-clause-typing
returns-clause-typing c = λ s small. keeps_types s small
