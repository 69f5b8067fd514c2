use Rattle.std.proofs.Common.{subst}
use Rattle.st_type_table.specs.Keys.{NoneHasKey}
use Rattle.st_notation.specs.Key.{key_of}
use Rattle.st_elab_table.specs.Choice.{IsChosenAt}
use Rattle.st_elab_rows.proofs.Choosing.{chosen_keyed, chosen_free, chosen_none}
use Rattle.st_elab_rows.proofs.choice.chosen_case.Goals as goal

pub returns-in-Some-clause-some : goal.returns-in-Some-clause-some
returns-in-Some-clause-some c = subst (λ k. IsChosenAt c.args.types.now c.args.ty.now k c.in-Some.case.now) c.key_of_exp-key.ensures (chosen_keyed _ _ _ _ c.in-Some.ensures.some)

pub returns-clause-some : goal.returns-clause-some
returns-clause-some c = chosen_free c.args.types.now c.args.ty.now (key_of c.args.exp.now) c.case_with-2.result
    (λ cs h. subst (λ k. NoneHasKey k cs) c.key_of_exp-key.ensures (c.in_default.ensures.none cs h)) c.case_with-2.ensures.some

pub returns-clause-none : goal.returns-clause-none
returns-clause-none c = chosen_none c.args.types.now c.args.ty.now (key_of c.args.exp.now) c.case_with-2.result
    (λ cs h. subst (λ k. NoneHasKey k cs) c.key_of_exp-key.ensures (c.in_default.ensures.none cs h)) c.case_with-2.ensures.none
