use Rattle.std.proofs.Common.{Some, ◌∙◌, sym, ap}
use Rattle.std.proofs.lemmas.Option.{slice_get-get_or}
use Rattle.std.specs.Option.{option_copied}
use Rattle.st_commands.proofs.StepLemmas.{IsLeastOf-more}
use Rattle.st_commands.proofs.step.least_step.Goals as goal

pub loop-rule-preserved : goal.loop-rule-preserved
loop-rule-preserved c =
    let at = slice_get-get_or c.args.rules.now c.loop-rule.rule-index c.rule-item.result c.loop-rule-test.true ∙ ap Some (sym c.rule-item.is) in
    IsLeastOf-more c.args.rules.now c.args.from.now c.loop-rule.rule-index c.rule-item.result (option_copied c.loop-rule.best) (option_copied c.better-best.result)
    c.loop-rule.invariant at c.better-best.ensures
