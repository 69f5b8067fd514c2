use Rattle.std.proofs.Common.{◌∙◌, sym, ap}
use Rattle.std.specs.Cmp.Lexicographic.{same_text}
use Rattle.std.specs.Option.{option_copied}
use Rattle.st_commands.proofs.StepLemmas.{IsBetter-other, IsBetter-first, unequal_texts}
use Rattle.st_commands.proofs.step.better.Goals as goal

pub returns-in-None : goal.returns-in-None
returns-in-None c =
    IsBetter-first (option_copied c.args.best) c.args.rule.now c.args.from.now (ap option_copied c.in-None.is)
    (same_text c.args.rule.now.from c.args.from.now (sym c.if-eq.true ∙ c.eq.ensures))

pub returns-else-eq : goal.returns-else-eq
returns-else-eq c =
    IsBetter-other (option_copied c.args.best) c.args.rule.now c.args.from.now
    (unequal_texts c.args.rule.now.from c.args.from.now c.eq.result c.eq.ensures c.if-eq.false)
