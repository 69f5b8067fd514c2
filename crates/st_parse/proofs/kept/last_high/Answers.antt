use Rattle.std.proofs.Common.{sym, ap, ◌∙◌}
use Rattle.st_parse.specs.inner.Kept.{last_high}
use Rattle.st_parse.proofs.Ended.{last_behind}
use Rattle.st_parse.proofs.kept.last_high.Goals as goal

pub returns-in-Some : goal.returns-in-Some
returns-in-Some c =
    c.high_at.ensures ∙ sym (ap (last_high c.args.high) c.in-Some.ensures.cases.0 ∙ last_behind c.args.high c.in-Some.field-0-1.now c.in-Some.def.now)
