use Rattle.std.proofs.Common.{sym, subst, ◌∙◌}
use Rattle.st_parse_automaton.specs.inner.Readings.{progress_of}
use Rattle.st_parse.specs.inner.ExpressionSeen as spec
use Rattle.st_parse.proofs.expression_judge.judge_next.Goals as goal

pub returns-clause-step : goal.returns-clause-step
returns-clause-step c =
    let st = progress_of c.args.known.progress in
    subst (λ b. spec.Adds b st c.args.class c.args.token.now c.alone.result) (sym (sym c.separates.ensures ∙ c.if-separates.false)) (c.alone.ensures.step st c.args.class c.args.token.now c.in_ok-verdict.ensures.step)
