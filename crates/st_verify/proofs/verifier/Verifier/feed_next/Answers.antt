use Rattle.st_verify.proofs.Feeding.{feeds_judged}
use Rattle.st_verify.proofs.verifier.Verifier.feed_next.Goals as goal

pub returns-in-Ok : goal.returns-in-Ok
returns-in-Ok c =
    feeds_judged c.args.self.now c.args.line.now c.in-Ok.line c.judge_next.result c.judge_next.new.self c.in-Ok.ensures c.judge_next.ensures
