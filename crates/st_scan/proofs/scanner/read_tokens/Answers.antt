use Rattle.std.proofs.Common.{sym, subst}
use Rattle.st_scan.specs.Tokens.{Run}
use Rattle.st_scan.specs.inner.Steps.{IsStep, IsNext, StopsFile}
use Rattle.st_scan.proofs.Steps.{run_more, stops_file}
use Rattle.st_scan.proofs.scanner.read_tokens.Goals as goal

pub returns-in-Err : goal.returns-in-Err
returns-in-Err c = subst (StopsFile c.args.file c.args.bytes.now) (sym c.farther.ensures) (stops_file _ _ _ _ c.tokens.place c.in-Err.stop c.tokens.invariant.at c.tokens.invariant.run (c.in-Err.ensures _ c.tokens.invariant.at))

pub tokens-preserved : goal.tokens-preserved
tokens-preserved c =
    let step : IsStep c.args.file c.args.bytes.now c.tokens.rest.now c.in-Some.step =
    subst (IsNext c.args.file c.args.bytes.now c.tokens.rest.now) c.in-Some.is (c.in-Ok.ensures c.args.bytes.now c.tokens.invariant.at) in
    record {
      at = step.at;
      run = subst (λ tokens. Run c.args.file c.args.bytes.now c.args.bytes.now tokens c.in-Some.step.rest.now) (sym c.in_ok-push.ensures.ok)
          (run_more _ _ _ c.tokens.tokens _ _ c.in-Some.step.token c.tokens.invariant.run step.next);
    }
