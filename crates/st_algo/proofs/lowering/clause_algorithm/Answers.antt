use Rattle.std.proofs.Common.{ap, ◌∙◌}
use Rattle.st_order.specs.inner.Parts.{exps_in}
use Rattle.st_order.specs.Known.{all_now}
use Rattle.st_algo.proofs.AlgorithmParts.{clause_read, one_pushed}
use Rattle.st_algo.proofs.lowering.clause_algorithm.Goals as goal

pub returns : goal.returns
returns c =
    clause_read c.args.directions.now.il.now c.args.clause.now _ c.as_slice-args.result.now (exps_in c.as_slice-heads.result.now) (exps_in c.as_slice-results.result.now) c.as_slice-written.result.now
    (all_now c.as_slice-prems.result.now) c.in_ok-algorithm.ensures (ap exps_in c.as_slice-heads.ensures ∙ c.in_ok-heads.ensures) c.as_slice-args.ensures
    (one_pushed c.new-results.result _ c.as_slice-results.result.now _ c.new-results.ensures c.in_ok-push.ensures.ok c.as_slice-results.ensures)
    (ap all_now c.as_slice-prems.ensures ∙ c.in_ok-prems.ensures) c.as_slice-written.ensures
