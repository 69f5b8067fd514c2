use Rattle.std.proofs.Common.{ap, ◌∙◌}
use Rattle.st_order.specs.inner.Parts.{exps_in}
use Rattle.st_order.specs.Known.{all_now}
use Rattle.st_algo.proofs.AlgorithmParts.{rule_read}
use Rattle.st_algo.proofs.lowering.rule_algorithm.Goals as goal

pub returns : goal.returns
returns c =
    rule_read c.args.directions.now.il.now c.args.rule.now c.args.order.now _ c.mask_under-mask.result.now c.as_slice-conclusion.result.now (exps_in c.as_slice-heads.result.now) (exps_in c.as_slice-results.result.now)
    c.as_slice-written.result.now (all_now c.as_slice-prems.result.now) c.in_ok-algorithm.ensures (ap exps_in c.as_slice-heads.ensures ∙ c.in_ok-heads.ensures) (ap exps_in c.as_slice-results.ensures ∙ c.in_ok-results.ensures)
    (ap all_now c.as_slice-prems.ensures ∙ c.in_ok-prems.ensures) c.mask_under-mask.ensures c.as_slice-conclusion.ensures c.as_slice-written.ensures
