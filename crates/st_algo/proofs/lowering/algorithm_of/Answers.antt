use Rattle.st_semantics.specs.Variables.{vars_of}
use Rattle.st_order.specs.inner.Index.{names_in}
use Rattle.st_order.specs.inner.Parts.{exps_in}
use Rattle.st_order.specs.Known.{all_now}
use Rattle.st_order.proofs.SameNames.{SameNames-made}
use Rattle.st_algo.proofs.AlgorithmParts.{algorithm_made}
use Rattle.st_algo.proofs.lowering.algorithm_of.Goals as goal

pub returns : goal.returns
returns c =
    algorithm_made c.args.directions.now.il.now c.args.name.now c.in_ok-name.name (names_in c.in_ok-bound.bound.keys) (exps_in c.args.heads.now) c.in_ok-heads.heads (exps_in c.args.results.now) c.in_ok-results.results
    (all_now c.args.prems.now) c.new-steps.result _ c.push_steps.new.steps _ c.in_ok-name.ensures
    (SameNames-made (names_in c.in_ok-bound.bound.keys) c.as_slice.result.now c.push_vars_of.new.names c.new-names.result (vars_of (exps_in c.args.heads.now)) c.in_ok-bound.ensures c.as_slice.ensures c.in_ok-push_vars_of.ensures c.new-names.ensures)
    c.in_ok-heads.ensures c.in_ok-results.ensures c.new-steps.ensures c.in_ok-push.ensures.ok c.in_ok-push_steps.ensures c.in_ok-push-2.ensures.ok
