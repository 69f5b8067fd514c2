use Rattle.std.proofs.Common.{◌++◌, ◌∷◌, [], sym, ap, ◌∙◌, map, Some, arith}
use Rattle.st_any_table.specs.inner.Heads.{head_node}
use Rattle.st_type_table.proofs.SearchLemmas.{take-whole}
use Rattle.st_type_table.proofs.IndexLemmas.{map-next}
use Rattle.st_any_table.proofs.heads.head_graph.Goals as goal

pub loop-number-preserved : goal.loop-number-preserved
loop-number-preserved c =
    c.in_ok-push.ensures.ok ∙ (λ i. c.loop-number.invariant i ++ Some (c.in_ok-heads.ensures i) ∷ []) ∙ sym (map-next (head_node c.args.defs.now) c.args.defs.now c.loop-number.number c.nth.result.now c.nth.ensures)

pub returns : goal.returns
returns c = c.loop-number.invariant ∙ ap (map (head_node c.args.defs.now)) (take-whole c.args.defs.now c.loop-number.number (let h = c.loop-number-test.false in let l = c.len-number-end.ensures in omega (arith, h, l)))
