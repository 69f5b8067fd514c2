use Rattle.std.proofs.Common.{◌≡◌, ◌++◌, ◌∷◌, [], sym, ap, ◌∙◌, map, Some, arith}
use Rattle.st_type_table.specs.Leads.{leads_to}
use Rattle.st_type_table.specs.inner.Graph.{positions_of, node_of}
use Rattle.st_type_table.proofs.SearchLemmas.{take-whole}
use Rattle.st_type_table.proofs.IndexLemmas.{map-next}
use Rattle.st_type_table.proofs.position.leads_graph.Goals as goal

pub loop-number-preserved : goal.loop-number-preserved
loop-number-preserved c =
    let e : c.in_ok-positions.positions ≡ positions_of c.args.defs.now (leads_to c.nth.result.now.body) = c.in_ok-positions.ensures ∙ ap (positions_of c.args.defs.now) (c.as_slice.ensures ∙ c.in_ok-names.ensures) in
    c.in_ok-push.ensures.ok ∙ (λ i. c.loop-number.invariant i ++ Some (e i) ∷ []) ∙ sym (map-next (node_of c.args.defs.now) c.args.defs.now c.loop-number.number c.nth.result.now c.nth.ensures)

pub returns : goal.returns
returns c = c.loop-number.invariant ∙ ap (map (node_of c.args.defs.now)) (take-whole c.args.defs.now c.loop-number.number (let h = c.loop-number-test.false in let l = c.len-number-end.ensures in omega (arith, h, l)))
