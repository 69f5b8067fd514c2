use Rattle.std.proofs.Common.{◌≡◌, ℕ, ◌<◌, List, [], ◌∷◌, ◌++◌, ap, sym, refl, ◌∙◌, length, map, set, Some, slice_get, arith}
use Rattle.std.proofs.lemmas.Option.{slice_get_read}
use Rattle.st_graph.specs.declared.walk.NodeState.TheVariants.{New, Open}
use Rattle.st_graph.proofs.Positions.{get-within}
use Rattle.st_graph.proofs.WalkBegins.{walk-begins, begun-other, begun-here, walk_same, cost_less}
use Rattle.st_graph.proofs.Costs.{cost-begins}
use Rattle.st_graph.proofs.walk.begin.Goals as goal

pub returns-clause-walk : goal.returns-clause-walk
returns-clause-walk c =
    let w = c.args.walk.now in
    let e = c.len-at.ensures in
    let o = w.path.ok.0 in
    let n : length w.path.items ≡ c.len-at.result = omega (arith, e, o) in
    let l = get-within w.states.items c.args.node New c.requires.new in
    let z = c.requires.walk.size in
    let within : c.args.node < length c.args.graph.now = omega (arith, l, z) in
    let there : slice_get c.args.graph.now c.args.node ≡ Some c.index-graph-node.result = slice_get_read c.args.graph.now (length c.args.graph.now) c.args.node c.index-graph-node.result refl within c.index-graph-node.is in
    walk_same c.args.graph.now _ _ _ _ _ _ _ _ _ _
    (ap (λ (k : ℕ). set w.states.items c.args.node (Open k)) n)
    (sym c.in_ok-push.ensures.items)
    (ap (λ (k : ℕ). w.bounds.items ++ k ∷ []) n ∙ sym c.in_ok-push-2.ensures.items)
    (ap (λ (k : ℕ). w.waiting.items ++ map (λ (to : ℕ). (k, to)) c.index-graph-node.result) n
    ∙ ap (λ (r : List ℕ). w.waiting.items ++ map (λ (to : ℕ). (c.len-at.result, to)) r) (sym c.as_slice.ensures) ∙ sym c.in_ok-wait.ensures)
    refl
    (walk-begins c.args.graph.now w.states.items w.path.items w.bounds.items w.waiting.items (length w.closed.items) c.args.node c.index-graph-node.result c.requires.walk c.requires.new there c.requires.leads)

pub returns-clause-cost : goal.returns-clause-cost
returns-clause-cost c =
    let w = c.args.walk.now in
    let e = c.len-at.ensures in
    let o = w.path.ok.0 in
    let n : length w.path.items ≡ c.len-at.result = omega (arith, e, o) in
    let l = get-within w.states.items c.args.node New c.requires.new in
    let z = c.requires.walk.size in
    let within : c.args.node < length c.args.graph.now = omega (arith, l, z) in
    let there : slice_get c.args.graph.now c.args.node ≡ Some c.index-graph-node.result = slice_get_read c.args.graph.now (length c.args.graph.now) c.args.node c.index-graph-node.result refl within c.index-graph-node.is in
    cost_less c.args.graph.now _ _ _ _ _ _ _ _ _
    (ap (λ (k : ℕ). set w.states.items c.args.node (Open k)) n)
    (sym c.in_ok-push.ensures.items)
    (ap (λ (k : ℕ). w.bounds.items ++ k ∷ []) n ∙ sym c.in_ok-push-2.ensures.items)
    (ap (λ (k : ℕ). w.waiting.items ++ map (λ (to : ℕ). (k, to)) c.index-graph-node.result) n
    ∙ ap (λ (r : List ℕ). w.waiting.items ++ map (λ (to : ℕ). (c.len-at.result, to)) r) (sym c.as_slice.ensures) ∙ sym c.in_ok-wait.ensures)
    (cost-begins c.args.graph.now w.states.items w.path.items w.bounds.items w.waiting.items c.args.node c.index-graph-node.result c.requires.new there)

pub returns-clause-begun : goal.returns-clause-begun
returns-clause-begun c = λ v e. begun-other c.args.walk.now.states.items c.args.node c.len-at.result v e

pub returns-clause-here : goal.returns-clause-here
returns-clause-here c = λ e. begun-here c.args.walk.now.states.items c.args.node c.len-at.result e
