use Rattle.std.proofs.Common.{◌≡◌, ℕ, List, ap, refl, sym, ◌∙◌, subst, length, option_to_list, arith}
use Rattle.std.proofs.lemmas.List.{with_items_is, length-append, length_push}
use Rattle.st_graph.specs.declared.walk.NodeState.{NodeState}
use Rattle.st_graph.specs.inner.Walk.{Closes}
use Rattle.st_graph.proofs.WalkBegins.{walk_same, cost_less}
use Rattle.st_graph.proofs.WalkSteps.{walk-closes, start-top}
use Rattle.st_graph.proofs.Cuts.{pop-cut}
use Rattle.st_graph.proofs.Costs.{cost-closes}
use Rattle.st_graph.proofs.walk.close.Goals as goal

pub returns-clause-walk : goal.returns-clause-walk
returns-clause-walk c =
    let w = c.args.walk.now in
    let o = w.closed.ok.0 in
    let g = c.len-component.ensures in
    let n : c.len-component.result ≡ length w.closed.items = omega (arith, g, o) in
    let b = w.bounds.ok.0 in
    let closes : Closes w.path.items c.args.start (length w.closed.items) w.states.items c.number.new.states =
    subst (λ (k : ℕ). Closes w.path.items c.args.start k w.states.items c.number.new.states) n
    (subst (λ (z : List ℕ). Closes z c.args.start c.len-component.result w.states.items c.number.new.states) c.deref.ensures.value
    (subst (λ (z : List NodeState). Closes c.deref.result.now c.args.start c.len-component.result z c.number.new.states) c.deref_mut.ensures.value c.number.ensures)) in
    let z = closes.size in
    let p = w.states.ok.0 in
    let count = length_push w.closed.items c.index.result.now in
    let more = ap length c.in_ok-push.ensures.items in
    walk_same c.args.graph.now _ _ _ _ _ _ _ _ _ _
    (sym (with_items_is w.states c.number.new.states (omega (arith, z, p))))
    (sym c.truncate.ensures.items)
    refl
    refl
    (omega (arith, count, more))
    (walk-closes c.args.graph.now w.states.items w.path.items w.bounds.items w.waiting.items (length w.closed.items) c.requires.walk c.args.start c.number.new.states c.pop.new.self.items
    (λ k s. let t = start-top w.bounds.items c.requires.walk.path_is.bounds_rise k s in let q = c.requires.start in omega (arith, t, q))
    c.requires.within
    (pop-cut c.pop.result _ _ c.args.start w.bounds.items c.pop.new.self.items c.pop.ensures.cases (omega (arith, b)) c.pop.ensures.items c.requires.start)
    (λ i y s. c.requires.followed s.0 i y s.1)
    closes)

pub returns-clause-cost : goal.returns-clause-cost
returns-clause-cost c =
    let w = c.args.walk.now in
    let closes : Closes w.path.items c.args.start c.len-component.result w.states.items c.number.new.states =
    subst (λ (z : List ℕ). Closes z c.args.start c.len-component.result w.states.items c.number.new.states) c.deref.ensures.value
    (subst (λ (z : List NodeState). Closes c.deref.result.now c.args.start c.len-component.result z c.number.new.states) c.deref_mut.ensures.value c.number.ensures) in
    let z = closes.size in
    let p = w.states.ok.0 in
    let less = ap length c.pop.ensures.items ∙ length-append c.pop.new.self.items (option_to_list c.pop.result) in
    cost_less c.args.graph.now _ _ _ _ _ _ _ _ _
    (sym (with_items_is w.states c.number.new.states (omega (arith, z, p))))
    (sym c.truncate.ensures.items)
    refl
    refl
    (cost-closes c.args.graph.now w.states.items c.number.new.states w.path.items w.bounds.items c.pop.new.self.items w.waiting.items c.args.start c.len-component.result c.requires.walk.path_is closes c.requires.within (omega (arith, less)))
