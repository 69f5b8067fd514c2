use Rattle.std.proofs.Common.{◌≡◌, ℕ, List, ap, sym, ◌∙◌, subst, length, map, arith}
use Rattle.st_graph.specs.Graph.{IsNumbering}
use Rattle.st_graph.specs.inner.Walk.{IsWalk, number_at}
use Rattle.st_graph.proofs.WalkEnds.{walk-numbers}
use Rattle.st_graph.proofs.walk.numbering.Goals as goal

pub returns : goal.returns
returns c =
    let w = c.in_ok-walk.walk in
    let o = w.closed.ok.0 in
    let l = c.len-count.ensures in
    let n : length w.closed.items ≡ c.len-count.result = omega (arith, l, o) in
    let e : map number_at w.states.items ≡ c.in_ok-numbers.numbers.items = ap (map number_at) (sym c.deref.ensures.value) ∙ sym c.in_ok-numbers.ensures in
    subst (λ (k : ℕ). IsNumbering c.args.graph.now c.in_ok-numbers.numbers.items k) n
    (subst (λ (z : List ℕ). IsNumbering c.args.graph.now z (length w.closed.items)) e
    (walk-numbers c.args.graph.now w.states.items w.bounds.items w.waiting.items (length w.closed.items)
    (subst (λ (z : List ℕ). IsWalk c.args.graph.now w.states.items z w.bounds.items w.waiting.items (length w.closed.items)) c.in_ok-walk.ensures.all c.in_ok-walk.ensures.walk)
    c.in_ok-walk.ensures.begun))
