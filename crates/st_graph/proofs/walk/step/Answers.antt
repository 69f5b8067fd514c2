use Rattle.std.proofs.Common.{◌≡◌, ℕ, ◌-◌, List, ap, sym, ◌∙◌, subst, length, take, Some, slice_get, arith}
use Rattle.st_graph.specs.declared.walk.NodeState.{NodeState}
use Rattle.st_graph.specs.inner.Walk.{start_of, IsWalk}
use Rattle.st_graph.proofs.Positions.{pair}
use Rattle.st_graph.proofs.WalkSteps.{start-within, top-followed, top-within, top-leads, top-joins, top-passes}
use Rattle.st_graph.proofs.walk.step.Goals as goal

pub close-requires-clause-within : goal.close-requires-clause-within
close-requires-clause-within c =
    let s : c.last_start-start.result ≡ start_of c.args.walk.now.bounds.items = c.last_start-start.ensures ∙ ap start_of c.deref.ensures.value in
    let l = start-within c.args.walk.now.bounds.items (length c.args.walk.now.path.items) c.requires.some c.requires.walk.path_is.bounds_within in omega (arith, s, l)

pub close-requires-then-from-start-clause-within : goal.close-requires-then-from-start-clause-within
close-requires-then-from-start-clause-within c =
    let s : c.last_start-start.result ≡ start_of c.args.walk.now.bounds.items = c.last_start-start.ensures ∙ ap start_of c.deref.ensures.value in
    let l = start-within c.args.walk.now.bounds.items (length c.args.walk.now.path.items) c.requires.some c.requires.walk.path_is.bounds_within in omega (arith, s, l)

pub close-requires-then-from-start-clause-followed : goal.close-requires-then-from-start-clause-followed
close-requires-then-from-start-clause-followed c =
    let w = c.args.walk.now in
    let last : slice_get w.waiting.items (length w.waiting.items - 1) ≡ Some (pair c.in-Some.from c.in-Some.to) =
    ap (λ (z : List (ℕ × ℕ)). slice_get z (length z - 1)) (sym c.deref-2.ensures.value) ∙ sym c.last_waiting.ensures ∙ c.in-Some.is in
    let t = c.if-from-start.true in
    λ k i y e. top-followed c.args.graph.now w.states.items w.path.items w.bounds.items w.waiting.items (length w.closed.items) c.in-Some.from c.in-Some.to c.requires.walk last c.last_start-start.result (omega (arith, t)) k i y e

pub state_of-requires : goal.state_of-requires
state_of-requires c =
    let w = c.args.walk.now in
    let last : slice_get w.waiting.items (length w.waiting.items - 1) ≡ Some (pair c.in-Some.from c.in-Some.to) =
    ap (λ (z : List (ℕ × ℕ)). slice_get z (length z - 1)) (sym c.deref-2.ensures.value) ∙ sym c.last_waiting.ensures ∙ c.in-Some.is in
    let h = top-within c.args.graph.now w.states.items w.path.items w.bounds.items w.waiting.items (length w.closed.items) c.in-Some.from c.in-Some.to c.requires.walk last c.requires.graph in
    let e : length c.deref-3.result.now ≡ length w.states.items = ap length c.deref-3.ensures.value in omega (arith, h, e)

pub begin-requires-clause-new : goal.begin-requires-clause-new
begin-requires-clause-new c =
    let w = c.args.walk.now in
    let at : slice_get w.states.items c.in-Some.to ≡ Some c.state_of.result = ap (λ (z : List NodeState). slice_get z c.in-Some.to) (sym c.deref-3.ensures.value) ∙ c.state_of.ensures in
    at ∙ ap Some c.in-New.is

pub begin-requires-clause-leads : goal.begin-requires-clause-leads
begin-requires-clause-leads c =
    let w = c.args.walk.now in
    let last : slice_get w.waiting.items (length w.waiting.items - 1) ≡ Some (pair c.in-Some.from c.in-Some.to) =
    ap (λ (z : List (ℕ × ℕ)). slice_get z (length z - 1)) (sym c.deref-2.ensures.value) ∙ sym c.last_waiting.ensures ∙ c.in-Some.is in
    let s : c.last_start-start.result ≡ start_of w.bounds.items = c.last_start-start.ensures ∙ ap start_of c.deref.ensures.value in
    let t = c.if-from-start.false in
    top-leads c.args.graph.now w.states.items w.path.items w.bounds.items w.waiting.items (length w.closed.items) c.in-Some.from c.in-Some.to c.requires.walk last (omega (arith, s, t))

pub returns-in-Open-clause-walk : goal.returns-in-Open-clause-walk
returns-in-Open-clause-walk c =
    let w = c.args.walk.now in
    let last : slice_get w.waiting.items (length w.waiting.items - 1) ≡ Some (pair c.in-Some.from c.in-Some.to) =
    ap (λ (z : List (ℕ × ℕ)). slice_get z (length z - 1)) (sym c.deref-2.ensures.value) ∙ sym c.last_waiting.ensures ∙ c.in-Some.is in
    let s : c.last_start-start.result ≡ start_of w.bounds.items = c.last_start-start.ensures ∙ ap start_of c.deref.ensures.value in
    let at : slice_get w.states.items c.in-Some.to ≡ Some c.state_of.result = ap (λ (z : List NodeState). slice_get z c.in-Some.to) (sym c.deref-3.ensures.value) ∙ c.state_of.ensures in
    let t = c.if-from-start.false in
    let l = c.len.ensures in
    let o = w.waiting.ok.0 in
    let n : length w.waiting.items - 1 ≡ c.len.result - 1 = omega (arith, l, o) in
    subst (λ (z : List (ℕ × ℕ)). IsWalk c.args.graph.now w.states.items w.path.items c.cut.new.bounds.items z (length w.closed.items))
    (ap (λ (k : ℕ). take k w.waiting.items) n ∙ sym c.truncate.ensures.items)
    (top-joins c.args.graph.now w.states.items w.path.items w.bounds.items w.waiting.items (length w.closed.items) c.in-Some.from c.in-Some.to c.requires.walk last c.in-Open.at c.cut.new.bounds.items (omega (arith, s, t)) (at ∙ ap Some c.in-Open.is) c.cut.ensures)

pub returns-in-Closed-clause-walk : goal.returns-in-Closed-clause-walk
returns-in-Closed-clause-walk c =
    let w = c.args.walk.now in
    let last : slice_get w.waiting.items (length w.waiting.items - 1) ≡ Some (pair c.in-Some.from c.in-Some.to) =
    ap (λ (z : List (ℕ × ℕ)). slice_get z (length z - 1)) (sym c.deref-2.ensures.value) ∙ sym c.last_waiting.ensures ∙ c.in-Some.is in
    let at : slice_get w.states.items c.in-Some.to ≡ Some c.state_of.result = ap (λ (z : List NodeState). slice_get z c.in-Some.to) (sym c.deref-3.ensures.value) ∙ c.state_of.ensures in
    let l = c.len-in-Closed.ensures in
    let o = w.waiting.ok.0 in
    let n : length w.waiting.items - 1 ≡ c.len-in-Closed.result - 1 = omega (arith, l, o) in
    subst (λ (z : List (ℕ × ℕ)). IsWalk c.args.graph.now w.states.items w.path.items w.bounds.items z (length w.closed.items))
    (ap (λ (k : ℕ). take k w.waiting.items) n ∙ sym c.truncate-in-Closed.ensures.items)
    (top-passes c.args.graph.now w.states.items w.path.items w.bounds.items w.waiting.items (length w.closed.items) c.in-Some.from c.in-Some.to c.requires.walk last c.in-Closed.field-0 (at ∙ ap Some c.in-Closed.is))
