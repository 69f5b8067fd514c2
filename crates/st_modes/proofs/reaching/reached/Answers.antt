use Rattle.std.proofs.Common.{◌≡◌, length, arith}
use Rattle.std.proofs.lemmas.List.{length-map}
use Rattle.st_order.specs.inner.Index.{names_in}
use Rattle.st_modes.specs.inner.Reaching.{cited_under}
use Rattle.st_modes.proofs.HasWalked.{begins_with, goes_on, ends, walk_falls}
use Rattle.st_modes.proofs.reaching.reached.Goals as goal

pub walk-init : goal.walk-init
walk-init c =
    begins_with (cited_under c.args.first.now.entries c.args.name.now) (cited_under c.args.cited.now.entries) c.new-found.result.keys (names_in c.grow_under.new.found.keys) c.new-found.ensures.empty
    c.in_ok-grow_under.ensures

pub walk-smaller : goal.walk-smaller
walk-smaller c =
    let long : length (names_in c.walk.found.keys) ≡ length c.walk.found.keys = length-map c.walk.found.keys (λ key. key.now) in
    let within = c.walk-test.true in
    let counted = c.len.ensures.len in
    walk_falls c.args.cited.now.entries c.walk.front (names_in c.walk.found.keys) (names_in c.grow_under-in-walk.new.found.keys) c.name_at-met.result.now (omega arith) c.in_ok-grow_under-2.ensures

pub walk-preserved : goal.walk-preserved
walk-preserved c =
    goes_on (cited_under c.args.first.now.entries c.args.name.now) (cited_under c.args.cited.now.entries) c.walk.front (names_in c.walk.found.keys) (names_in c.grow_under-in-walk.new.found.keys)
    c.name_at-met.result.now c.walk.invariant c.name_at-met.ensures c.in_ok-grow_under-2.ensures

pub returns : goal.returns
returns c =
    let long : length (names_in c.walk.found.keys) ≡ length c.walk.found.keys = length-map c.walk.found.keys (λ key. key.now) in
    let beyond = c.walk-test.false in
    let counted = c.len.ensures.len in
    ends (cited_under c.args.first.now.entries c.args.name.now) (cited_under c.args.cited.now.entries) c.walk.front (names_in c.walk.found.keys) c.walk.invariant (omega arith)
