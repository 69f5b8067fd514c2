use Rattle.std.proofs.Common.{◌≡◌, ◌++◌, ◌∷◌, [], length, arith}
use Rattle.std.proofs.lemmas.List.{length-map}
use Rattle.st_order.specs.inner.Index.{names_in}
use Rattle.st_modes.specs.inner.Reaching.{cited_under}
use Rattle.st_modes.proofs.HasWalked.{goes_on, walk_falls}
use Rattle.st_modes.proofs.TargetParts.{spread-begins, spread-kept, spread-next, spread-ends}
use Rattle.st_modes.proofs.targets.spread.Goals as goal

pub walk-init : goal.walk-init
walk-init c =
    let long : length (names_in c.args.found.now.keys) ≡ length c.args.found.now.keys = length-map c.args.found.now.keys (λ key. key.now) in
    let counted = c.len-front.ensures.len in
    let front_is : c.len-front.result ≡ length (names_in c.args.found.now.keys) = omega (arith, long, counted) in
    let grown = c.in_ok-grow_by.ensures in
    record {
      walked = spread-begins (cited_under c.args.citing.now.entries) (names_in c.args.found.now.keys) c.args.target.now c.len-front.result (names_in c.grow_by.new.found.keys) front_is c.requires grown;
      kept = spread-kept (cited_under c.args.citing.now.entries) (names_in c.args.found.now.keys) c.args.target.now (names_in c.grow_by.new.found.keys) grown;
      longer = grown.longer;
    }

pub walk-smaller : goal.walk-smaller
walk-smaller c =
    let long : length (names_in c.walk.found.keys) ≡ length c.walk.found.keys = length-map c.walk.found.keys (λ key. key.now) in
    let within = c.walk-test.true in
    let counted = c.len.ensures.len in
    walk_falls c.args.citing.now.entries c.walk.front (names_in c.walk.found.keys) (names_in c.grow_under.new.found.keys) c.name_at-met.result.now (omega arith) c.in_ok-grow_under.ensures

pub walk-preserved : goal.walk-preserved
walk-preserved c =
    let grown = c.in_ok-grow_under.ensures in
    let more = grown.longer in
    let was = c.walk.invariant.longer in
    record {
      walked =
          goes_on (names_in c.args.found.now.keys ++ c.args.target.now ∷ []) (cited_under c.args.citing.now.entries) c.walk.front (names_in c.walk.found.keys) (names_in c.grow_under.new.found.keys) c.name_at-met.result.now
          c.walk.invariant.walked c.name_at-met.ensures grown;
      kept =
          spread-next (cited_under c.args.citing.now.entries) (names_in c.args.found.now.keys) c.args.target.now (cited_under c.args.citing.now.entries c.name_at-met.result.now) (names_in c.walk.found.keys)
          (names_in c.grow_under.new.found.keys) c.walk.invariant.kept c.walk.invariant.longer grown;
      longer = omega arith;
    }

pub returns : goal.returns
returns c =
    let long : length (names_in c.walk.found.keys) ≡ length c.walk.found.keys = length-map c.walk.found.keys (λ key. key.now) in
    let beyond = c.walk-test.false in
    let counted = c.len.ensures.len in
    spread-ends (cited_under c.args.citing.now.entries) (names_in c.args.found.now.keys) c.args.target.now c.walk.front (names_in c.walk.found.keys) c.walk.invariant.walked (omega arith) c.walk.invariant.kept
    c.walk.invariant.longer
