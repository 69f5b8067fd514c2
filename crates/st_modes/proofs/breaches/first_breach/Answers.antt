use Rattle.std.proofs.Common.{◌+◌, ◌-◌, length, drop, ap, arith}
use Rattle.st_order.specs.inner.Index.{names_in}
use Rattle.st_order.proofs.HoleParts.{drop_all}
use Rattle.st_modes.proofs.BreachParts.{found_first, found_next, found_end, decided_first, decided_next}
use Rattle.st_modes.proofs.breaches.first_breach.Goals as goal

pub loop-i-init : goal.loop-i-init
loop-i-init c =
    let defs = c.args.defs.now in
    let none = drop_all defs (length defs - 0) (omega arith) in record {
      decided = decided_first defs (length defs - 0) (names_in c.new-decided.result.keys) none (ap names_in c.new-decided.ensures.empty);
      found = found_first c.args.relations.now.directions.il.now defs (length defs - 0) none;
    }

pub loop-i-preserved : goal.loop-i-preserved
loop-i-preserved c =
    let within = c.loop-i-test.true in
    let defs = c.args.defs.now in
    let il = c.args.relations.now.directions.il.now in record {
      decided =
          decided_next defs (length defs - 1 - c.loop-i.i) (length defs - (c.loop-i.i + 1)) (length defs - c.loop-i.i) c.index-defs-number.result (names_in c.loop-i.decided.keys) (names_in c.note_otherwise.new.decided.keys)
          (omega (arith, within)) c.index-defs-number.is (omega (arith, within)) (omega (arith, within)) c.in_ok-note_otherwise.ensures c.loop-i.invariant.decided;
      found =
          found_next il defs (length defs - 1 - c.loop-i.i) (length defs - (c.loop-i.i + 1)) (length defs - c.loop-i.i) c.index-defs-number.result c.in_ok-breach.breach c.loop-i.found c.earlier-found.result
          (omega (arith, within)) c.index-defs-number.is (omega (arith, within)) (omega (arith, within)) (c.in_ok-breach.ensures (drop (length defs - c.loop-i.i) defs) c.loop-i.invariant.decided) c.loop-i.invariant.found c.earlier-found.ensures;
    }

pub returns : goal.returns
returns c = let beyond = c.loop-i-test.false in found_end c.args.relations.now.directions.il.now c.args.defs.now (length c.args.defs.now - c.loop-i.i) c.loop-i.found (omega (arith, beyond)) c.loop-i.invariant.found
