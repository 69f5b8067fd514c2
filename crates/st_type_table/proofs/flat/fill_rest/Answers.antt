use Rattle.std.proofs.Common.{sym, ap, subst, arith}
use Rattle.st_type_table.specs.inner.Flat.{AllKnownParts, alternatives_in}
use Rattle.st_type_table.proofs.RankLemmas.{rest-then, rest-else, rested}
use Rattle.st_type_table.proofs.ReachLemmas.{ended-parts}
use Rattle.st_type_table.proofs.flat.fill_rest.Goals as goal
use Rattle.st_type_table.proofs.flat.fill_rest.Goals.{then-ranks-i-eq0+in_ok-flat, else-ranks-i-eq0}

pub loop-i-init : goal.loop-i-init
loop-i-init c = record { known = c.requires.flats; rest = λ position d f h. absurd (omega arith) }

pub flat_of_body-requires-clause-known : goal.flat_of_body-requires-clause-known
flat_of_body-requires-clause-known c = subst (λ z. AllKnownParts c.args.defs.now z (alternatives_in c.nth.result.now)) (sym c.deref.ensures.value)
    (ended-parts c.args.defs.now c.args.ranks.now c.loop-i.flats.items c.requires.ranks c.loop-i.invariant.known (alternatives_in c.nth.result.now))

pub loop-i-preserved : goal.loop-i-preserved
loop-i-preserved c = elim c.if-ranks-i-eq0.branch [
  | then-ranks-i-eq0+in_ok-flat w ↦ rest-then c.args.defs.now c.args.ranks.now c.loop-i.flats.items c.if-ranks-i-eq0.flats.items c.loop-i.i w.nth.result.now w.in_ok-flat.flat
      c.loop-i.invariant w.nth.ensures
      w.if-ranks-i-eq0.true w.in_ok-flat.ensures.reached (ap (λ v. v.items) w.flats-is)
  | else-ranks-i-eq0 w ↦ rest-else c.args.defs.now c.args.ranks.now c.loop-i.flats.items c.if-ranks-i-eq0.flats.items c.loop-i.i c.loop-i.invariant w.if-ranks-i-eq0.false (ap (λ v. v.items) w.flats-is)
]

pub returns-clause-right : goal.returns-clause-right
returns-clause-right c = c.loop-i.invariant.known

pub returns-clause-reached : goal.returns-clause-reached
returns-clause-reached c = rested c.args.defs.now c.args.ranks.now c.loop-i.flats.items c.loop-i.i c.requires.ranks c.loop-i.invariant (let h = c.loop-i-test.false in let l = c.len-i-end.ensures in omega (arith, h, l))
