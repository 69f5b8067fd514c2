use Rattle.std.proofs.Common.{refl, rules}
use Rattle.st_any_table.proofs.FlatsLemmas.{filled-known, filled-waiting, AreFlats-set, unknown-set, unknown-at}
use Rattle.st_any_table.proofs.flats.fill_one.Goals as goal

pub is_body_ready-requires : goal.is_body_ready-requires
is_body_ready-requires c = c.requires.flats.size

pub returns-then-is_known_at-clause-flats : goal.returns-then-is_known_at-clause-flats
returns-then-is_known_at-clause-flats c = c.requires.flats

pub returns-then-is_known_at-clause-fills : goal.returns-then-is_known_at-clause-fills
returns-then-is_known_at-clause-fills c = (refl, filled-known c.args.defs.now c.args.flats.now c.args.at (search rules))

pub returns-then-not-is_body_ready-clause-flats : goal.returns-then-not-is_body_ready-clause-flats
returns-then-not-is_body_ready-clause-flats c = c.requires.flats

pub returns-then-not-is_body_ready-clause-fills : goal.returns-then-not-is_body_ready-clause-fills
returns-then-not-is_body_ready-clause-fills c = (refl, filled-waiting c.args.defs.now c.args.flats.now c.args.at c.nth.result.now c.nth.ensures (λ a. let f = c.if-not-is_body_ready.ensures.1 a in cc))

pub flat_of-requires-clause-known : goal.flat_of-requires-clause-known
flat_of-requires-clause-known c = c.if-not-is_body_ready.ensures.0 (search rules)

pub returns-clause-flats : goal.returns-clause-flats
returns-clause-flats c = AreFlats-set c.args.defs.now c.args.flats.now c.flat_of.new.cases c.args.at c.nth.result.now c.in_ok-numbers.numbers c.in_ok-numbers.ensures.flats c.nth.ensures c.in_ok-numbers.ensures.flat

pub returns-clause-fills : goal.returns-clause-fills
returns-clause-fills c = unknown-set c.args.defs.now c.args.flats.now c.args.at c.in_ok-numbers.numbers
    (unknown-at c.args.defs.now c.args.flats.now c.args.at c.nth.result.now c.requires.flats.size c.nth.ensures (λ t. let f = c.if-is_known_at.ensures in cc))
