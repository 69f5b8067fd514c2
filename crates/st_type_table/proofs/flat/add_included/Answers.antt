use Rattle.std.proofs.Common.{sym, subst, inr, arith}
use Rattle.st_type_table.specs.inner.CaseKeys.{AddsFrom}
use Rattle.st_type_table.proofs.FlatLemmas.{append_nil}
use Rattle.st_type_table.proofs.CaseKeyLemmas.{from-added, from-clash, from-whole}
use Rattle.st_type_table.proofs.flat.add_included.Goals as goal

pub loop-at-init : goal.loop-at-init
loop-at-init c = record { so_far = sym (append_nil c.args.cases.now.items); keyed = c.requires.keyed }

pub add_from-requires-clause-other : goal.add_from-requires-clause-other
add_from-requires-clause-other c = c.requires.flat c.if-not-flat.false

pub returns-then-not-branch-clause-added : goal.returns-then-not-branch-clause-added
returns-then-not-branch-clause-added c = inr (from-clash c.args.cases.now.items c.args.flat.now.cases.items c.loop-at.cases.items c.add_from.new.self.items c.loop-at.at c.loop-at.invariant.so_far
    (subst (AddsFrom c.loop-at.cases.items c.add_from.new.self.items c.args.flat.now.cases.items c.loop-at.at) c.if-not-branch.true c.in_ok-add_from.ensures.added))

pub loop-at-preserved : goal.loop-at-preserved
loop-at-preserved c =
    let more = from-added c.args.cases.now.items c.args.flat.now.cases.items c.loop-at.cases.items c.add_from.new.self.items c.loop-at.at c.loop-at.invariant.so_far c.loop-at.invariant.keyed.differ
    (subst (AddsFrom c.loop-at.cases.items c.add_from.new.self.items c.args.flat.now.cases.items c.loop-at.at) c.if-not-branch.false c.in_ok-add_from.ensures.added) in
    record { so_far = more.0; keyed = c.in_ok-add_from.ensures.keyed }

pub returns-clause-added : goal.returns-clause-added
returns-clause-added c = from-whole c.args.cases.now.items c.args.flat.now c.loop-at.cases.items c.loop-at.at c.if-not-flat.false (let h = c.loop-at-test.false in let l = c.len-at-end.ensures in omega (arith, h, l)) c.loop-at.invariant.so_far
    c.loop-at.invariant.keyed.differ
