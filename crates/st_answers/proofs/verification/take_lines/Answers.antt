use Rattle.std.proofs.Common.{arith}
use Rattle.st_answers.proofs.Verifications.{nothing_taken, noted_few, not_taken, taken_next}
use Rattle.st_answers.proofs.verification.take_lines.Goals as goal

pub loop-line-init : goal.loop-line-init
loop-line-init c = nothing_taken c.args.verifier.now.il c.args.bytes.now c.args.verifier.now c.requires.new

pub take_line-requires : goal.take_line-requires
take_line-requires c = omega (arith, noted_few c.args.verifier.now.il c.args.bytes.now c.loop-line.rest.now c.loop-line.verifier c.loop-line.invariant, c.requires.short)

pub returns-then-not-branch-clause-none : goal.returns-then-not-branch-clause-none
returns-then-not-branch-clause-none c =
    not_taken c.args.verifier.now.il c.args.bytes.now c.loop-line.rest.now c.in-Some.line.now c.in-Some.behind.now c.in_ok-take_line.field-0
    c.loop-line.verifier c.take_line.new.verifier c.loop-line.invariant c.in-Some.ensures.1 c.in-Some.ensures.0 c.if-not-branch.true c.in_ok-take_line.ensures

pub loop-line-preserved : goal.loop-line-preserved
loop-line-preserved c =
    taken_next c.args.verifier.now.il c.args.bytes.now c.loop-line.rest.now c.in-Some.line.now c.in-Some.behind.now c.in_ok-take_line.field-0
    c.loop-line.verifier c.take_line.new.verifier c.loop-line.invariant c.in-Some.ensures.1 c.if-not-branch.false c.in_ok-take_line.ensures
