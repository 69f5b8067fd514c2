use Rattle.std.proofs.Common.{◌≡◌, ◌≤◌, sym, refl, subst, arith}
use Rattle.st_runs.specs.declared.searching.Step.TheVariants as step
use Rattle.st_runs.specs.inner.Searching.{IsUnderWay}
use Rattle.st_runs.proofs.RunLemmas.{at_start, is_term, line_of, step_of, goes_further, stuck, deepens, finishes}
use Rattle.st_runs.proofs.running.run.Goals as goal

pub loop-number-init : goal.loop-number-init
loop-number-init c =
    let s = c.args.searching.now in
    let start = c.args.start in
    subst (λ bytes. IsUnderWay s.language.now s.relation.now s.depth start start 0 bytes) (sym c.new-bytes.ensures.items) (at_start s.language.now s.relation.now s.depth start c.requires.start)

pub next_step-requires-clause-term : goal.next_step-requires-clause-term
next_step-requires-clause-term c =
    let s = c.args.searching.now in
    is_term s.language.now s.relation.now s.depth c.args.start c.loop-number.term c.as_slice-in-loop-number.result.now c.loop-number.number c.loop-number.bytes.items c.loop-number.invariant
    c.as_slice-in-loop-number.ensures

pub loop-number-preserved : goal.loop-number-preserved
loop-number-preserved c =
    let s = c.args.searching.now in
    let term = c.loop-number.term in
    let more = c.push_term_line.new.bytes.items in
    goes_further s.language.now s.relation.now s.depth c.args.start term c.in-To.next c.loop-number.number c.loop-number.bytes.items more c.loop-number.invariant
    (line_of c.loop-number.bytes.items more c.loop-number.number c.as_slice.result.now term c.in_ok-push_term_line.ensures c.as_slice.ensures) c.requires.leads
    (step_of s.language.now s.relation.now s.depth c.as_slice-in-loop-number.result.now term c.in_ok-next.field-0 (step.To c.in-To.next) c.in_ok-next.ensures c.as_slice-in-loop-number.ensures c.in-To.is)

pub returns-in-Stuck : goal.returns-in-Stuck
returns-in-Stuck c =
    let s = c.args.searching.now in
    let term = c.loop-number.term in
    let more = c.push_term_line.new.bytes.items in
    let few : c.loop-number.number ≤ c.args.fuel = omega (arith, c.loop-number-test.true) in
    stuck s.language.now s.relation.now c.args.fuel s.depth c.args.start term c.loop-number.number c.loop-number.bytes.items more c.ended.result c.loop-number.invariant
    (line_of c.loop-number.bytes.items more c.loop-number.number c.as_slice.result.now term c.in_ok-push_term_line.ensures c.as_slice.ensures) few
    (step_of s.language.now s.relation.now s.depth c.as_slice-in-loop-number.result.now term c.in_ok-next.field-0 step.Stuck c.in_ok-next.ensures c.as_slice-in-loop-number.ensures c.in-Stuck.is)
    c.ended.ensures.status c.ended.ensures.bytes

pub returns-in-Deep : goal.returns-in-Deep
returns-in-Deep c =
    let s = c.args.searching.now in
    let term = c.loop-number.term in
    let more = c.push_term_line.new.bytes.items in
    let few : c.loop-number.number ≤ c.args.fuel = omega (arith, c.loop-number-test.true) in
    deepens s.language.now s.relation.now c.args.fuel s.depth c.args.start term c.loop-number.number c.loop-number.bytes.items more c.in-Deep.chain c.deep.result c.loop-number.invariant
    (line_of c.loop-number.bytes.items more c.loop-number.number c.as_slice.result.now term c.in_ok-push_term_line.ensures c.as_slice.ensures) few
    (step_of s.language.now s.relation.now s.depth c.as_slice-in-loop-number.result.now term c.in_ok-next.field-0 (step.Deep c.in-Deep.chain) c.in_ok-next.ensures c.as_slice-in-loop-number.ensures c.in-Deep.is)
    c.deep.ensures.status c.deep.ensures.bytes

pub next_step-requires-2-clause-term : goal.next_step-requires-2-clause-term
next_step-requires-2-clause-term c =
    let s = c.args.searching.now in
    is_term s.language.now s.relation.now s.depth c.args.start c.loop-number.term c.as_slice-3.result.now c.loop-number.number c.loop-number.bytes.items c.loop-number.invariant c.as_slice-3.ensures

pub returns : goal.returns
returns c =
    let s = c.args.searching.now in
    let term = c.loop-number.term in
    let more = c.push_term_line-2.new.bytes.items in
    let at_end : c.loop-number.number ≡ c.args.fuel = omega arith in
    let run = subst (λ k. IsUnderWay s.language.now s.relation.now s.depth c.args.start term k c.loop-number.bytes.items) at_end c.loop-number.invariant in
    finishes s.language.now s.relation.now c.args.fuel s.depth c.args.start term c.loop-number.bytes.items more c.in_ok-last.last c.finish.result run
    (line_of c.loop-number.bytes.items more c.args.fuel c.as_slice-2.result.now term c.in_ok-push_term_line-2.ensures c.as_slice-2.ensures)
    (step_of s.language.now s.relation.now s.depth c.as_slice-3.result.now term c.in_ok-last.last c.in_ok-last.last c.in_ok-last.ensures c.as_slice-3.ensures refl) c.finish.ensures
