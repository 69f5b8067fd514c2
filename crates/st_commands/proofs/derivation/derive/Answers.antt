use Rattle.std.proofs.Common.{◌≡◌, ◌≤◌, sym, subst, refl, arith}
use Rattle.st_il.specs.Small.{il_of}
use Rattle.st_runs.specs.declared.transcript.Ending.TheVariants.{Stuck}
use Rattle.st_commands.specs.Derived.{default_fuel}
use Rattle.st_runs.specs.inner.Reaches.{EndsBehind}
use Rattle.st_runs.specs.Transcript.{atom_term}
use Rattle.st_commands.proofs.Derivations.{HasDerived, before_steps, one_step, derived_answer}
use Rattle.st_commands.proofs.derivation.derive.Goals as goal
use Rattle.st_commands.proofs.derivation.derive.Goals.{in-None-next_rule, in-Some-next_rule}

pub loop-init : goal.loop-init
loop-init c = before_steps c.args.small.now c.args.start.now c.in_ok-lines.lines c.requires.small c.requires.known c.in_ok-lines.ensures

pub returns-in-None : goal.returns-in-None
returns-in-None c =
    let fits : c.loop.counter ≤ 1000 = omega arith in
    derived_answer c.args.small.now c.args.start.now c.loop.atom.now c.loop.counter c.loop.lines Stuck c.ended.result c.requires.small c.loop.invariant
    (fits, c.in-None.ensures) c.ended.ensures.status c.ended.ensures.bytes

pub loop-preserved : goal.loop-preserved
loop-preserved c =
    one_step c.args.small.now c.args.start.now c.loop.atom.now c.loop.counter c.loop.lines c.push_step.new.lines c.in-Some.rule.now c.requires.small
    (omega arith) c.loop.invariant c.in-Some.ensures c.in_ok-push_step-in-Some.ensures

pub returns : goal.returns
returns c =
    let s = c.args.small.now in
    let term = atom_term c.loop.atom.now in
    let at_end : c.loop.counter ≡ 1000 = omega arith in
    let derived = subst (λ k. HasDerived s c.args.start.now c.loop.atom.now k c.loop.lines) at_end c.loop.invariant in
    let how : EndsBehind (il_of s) s.relation default_fuel 1000 term c.match-next_rule-2.ending =
    elim c.match-next_rule-2.branch [
      | in-None-next_rule w ↦ subst (λ e. EndsBehind (il_of s) s.relation default_fuel 1000 term e) (sym w.ending-is) (let fits : 1000 ≤ 1000 = omega arith in fits, w.in-None-next_rule.ensures)
      | in-Some-next_rule w ↦ subst (λ e. EndsBehind (il_of s) s.relation default_fuel 1000 term e) (sym w.ending-is) (refl, (_, w.in-Some-next_rule.ensures.next.derivable))
    ] in
    derived_answer s c.args.start.now c.loop.atom.now 1000 c.loop.lines c.match-next_rule-2.ending c.ended-2.result c.requires.small derived how c.ended-2.ensures.status c.ended-2.ensures.bytes
