use Rattle.std.proofs.Common.{ap, take, drop, ◌+◌, ◌++◌, []}
use Rattle.std.specs.Prelude.{flat_map}
use Rattle.st_elab_def.specs.DeclsOf.{declared_by}
use Rattle.st_el.specs.Erasure.{joined_behind}
use Rattle.st_elab_def.proofs.Gathered.{untaken-here, untaken-next, declared-next, declared-end}
use Rattle.st_elab_def.proofs.joining.declared.Goals as goal

pub loop-def-init : goal.loop-def-init
loop-def-init c = record { untaken = c.in_ok-parts.ensures; made = ap (λ xs. xs ++ flat_map declared_by (joined_behind [] c.args.defs.now)) c.new-out.ensures }

pub loop-def-preserved : goal.loop-def-preserved
loop-def-preserved c =
    let defs = c.args.defs.now in
    let i = c.loop-def.def-index in
    let def = c.def-item.result in
    let here = untaken-here defs i def c.loop-def-test.true c.def-item.is c.loop-def.parts.entries c.loop-def.invariant.untaken in
    record {
      untaken = untaken-next defs i def c.loop-def-test.true c.def-item.is c.push_declared.new.parts.entries
          (c.in_ok-push_declared.ensures.left (take i defs) (drop (i + 1) defs) here);
      made = declared-next defs i def c.loop-def-test.true c.def-item.is c.loop-def.out c.push_declared.new.out _
          (c.in_ok-push_declared.ensures.pushed (take i defs) (drop (i + 1) defs) here) c.loop-def.invariant.made;
    }

pub returns : goal.returns
returns c = declared-end c.args.defs.now c.loop-def.def-index c.loop-def.out _ c.loop-def-test.false c.loop-def.invariant.made
