use Rattle.std.proofs.Common.{Err, ap, ◌∙◌, ◌+◌, take, drop}
use Rattle.std.proofs.lemmas.Result.{err_from_is_err_and}
use Rattle.st_elab_def.specs.Breaches.{FirstBreach}
use Rattle.st_elab_def.specs.Definitions.{definitions}
use Rattle.st_elab_def.specs.Phases.{on_content}
use Rattle.st_elab_def.specs.inner.Joining.{AreContents}
use Rattle.st_elab_def.specs.inner.Walk.{asked_of, standing}
use Rattle.st_elab_def.specs.inner.Whole.{Adds}
use Rattle.st_elab_def.proofs.Adds.{found-told, comes, adds-next, adds-stop}
use Rattle.st_elab_def.proofs.HasCome.{starts, ends, declared_behind}
use Rattle.st_elab_def.proofs.Leaves.{number-here}
use Rattle.st_elab_def.proofs.assembly.assemble.Goals as goal

pub loop-i-init : goal.loop-i-init
loop-i-init c = record {
  finds = c.in_ok-known.ensures;
  come = starts c.args.decls.now c.args.defs.now c.start-assembly.result.rules.keys c.start-assembly.result.fragments.keys c.start-assembly.result.declared c.start-assembly.result.made
      c.start-assembly.ensures.rules c.start-assembly.ensures.fragments (c.start-assembly.ensures.declared ∙ c.requires.declared) c.start-assembly.ensures.defs c.start-assembly.ensures.sources;
}

pub returns-in_err-add : goal.returns-in_err-add
returns-in_err-add c =
    let D = c.args.decls.now in
    let defs = c.args.defs.now in
    let def = c.index-defs-i.result in
    let h = c.loop-i-test.true in
    let is = c.index-defs-i.is in
    let i = c.loop-i.i in
    let d = standing (take i defs) def (drop (i + 1) defs) in
    let rest = declared_behind D defs i def h is in
    let failed = err_from_is_err_and c.from_residual-in_err-add.result c.from_residual-in_err-add.ensures.1 in
    adds-stop D c.in_ok-known.known defs i def h is c.loop-i.assembly c.loop-i.invariant.come
    (λ done. Adds D d rest c.loop-i.assembly c.add.new.self) (AreContents D (definitions defs)) c.add.result c.from_residual-in_err-add.result c.in_err-add.field-0.0 c.in_err-add.was (failed.1 ∙ ap Err failed.2)
    (c.add.ensures (take i defs) (drop (i + 1) defs) rest (number-here defs i def h)
    (comes D c.in_ok-known.known defs i def h is c.loop-i.assembly c.loop-i.invariant.come c.loop-i.invariant.finds))

pub loop-i-preserved : goal.loop-i-preserved
loop-i-preserved c =
    let D = c.args.decls.now in
    let defs = c.args.defs.now in
    let def = c.index-defs-i.result in
    let h = c.loop-i-test.true in
    let is = c.index-defs-i.is in
    let i = c.loop-i.i in
    let d = standing (take i defs) def (drop (i + 1) defs) in
    let rest = declared_behind D defs i def h is in
    record {
      finds = c.loop-i.invariant.finds;
      come = adds-next D c.in_ok-known.known defs i def h is c.loop-i.assembly c.loop-i.invariant.come c.add.new.self
          (found-told (λ done. Adds D d rest c.loop-i.assembly c.add.new.self) (FirstBreach D (asked_of on_content d)) c.add.result c.in_ok-add.field-0 c.in_ok-add.was
          (c.add.ensures (take i defs) (drop (i + 1) defs) rest (number-here defs i def h)
          (comes D c.in_ok-known.known defs i def h is c.loop-i.assembly c.loop-i.invariant.come c.loop-i.invariant.finds)));
    }

pub returns : goal.returns
returns c = ends c.args.decls.now c.args.defs.now c.loop-i.i c.loop-i.assembly.rules.keys c.loop-i.assembly.fragments.keys c.loop-i.assembly.declared c.loop-i.assembly.made c.loop-i-test.false c.loop-i.invariant.come
