use Rattle.std.proofs.Common.{Err, ap, ◌∙◌}
use Rattle.std.proofs.lemmas.Result.{err_from_is_err_and}
use Rattle.st_elab_def.specs.DeclsOf.{decls_of}
use Rattle.st_elab_def.specs.Phases.{on_body}
use Rattle.st_elab_def.specs.declared.bodies.Source.{Source}
use Rattle.st_elab_def.specs.inner.Bodies.{here_of}
use Rattle.st_elab_def.proofs.BodyLoop.{comes-to, come-next, goes-checks, numbered-found, goes-found}
use Rattle.st_elab_def.proofs.ChecksAll.{phase-stop, phase-next}
use Rattle.st_elab_def.proofs.Leaves.{Leaves-end}
use Rattle.st_elab_def.proofs.bodies.check_bodies.Goals as goal

pub check_body-requires : goal.check_body-requires
check_body-requires c =
    let source : Source = record { defs = c.args.defs; bodies = c.in_ok-bodies.bodies; last = c.in_ok-last.last } in
    record {
      comes = comes-to source c.loop-i.i c.index-defs-i.result c.loop-i-test.true c.index-defs-i.is c.loop-i.walk (c.in_ok-bodies.ensures ∙ c.requires.syntaxes) c.in_ok-last.ensures
          c.requires.few c.requires.declared c.loop-i.invariant.come;
    }

pub returns-in_err-numbered : goal.returns-in_err-numbered
returns-in_err-numbered c =
    let defs = c.args.defs.now in
    let D = decls_of defs in
    let def = c.index-defs-i.result in
    let failed = err_from_is_err_and c.from_residual-in_err-numbered.result c.from_residual-in_err-numbered.ensures.1 in
    phase-stop D on_body defs c.loop-i.i def c.loop-i-test.true c.index-defs-i.is c.loop-i.invariant.left
    c.check_body.result c.numbered.result c.from_residual-in_err-numbered.result c.in_err-numbered.field-0.0 c.numbered.ensures c.in_err-numbered.was (failed.1 ∙ ap Err failed.2)
    (goes-checks D (here_of defs c.loop-i.i def) c.check_body.new.walk c.check_body.result c.check_body.ensures)

pub loop-i-preserved : goal.loop-i-preserved
loop-i-preserved c =
    let source : Source = record { defs = c.args.defs; bodies = c.in_ok-bodies.bodies; last = c.in_ok-last.last } in
    let defs = c.args.defs.now in
    let D = decls_of defs in
    let def = c.index-defs-i.result in
    let d = here_of defs c.loop-i.i def in
    record {
      come = come-next source c.loop-i.i def c.loop-i-test.true c.index-defs-i.is c.check_body.new.walk
          (goes-found D d c.check_body.new.walk c.check_body.result c.in_ok-numbered.field-0
          (numbered-found c.loop-i.i c.check_body.result c.numbered.result c.in_ok-numbered.field-0 c.numbered.ensures c.in_ok-numbered.was) c.check_body.ensures);
      left = phase-next D on_body defs c.loop-i.i def c.loop-i-test.true c.index-defs-i.is c.loop-i.invariant.left
          c.check_body.result c.numbered.result c.in_ok-numbered.field-0 c.numbered.ensures c.in_ok-numbered.was
          (goes-checks D d c.check_body.new.walk c.check_body.result c.check_body.ensures);
    }

pub returns : goal.returns
returns c = Leaves-end (decls_of c.args.defs.now) on_body c.args.defs.now c.loop-i.i c.loop-i-test.false c.loop-i.invariant.left
