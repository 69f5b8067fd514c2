use Rattle.std.proofs.Common.{subst}
use Rattle.st_type_table.specs.Breach.{FindsAt}
use Rattle.st_elab_def.proofs.BodyParts.{run-passes, run-breach}
use Rattle.st_elab_def.proofs.parts.check_run.Goals as goal

pub returns-in_ok-at-in-Some : goal.returns-in_ok-at-in-Some
returns-in_ok-at-in-Some c = λ D name before later same e all alone there.
    let begun = c.args.begun in
    run-breach D c.args.bodies.now same begun.syntax name before later c.args.cases.now begun.alternatives c.args.to c.args.place e all alone there
    c.in-Some.broken c.in_ok-at-in-Some.at c.in_ok-at-in-Some.ensures
    (subst (FindsAt c.args.bodies.now begun.syntax begun.alternatives c.args.to) c.in-Some.is c.in_ok-found.ensures)

pub returns-in-None : goal.returns-in-None
returns-in-None c = λ D name before later same e all alone there.
    let begun = c.args.begun in
    run-passes D c.args.bodies.now same begun.syntax name before later c.args.cases.now begun.alternatives c.args.to c.args.place e all alone there c.requires.been
    (subst (FindsAt c.args.bodies.now begun.syntax begun.alternatives c.args.to) c.in-None.is c.in_ok-found.ensures)
