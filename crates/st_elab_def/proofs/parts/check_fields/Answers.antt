use Rattle.std.proofs.Common.{subst, refl, length}
use Rattle.st_type_table.specs.Breach.{FindsAt}
use Rattle.st_type_table.proofs.PartsLemmas.{FindsAt-none}
use Rattle.st_elab_def.proofs.BodyParts.{fields-pass, fields-breach}
use Rattle.st_elab_def.proofs.parts.check_fields.Goals as goal

pub check-requires-clause-before : goal.check-requires-clause-before
check-requires-clause-before c = FindsAt-none c.args.bodies.now c.args.syntax

pub returns-in_ok-at-in-Some : goal.returns-in_ok-at-in-Some
returns-in_ok-at-in-Some c = λ D name same there.
    fields-breach D c.args.bodies.now same c.args.syntax name c.args.fields.now c.args.place there (length c.args.fields.now) refl c.in-Some.broken c.in_ok-at-in-Some.at c.in_ok-at-in-Some.ensures
    (subst (FindsAt c.args.bodies.now c.args.syntax 0 (length c.args.fields.now)) c.in-Some.is c.in_ok-found.ensures)

pub returns-in-None : goal.returns-in-None
returns-in-None c = λ D name same there.
    fields-pass D c.args.bodies.now same c.args.syntax name c.args.fields.now c.args.place there (length c.args.fields.now) refl
    (subst (FindsAt c.args.bodies.now c.args.syntax 0 (length c.args.fields.now)) c.in-None.is c.in_ok-found.ensures)
