use Rattle.std.proofs.Common.{rules, sym, ◌∙◌}
use Rattle.st_elab_rows.specs.Asking.{made_by}
use Rattle.st_elab_rows.proofs.Builds.{gives_made}
use Rattle.st_elab_rows.proofs.Members.{beside_asked}
use Rattle.st_elab_rows.proofs.operand.beside.Goals as goal

pub returns : goal.returns
returns g c = beside_asked _ _ c.args.context.now.within.now c.args.at c.args.sign c.args.right.now (made_by c.args.left) _ (sym c.inferable.ensures ∙ c.if-inferable.false)
    (c.in_ok-other-2.ensures _ _ (gives_made _ _ _ _ _ (search rules)))
