use Rattle.std.proofs.Common.{rules}
use Rattle.st_num.specs.declared.rule.RuleId.TheVariants.{Y1}
use Rattle.st_il.specs.declared.ty.Ty.TheVariants as typ
use Rattle.st_elab_table.specs.Elaboration.{ends}
use Rattle.st_elab_table.specs.Operators.{equated}
use Rattle.st_elab_table.specs.Steps.{breach, give, raised}
use Rattle.st_elab_rows.specs.Asking.{made_by}
use Rattle.st_elab_rows.proofs.Builds.{gives_made}
use Rattle.st_elab_rows.proofs.operand.compared.Goals as goal

pub returns-in_default : goal.returns-in_default
returns-in_default c = c.in_default.ensures c.args.context.now.scope.now
    (λ t. raised (made_by c.args.left) t (λ x. raised (made_by c.args.right) t (λ y. give (equated c.args.sign x y) typ.Bool)))
    (breach c.args.at Y1) _ ends

pub returns : goal.returns
returns c = c.in-Some.ensures c.args.context.now.scope.now
    (λ t. raised (made_by c.args.left) t (λ x. raised (made_by c.args.right) t (λ y. give (equated c.args.sign x y) typ.Bool)))
    (breach c.args.at Y1) _
    (c.in_ok-one.ensures c.args.context.now.scope.now (λ x. raised (made_by c.args.right) c.in-Some.ty.now (λ y. give (equated c.args.sign x y) typ.Bool)) _
    (c.in_ok-other.ensures c.args.context.now.scope.now (λ y. give (equated c.args.sign c.in_ok-one.one y) typ.Bool) _
    (gives_made _ _ _ _ _ (search rules))))
