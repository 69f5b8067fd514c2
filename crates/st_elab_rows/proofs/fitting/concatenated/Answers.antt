use Rattle.std.proofs.Common.{rules}
use Rattle.st_num.specs.declared.rule.RuleId.TheVariants.{Y5}
use Rattle.st_elab_table.specs.Elaboration.{ends}
use Rattle.st_elab_table.specs.Steps.{breach, give, raised, as_joined}
use Rattle.st_elab_rows.specs.Asking.{made_by}
use Rattle.st_elab_rows.specs.inner.Words.{join_of}
use Rattle.st_elab_rows.proofs.Builds.{leading_by, reaches_stops, gives_made}
use Rattle.st_elab_rows.proofs.fitting.concatenated.Goals as goal

pub returns-in_default : goal.returns-in_default
returns-in_default c = c.in_default.ensures c.args.context.now.scope.now
    (λ t. as_joined c.args.at t (λ join. raised (made_by c.args.left) t (λ x. raised (made_by c.args.right) t (λ y. give (join x y) t))))
    (breach c.args.at Y5) _ ends

pub returns-in_err-join : goal.returns-in_err-join
returns-in_err-join c = leading_by _ _ _ _ _ _ (λ a h. c.in-Some.ensures c.args.context.now.scope.now
    (λ t. as_joined c.args.at t (λ join. raised (made_by c.args.left) t (λ x. raised (made_by c.args.right) t (λ y. give (join x y) t))))
    (breach c.args.at Y5) a h)
    (reaches_stops _ _ _ (λ join. raised (made_by c.args.left) c.in-Some.ty.now (λ x. raised (made_by c.args.right) c.in-Some.ty.now (λ y. give (join x y) c.in-Some.ty.now))) _ _ c.as_joined.result c.from_residual.result c.in_err-join.field-0.0 c.in_err-join.was (search rules) (c.as_joined.ensures c.args.context.now.scope.now))

pub returns : goal.returns
returns c = c.in-Some.ensures c.args.context.now.scope.now
    (λ t. as_joined c.args.at t (λ join. raised (made_by c.args.left) t (λ x. raised (made_by c.args.right) t (λ y. give (join x y) t))))
    (breach c.args.at Y5) _
    (c.in_ok-join.ensures c.args.context.now.scope.now (λ join. raised (made_by c.args.left) c.in-Some.ty.now (λ x. raised (made_by c.args.right) c.in-Some.ty.now (λ y. give (join x y) c.in-Some.ty.now))) _
    (c.in_ok-one.ensures c.args.context.now.scope.now (λ x. raised (made_by c.args.right) c.in-Some.ty.now (λ y. give (join_of c.in_ok-join.join x y) c.in-Some.ty.now)) _
    (c.in_ok-other.ensures c.args.context.now.scope.now (λ y. give (join_of c.in_ok-join.join c.in_ok-one.one y) c.in-Some.ty.now) _
    (gives_made _ _ _ _ _ (search rules)))))
