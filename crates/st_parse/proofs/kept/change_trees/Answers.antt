use Rattle.std.proofs.Common.{sym, ap, subst, ◌∙◌}
use Rattle.st_parse_builder.specs.inner.Parts.{kept}
use Rattle.st_parse.specs.declared.kept.Heights.{Heights}
use Rattle.st_parse.specs.inner.Kept.{Stands}
use Rattle.st_parse.proofs.Trees.{changed_so, changed_high}
use Rattle.st_parse.proofs.kept.change_trees.Goals as goal

pub returns-in_default-clause-trees : goal.returns-in_default-clause-trees
returns-in_default-clause-trees c given d e h m g k =
    let is = c.with_change-kept.ensures in
    subst (λ q. Stands c.or-kept.result q c.args.kept.now.draft e) (sym is)
    (changed_high c.args.kept.now.tall c.or-kept.result c.args.kept.now.heights c.args.change c.args.shape c.args.token.now given c.args.arguments c.args.kept.now.draft d e h m g k
    (ap (λ (q : Heights). kept q.premise c.args.arguments) (sym is) ∙ sym c.where_low.ensures ∙ c.in_default.is) c.or-kept.ensures)

pub returns-clause-trees : goal.returns-clause-trees
returns-clause-trees c given d e h m g k =
    let is = c.with_change-kept.ensures in
    subst (λ q. Stands c.check_height-kept.result q c.redraft.new.draft e) (sym is)
    (changed_so c.args.kept.now.tall c.check_height-kept.result c.args.kept.now.heights c.args.change c.args.shape c.args.token.now given c.args.arguments (c.in-Some.params, c.in-Some.args)
    c.args.kept.now.draft c.redraft.new.draft d e h m g k
    (ap (λ (q : Heights). kept q.premise c.args.arguments) (sym is) ∙ sym c.where_low.ensures ∙ c.in-Some.is) c.in_ok-redraft.ensures c.check_height-kept.ensures)
