use Rattle.std.proofs.Common.{map, sym, ap, subst, ◌∙◌}
use Rattle.st_parse_builder.specs.inner.Parts.{kept}
use Rattle.st_draft.specs.inner.Parts.{word_of}
use Rattle.st_parse.specs.declared.kept.Heights.{Heights}
use Rattle.st_parse.specs.inner.Kept.{Stands}
use Rattle.st_parse.proofs.Trees.{filled_so, filled_high}
use Rattle.st_parse.proofs.kept.fill_trees.Goals as goal

pub returns-in_default-clause-trees : goal.returns-in_default-clause-trees
returns-in_default-clause-trees c given d e h a g k =
    let is = c.with_part-kept.ensures in
    subst (λ q. Stands c.or-kept.result q c.args.kept.now.draft e) (sym is)
    (filled_high c.args.kept.now.tall c.or-kept.result c.args.kept.now.heights c.args.slot c.args.around given (map word_of c.args.words.now) c.args.part c.args.kept.now.draft d e h a g k
    (ap (λ (q : Heights). kept q.premise c.args.part.tree) (sym is) ∙ sym c.where_low.ensures ∙ c.in_default.is) c.or-kept.ensures)

pub returns-clause-trees : goal.returns-clause-trees
returns-clause-trees c given d e h a g k =
    let is = c.with_part-kept.ensures in
    subst (λ q. Stands c.args.kept.now.tall q c.fill.new.draft e) (sym is)
    (filled_so c.args.kept.now.tall c.args.kept.now.heights c.args.slot c.args.around given (map word_of c.args.words.now) c.args.part c.in-Some.tree c.args.kept.now.draft c.fill.new.draft d e h a g k
    (ap (λ (q : Heights). kept q.premise c.args.part.tree) (sym is) ∙ sym c.where_low.ensures ∙ c.in-Some.is) c.in_ok-fill.ensures)
