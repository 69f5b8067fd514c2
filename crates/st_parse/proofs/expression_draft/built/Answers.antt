use Rattle.std.proofs.Common.{ap, false}
use Rattle.st_grammar.specs.declared.sort.Sort.TheVariants.{Expression as expression}
use Rattle.st_el.specs.declared.expression.Exp.{Exp}
use Rattle.st_parse_builder.specs.declared.built.Built.{Built}
use Rattle.st_parse_builder.specs.Meaning.{meaning}
use Rattle.st_parse.proofs.ExpressionDrafted.{built_is}
use Rattle.st_parse.proofs.expression_draft.built.Goals as goal

pub returns : goal.returns
returns c t f e = built_is (meaning t) _ c.in_ok-exp.exp.tree (ap (λ (b : Built Exp). b.tree) (c.in_ok-exp.ensures.tree (expression false) t f e).0)
