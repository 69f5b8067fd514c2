use Rattle.std.proofs.Common.{ap, ◌∙◌}
use Rattle.st_el.specs.Erasure.{is_fragment_node}
use Rattle.st_el.specs.declared.definition.DefNode.TheVariants.{Syntax}
use Rattle.st_elab_def.proofs.joining.as_fragment.Goals as goal

pub returns-in-Some : goal.returns-in-Some
returns-in-Some c = (c.in-Some._piece, c.in-Syntax.is ∙ ap (λ f. Syntax c.in-Syntax.name f c.in-Syntax.body) c.in-Some.is)

pub returns-in-None : goal.returns-in-None
returns-in-None c = λ q. ap (is_fragment_node q) (c.in-Syntax.is ∙ ap (λ f. Syntax c.in-Syntax.name f c.in-Syntax.body) c.in-None.is)
