use Rattle.std.proofs.Common.{ap, ◌∙◌}
use Rattle.st_type_table.specs.inner.Graph.{position_of}
use Rattle.st_any_table.proofs.definitions.Definitions.position_of.Goals as goal

pub returns : goal.returns
returns c = c.number_of.ensures ∙ c.self.invariant c.args.name.now ∙ ap (λ ds. position_of ds c.args.name.now) c.self.view_is
