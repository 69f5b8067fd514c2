use Rattle.std.proofs.Common.{ap, ◌∙◌}
use Rattle.st_il.specs.Definitions.{rules_of}
use Rattle.st_index.proofs.index.Index.rules_of.Goals as goal

pub returns : goal.returns
returns c = c.members_of.ensures ∙ c.self.invariant.rules_are c.args.name.now ∙ ap (λ il. rules_of il c.args.name.now) c.self.view_is
