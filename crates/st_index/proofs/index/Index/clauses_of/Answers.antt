use Rattle.std.proofs.Common.{ap, ◌∙◌}
use Rattle.st_il.specs.Definitions.{clauses_of}
use Rattle.st_index.proofs.index.Index.clauses_of.Goals as goal

pub returns : goal.returns
returns c = c.members_of.ensures ∙ c.self.invariant.clauses_are c.args.name.now ∙ ap (λ il. clauses_of il c.args.name.now) c.self.view_is
