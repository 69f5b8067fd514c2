use Rattle.std.proofs.Common.{◌∙◌}
use Rattle.st_elab_table.proofs.FoundByName.{relation_named-found}
use Rattle.st_elab_exp.proofs.judgement.relation_named.Goals as goal

pub returns : goal.returns
returns c = c.first.ensures ∙ relation_named-found c.args.name.now c.args.relations.now
