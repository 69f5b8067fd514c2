use Rattle.std.proofs.Common.{◌∙◌}
use Rattle.st_answers.proofs.Refusals.{refused_in_file}
use Rattle.st_answers.proofs.refusal.refused_in.Goals as goal

pub returns-clause-bytes : goal.returns-clause-bytes
returns-clause-bytes c =
    refused_in_file c.args.names.now c.args.def.now c.args.at c.args.rule c.as_slice.result.now c.index-names-at.result c.as_str-name.result.now c.refused.result c.requires
    (c.as_slice.ensures.value ∙ c.in_ok-words.ensures) c.index-names-at.is c.as_str-name.ensures c.refused.ensures.bytes
