use Rattle.std.proofs.Common.{◌∙◌, sym}
use Rattle.st_commands.proofs.Runnable.{start_found, not_differ}
use Rattle.st_commands.proofs.source.start_of.Goals as goal

pub returns : goal.returns
returns c =
    start_found c.args.small.now c.args.relation.now c.args.term.now c.read_term.result
    (sym c.as_slice.ensures ∙ not_differ c.as_slice.result.now c.as_bytes.result.now c.ne.result c.ne.ensures c.if-ne.false ∙ c.as_bytes.ensures.value)
    c.read_term.ensures
