use Rattle.st_commands.proofs.Runnable.{source_read, no_start, runs_here}
use Rattle.st_commands.proofs.source.derive_file.Goals as goal

pub returns-in-None : goal.returns-in-None
returns-in-None c =
    no_start c.args.relation.now c.args.term.now c.args.file.now c.in-Some.small c.unbuilt-in-None.result
    (source_read _ c.in-Some.small c.args.file.now c.in-Some.is c.in_ok-small.ensures.some c.in_ok-small.ensures.only) c.in-None.ensures c.unbuilt-in-None.ensures

pub returns : goal.returns
returns c =
    runs_here c.args.relation.now c.args.term.now c.args.file.now c.in-Some-start_of.start.now c.in-Some.small c.derive.result
    (source_read _ c.in-Some.small c.args.file.now c.in-Some.is c.in_ok-small.ensures.some c.in_ok-small.ensures.only) c.in-Some-start_of.ensures c.derive.ensures
