use Rattle.st_parse.proofs.Notes.{parts_change}
use Rattle.st_parse.proofs.variables.change_parts.Goals as goal

pub returns-clause-notes : goal.returns-clause-notes
returns-clause-notes c d e sh x h m g =
    parts_change c.build_arguments.result c.args.change sh x c.args.arguments.now d e c.args.variables.now c.note_change.new.variables c.build_arguments.new.seen h m g
    (λ not. c.in_ok-note_change.ensures.others not c.args.arguments.now d e sh x h m g) c.in_ok-note_change.ensures.args c.build_arguments.ensures.args c.build_arguments.ensures.same
