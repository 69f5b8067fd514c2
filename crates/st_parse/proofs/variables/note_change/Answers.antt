use Rattle.std.proofs.Common.{refl}
use Rattle.st_parse.proofs.Notes.{turn_change, premise_change, other_change}
use Rattle.st_parse.proofs.variables.note_change.Goals as goal

pub returns-in-Begin-clause-others : goal.returns-in-Begin-clause-others
returns-in-Begin-clause-others c not given d e sh x h m g =
    turn_change c.count.result c.args.change sh x given d e c.args.variables.now c.count.new.variables c.in-Begin.is h m g
    c.count.ensures.past c.count.ensures.before c.count.ensures.inside

pub returns-in-Premise-clause-others : goal.returns-in-Premise-clause-others
returns-in-Premise-clause-others c not given d e sh x h m g =
    premise_change c.end_premise.result c.args.change c.in-Premise.field-0 sh x given d e c.args.variables.now c.end_premise.new.variables c.in-Premise.is h m g
    c.end_premise.ensures.past c.end_premise.ensures.before c.end_premise.ensures.inside

pub returns-in_default-clause-others : goal.returns-in_default-clause-others
returns-in_default-clause-others c not given d e sh x h m g =
    other_change c.args.change sh x given d e c.args.variables.now c.args.variables.now
    c.in_default.not-Begin c.in_default.not-End c.in_default.not-Premise not refl h m g
