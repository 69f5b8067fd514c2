use Rattle.std.proofs.Common.{map, refl}
use Rattle.st_draft.specs.inner.Parts.{word_of, index_in}
use Rattle.st_parse_builder.specs.Variables.{occurrences}
use Rattle.st_parse.proofs.Notes.{rule_part, condition_part, counted, count_part}
use Rattle.st_parse.proofs.variables.build_part.Goals as goal

pub returns-in-Rule-clause-notes : goal.returns-in-Rule-clause-notes
returns-in-Rule-clause-notes c d e n h a g =
    rule_part c.args.slot n c.args.actions.now (map word_of c.args.words.now) d e c.args.variables.now
    (record { past = c.args.variables.now.past; before = c.exp_part.new.seen; inside = c.args.variables.now.inside })
    c.exp_part.result c.in-Rule.is h a g refl refl c.exp_part.ensures.seen

pub returns-in-Condition-clause-notes : goal.returns-in-Condition-clause-notes
returns-in-Condition-clause-notes c d e n h a g =
    condition_part c.args.slot n c.args.actions.now (map word_of c.args.words.now) d e c.args.variables.now
    (record { past = c.args.variables.now.past; before = c.args.variables.now.before; inside = c.exp_part-in-Condition.new.seen })
    c.exp_part-in-Condition.result c.in-Condition.is h a g refl refl c.exp_part-in-Condition.ensures.seen

pub returns-in_ok-leave_index-in-Count-clause-notes : goal.returns-in_ok-leave_index-in-Count-clause-notes
returns-in_ok-leave_index-in-Count-clause-notes c d e n h a g =
    count_part c.args.slot n c.args.actions.now (map word_of c.args.words.now) d e c.args.variables.now
    (record { past = c.args.variables.now.past; before = c.args.variables.now.before; inside = c.exp_part-in-Count.new.seen })
    c.exp_part-in-Count.result c.in-Count.is h a g refl refl
    (λ x k. counted c.exp_part-in-Count.result (index_in (map word_of c.args.words.now)) x (occurrences c.args.variables.now.inside) (occurrences c.leave_index.new.seen) (occurrences c.exp_part-in-Count.new.seen)
    (c.in_ok-leave_index-in-Count.ensures x) (c.exp_part-in-Count.ensures.seen x k))
