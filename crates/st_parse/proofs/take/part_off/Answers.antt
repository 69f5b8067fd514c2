use Rattle.std.proofs.Common.{sym, ◌∙◌}
use Rattle.st_parse_automaton.specs.inner.PartAutomaton as parts
use Rattle.st_parse_automaton.specs.inner.Readings.{reading_of}
use Rattle.st_parse.specs.inner.Work.{added_work}
use Rattle.st_parse.proofs.Works.{added_keeps, part_ended, part_cut}
use Rattle.st_parse.proofs.take.part_off.Goals as goal

pub returns-in_ok-add_end-in-Some : goal.returns-in_ok-add_end-in-Some
returns-in_ok-add_end-in-Some c before ks vs h e p =
    let acts = parts.finishing (reading_of c.args.reading.now) in
    let ended = added_keeps c.args.kept.now acts c.args.parts.now c.add_end.new.parts before h c.in_ok-add_end-in-Some.ensures in
    part_ended c.end_part.result c.end_part.new.kept c.end_part.new.parts before c.args.slot (reading_of c.args.reading.now) c.args.around ks c.in-Some.field-0 (parts.finish (reading_of c.args.reading.now)) vs
    (sym c.finish.ensures ∙ c.in-Some.is) e p (λ after a f. c.end_part.ensures (added_work acts before) after ended a f)

pub returns-in-None : goal.returns-in-None
returns-in-None c before ks vs h e p =
    part_cut c.note_cut.result c.args.kept.now c.note_cut.new.variables c.args.parts.now before c.args.slot (reading_of c.args.reading.now) ks (parts.finish (reading_of c.args.reading.now)) c.as_slice.result.now vs
    (sym c.finish.ensures ∙ c.in-None.is) h p c.as_slice.ensures c.note_cut.ensures.past c.note_cut.ensures.all
