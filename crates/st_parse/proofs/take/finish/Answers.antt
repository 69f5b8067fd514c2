use Rattle.std.proofs.Common.{reverse, IfOk, sym, ap, subst, ◌∙◌}
use Rattle.std.proofs.lemmas.List.{length-reverse}
use Rattle.st_parse_automaton.specs.inner.Readings.{progress_of, reading_of}
use Rattle.st_parse.specs.inner.Changes.{ending_of}
use Rattle.st_parse.specs.inner.Drafts.{ended}
use Rattle.st_parse.specs.inner.Ready.{MayEnd}
use Rattle.st_parse.specs.inner.Work.{filled_work, added_work}
use Rattle.st_parse_automaton.specs.inner.PartAutomaton.{finishing}
use Rattle.st_parse.specs.inner.Kept.{Tells}
use Rattle.st_parse.proofs.Works.{added_keeps, closes}
use Rattle.st_parse.proofs.take.finish.Goals as goal

pub returns-in_ok-end_part-in-Inside : goal.returns-in_ok-end_part-in-Inside
returns-in_ok-end_part-in-Inside c before defs h may e =
    let m = closes (progress_of c.args.progress.now) c.in-Inside.slot (reading_of c.in-Inside.reading) (reverse c.in-Inside.brackets) c.in-Some.part before defs
    (ap progress_of c.in-Inside.is) (sym c.finish.ensures ∙ c.in-Some.is) may e in
    let acts = finishing (reading_of c.in-Inside.reading) in
    let adds = added_keeps c.args.kept.now acts c.args.parts.now c.add_end.new.parts before h c.in_ok-add_end-in-Inside.ensures in
    let keeps = c.in_ok-end_part-in-Inside.ensures (added_work acts before) m.mid adds m.awaits
    (ap (λ n. filled_work c.in-Inside.slot n (reading_of c.in-Inside.reading) before) (c.len.ensures ∙ sym (length-reverse c.in-Inside.brackets)) ∙ m.filled) in
    let is = c.ending_of-in-Inside.ensures ∙ ap ending_of c.filled.ensures in
    subst (λ ds. IfOk c.end_kept-in-Inside.result (λ z. Tells c.end_kept-in-Inside.new.kept ds)) (ap (λ y. ended y m.mid.draft) is ∙ m.done)
    (c.end_kept-in-Inside.ensures m.mid.draft keeps.drawn (subst (λ y. MayEnd y m.mid.draft) (sym is) m.may))
