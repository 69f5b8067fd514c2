use Rattle.std.proofs.Common.{sym, ap, subst, ◌∙◌}
use Rattle.st_parse_automaton.specs.inner.Readings.{progress_of}
use Rattle.st_parse.specs.inner.Work.{turned_work, MayTurn}
use Rattle.st_parse.proofs.Works.{words_keep, left}
use Rattle.st_parse.proofs.take.turn.Goals as goal

pub returns-in-On : goal.returns-in-On
returns-in-On c before after h may e =
    words_keep c.keep_word.result c.args.kept.now c.args.advance (progress_of c.args.next.now) c.in-On.slot c.args.class c.args.token.now c.args.parts.now c.keep_word.new.parts before after c.in-On.is h e c.keep_word.ensures

pub returns-in-At : goal.returns-in-At
returns-in-At c before after h may e =
    let next = progress_of c.args.next.now in
    c.redraft.ensures before after h (subst (λ a. MayTurn a next before) c.in-At.is may) (ap (λ a. turned_work a next c.args.class c.args.token.now before) (sym c.in-At.is) ∙ e)

pub returns-in_ok-end_part-in-Behind : goal.returns-in_ok-end_part-in-Behind
returns-in_ok-end_part-in-Behind c before after h may e =
    let m = left c.args.advance (progress_of c.args.next.now) c.in-Behind.slot c.in-Behind.around c.in-Behind.position c.args.class c.args.token.now before after c.in-Behind.is may e in
    c.redraft-in-Behind.ensures m.mid after (c.in_ok-end_part-in-Behind.ensures before m.mid h m.awaits m.filled) m.ready m.leads
