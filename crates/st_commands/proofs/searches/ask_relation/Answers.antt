use Rattle.st_commands.specs.inner.Asking.{asks_steps, asked_says}
use Rattle.st_commands.proofs.AskLemmas.{table_of, all_tagged}
use Rattle.st_commands.proofs.SaysLemmas.{mark_at, no_mark, says_mark}
use Rattle.st_commands.proofs.searches.ask_relation.Goals as goal

pub mark_of-requires : goal.mark_of-requires
mark_of-requires c = record {
  few = c.requires.can.accepted.few;
  modes = c.requires.can.accepted.modes_are;
  types = table_of c.args.question.now.il.now c.args.question.now.decls.now c.requires.can.decls;
  tagged = all_tagged c.args.question.now.il.now c.requires.can.accepted.typed;
}

pub returns-in-Some : goal.returns-in-Some
returns-in-Some c =
    let q = c.args.question.now in
    says_mark (asks_steps q.asked) (asked_says q.asked q.relation.now) q.il.now q.relation.now c.args.text.now c.as_slice.result.now c.not_runnable.result
    (mark_at _ q.il.now c.asks_steps.result (asks_steps q.asked) q.relation.now c.in_ok-mark.mark c.in-Some.mark c.as_slice.result.now c.in-Some.is c.asks_steps.ensures c.as_slice.ensures.value
    c.in_ok-mark.ensures)
    c.not_runnable.ensures.status c.not_runnable.ensures.bytes

pub ask_unmarked-requires-clause-mark : goal.ask_unmarked-requires-clause-mark
ask_unmarked-requires-clause-mark c =
    let q = c.args.question.now in
    no_mark _ q.il.now c.asks_steps.result (asks_steps q.asked) q.relation.now c.in_ok-mark.mark c.in-None.is c.asks_steps.ensures c.in_ok-mark.ensures
