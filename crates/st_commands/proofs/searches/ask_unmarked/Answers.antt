use Rattle.std.proofs.Common.{subst}
use Rattle.std.specs.Prelude.{MatchBool}
use Rattle.st_search.specs.Searchable.{HasNoOtherwise}
use Rattle.st_commands.specs.inner.Asking.{asks_steps, asked_says}
use Rattle.st_commands.proofs.SaysLemmas.{says_unbuilt}
use Rattle.st_commands.proofs.searches.ask_unmarked.Goals as goal

pub returns-then-needs : goal.returns-then-needs
returns-then-needs c =
    let q = c.args.question.now in
    let plain = HasNoOtherwise q.il.now q.relation.now in
    says_unbuilt (asks_steps q.asked) (asked_says q.asked q.relation.now) q.il.now q.relation.now c.args.text.now c.unbuilt.result c.requires.mark
    (subst (λ b. MatchBool b (plain → ⊥) plain) c.if-needs.true c.in_ok-needs.ensures) c.unbuilt.ensures

pub ask_text-requires-clause-searched : goal.ask_text-requires-clause-searched
ask_text-requires-clause-searched c =
    let plain = HasNoOtherwise c.args.question.now.il.now c.args.question.now.relation.now in
    record { mark = c.requires.mark; plain = subst (λ b. MatchBool b (plain → ⊥) plain) c.if-needs.false c.in_ok-needs.ensures }
