use Rattle.std.proofs.Common.{subst, List}
use Rattle.std.specs.Prelude.{Err}
use Rattle.st_elab_rows.specs.Told.{Told}
use Rattle.st_il.specs.declared.value.Value.{Value}
use Rattle.st_semantics.specs.Environments.{AreTypedValues}
use Rattle.st_term.specs.Reading.{IsTerm, IsTermBreach}
use Rattle.st_commands.specs.inner.Asking.{asks_steps, asked_says}
use Rattle.st_commands.proofs.AskLemmas.{are_inputs}
use Rattle.st_commands.proofs.SaysLemmas.{says_searched, says_refused}
use Rattle.st_commands.proofs.searches.ask_text.Goals as goal

pub ask_term-requires-clause-term : goal.ask_term-requires-clause-term
ask_term-requires-clause-term c =
    let q = c.args.question.now in
    are_inputs q.il.now q.relation.now q.decls.now c.in_ok-types.types c.in-Ok.term c.requires.can.decls c.in_ok-types.ensures
    (subst (λ ts. AreTypedValues q.decls.now.types ts c.in-Ok.term) c.as_slice.ensures c.in-Ok.ensures.typed)

pub returns-in-Ok : goal.returns-in-Ok
returns-in-Ok c =
    let q = c.args.question.now in
    let inputs = are_inputs q.il.now q.relation.now q.decls.now c.in_ok-types.types c.in-Ok.term c.requires.can.decls c.in_ok-types.ensures
    (subst (λ ts. AreTypedValues q.decls.now.types ts c.in-Ok.term) c.as_slice.ensures c.in-Ok.ensures.typed) in
    says_searched (asks_steps q.asked) (asked_says q.asked q.relation.now) q.il.now q.relation.now c.args.text.now q.decls.now c.in_ok-types.types c.in-Ok.term
    c.ask_term.result c.requires.searched.mark c.requires.searched.plain c.in_ok-types.ensures c.requires.can.decls
    (subst (λ ts. IsTerm q.decls.now ts c.args.text.now c.in-Ok.term) c.as_slice.ensures c.in-Ok.ensures.told) inputs c.ask_term.ensures

pub returns : goal.returns
returns c =
    let q = c.args.question.now in
    let D = q.decls.now in
    let text = c.args.text.now in
    let told = subst (Told {A = List Value} (IsTerm D c.as_slice.result.now text) (IsTermBreach D c.as_slice.result.now text)) c.in-Err.is c.typed_term.ensures.told in
    says_refused (asks_steps q.asked) (asked_says q.asked q.relation.now) q.il.now q.relation.now text D c.in_ok-types.types c.in-Err.fault c.ask_refused.result
    c.requires.searched.mark c.requires.searched.plain c.in_ok-types.ensures c.requires.can.decls
    (subst (λ ts. Told {A = List Value} (IsTerm D ts text) (IsTermBreach D ts text) (Err c.in-Err.fault)) c.as_slice.ensures told) c.ask_refused.ensures
