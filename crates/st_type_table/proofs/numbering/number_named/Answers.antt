use Rattle.std.proofs.Common.{sym, ap, ◌∙◌, subst, Some}
use Rattle.st_type_table.proofs.KeptLemmas.{bodied, body_of-kept}
use Rattle.st_type_table.specs.inner.Kept.{defs_of}
use Rattle.st_type_table.specs.inner.Forms.{number_of}
use Rattle.st_type_table.specs.inner.Numbering.{Numbered, IsGiven, AreNamesNumbered, body_number}
use Rattle.st_type_table.proofs.NumberingLemmas.{alias-kept, free-name, given-right}
use Rattle.st_type_table.proofs.numbering.number_named.Goals as goal

pub body_number-requires-clause-ready : goal.body_number-requires-clause-ready
body_number-requires-clause-ready c = subst (AreNamesNumbered c.args.numbers.now.entries)
    (alias-kept c.args.entries.now.entries c.args.name.now (Some c.in-Some.entry.now) c.in-Some.ensures.value) c.requires.ready

pub returns-in-None-clause-has : goal.returns-in-None-clause-has
returns-in-None-clause-has c = λ none. body_of-kept c.args.entries.now.entries c.args.name.now ∙ ap bodied (sym c.in-None.ensures.value)

pub returns-in_ok-keep_number-in-Some-clause-right :
    goal.returns-in_ok-keep_number-in-Some-clause-right
returns-in_ok-keep_number-in-Some-clause-right c =
    let is = alias-kept c.args.entries.now.entries c.args.name.now (Some c.in-Some.entry.now) c.in-Some.ensures.value in
    given-right (defs_of c.args.entries.now.entries) c.args.numbers.now.entries c.keep_number.new.numbers.entries c.args.list.now.keys c.body_number.new.list.keys c.args.name.now c.in_ok-number-in-Some.number
    c.requires.right (free-name (number_of c.args.numbers.now.entries c.args.name.now) c.if-has_number.ensures)
    (subst (λ o. Numbered c.args.numbers.now.entries c.args.list.now.keys c.body_number.new.list.keys (body_number c.args.numbers.now.entries c.args.name.now o) c.in_ok-number-in-Some.number) (sym is) c.in_ok-number-in-Some.ensures)
    (subst (λ n. IsGiven c.args.numbers.now.entries c.keep_number.new.numbers.entries n c.in_ok-number-in-Some.number) c.in_ok-copy-in-Some.ensures c.in_ok-keep_number-in-Some.ensures)
