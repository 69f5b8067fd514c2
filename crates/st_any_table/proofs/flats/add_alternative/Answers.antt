use Rattle.std.proofs.Common.{sym, subst, [], ◌∷◌, ◌++◌}
use Rattle.st_any_table.specs.inner.Flats.{IsFlat, AllKnown}
use Rattle.st_any_table.proofs.FlatsLemmas.{Grows-refl, AreFlats-grow, IsFlat-case, AllKnown-named}
use Rattle.st_any_table.proofs.flats.add_alternative.Goals as goal

pub returns-in_ok-add_case-in-Case-clause-grows : goal.returns-in_ok-add_case-in-Case-clause-grows
returns-in_ok-add_case-in-Case-clause-grows c = (_, c.in_ok-add_case-in-Case.ensures.cases)

pub returns-in_ok-add_case-in-Case-clause-flats : goal.returns-in_ok-add_case-in-Case-clause-flats
returns-in_ok-add_case-in-Case-clause-flats c = AreFlats-grow c.args.defs.now c.args.flats.now c.args.cases.now c.add_case.new.cases (_, c.in_ok-add_case-in-Case.ensures.cases) c.requires.flats

pub returns-in_ok-add_case-in-Case-clause-adds : goal.returns-in_ok-add_case-in-Case-clause-adds
returns-in_ok-add_case-in-Case-clause-adds c = λ done f. subst (λ a. IsFlat c.args.defs.now c.add_case.new.cases c.add_case.new.numbers (done ++ a ∷ [])) (sym c.in-Case.is)
    (IsFlat-case c.args.defs.now c.args.cases.now c.add_case.new.cases c.args.numbers.now c.add_case.new.numbers done c.in-Case.tag c.in-Case.operands c.in_ok-add_case-in-Case.ensures.cases c.in_ok-add_case-in-Case.ensures.numbers f)

pub add_included-requires-clause-size : goal.add_included-requires-clause-size
add_included-requires-clause-size c = c.requires.flats.size

pub add_included-requires-clause-known : goal.add_included-requires-clause-known
add_included-requires-clause-known c = AllKnown-named c.args.defs.now c.args.flats.now c.in-Incl.name (subst (λ a. AllKnown c.args.defs.now c.args.flats.now (a ∷ [])) c.in-Incl.is c.requires.known)

pub returns-in_ok-add_included-in-Incl-clause-grows : goal.returns-in_ok-add_included-in-Incl-clause-grows
returns-in_ok-add_included-in-Incl-clause-grows c = Grows-refl c.args.cases.now

pub returns-in_ok-add_included-in-Incl-clause-flats : goal.returns-in_ok-add_included-in-Incl-clause-flats
returns-in_ok-add_included-in-Incl-clause-flats c = c.requires.flats

pub returns-in_ok-add_included-in-Incl-clause-adds : goal.returns-in_ok-add_included-in-Incl-clause-adds
returns-in_ok-add_included-in-Incl-clause-adds c = λ done f. subst (λ a. IsFlat c.args.defs.now c.args.cases.now c.add_included.new.numbers (done ++ a ∷ [])) (sym c.in-Incl.is)
    (c.in_ok-add_included-in-Incl.ensures c.args.cases.now done c.requires.flats f)
