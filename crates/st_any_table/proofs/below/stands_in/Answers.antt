use Rattle.std.proofs.Common.{◌≡◌, ◌↔◌, subst, rules, Some, None}
use Rattle.std.specs.Prelude.{IsTrue}
use Rattle.st_type_table.specs.Same.{SameAll}
use Rattle.st_type_table.specs.Cases.{operands_of}
use Rattle.st_any_table.specs.inner.Flats.{cases_at}
use Rattle.st_any_table.proofs.PairsLemmas.{stands-with, stands-without}
use Rattle.st_any_table.proofs.below.stands_in.Goals as goal

pub returns-in_ok-equal-in-Some : goal.returns-in_ok-equal-in-Some
returns-in_ok-equal-in-Some c = stands-with c.args.survey.now.defs c.args.case.now (cases_at c.args.survey.now.cases c.args.numbers.now) c.in-Some.operands.now c.in_ok-equal-in-Some.equal
    (subst (λ cs. Some c.in-Some.operands.now ≡ operands_of (cases_at cs c.args.numbers.now) c.args.case.now.tag) c.as_slice.ensures c.in-Some.ensures)
    (subst (λ ts. IsTrue c.in_ok-equal-in-Some.equal ↔ SameAll c.args.survey.now.defs ts c.in-Some.operands.now) c.as_slice-own.ensures
    (subst (λ ts. IsTrue c.in_ok-equal-in-Some.equal ↔ SameAll c.args.survey.now.defs c.as_slice-own.result.now ts) c.as_slice-in-Some.ensures c.in_ok-equal-in-Some.ensures))

pub returns-in-None : goal.returns-in-None
returns-in-None c = (
  λ f. search rules,
  λ s. absurd (stands-without c.args.survey.now.defs c.args.case.now (cases_at c.args.survey.now.cases c.args.numbers.now)
      (subst (λ cs. None ≡ operands_of (cases_at cs c.args.numbers.now) c.args.case.now.tag) c.as_slice.ensures c.in-None.ensures) s),
)
