use Rattle.std.proofs.Common.{◌↔◌, sym, subst, rules}
use Rattle.std.specs.Prelude.{IsTrue}
use Rattle.st_any_table.specs.inner.Flats.{cases_at, AreFlats}
use Rattle.st_any_table.specs.inner.Pairs.{EachStandsIn}
use Rattle.st_any_table.proofs.PairsLemmas.{contained-exact}
use Rattle.st_any_table.proofs.below.is_contained.Goals as goal

pub returns-in_ok-stand-in-Some-Some : goal.returns-in_ok-stand-in-Some-Some
returns-in_ok-stand-in-Some-Some c =
    let defs = c.args.survey.now.defs in
    let cases = c.args.survey.now.cases in
    contained-exact defs cases c.args.left.now c.args.right.now c.in-Some-Some.lower.now c.in-Some-Some.upper.now c.in_ok-stand-in-Some-Some.stand
    (c.in-Some-Some.ensures cases (subst (λ f. AreFlats c.args.survey.now.defs f c.args.survey.now.cases) (sym c.as_slice-flats.ensures) c.requires.flats)) (c.in-Some-Some.ensures' cases (subst (λ f. AreFlats c.args.survey.now.defs f c.args.survey.now.cases) (sym c.as_slice-flats.ensures) c.requires.flats))
    (subst (λ ns. IsTrue c.in_ok-stand-in-Some-Some.stand ↔ EachStandsIn defs (cases_at cases ns) (cases_at cases c.in-Some-Some.upper.now)) c.as_slice.ensures
    (subst (λ ns. IsTrue c.in_ok-stand-in-Some-Some.stand ↔ EachStandsIn defs (cases_at cases c.as_slice.result.now) (cases_at cases ns)) c.as_slice-in-Some-Some.ensures c.in_ok-stand-in-Some-Some.ensures))

pub returns-in_default : goal.returns-in_default
returns-in_default c = (λ f. search rules, λ s. absurd (c.in_default.ensures' s.upper s.upper_cases))

pub returns-in_default-2 : goal.returns-in_default-2
returns-in_default-2 c = (λ f. search rules, λ s. absurd (c.in_default.ensures s.lower s.lower_cases))
