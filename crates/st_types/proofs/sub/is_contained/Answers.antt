use Rattle.std.proofs.Common.{rules}
use Rattle.st_types.proofs.ContainedLemmas.{contained-exact}
use Rattle.st_types.proofs.sub.is_contained.Goals as goal

pub returns-in-Some-Some : goal.returns-in-Some-Some
returns-in-Some-Some c = contained-exact c.args.table.now c.args.lower.now c.args.upper.now c.as_slice.result.now c.as_slice-in-Some-Some.result.now c.all_stand_in.result
    c.in-Some-Some.cases.now c.in-Some-Some.others.now c.as_slice.ensures c.as_slice-in-Some-Some.ensures c.in-Some-Some.ensures.some c.in-Some-Some.ensures'.some c.all_stand_in.ensures

pub returns-in_default : goal.returns-in_default
returns-in_default c = (λ f. search rules, λ s. absurd (c.in_default.ensures'.none s.upper s.upper_cases))

pub returns-in_default-2 : goal.returns-in_default-2
returns-in_default-2 c = (λ f. search rules, λ s. absurd (c.in_default.ensures.none s.lower s.lower_cases))
