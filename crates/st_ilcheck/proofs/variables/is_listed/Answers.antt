use Rattle.std.proofs.Common.{rules}
use Rattle.st_ilcheck.proofs.KindLemmas.{listed-found, listed-none}
use Rattle.st_ilcheck.proofs.variables.is_listed.Goals as goal

pub returns-in-Some : goal.returns-in-Some
returns-in-Some c =
    listed-found c.args.listed.now c.args.occurrence.now c.in-Some.variable.now c.as_slice.result.now c.as_slice-in-Some.result.now c.begins_with.result c.in-Some.ensures c.as_slice.ensures c.as_slice-in-Some.ensures c.begins_with.ensures

pub returns-in-None : goal.returns-in-None
returns-in-None c = (λ f. search rules, λ k. absurd (listed-none c.args.listed.now c.args.occurrence.now c.in-None.ensures k))
