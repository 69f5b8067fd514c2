use Rattle.std.proofs.Common.{rules}
use Rattle.st_ilcheck.proofs.Kept.{result-kept, result-none}
use Rattle.st_ilcheck.proofs.definitions.is_result.Goals as goal

pub returns-in_ok-kept-in-Some : goal.returns-in_ok-kept-in-Some
returns-in_ok-kept-in-Some c = result-kept c.args.language.now c.args.fun.now c.args.found.now c.in-Some.declared.now c.in_ok-kept-in-Some.kept c.in-Some.ensures c.in_ok-kept-in-Some.ensures

pub returns-in-None : goal.returns-in-None
returns-in-None c = (λ f. search rules, λ k. absurd (result-none c.args.language.now c.args.fun.now c.args.found.now c.in-None.ensures k))
