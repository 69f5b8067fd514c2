use Rattle.std.proofs.Common.{◌↔◌, rules, subst}
use Rattle.std.specs.Prelude.{IsTrue}
use Rattle.st_il.specs.Definitions.{syntaxes}
use Rattle.st_ilcheck.specs.Rules.{Are}
use Rattle.st_ilcheck.proofs.Kept.{call-kept, call-none}
use Rattle.st_ilcheck.proofs.keeping.is_call.Goals as goal

pub returns-in_ok-kept-in-Some : goal.returns-in_ok-kept-in-Some
returns-in_ok-kept-in-Some c =
    call-kept c.args.language.now c.args.fun.now c.args.types.now c.in-Some.declared.now c.in_ok-kept-in-Some.kept c.in-Some.ensures
    (subst (λ z. IsTrue c.in_ok-kept-in-Some.kept ↔ Are (syntaxes c.args.language.now) z c.args.types.now) c.as_slice.ensures c.in_ok-kept-in-Some.ensures)

pub returns-in-None : goal.returns-in-None
returns-in-None c = (λ f. search rules, λ k. absurd (call-none c.args.language.now c.args.fun.now c.args.types.now c.in-None.ensures k))
