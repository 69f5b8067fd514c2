use Rattle.std.proofs.Common.{◌↔◌, rules, subst}
use Rattle.std.specs.Prelude.{IsTrue}
use Rattle.st_il.specs.Definitions.{syntaxes}
use Rattle.st_ilcheck.specs.Rules.{Are}
use Rattle.st_ilcheck.proofs.Kept.{judgement-kept, judgement-none}
use Rattle.st_ilcheck.proofs.premises.is_judgement.Goals as goal

pub returns-in_ok-kept-in-Some : goal.returns-in_ok-kept-in-Some
returns-in_ok-kept-in-Some c =
    judgement-kept c.args.language.now c.args.relation.now c.args.types.now c.in-Some.declared.now c.in_ok-kept-in-Some.kept c.in-Some.ensures
    (subst (λ z. IsTrue c.in_ok-kept-in-Some.kept ↔ Are (syntaxes c.args.language.now) z c.args.types.now) c.as_slice.ensures c.in_ok-kept-in-Some.ensures)

pub returns-in-None : goal.returns-in-None
returns-in-None c = (λ f. search rules, λ k. absurd (judgement-none c.args.language.now c.args.relation.now c.args.types.now c.in-None.ensures k))
