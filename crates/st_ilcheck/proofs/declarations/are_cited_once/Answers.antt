use Rattle.std.proofs.Common.{rules, sym, subst}
use Rattle.std.specs.Prelude.{All}
use Rattle.st_ilcheck.specs.Declarations.{IsTag}
use Rattle.st_ilcheck.proofs.declarations.are_cited_once.Goals as goal

pub returns-then-not-names_once : goal.returns-then-not-names_once
returns-then-not-names_once c = (λ f. search rules, λ k. c.if-not-names_once.ensures.1 (k.syntaxes, (k.relations, k.functions)))

pub returns : goal.returns
returns c =
    let names = c.if-not-names_once.ensures.0 (search rules) in (
      λ y. record { syntaxes = names.0; relations = names.1.0; functions = names.1.1; tagged = subst (All IsTag) c.as_slice.ensures (c.in_ok-kept.ensures.0 y) },
      λ k. c.in_ok-kept.ensures.1 (subst (All IsTag) (sym c.as_slice.ensures) k.tagged),
    )
