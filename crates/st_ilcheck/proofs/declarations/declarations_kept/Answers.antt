use Rattle.std.proofs.Common.{rules, refl, sym, ◌∙◌}
use Rattle.st_ilcheck.proofs.SyntaxLemmas.{read-there, named-asked}
use Rattle.st_ilcheck.proofs.declarations.declarations_kept.Goals as goal

pub returns-then-not-declared : goal.returns-then-not-declared
returns-then-not-declared c = λ d e. (λ f. search rules, λ n. sym c.if-not-declared.true ∙ (c.in_ok-declared.ensures d e).1 n.declared)

pub returns : goal.returns
returns c = λ d e.
    let there = read-there c.args.il.now.defs c.as_slice-defs.result.now c.args.at c.index-defs-at.result c.index-defs-at.result c.as_slice-defs.ensures c.requires.within c.index-defs-at.is refl in
    named-asked c.args.il.now c.args.at c.index-defs-at.result there c.in_ok-kept.kept c.in_ok-kept.ensures d e ((c.in_ok-declared.ensures d e).0 c.if-not-declared.false)
