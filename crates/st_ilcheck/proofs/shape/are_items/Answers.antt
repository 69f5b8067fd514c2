use Rattle.std.proofs.Common.{rules, arith, sym, ◌∙◌}
use Rattle.st_il.specs.declared.expression.ListItem.{ListItem, out-ListItem}
use Rattle.st_il.specs.Definitions.{syntaxes}
use Rattle.st_ilcheck.specs.Rules.{IsItem}
use Rattle.st_ilcheck.proofs.Each.{AreEach-length, AreEach-at, AreEach-end}
use Rattle.st_ilcheck.proofs.shape.are_items.Goals as goal

pub returns-then-items-types : goal.returns-then-items-types
returns-then-items-types c =
    (λ f. search rules, λ s. absurd (c.if-items-types.true (AreEach-length (λ (i : ListItem) o. IsItem (syntaxes c.args.language.now) c.args.ty.now (out-ListItem i) o) c.args.items.now c.args.types.now s)))

pub returns-then-not-kept : goal.returns-then-not-kept
returns-then-not-kept c =
    let k = AreEach-at (λ (i : ListItem) o. IsItem (syntaxes c.args.language.now) c.args.ty.now (out-ListItem i) o) c.args.items.now c.args.types.now c.loop-i.i c.index-items-i.result c.index-types-i.result c.loop-i-test.true (omega arith) c.index-items-i.is c.index-types-i.is in
    (λ f. search rules, λ s. sym c.if-not-kept.true ∙ c.in_ok-kept.ensures.1 (k.0 (c.loop-i.invariant.1 s)).0)

pub loop-i-preserved : goal.loop-i-preserved
loop-i-preserved c =
    let k = AreEach-at (λ (i : ListItem) o. IsItem (syntaxes c.args.language.now) c.args.ty.now (out-ListItem i) o) c.args.items.now c.args.types.now c.loop-i.i c.index-items-i.result c.index-types-i.result c.loop-i-test.true (omega arith) c.index-items-i.is c.index-types-i.is in
    (λ s. c.loop-i.invariant.0 (k.1 (c.in_ok-kept.ensures.0 c.if-not-kept.false, s)), λ s. (k.0 (c.loop-i.invariant.1 s)).1)

pub returns : goal.returns
returns c =
    (λ u. c.loop-i.invariant.0 (AreEach-end (λ (i : ListItem) o. IsItem (syntaxes c.args.language.now) c.args.ty.now (out-ListItem i) o) c.args.items.now c.args.types.now c.loop-i.i c.loop-i-test.false (omega arith)), λ s. search rules)
