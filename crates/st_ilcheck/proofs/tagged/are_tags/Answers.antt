use Rattle.std.proofs.Common.{rules, sym, ◌∙◌}
use Rattle.st_ilcheck.specs.Declarations.{IsTag}
use Rattle.st_ilcheck.proofs.Alls.{All-refuted, All-longer, All-whole}
use Rattle.st_ilcheck.proofs.tagged.are_tags.Goals as goal

pub returns-then-not-kept : goal.returns-then-not-kept
returns-then-not-kept c = (
  λ f. search rules,
  λ a. sym c.if-not-kept.true ∙ c.in_ok-kept.ensures.1 (All-refuted IsTag c.args.tags.now c.loop-i.i c.index-tags-i.result c.loop-i-test.true c.index-tags-i.is a),
)

pub loop-i-preserved : goal.loop-i-preserved
loop-i-preserved c =
    All-longer IsTag c.args.tags.now c.loop-i.i c.index-tags-i.result c.loop-i-test.true c.index-tags-i.is (c.in_ok-kept.ensures.0 c.if-not-kept.false) c.loop-i.invariant

pub returns : goal.returns
returns c = (λ y. All-whole IsTag c.args.tags.now c.loop-i.i c.loop-i-test.false c.loop-i.invariant, λ a. search rules)
