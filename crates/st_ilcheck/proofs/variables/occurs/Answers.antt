use Rattle.std.proofs.Common.{rules, sym, ◌≡◌, true≢false}
use Rattle.st_ilcheck.specs.Variables.{Occurrence}
use Rattle.st_ilcheck.proofs.Alls.{All-longer, All-whole, Contains-there, Contains-nowhere}
use Rattle.st_ilcheck.proofs.variables.occurs.Goals as goal

pub returns-then-is_outermost : goal.returns-then-is_outermost
returns-then-is_outermost c = (
  λ y. Contains-there c.args.occurrences.now c.loop-i.i c.index-occurrences-i.result (c.args.variable.now.name, c.args.variable.now.dim) c.loop-i-test.true c.index-occurrences-i.is (c.if-is_outermost.ensures.0 (search rules)),
  λ a. search rules,
)

pub loop-i-preserved : goal.loop-i-preserved
loop-i-preserved c =
    All-longer (λ (o : Occurrence). o ≡ (c.args.variable.now.name, c.args.variable.now.dim) → ⊥) c.args.occurrences.now c.loop-i.i c.index-occurrences-i.result c.loop-i-test.true c.index-occurrences-i.is
    (λ e. true≢false (sym (c.if-is_outermost.ensures.1 e))) c.loop-i.invariant

pub returns : goal.returns
returns c = (
  λ f. search rules,
  λ k. absurd (Contains-nowhere c.args.occurrences.now (c.args.variable.now.name, c.args.variable.now.dim)
      (All-whole (λ (o : Occurrence). o ≡ (c.args.variable.now.name, c.args.variable.now.dim) → ⊥) c.args.occurrences.now c.loop-i.i c.loop-i-test.false c.loop-i.invariant) k),
)
