use Rattle.std.proofs.Common.{rules, ◌≡◌, false, ℕ, List, sym, ◌∙◌}
use Rattle.st_il.specs.Names.{has_name}
use Rattle.st_ilcheck.specs.Variables.{names_of}
use Rattle.st_ilcheck.proofs.Alls.{All-refuted, All-longer, All-whole}
use Rattle.st_ilcheck.proofs.variables.stay_inside.Goals as goal

pub returns-then-is_among : goal.returns-then-is_among
returns-then-is_among c = (
  λ f. search rules,
  λ a. sym (c.if-is_among.ensures ∙ All-refuted (λ (i : List ℕ). has_name (names_of c.args.occurrences.now) i ≡ false) c.args.indices.now c.loop-i.i c.index-indices-i.result c.loop-i-test.true c.index-indices-i.is a),
)

pub loop-i-preserved : goal.loop-i-preserved
loop-i-preserved c =
    All-longer (λ (i : List ℕ). has_name (names_of c.args.occurrences.now) i ≡ false) c.args.indices.now c.loop-i.i c.index-indices-i.result c.loop-i-test.true c.index-indices-i.is (sym c.if-is_among.ensures) c.loop-i.invariant

pub returns : goal.returns
returns c = (λ y. All-whole (λ (i : List ℕ). has_name (names_of c.args.occurrences.now) i ≡ false) c.args.indices.now c.loop-i.i c.loop-i-test.false c.loop-i.invariant, λ a. search rules)
