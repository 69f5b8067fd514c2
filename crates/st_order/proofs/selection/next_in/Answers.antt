use Rattle.std.proofs.Common.{sym, ap, ◌∙◌}
use Rattle.std.specs.Option.{option_map}
use Rattle.st_order.specs.inner.Index.{names_in}
use Rattle.st_order.specs.inner.Selections.{numbered, all_numbered}
use Rattle.st_order.proofs.SameSelection.{next_test, next_equation, next_goal}
use Rattle.st_order.proofs.selection.next_in.Goals as goal

pub returns-in-Some : goal.returns-in-Some
returns-in-Some c =
    sym (ap (option_map numbered) c.in-Some.is)
    ∙ next_test c.args.directions.now.il.now (names_in c.args.bound.now.keys) (all_numbered c.args.left.now) _ (numbered c.in-Some.test) c.in_ok-test.ensures (ap (option_map numbered) c.in-Some.is)

pub returns-in-Some-equation : goal.returns-in-Some-equation
returns-in-Some-equation c =
    sym (ap (option_map numbered) c.in-Some-equation.is)
    ∙ next_equation c.args.directions.now.il.now (names_in c.args.bound.now.keys) (all_numbered c.args.left.now) _ _ (numbered c.in-Some-equation.equation) c.in_ok-test.ensures (ap (option_map numbered) c.in_default.is)
    c.in_ok-equation.ensures (ap (option_map numbered) c.in-Some-equation.is)

pub returns : goal.returns
returns c =
    next_goal c.args.directions.now.il.now (names_in c.args.bound.now.keys) (all_numbered c.args.left.now) _ _ _ c.in_ok-test.ensures (ap (option_map numbered) c.in_default.is)
    c.in_ok-equation.ensures (ap (option_map numbered) c.in_default-equation.is) c.in_ok-goal.ensures
