use Rattle.std.proofs.Common.{◌≡◌, refl, sym, ◌∙◌, ap, [], arith}
use Rattle.st_il.specs.declared.expression.IlExp.{IlExp, out-IlExp, roll-IlExp, roll-out-IlExp}
use Rattle.st_il.specs.declared.expression.IlExp.TheOpen.{IlExp-F}
use Rattle.st_il.specs.declared.expression.IlExp.TheVariants as exp
use Rattle.st_il.specs.declared.expression.Iteration.{Iteration}
use Rattle.st_il.specs.declared.expression.ListItem.{ListItem}
use Rattle.st_il.specs.declared.expression.PathSeg.{PathSeg}
use Rattle.st_iltext.specs.inner.Heads.{operator_head_at}
use Rattle.st_iltext.proofs.expression.+exp.Goals as goal

pub exp_tree-form_tree-requires : goal.exp_tree-form_tree-requires
exp_tree-form_tree-requires t c = (omega (arith, c.decreases), (at (out-IlExp c.args.exp.now) refl, c.head_of-head.ensures))
  where
    whole : (y : IlExp-F IlExp Iteration ListItem PathSeg) → out-IlExp c.args.exp.now ≡ y → c.args.exp.now ≡ roll-IlExp y
    whole y o = sym (roll-out-IlExp c.args.exp.now) ∙ ap roll-IlExp o

    at : (y : IlExp-F IlExp Iteration ListItem PathSeg) → out-IlExp c.args.exp.now ≡ y → operator_head_at y ≡ []
    at (IlExp-F.Not x) o = absurd (c.in_default.not-Not x (whole (IlExp-F.Not x) o ∙ exp.rolls-Not x))
    at (IlExp-F.And x y) o = absurd (c.in_default.not-And x y (whole (IlExp-F.And x y) o ∙ exp.rolls-And x y))
    at (IlExp-F.Or x y) o = absurd (c.in_default.not-Or x y (whole (IlExp-F.Or x y) o ∙ exp.rolls-Or x y))
    at (IlExp-F.Imp x y) o = absurd (c.in_default.not-Imp x y (whole (IlExp-F.Imp x y) o ∙ exp.rolls-Imp x y))
    at (IlExp-F.Iff x y) o = absurd (c.in_default.not-Iff x y (whole (IlExp-F.Iff x y) o ∙ exp.rolls-Iff x y))
    at (IlExp-F.Neg x) o = absurd (c.in_default.not-Neg x (whole (IlExp-F.Neg x) o ∙ exp.rolls-Neg x))
    at (IlExp-F.Add n x y) o = absurd (c.in_default.not-Add n x y (whole (IlExp-F.Add n x y) o ∙ exp.rolls-Add n x y))
    at (IlExp-F.Sub n x y) o = absurd (c.in_default.not-Sub n x y (whole (IlExp-F.Sub n x y) o ∙ exp.rolls-Sub n x y))
    at (IlExp-F.Mul n x y) o = absurd (c.in_default.not-Mul n x y (whole (IlExp-F.Mul n x y) o ∙ exp.rolls-Mul n x y))
    at (IlExp-F.Div n x y) o = absurd (c.in_default.not-Div n x y (whole (IlExp-F.Div n x y) o ∙ exp.rolls-Div n x y))
    at (IlExp-F.Rem n x y) o = absurd (c.in_default.not-Rem n x y (whole (IlExp-F.Rem n x y) o ∙ exp.rolls-Rem n x y))
    at (IlExp-F.Pow n x y) o = absurd (c.in_default.not-Pow n x y (whole (IlExp-F.Pow n x y) o ∙ exp.rolls-Pow n x y))
    at (IlExp-F.Eq x y) o = absurd (c.in_default.not-Eq x y (whole (IlExp-F.Eq x y) o ∙ exp.rolls-Eq x y))
    at (IlExp-F.Ne x y) o = absurd (c.in_default.not-Ne x y (whole (IlExp-F.Ne x y) o ∙ exp.rolls-Ne x y))
    at (IlExp-F.Lt x y) o = absurd (c.in_default.not-Lt x y (whole (IlExp-F.Lt x y) o ∙ exp.rolls-Lt x y))
    at (IlExp-F.Gt x y) o = absurd (c.in_default.not-Gt x y (whole (IlExp-F.Gt x y) o ∙ exp.rolls-Gt x y))
    at (IlExp-F.Le x y) o = absurd (c.in_default.not-Le x y (whole (IlExp-F.Le x y) o ∙ exp.rolls-Le x y))
    at (IlExp-F.Ge x y) o = absurd (c.in_default.not-Ge x y (whole (IlExp-F.Ge x y) o ∙ exp.rolls-Ge x y))
    at (IlExp-F.Member x y) o = absurd (c.in_default.not-Member x y (whole (IlExp-F.Member x y) o ∙ exp.rolls-Member x y))
    at (IlExp-F.Cat x y) o = absurd (c.in_default.not-Cat x y (whole (IlExp-F.Cat x y) o ∙ exp.rolls-Cat x y))
    at (IlExp-F.Join x y) o = absurd (c.in_default.not-Join x y (whole (IlExp-F.Join x y) o ∙ exp.rolls-Join x y))
    at _ o = refl
