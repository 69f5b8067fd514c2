-- What the readers of expressions answer.
use Rattle.std.specs.Prelude.{◌≡◌, true}
use Rattle.st_il.specs.declared.expression.IlExp.{IlExp}
use Rattle.st_text.specs.Text.{TextTrees, none, more}
use Rattle.st_iltext.specs.Expressions.{exp_tree}
use Rattle.st_iltext.specs.Written.{exp_written}

-- the trees are those of these two expressions
pub record AreTwo (ts : TextTrees) (x y : IlExp) : Type 0 where
  pub first : exp_written x ≡ true
  pub second : exp_written y ≡ true
  pub are : ts ≡ more (exp_tree x) (more (exp_tree y) none)

-- the trees are those of no two expressions
pub record AreNoTwo (ts : TextTrees) : Type 0 where
  pub never : (x y : IlExp) → AreTwo ts x y → ⊥
