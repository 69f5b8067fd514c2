use Rattle.std.proofs.Common.{arith, ◌≡◌, refl, sym, ◌∙◌, ℕ, List, [], ◌∷◌, length, drop}
use Rattle.st_il.specs.declared.tree.Child.{Child}
use Rattle.st_search.specs.inner.Trees.{placed}
use Rattle.st_search.proofs.tree.placed.Goals as goal

placed_none : (k : ℕ) (order : List ℕ) (found : List (List Child)) → length found ≡ 0 → placed k order found ≡ []
placed_none k [] found e = refl
placed_none k (j ∷ order) [] e = refl
placed_none k (j ∷ order) (x ∷ xs) e = absurd (omega (arith, e))

pub returns-in_default : goal.returns-in_default
returns-in_default c = c.new.ensures ∙ sym (placed_none c.args.number (drop c.loop-premise.premise-index c.args.order.now) c.loop-premise.rest.now c.in_default.ensures.cases) ∙ c.loop-premise.invariant
