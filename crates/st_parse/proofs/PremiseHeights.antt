-- How high premises are, by their parts.
use Rattle.std.proofs.Common.{◌≡◌, ℕ, ◌+◌, ◌≤◌, List, max, Bool, true, false, if◌then◌else◌, Option, Some, None, ap, subst, ◌∙◌, arith, rules}
use Rattle.std.proofs.Math.Nat.{max-zero}
use Rattle.st_num.specs.declared.mark.Mark.TheVariants as mark
use Rattle.st_num.specs.declared.span.Span.{Span}
use Rattle.st_parse_automaton.specs.declared.part_automaton.Shape.{Shape}
use Rattle.st_parse_automaton.specs.declared.part_automaton.Shape.TheVariants as shape
use Rattle.st_el.specs.declared.expression.Exp.{Exp, the_lemmas as exp_lemmas}
use Rattle.st_el.specs.declared.expression.Count.TheVariants as count
use Rattle.st_el.specs.declared.definition.Prem.{Prem, out-Prem, roll-out-Prem, the_lemmas as prem_lemmas}
use Rattle.st_el.specs.declared.definition.PremNode.{PremNode, fold-PremNode}
use Rattle.st_el.specs.declared.definition.PremNode.TheVariants as prem
use Rattle.st_parse_builder.specs.Meaning.{is_star, is_plus}
use Rattle.st_parse_builder.specs.Definitions.{prem_at}
use Rattle.st_parse_builder.specs.Heights.{height}
use Rattle.st_parse_builder.specs.DefHeights.{count_height, prem_node_height_at, prem_height_at, prem_height}
use Rattle.st_parse_builder.proofs.Premises.{tall_each, tall_times, tall_below}
use Rattle.st_draft.specs.inner.Drafts.{condition_node, shape_count}
use Rattle.st_draft.specs.inner.Parts.{count_with}

pub tall_condition : (at : Span) (goal : Option (List ℕ)) (e : Exp) → prem_height (prem_at at (condition_node goal e)) ≡ height e + 1
tall_condition at None e = search (rules, prem_lemmas)
tall_condition at (Some name) e = search (rules, prem_lemmas)

pub tall_otherwise : (at : Span) → prem_height (prem_at at prem.Otherwise) ≡ 1
tall_otherwise at = search (rules, prem_lemmas)

tall_count : (index : Option (List ℕ)) (e : Exp) → count_height (count_with index e) ≡ height e
tall_count None e = tall_times e
tall_count (Some name) e = tall_below name e

-- a premise that is iterated so often
pub tall_counted : (at : Span) (p : Prem) (index : Option (List ℕ)) (e : Exp) → prem_height (prem_at at (prem.Each p (count_with index e))) ≡ max (prem_height p) (height e) + 1
tall_counted at p index e = tall_each at p (count_with index e) ∙ ap (λ n. max (prem_height p) n + 1) (tall_count index e)

mark_tall : (a b : Bool) → count_height (if a then count.Star else if b then count.Plus else count.Quest) ≡ 0
mark_tall true b = search (rules, exp_lemmas)
mark_tall false true = search (rules, exp_lemmas)
mark_tall false false = search (rules, exp_lemmas)

shape_tall : (sh : Shape) → count_height (shape_count sh) ≡ 0
shape_tall (shape.Sign m) = mark_tall (is_star m) (is_plus m)
shape_tall sh = mark_tall (is_star mark.Question) (is_plus mark.Question)

-- a premise that a sign iterates
pub tall_marked : (at : Span) (p : Prem) (sh : Shape) → prem_height (prem_at at (prem.Each p (shape_count sh))) ≡ prem_height p + 1
tall_marked at p sh = tall_each at p (shape_count sh) ∙ ap (λ n. max (prem_height p) n + 1) (shape_tall sh) ∙ ap (λ n. n + 1) (max-zero (prem_height p))

rolled_tall : (at : Span) (n : PremNode) → 1 ≤ prem_height (prem_at at n)
rolled_tall at n = let is : prem_height (prem_at at n) ≡ fold-PremNode ℕ ℕ prem_node_height_at prem_height_at n + 1 = search (rules, prem_lemmas) in omega (arith, is)

-- A premise is at least 1 high.
pub some_tall : (p : Prem) → 1 ≤ prem_height p
some_tall p = subst (λ q. 1 ≤ prem_height q) (roll-out-Prem p) (rolled_tall (out-Prem p).at (out-Prem p).node)
