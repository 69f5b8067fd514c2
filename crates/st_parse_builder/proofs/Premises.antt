-- The variables and heights of premises by their parts.
use Rattle.std.proofs.Common.{◌≡◌, ℕ, ◌+◌, List, [], ◌∷◌, Bool, true, false, max, rules, if◌then◌else◌}
use Rattle.st_num.specs.declared.mark.Mark.{Mark}
use Rattle.st_num.specs.declared.span.Span.{Span}
use Rattle.st_el.specs.declared.expression.Exp.{Exp, the_lemmas as exp_lemmas}
use Rattle.st_el.specs.declared.expression.Count.{Count}
use Rattle.st_el.specs.declared.expression.Count.TheVariants as count
use Rattle.st_el.specs.declared.definition.Prem.{Prem, the_lemmas as prem_lemmas}
use Rattle.st_el.specs.declared.definition.PremNode.TheVariants as prem
use Rattle.st_parse_builder.specs.Meaning.{is_star, is_plus, mark_count}
use Rattle.st_parse_builder.specs.Definitions.{prem_at}
use Rattle.st_parse_builder.specs.Heights.{height}
use Rattle.st_parse_builder.specs.Variables.{Times, variables, times, iterated, prem_variables}
use Rattle.st_parse_builder.specs.DefHeights.{count_height, prem_height}

-- ---- variables

pub in_if : (at : Span) (e : Exp) → prem_variables (prem_at at (prem.If e)) ≡ variables e
in_if at e = search (rules, prem_lemmas)

pub in_goal : (at : Span) (name : List ℕ) (e : Exp) → prem_variables (prem_at at (prem.Goal name e)) ≡ variables e
in_goal at name e = search (rules, prem_lemmas)

pub in_otherwise : (at : Span) → prem_variables (prem_at at prem.Otherwise) ≡ []
in_otherwise at = search (rules, prem_lemmas)

pub in_each : (at : Span) (p : Prem) (c : Count) → prem_variables (prem_at at (prem.Each p c)) ≡ iterated (prem_variables p) (times c)
in_each at p c = search (rules, prem_lemmas)

abbrev no_times : Times
no_times = record { index = []; count = [] }

mark_times : (a b : Bool) → times (if a then count.Star else if b then count.Plus else count.Quest) ≡ no_times
mark_times true b = search (rules, exp_lemmas)
mark_times false true = search (rules, exp_lemmas)
mark_times false false = search (rules, exp_lemmas)

pub times_mark : (m : Mark) → times (mark_count m) ≡ record { index = []; count = [] }
times_mark m = mark_times (is_star m) (is_plus m)

pub times_times : (e : Exp) → times (count.Times e) ≡ record { index = []; count = variables e }
times_times e = search (rules, exp_lemmas)

pub times_below : (name : List ℕ) (e : Exp) → times (count.Below name e) ≡ record { index = name ∷ []; count = variables e }
times_below name e = search (rules, exp_lemmas)

-- ---- heights

pub tall_each : (at : Span) (p : Prem) (c : Count) → prem_height (prem_at at (prem.Each p c)) ≡ max (prem_height p) (count_height c) + 1
tall_each at p c = search (rules, prem_lemmas)

pub tall_times : (e : Exp) → count_height (count.Times e) ≡ height e
tall_times e = search (rules, exp_lemmas)

pub tall_below : (name : List ℕ) (e : Exp) → count_height (count.Below name e) ≡ height e
tall_below name e = search (rules, exp_lemmas)
