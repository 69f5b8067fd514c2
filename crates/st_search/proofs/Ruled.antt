-- The algorithm of a rule, both by their numbers.
use Rattle.std.proofs.Common.{arith, ◌≡◌, refl, sym, ◌∙◌, ap, ℕ, zero, suc, ◌+◌, Bool, List, [], ◌∷◌, map, Option, Some, None, Result, Ok, Err, option_map, option_and_then, unwrap_or, slice_get}
use Rattle.std.specs.List.{enumerate_from}
use Rattle.std.specs.Result.{result_ok}
use Rattle.st_il.specs.declared.definition.Il.{Il}
use Rattle.st_il.specs.declared.definition.RelationDef.{RelationDef}
use Rattle.st_il.specs.declared.definition.RuleDef.{RuleDef}
use Rattle.st_semantics.specs.declared.unfit.Unordered.{Unordered}
use Rattle.st_il.specs.Definitions.{relations, rules_of}
use Rattle.st_semantics.specs.Directions.{direction}
use Rattle.st_semantics.specs.OrderOf.{order_of}
use Rattle.st_order.specs.declared.relation_modes.Modes.{Modes}
use Rattle.st_order.specs.Modes.{AreModes, order_in, orders_in}
use Rattle.st_algo.specs.declared.algorithm.Algorithm.{Algorithm}
use Rattle.st_algo.specs.declared.algorithm.Algos.{Algos}
use Rattle.st_algo.specs.Lowered.{AreLowered, rule_algorithm, relation_algorithms, orders_at, order_at}
use Rattle.st_search.specs.inner.Rules.{IsRuledBy, algorithm_at}

-- ---- members by their numbers

mapped_at : {A B : Type 0} (f : A → B) (xs : List A) (k : ℕ) (x : A) → slice_get xs k ≡ Some x → slice_get (map f xs) k ≡ Some (f x)
mapped_at f [] k x e = cc
mapped_at f (y ∷ ys) zero x e = ap (option_map f) e
mapped_at f (y ∷ ys) (suc k) x e = mapped_at f ys k x e

numbered_at : {A B : Type 0} (f : ℕ × A → B) (n : ℕ) (xs : List A) (k : ℕ) (x : A) → slice_get xs k ≡ Some x → slice_get (map f (enumerate_from n xs)) k ≡ Some (f (n + k, x))
numbered_at f n [] k x e = cc
numbered_at f n (y ∷ ys) zero x e =
    let same : y ≡ x = cc in
    let first : n ≡ n + 0 = omega arith in
    ap (λ z. Some (f (n, z))) same ∙ ap (λ z. Some (f (z, x))) first
numbered_at f n (y ∷ ys) (suc k) x e =
    let more : (n + 1) + k ≡ n + suc k = omega arith in
    numbered_at f (n + 1) ys k x e ∙ ap (λ z. Some (f (z, x))) more

module _ (il : Il) (modes : Modes) (algos : Algos) (are_modes : AreModes il modes) (lowered : AreLowered il modes algos) (k : ℕ) (d : RelationDef) (declared : slice_get (relations il) k ≡ Some d) (number : ℕ) (rule : RuleDef)
    (is : slice_get (rules_of il d.name) number ≡ Some rule) where
  orders_are : orders_at modes k ≡ orders_in il d
  orders_are = ap (λ z. unwrap_or (slice_get z k) []) are_modes.orders ∙ ap (λ z. unwrap_or z []) (mapped_at (orders_in il) (relations il) k d declared)

  order_is : order_at (orders_at modes k) number ≡ order_in il d rule
  order_is = ap (λ z. order_at z number) orders_are ∙ ap (λ z. option_and_then (λ (order : Option (List ℕ)). order) z) (mapped_at (order_in il d) (rules_of il d.name) number rule is)

  relation_is : slice_get algos.relations k ≡ Some (relation_algorithms il modes k d)
  relation_is =
      let first : 0 + k ≡ k = omega arith in
      ap (λ z. slice_get z k) lowered.of_rules
      ∙ (numbered_at (λ (r : ℕ × RelationDef). relation_algorithms il modes r.0 r.1) 0 (relations il) k d declared
      ∙ ap (λ z. Some (relation_algorithms il modes z d)) first)

  rule_is : slice_get (relation_algorithms il modes k d) number ≡ Some (option_map (rule_algorithm il rule) (order_at (orders_at modes k) number))
  rule_is =
      let first : 0 + number ≡ number = omega arith in
      numbered_at (λ (r : ℕ × RuleDef). option_map (rule_algorithm il r.1) (order_at (orders_at modes k) r.0)) 0 (rules_of il d.name) number rule is
      ∙ ap (λ z. Some (option_map (rule_algorithm il rule) (order_at (orders_at modes k) z))) first

  -- it is that of the rule in its order, where the relation has a direction and the rule an order
  pub algorithm_is : algorithm_at algos k number ≡ option_map (rule_algorithm il rule) (order_in il d rule)
  algorithm_is =
      ap (λ z. option_and_then (λ (a : Option Algorithm). a) (option_and_then (λ (as' : List (Option Algorithm)). slice_get as' number) z)) relation_is
      ∙ (ap (λ z. option_and_then (λ (a : Option Algorithm). a) z) rule_is
      ∙ ap (λ z. option_map (rule_algorithm il rule) z) order_is)

  abbrev Told : Option (List Bool) → Result (List ℕ) Unordered → Option Algorithm
  Told o r = option_map (rule_algorithm il rule) (option_and_then (λ (inputs : List Bool). result_ok r) o)

  pub ruled_by : (a : Algorithm) → algorithm_at algos k number ≡ Some a → IsRuledBy il d.name number rule a
  ruled_by a e = from (direction d) (order_of il rule) refl (sym algorithm_is ∙ e)
    where
      from : (o : Option (List Bool)) (r : Result (List ℕ) Unordered) → order_of il rule ≡ r → Told o r ≡ Some a → IsRuledBy il d.name number rule a
      from None r of e = cc
      from (Some inputs) (Ok order) of e =
          let same : rule_algorithm il rule order ≡ a = cc in
          record { is_rule = is; order = order; is_order = of; lowered = sym same }
      from (Some inputs) (Err fault) of e = cc

  pub none_ordered : algorithm_at algos k number ≡ None → (inputs : List Bool) → direction d ≡ Some inputs → (order : List ℕ) → order_of il rule ≡ Ok order → ⊥
  none_ordered e inputs directed order ordered =
      let there : Told (direction d) (order_of il rule) ≡ Some (rule_algorithm il rule order) = ap (λ z. Told z (order_of il rule)) directed ∙ ap (λ z. Told (Some inputs) z) ordered in
      let both : algorithm_at algos k number ≡ Some (rule_algorithm il rule order) = algorithm_is ∙ there in
      let bad : None ≡ Some (rule_algorithm il rule order) = sym e ∙ both in cc
