-- All algorithms to which an internal language is lowered by its modes can be taken.
use Rattle.std.proofs.Common.{◌≡◌, refl, sym, ◌∙◌, ap, subst, ℕ, suc, ◌+◌, List, [], ◌∷◌, map, Bool, true, false, if◌then◌else◌, Option, Some, None, Ok, Err, All, slice_get, bytes_eq, arith}
use Rattle.std.specs.Prelude.{Result, IfSome, unwrap_or, option_and_then}
use Rattle.std.specs.List.{list_all, enumerate_from}
use Rattle.std.specs.Option.{option_map}
use Rattle.std.specs.Result.{result_ok}
use Rattle.std.proofs.lemmas.List.Elements.{All-nil, All-cons, All-head, All-tail}
use Rattle.std.proofs.lemmas.Option.{slice_get-map}
use Rattle.st_il.specs.declared.definition.ClauseDef.{ClauseDef}
use Rattle.st_il.specs.declared.definition.FunDef.{FunDef}
use Rattle.st_il.specs.declared.definition.Il.{Il}
use Rattle.st_il.specs.declared.definition.RelationDef.{RelationDef}
use Rattle.st_il.specs.declared.definition.RuleDef.{RuleDef}
use Rattle.st_semantics.specs.declared.unfit.Unordered.{Unordered}
use Rattle.st_il.specs.Names.{Name}
use Rattle.st_il.specs.Definitions.{relations, rules_in, rules_from, rules_of, funs_in, clauses_in, clauses_from}
use Rattle.st_semantics.specs.Directions.{direction}
use Rattle.st_semantics.specs.OrderOf.{order_of}
use Rattle.st_semantics.specs.inner.Modes.{ClauseRuns}
use Rattle.st_semantics.proofs.Modes.{modes_by_name}
use Rattle.st_semantics.proofs.Selections.{law_of_orders}
use Rattle.st_order.specs.Modes.{order_in, orders_in}
use Rattle.st_order.specs.declared.relation_modes.Modes.{Modes}
use Rattle.st_algo.specs.declared.algorithm.Algorithm.{Algorithm}
use Rattle.st_algo.specs.Lowered.{rule_algorithm, clause_algorithm, order_at, orders_at, relation_algorithms, fun_algorithms}
use Rattle.st_algo.specs.Laws.{goal_fits, CanBeTaken, LawOfLowering}
use Rattle.st_algo.proofs.Taken.{law_of_rules, law_of_clauses}

-- an algorithm that is there can be taken
abbrev MayBeTaken : Option Algorithm → Type 0
MayBeTaken a = IfSome a CanBeTaken

module _ (il : Il) where
  abbrev RuleFits : RuleDef → Type 0
  RuleFits r = list_all (goal_fits il) r.premises ≡ true

  abbrev ClauseFits : ClauseDef → Type 0
  ClauseFits c = list_all (goal_fits il) c.premises ≡ true

  -- ---- rules

  rules_fit : (name : Name) (rs : List RuleDef) → All RuleFits rs → All RuleFits (rules_from name rs)
  rules_fit name [] h = All-nil RuleFits
  rules_fit name (r ∷ rs) h = at (bytes_eq name r.relation) (rules_fit name rs (All-tail RuleFits r rs h))
    where
      at : (b : Bool) → All RuleFits (rules_from name rs) → All RuleFits (if b then r ∷ rules_from name rs else rules_from name rs)
      at true more = All-cons RuleFits r (rules_from name rs) (All-head RuleFits r rs h) more
      at false more = more

  ordered : (rule : RuleDef) (inputs : Option (List Bool)) (order : List ℕ) → option_and_then (λ (i : List Bool). result_ok (order_of il rule)) inputs ≡ Some order → order_of il rule ≡ Ok order
  ordered rule None order e = cc
  ordered rule (Some inputs) order e = at (order_of il rule) e
    where
      at : (o : Result (List ℕ) Unordered) → result_ok o ≡ Some order → o ≡ Ok order
      at (Ok found) e = let same : found ≡ order = cc in ap (λ z. Ok z) same
      at (Err fault) e = cc

  rule_taken : (relation : RelationDef) (rule : RuleDef) → RuleFits rule → (o : Option (List ℕ)) → o ≡ order_in il relation rule → MayBeTaken (option_map (rule_algorithm il rule) o)
  rule_taken relation rule fits None e = tt
  rule_taken relation rule fits (Some order) e =
      law_of_rules il rule order fits ((law_of_orders il rule).0 order (ordered rule (direction relation) order (sym e)))

  -- the algorithm of a rule that stands with its number
  abbrev numbered : List (Option (List ℕ)) → ℕ × RuleDef → Option Algorithm
  numbered orders r = option_map (rule_algorithm il r.1) (order_at orders r.0)

  rules_taken : (relation : RelationDef) (orders : List (Option (List ℕ))) (rs : List RuleDef) (n : ℕ) → All RuleFits rs
      → ((k : ℕ) (r : RuleDef) → slice_get rs k ≡ Some r → slice_get orders (n + k) ≡ Some (order_in il relation r))
      → All MayBeTaken (map (numbered orders) (enumerate_from n rs))
  rules_taken relation orders [] n fits at = All-nil MayBeTaken
  rules_taken relation orders (r ∷ rs) n fits at =
      let first : n + 0 ≡ n = omega arith in
      All-cons MayBeTaken (numbered orders (n, r)) (map (numbered orders) (enumerate_from (n + 1) rs))
      (rule_taken relation r (All-head RuleFits r rs fits) (order_at orders n)
      (ap (λ (o : Option (Option (List ℕ))). option_and_then (λ (order : Option (List ℕ)). order) o) (ap (slice_get orders) (sym first) ∙ at 0 r refl)))
      (rules_taken relation orders rs (n + 1) (All-tail RuleFits r rs fits) (λ k q e. let next : (n + 1) + k ≡ n + suc k = omega arith in ap (slice_get orders) next ∙ at (suc k) q e))

  abbrev AllMay : List (Option Algorithm) → Type 0
  AllMay row = All MayBeTaken row

  relation_taken : (modes : Modes) (n : ℕ) (relation : RelationDef) → All RuleFits (rules_in il.defs) → slice_get modes.orders n ≡ Some (orders_in il relation) → AllMay (relation_algorithms il modes n relation)
  relation_taken modes n relation fits e =
      let rules : List RuleDef = rules_of il relation.name in
      rules_taken relation (orders_at modes n) rules 0 (rules_fit relation.name (rules_in il.defs) fits) (λ k r there.
      let start : 0 + k ≡ k = omega arith in
      ap (slice_get (orders_at modes n)) start ∙ ap (λ (o : Option (List (Option (List ℕ)))). slice_get (unwrap_or o []) k) e
      ∙ slice_get-map (order_in il relation) rules k ∙ ap (option_map (order_in il relation)) there)

  -- the algorithms of a relation that stands with its number
  abbrev row_of : Modes → ℕ × RelationDef → List (Option Algorithm)
  row_of modes r = relation_algorithms il modes r.0 r.1

  relations_taken : (modes : Modes) → All RuleFits (rules_in il.defs) → (rs : List RelationDef) (n : ℕ)
      → ((k : ℕ) (r : RelationDef) → slice_get rs k ≡ Some r → slice_get modes.orders (n + k) ≡ Some (orders_in il r))
      → All AllMay (map (row_of modes) (enumerate_from n rs))
  relations_taken modes fits [] n at = All-nil AllMay
  relations_taken modes fits (r ∷ rs) n at =
      let first : n + 0 ≡ n = omega arith in
      All-cons AllMay (row_of modes (n, r)) (map (row_of modes) (enumerate_from (n + 1) rs))
      (relation_taken modes n r fits (ap (slice_get modes.orders) (sym first) ∙ at 0 r refl))
      (relations_taken modes fits rs (n + 1) (λ k q e. let next : (n + 1) + k ≡ n + suc k = omega arith in ap (slice_get modes.orders) next ∙ at (suc k) q e))

  -- ---- clauses

  clauses_taken : (name : Name) (cs : List ClauseDef) → All ClauseFits cs → All (ClauseRuns il) cs → All CanBeTaken (map (clause_algorithm il) (clauses_from name cs))
  clauses_taken name [] fits runs = All-nil CanBeTaken
  clauses_taken name (c ∷ cs) fits runs =
      at (bytes_eq name c.fun) (clauses_taken name cs (All-tail ClauseFits c cs fits) (All-tail (ClauseRuns il) c cs runs))
    where
      at : (b : Bool) → All CanBeTaken (map (clause_algorithm il) (clauses_from name cs)) → All CanBeTaken (map (clause_algorithm il) (if b then c ∷ clauses_from name cs else clauses_from name cs))
      at true more =
          let keeps : ClauseRuns il c = All-head (ClauseRuns il) c cs runs in
          All-cons CanBeTaken (clause_algorithm il c) (map (clause_algorithm il) (clauses_from name cs)) (law_of_clauses il c (All-head ClauseFits c cs fits) keeps.m3 keeps.m4 keeps.m6) more
      at false more = more

  functions_taken : (fs : List FunDef) → All ClauseFits (clauses_in il.defs) → All (ClauseRuns il) (clauses_in il.defs) → All (λ row. All CanBeTaken row) (map (fun_algorithms il) fs)
  functions_taken [] fits runs = All-nil (λ row. All CanBeTaken row)
  functions_taken (f ∷ fs) fits runs =
      All-cons (λ row. All CanBeTaken row) (fun_algorithms il f) (map (fun_algorithms il) fs) (clauses_taken f.name (clauses_in il.defs) fits runs) (functions_taken fs fits runs)

pub law_of_lowering : LawOfLowering
law_of_lowering il modes algos keep fits are lowered = (
  subst (λ rows. All (All MayBeTaken) rows) (sym lowered.of_rules)
      (relations_taken il modes fits.rules (relations il) 0 (λ k r there.
      let start : 0 + k ≡ k = omega arith in
      ap (slice_get modes.orders) start ∙ ap (λ rows. slice_get rows k) are.orders ∙ slice_get-map (orders_in il) (relations il) k ∙ ap (option_map (orders_in il)) there)),
  subst (λ rows. All (All CanBeTaken) rows) (sym lowered.of_clauses) (functions_taken il (funs_in il.defs) fits.clauses (modes_by_name il keep).clauses),
)
