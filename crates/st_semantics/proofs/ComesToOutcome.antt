-- An expression cannot but come to an outcome.
use Rattle.std.proofs.Common.{◌≡◌, ℕ, zero, suc, refl, List, [], ◌∷◌, inl, inr, Bool, true, false, if◌then◌else◌, bytes_eq, All}
use Rattle.std.proofs.lemmas.List.Elements.{All-cons, All-head, All-tail}
use Rattle.st_il.specs.declared.definition.ClauseDef.{ClauseDef}
use Rattle.st_il.specs.declared.definition.Il.{Il}
use Rattle.st_il.specs.declared.definition.Listed.{Listed}
use Rattle.st_il.specs.declared.ty.Ty.{Ty}
use Rattle.st_il.specs.declared.definition.SyntaxDef.{SyntaxDef}
use Rattle.st_il.specs.declared.expression.IlExp.{IlExp}
use Rattle.st_il.specs.declared.expression.Iteration.{Iteration}
use Rattle.st_il.specs.declared.value.Env.{Env}
use Rattle.st_il.specs.declared.value.Value.{Value}
use Rattle.st_semantics.specs.declared.outcome.Outcome.{Outcome}
use Rattle.st_semantics.specs.declared.outcome.Outcome.TheVariants.{Val, NoValue, Deep}
use Rattle.st_semantics.specs.declared.outcome.Outcomes.{Outcomes}
use Rattle.st_semantics.specs.declared.outcome.Outcomes.TheVariants.{Values, Stopped}
use Rattle.st_il.specs.Names.{Name}
use Rattle.st_il.specs.Definitions.{syntaxes, clauses_in, clauses_of, clauses_from}
use Rattle.st_semantics.specs.Environments.{value_in}
use Rattle.st_semantics.specs.Parts.{given}
use Rattle.st_semantics.specs.Forms.{HasForm, Iterates}
use Rattle.st_semantics.specs.Iterations.{count_of, gathered}
use Rattle.st_semantics.specs.Evaluation as g
use Rattle.st_semantics.specs.Evaluation.{Answers, Task, tasks, each_task, then_all, applied, Called, Way, Ends, Goes, way, Gives, GivesAll}
use Rattle.st_semantics.specs.Formed as formed
use Rattle.st_semantics.specs.Formed.{IsFormed, AreFormed, ResultsAreFormed}
use Rattle.st_semantics.specs.Calls.{Chosen, TooDeep, Decides, CallAt}
use Rattle.st_semantics.specs.Typing as typing
use Rattle.st_semantics.specs.Typing.{ExpHasType, ExpsHaveTypes}
use Rattle.st_semantics.specs.Laws.{LawOfOutcomes, LawOfVariables, LawOfForms}
use Rattle.st_semantics.proofs.Agree.{Gives-agree}
use Rattle.st_semantics.proofs.Depths.{Likely, likely, likely_then, likely_map, decided}

pub law_of_variables : LawOfVariables
law_of_variables il n a b e o same x = Gives-agree (syntaxes il) (CallAt il n) x b same

module _ (defs : List SyntaxDef) (C : Answers) where
  -- an expression, and several, come to something
  abbrev Comes : Env → IlExp → Type 0
  Comes env e = (o : Outcome) × Gives defs C env e o

  abbrev AllCome : List Task → Type 0
  AllCome ts = (r : Outcomes) × GivesAll defs C ts r

  one_more : (t : Task) (ts : List Task) → Comes t.0 t.1 → Likely (AllCome ts) → Likely (AllCome (t ∷ ts))
  one_more t ts (Val v, x) rest = likely_map (λ r. (then_all v r.0, g.next v r.0 x r.1 refl)) rest
  one_more t ts (NoValue, x) rest = likely (Stopped NoValue, g.stop NoValue x tt refl)
  one_more t ts (Deep, x) rest = likely (Stopped Deep, g.stop Deep x tt refl)

  -- the body of an iteration at all elements
  each_comes : (body : IlExp) → ((env : Env) → Likely (Comes env body)) → (envs : List Env) → Likely (AllCome (each_task envs body))
  each_comes body f [] = likely (Values [], g.none refl)
  each_comes body f (env ∷ envs) = likely_then (f env) (λ x. one_more (env, body) (each_task envs body) x (each_comes body f envs))

  way_comes : (env : Env) (e : IlExp) (how : Iteration) (xs : List Name) (body : IlExp) (r : Outcomes) (w : Way) → HasForm defs e (Iterates how xs body) → GivesAll defs C (tasks env (count_of how)) r → way how xs env r ≡ w
      → ((env : Env) → Likely (Comes env body)) → Likely (Comes env e)
  way_comes env e how xs body r (Ends o) h all is f = likely (o, g.iteration_ends how xs body r h all is)
  way_comes env e how xs body r (Goes envs) h all is f = likely_map (λ s. (applied (gathered how) s.0, g.iteration how xs body r envs s.0 h all is s.1 refl)) (each_comes body f envs)

  module _ (total : (fun : Name) (vs : List Value) → Likely ((o : Outcome) × C fun vs o)) where
    called : (fun : Name) (r : Outcomes) → Likely ((o : Outcome) × Called C fun r o)
    called fun (Values vs) = total fun vs
    called fun (Stopped o) = likely (o, refl)

    mutual
      pub comes : {e : IlExp} → IsFormed defs e → (env : Env) → Likely (Comes env e)
      comes (formed.strict es f h parts) env = likely_map (λ r. (applied f r.0, g.strict es f r.0 h r.1 refl)) (all_come parts env)
      comes (formed.variable x h) env = likely (given (value_in env x), g.variable x h refl)
      comes (formed.call fun args h parts) env = likely_then (all_come parts env) (λ r. likely_map (λ o. (o.0, g.call fun args r.0 h r.1 o.1)) (called fun r.0))
      comes {e = e} (formed.iteration how xs body h count inside) env =
          likely_then (all_come count env) (λ r. way_comes env e how xs body r.0 (way how xs env r.0) h r.1 refl (comes inside))

      pub all_come : {es : List IlExp} → AreFormed defs es → (env : Env) → Likely (AllCome (tasks env es))
      all_come formed.none env = likely (Values [], g.none refl)
      all_come (formed.more {e = e} {es = es} x xs) env = likely_then (comes x env) (λ o. one_more (env, e) (tasks env es) o (all_come xs env))

module _ (il : Il) (C : Answers) (total : (fun : Name) (vs : List Value) → Likely ((o : Outcome) × C fun vs o)) where
  abbrev Formed : ClauseDef → Type 0
  Formed c = IsFormed (syntaxes il) c.result

  decides : (cs : List ClauseDef) → All Formed cs → (vs : List Value) → Likely ((o : Outcome) × Decides il C cs vs o)
  decides [] h vs = likely (NoValue, refl)
  decides (c ∷ cs) h vs = likely_then (decided ((env : Env) × Chosen il C c vs env)) (elim [
    | inl ch ↦ likely_map (λ o. (o.0, inl (ch.0, ch.1, o.1))) (comes (syntaxes il) C total (All-head Formed c cs h) ch.0)
    | inr no_env ↦ likely_then (decided (TooDeep il C c vs)) (elim [
      | inl t ↦ likely (Deep, inr (inl (t, refl)))
      | inr fine ↦ likely_map (λ o. (o.0, inr (inr (λ env ch. no_env (env, ch), fine, o.1)))) (decides cs (All-tail Formed c cs h) vs)
    ])
  ])

  some_formed : (fun : Name) (cs : List ClauseDef) → All Formed cs → All Formed (clauses_from fun cs)
  some_formed fun [] h = h
  some_formed fun (c ∷ cs) h = at (bytes_eq fun c.fun) (some_formed fun cs (All-tail Formed c cs h))
    where
      at : (b : Bool) → All Formed (clauses_from fun cs) → All Formed (if b then c ∷ clauses_from fun cs else clauses_from fun cs)
      at true ih = All-cons Formed c (clauses_from fun cs) (All-head Formed c cs h) ih
      at false ih = ih

pub call_comes : (il : Il) → ResultsAreFormed il → (n : ℕ) (fun : Name) (vs : List Value) → Likely ((o : Outcome) × CallAt il n fun vs o)
call_comes il h zero fun vs = likely (Deep, refl)
call_comes il h (suc n) fun vs = decides il (CallAt il n) (call_comes il h n) (clauses_of il fun) (some_formed il (CallAt il n) (call_comes il h n) fun (clauses_in il.defs) h) vs

pub law_of_outcomes : LawOfOutcomes
law_of_outcomes il h n env e is none = comes (syntaxes il) (CallAt il n) (call_comes il h n) is env (λ o. none o.0 o.1)

-- ---- what has a type is formed

mutual
  typed_formed : (il : Il) {ls : List Listed} {e : IlExp} {t : Ty} → ExpHasType il ls e t → IsFormed (syntaxes il) e
  typed_formed il (typing.strict es f ts h parts told) = formed.strict es f h (parts_formed il parts)
  typed_formed il (typing.same u x equal) = typed_formed il x
  typed_formed il (typing.variable x l h at is) = formed.variable x h
  typed_formed il (typing.call fun args declared h found parts is) = formed.call fun args h (parts_formed il parts)
  typed_formed il (typing.iteration how xs body u h counts kinded inside is) = formed.iteration how xs body h (parts_formed il counts) (typed_formed il inside)

  parts_formed : (il : Il) {ls : List Listed} {es : List IlExp} {ts : List Ty} → ExpsHaveTypes il ls es ts → AreFormed (syntaxes il) es
  parts_formed il typing.none = formed.none
  parts_formed il (typing.more x xs) = formed.more (typed_formed il x) (parts_formed il xs)

pub law_of_forms : LawOfForms
law_of_forms il ls e t x = typed_formed il x
