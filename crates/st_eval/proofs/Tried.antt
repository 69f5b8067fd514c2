-- A clause that is tried: its arguments, its premises one after another, and what it makes of a call.
use Rattle.std.proofs.Common.{◌≡◌, ℕ, zero, suc, ◌+◌, ◌<◌, ◌≤◌, refl, sym, ◌∙◌, ap, subst, List, [], ◌∷◌, ◌++◌, length, take, drop, get_or, inl, inr, Bool, true, false, if◌then◌else◌, Option, Some, None, bytes_eq, append-nil, arith, All}
use Rattle.std.specs.Prelude.{Contains}
use Rattle.std.specs.Borrow.{Bor}
use Rattle.std.specs.List.{list_all}
use Rattle.std.proofs.lemmas.List.{take-append-drop, take_more, take_all, drop_more, drop_all}
use Rattle.std.proofs.lemmas.List.Elements.{All-cons, All-head, All-tail}
use Rattle.st_il.specs.declared.definition.ClauseDef.{ClauseDef}
use Rattle.st_il.specs.declared.definition.Il.{Il}
use Rattle.st_il.specs.declared.definition.Listed.{Listed}
use Rattle.st_il.specs.declared.definition.SyntaxDef.{SyntaxDef}
use Rattle.st_il.specs.declared.expression.IlExp.{IlExp}
use Rattle.st_il.specs.declared.expression.IlPrem.{IlPrem}
use Rattle.st_il.specs.declared.value.Env.{Env}
use Rattle.st_il.specs.declared.value.Value.{Value}
use Rattle.st_semantics.specs.declared.outcome.Outcome.{Outcome}
use Rattle.st_semantics.specs.declared.outcome.Outcome.TheVariants.{NoValue}
use Rattle.st_il.specs.Names.{Name, has_name}
use Rattle.st_il.specs.Definitions.{syntaxes, clauses_in, clauses_from, clauses_of}
use Rattle.st_index.specs.Names.{all_now}
use Rattle.st_semantics.specs.Environments.{names_of, value_in, type_of, listed_names, AgreeOn, TypedIn, IsSomeTyped}
use Rattle.st_semantics.specs.Evaluation.{Answers, tasks}
use Rattle.st_semantics.specs.Variables.{vars, vars_of}
use Rattle.st_semantics.specs.Patterns.{is_pattern}
use Rattle.st_semantics.specs.Matching.{no_answers}
use Rattle.st_semantics.specs.Holding as h
use Rattle.st_semantics.specs.Holding.{value_by, HaveValues}
use Rattle.st_semantics.specs.Calls.{TooDeep, Decides, CallAt, ValueAt}
use Rattle.st_semantics.specs.ModeRules.{bound_in_clause}
use Rattle.st_semantics.specs.Laws.{CallsAreSingle}
use Rattle.st_semantics.proofs.Names.{within-left, within-right, known-within, and-both}
use Rattle.st_semantics.proofs.Agree.{Gives-agree}
use Rattle.st_semantics.proofs.PatternParts.{Gives-pattern}
use Rattle.st_semantics.proofs.Restrict.{restricted, agree_picked}
use Rattle.st_semantics.proofs.Low.{name_there, listed_there}
use Rattle.st_match.specs.Matches.{IsMatchOfAll, AreAllMatches}
use Rattle.st_eval.specs.declared.condition.Met.{Met}
use Rattle.st_eval.specs.declared.condition.Met.TheVariants as met
use Rattle.st_eval.specs.Steps.{value_at, HasOnly, HoldsWith, IsMetUpTo, IsPassedOver}
use Rattle.st_eval.specs.Meeting.{IsMet}
use Rattle.st_eval.specs.CanBeMet.{CanBeMet}
use Rattle.st_eval.specs.Evaluable.{CanBeTried}
use Rattle.st_eval.specs.inner.Tried.{AreMetUpTo, IsTried}
use Rattle.st_eval.proofs.InByteOrder.{in_byte_order, is_in_order, in_order_value, in_order_names}
use Rattle.st_eval.proofs.Trying.{clause_binds, bound_next, bound_listed, law_of_arguments, law_of_next, law_of_failure, law_of_deepness, law_of_results}
use Rattle.st_eval.proofs.Conditions.{same_truth, picked_named, typed_there}
use Rattle.st_eval.proofs.Equations.{last_there}

-- ---- arguments

-- patterns have the same values whatever calls come to
have_patterns : (defs : List SyntaxDef) (C D : Answers) (es : List IlExp) (vs : List Value) (a b : Env) → list_all is_pattern es ≡ true → AgreeOn (vars_of es) a b → HaveValues (value_by defs C) (tasks a es) vs
    → HaveValues (value_by defs D) (tasks b es) vs
have_patterns defs C D [] [] a b k g p = tt
have_patterns defs C D [] (v ∷ vs) a b k g p = p
have_patterns defs C D (e ∷ es) [] a b k g p = p
have_patterns defs C D (e ∷ es) (v ∷ vs) a b k g p =
    let w = and-both (is_pattern e) (list_all is_pattern es) k in (
      Gives-agree defs D (Gives-pattern defs D C w.0 p.0) b (λ x i. g x (within-left (vars e) (vars_of es) x i)),
      have_patterns defs C D es vs a b w.1 (λ x i. g x (within-right (vars e) (vars_of es) x i)) p.1,
    )

module _ (il : Il) (n : ℕ) (c : ClauseDef) (can : CanBeTried il c) (vs : List Value) where
  pub are_patterns : list_all is_pattern c.args ≡ true
  are_patterns = (clause_binds il c can.runnable).patterns

  -- an environment that matches the arguments meets the clause up to its first premise
  pub matched_args : (env : Env) → IsMatchOfAll (syntaxes il) c.variables c.args vs env → IsMetUpTo il n c vs [] env
  matched_args env m = record {
    variables = record {
      names_are = λ x. m.names x ∙ ap (λ z. has_name z x) (sym (append-nil (vars_of c.args)));
      typed = λ x i. m.typed x (subst (λ z. has_name z x ≡ true) (append-nil (vars_of c.args)) i);
    };
    arguments = have_patterns (syntaxes il) no_answers (CallAt il n) c.args vs env env are_patterns (λ x i. refl) m.values;
    hold = h.done;
  }

  -- an environment under which the arguments have the values, with their variables alone
  module _ (env : Env) (typed : TypedIn (syntaxes il) c.variables (vars_of c.args) env) (have : HaveValues (value_at il n) (tasks env c.args) vs) where
    abbrev own : List Name
    own = vars_of c.args

    abbrev less : Env
    less = in_byte_order (restricted own env)

    less_value : (x : Name) → has_name own x ≡ true → value_in less x ≡ value_in env x
    less_value x i = in_order_value (restricted own env) x ∙ agree_picked own env x i

    has_value : (x : Name) → has_name own x ≡ true → (w : Value) × (value_in env x ≡ Some w)
    has_value x i =
        let listed = known-within (listed_names c.variables) (bound_in_clause c []) (bound_listed il c can.runnable [] c.premises refl) x (subst (λ z. has_name z x ≡ true) (sym (append-nil own)) i) in
        let l = listed_there x c.variables listed in
        typed_there (syntaxes il) l.0 (value_in env x) (typed x i l.0 l.1)

    less_matches : IsMatchOfAll (syntaxes il) c.variables c.args vs less
    less_matches = record {
      ordered = is_in_order (restricted own env);
      names = λ x. same_truth (has_name (names_of less) x) (has_name own x)
          (λ k. picked_named own x env.entries (in_order_names (restricted own env) x k))
          (λ k. let w = has_value x k in name_there x w.0 less.entries (less_value x k ∙ w.1));
      typed = λ x i l at. subst (IsSomeTyped (syntaxes il) (type_of l)) (sym (less_value x i)) (typed x i l at);
      values = have_patterns (syntaxes il) (CallAt il n) no_answers c.args vs env less are_patterns (λ x i. sym (less_value x i)) have;
    }

  module _ (found : List Env) (are : AreAllMatches (syntaxes il) c.variables c.args vs found) where
    -- where nothing matches the arguments, the clause is passed over
    pub unmatched_args : found ≡ [] → IsPassedOver il n c vs
    unmatched_args none = law_of_arguments il n c vs (λ env typed have. nothing (subst (λ z. Contains z (less env typed have)) none ((are.exactly (less env typed have)).1 (less_matches env typed have))))
      where
        nothing : {x : Env} → Contains [] x → ⊥
        nothing w = let smaller = w.1 in absurd (omega (arith, smaller))

    -- else each that matches meets it up to its first premise
    pub some_args : (others : List Env) (env : Env) → found ≡ others ++ env ∷ [] → IsMetUpTo il n c vs [] env
    some_args others env is = matched_args env ((are.exactly env).0 (subst (λ z. Contains z env) (sym is) (last_there others env)))

-- the same of the slices that are passed
pub matched_slices : (defs all : List SyntaxDef) (c : ClauseDef) (ls : List Listed) (ps : List IlExp) (vs : List Value) (found : List Env) → defs ≡ all → ls ≡ c.variables → ps ≡ c.args → AreAllMatches defs ls ps vs found
    → AreAllMatches all c.variables c.args vs found
matched_slices defs all c ls ps vs found d l p m =
    subst (λ z. AreAllMatches z c.variables c.args vs found) d (subst (λ z. AreAllMatches defs z c.args vs found) l (subst (λ z. AreAllMatches defs ls z vs found) p m))

-- ---- premises

-- a premise in its place
premise_at : (ps : List IlPrem) (i : ℕ) (p : IlPrem) → i < length ps → p ≡ get_or ps i p → ps ≡ take i ps ++ p ∷ drop (i + 1) ps
premise_at ps i p less is = sym (take-append-drop i ps) ∙ ap (λ z. take i ps ++ z) (drop_more ps i p less ∙ ap (λ z. z ∷ drop (i + 1) ps) (sym is))

front_more : (ps : List IlPrem) (i : ℕ) (p : IlPrem) → i < length ps → p ≡ get_or ps i p → take i ps ++ p ∷ [] ≡ take (i + 1) ps
front_more ps i p less is = sym (take_more ps i p less ∙ ap (λ z. take i ps ++ z ∷ []) (sym is))

module _ (il : Il) (n : ℕ) (c : ClauseDef) (first : Env) where
  pub AreMetUpTo-begin : HasOnly il c.variables (bound_in_clause c []) first → AreMetUpTo il n c first (take 0 c.premises) first
  AreMetUpTo-begin only = record { variables = only; leads = λ vs up. up }

  module _ (ls : List Listed) (ps : List IlPrem) (ls_is : ls ≡ c.variables) (ps_is : ps ≡ c.premises) (i : ℕ) (p : IlPrem) (here : i < length ps) (is : p ≡ get_or ps i p) (env : Env)
      (inv : AreMetUpTo il n c first (take i c.premises) env) (can : CanBeTried il c) where
    abbrev before : List IlPrem
    before = take i c.premises

    placed : i < length c.premises
    placed = subst (λ z. i < length z) ps_is here

    found_there : p ≡ get_or c.premises i p
    found_there = subst (λ z. p ≡ get_or z i p) ps_is is

    can_be : CanBeMet il (bound_in_clause c before) c.variables p
    can_be = can.premises before p (drop (i + 1) c.premises) (premise_at c.premises i p placed found_there)

    -- it can be met
    pub premise-can : (bound : List Name) × HasOnly il ls bound env × CanBeMet il bound ls p
    premise-can = (bound_in_clause c before, subst (λ z. HasOnly il z (bound_in_clause c before) env) (sym ls_is) inv.variables, subst (λ z. CanBeMet il (bound_in_clause c before) z p) (sym ls_is) can_be)

    module _ (m : Met) (comes : (bound : List Name) → HasOnly il ls bound env → CanBeMet il bound ls p → IsMet il n bound ls env p m) where
      comes_to : IsMet il n (bound_in_clause c before) c.variables env p m
      comes_to = subst (λ z. (bound : List Name) → HasOnly il z bound env → CanBeMet il bound z p → IsMet il n bound z env p m) ls_is comes (bound_in_clause c before) inv.variables can_be

      -- one that holds leads to the next
      pub AreMetUpTo-next : (more : Env) → m ≡ met.Holds more → AreMetUpTo il n c first (take (i + 1) c.premises) more
      AreMetUpTo-next more e = record {
        variables = subst (λ z. HasOnly il c.variables z more) (bound_next c before p ∙ ap (bound_in_clause c) (front_more c.premises i p placed found_there)) holds.variables;
        leads = λ vs up. subst (λ z. IsMetUpTo il n c vs z more) (front_more c.premises i p placed found_there) (law_of_next il n c vs before p env more (inv.leads vs up) holds);
      }
        where
          holds : HoldsWith il n (bound_in_clause c before) c.variables env p more
          holds = subst (IsMet il n (bound_in_clause c before) c.variables env p) e comes_to

      -- one that fails, or meets Deep
      pub ClauseIsMet-failed : CallsAreSingle il → m ≡ met.Fails → (vs : List Value) → IsMetUpTo il n c vs [] first → IsPassedOver il n c vs
      ClauseIsMet-failed single e vs up =
          law_of_failure il single n c can.runnable vs before p (drop (i + 1) c.premises) env (premise_at c.premises i p placed found_there) (inv.leads vs up)
          (subst (IsMet il n (bound_in_clause c before) c.variables env p) e comes_to)

      pub ClauseIsMet-deep : m ≡ met.Deep → (vs : List Value) → IsMetUpTo il n c vs [] first → TooDeep il (CallAt il n) c vs
      ClauseIsMet-deep e vs up =
          law_of_deepness il n c can.runnable vs before p (drop (i + 1) c.premises) env (premise_at c.premises i p placed found_there) (inv.leads vs up)
          (subst (IsMet il n (bound_in_clause c before) c.variables env p) e comes_to)

  -- all hold
  pub ClauseIsMet-all : (ps : List IlPrem) → ps ≡ c.premises → (i : ℕ) (env : Env) → length ps ≤ i → AreMetUpTo il n c first (take i c.premises) env → (vs : List Value) → IsMetUpTo il n c vs [] first → IsMetUpTo il n c vs c.premises env
  ClauseIsMet-all ps ps_is i env end inv vs up = subst (λ z. IsMetUpTo il n c vs z env) (take_all i c.premises (subst (λ z. length z ≤ i) ps_is end)) (inv.leads vs up)

-- ---- clauses

pub IsTried-chosen : (il : Il) (n : ℕ) (c : ClauseDef) (vs : List Value) (env : Env) (o : Outcome) → CanBeTried il c → ValueAt il n env c.result o → IsMetUpTo il n c vs c.premises env → IsTried il n c vs (Some o)
IsTried-chosen il n c vs env o can gives up = inl (law_of_results il n c can.runnable vs env o up gives)

-- what holds of all clauses holds of those of a function
from_all : (P : ClauseDef → Type 0) (fun : Name) (cs : List ClauseDef) → All P cs → All P (clauses_from fun cs)
from_all P fun [] all = all
from_all P fun (c ∷ cs) all = at (bytes_eq fun c.fun) (from_all P fun cs (All-tail P c cs all))
  where
    at : (b : Bool) → All P (clauses_from fun cs) → All P (if b then c ∷ clauses_from fun cs else clauses_from fun cs)
    at true rest = All-cons P c (clauses_from fun cs) (All-head P c cs all) rest
    at false rest = rest

-- one that is referred to, and those behind it
now_here : (xs : List (Bor ClauseDef)) (i : ℕ) (x : Bor ClauseDef) → i < length xs → x ≡ get_or xs i x → all_now (drop i xs) ≡ x.now ∷ all_now (drop (i + 1) xs)
now_here xs i x h is = ap all_now (drop_more xs i x h ∙ ap (λ z. z ∷ drop (i + 1) xs) (sym is))

now_can : (P : ClauseDef → Type 0) (xs : List (Bor ClauseDef)) (i : ℕ) (x : Bor ClauseDef) → i < length xs → x ≡ get_or xs i x → All P (all_now xs) → P x.now
now_can P [] i x h is all = absurd (omega (arith, h))
now_can P (y ∷ ys) zero x h is all = subst (λ z. P z.now) (sym is) (All-head P y.now (all_now ys) all)
now_can P (y ∷ ys) (suc i) x h is all = now_can P ys i x (omega (arith, h)) is (All-tail P y.now (all_now ys) all)

module _ (il : Il) (n : ℕ) (vs : List Value) where
  -- a clause that is passed over leaves the call to those behind it, and one that is not decides it
  passed_decides : (c : ClauseDef) (cs : List ClauseDef) (o : Outcome) → IsTried il n c vs None → Decides il (CallAt il n) cs vs o → Decides il (CallAt il n) (c ∷ cs) vs o
  passed_decides c cs o t d = inr (inr (t.0, t.1, d))

  tried_decides : (c : ClauseDef) (cs : List ClauseDef) (o : Outcome) → IsTried il n c vs (Some o) → Decides il (CallAt il n) (c ∷ cs) vs o
  tried_decides c cs o (inl w) = inl w
  tried_decides c cs o (inr w) = inr (inl w)

  module _ (xs : List (Bor ClauseDef)) (i : ℕ) where
    -- where the clauses that are left decide a call, all do
    abbrev pub LeadsFrom : Type 0
    LeadsFrom = (o : Outcome) → Decides il (CallAt il n) (all_now (drop i xs)) vs o → Decides il (CallAt il n) (all_now xs) vs o

    module _ (x : Bor ClauseDef) (there : i < length xs) (at : x ≡ get_or xs i x) where
      pub clause-can : (fun : Name) → all_now xs ≡ clauses_of il fun → All (CanBeTried il) (clauses_in il.defs) → CanBeTried il x.now
      clause-can fun are all = now_can (CanBeTried il) xs i x there at (subst (All (CanBeTried il)) (sym are) (from_all (CanBeTried il) fun (clauses_in il.defs) all))

      pub decide-next : (r : Option Outcome) → r ≡ None → LeadsFrom → IsTried il n x.now vs r → (o : Outcome) → Decides il (CallAt il n) (all_now (drop (i + 1) xs)) vs o → Decides il (CallAt il n) (all_now xs) vs o
      decide-next r none inv t o d =
          inv o (subst (λ z. Decides il (CallAt il n) z vs o) (sym (now_here xs i x there at)) (passed_decides x.now (all_now (drop (i + 1) xs)) o (subst (IsTried il n x.now vs) none t) d))

      pub decide-here : (fun : Name) → all_now xs ≡ clauses_of il fun → (r : Option Outcome) (o : Outcome) → r ≡ Some o → LeadsFrom → IsTried il n x.now vs r → Decides il (CallAt il n) (clauses_of il fun) vs o
      decide-here fun are r o some inv t =
          subst (λ z. Decides il (CallAt il n) z vs o) are
          (inv o (subst (λ z. Decides il (CallAt il n) z vs o) (sym (now_here xs i x there at)) (tried_decides x.now (all_now (drop (i + 1) xs)) o (subst (IsTried il n x.now vs) some t))))

    pub decide-end : (fun : Name) → all_now xs ≡ clauses_of il fun → length xs ≤ i → LeadsFrom → Decides il (CallAt il n) (clauses_of il fun) vs NoValue
    decide-end fun are end inv = subst (λ z. Decides il (CallAt il n) z vs NoValue) are (inv NoValue (subst (λ z. Decides il (CallAt il n) (all_now z) vs NoValue) (sym (drop_all i xs end)) refl))
