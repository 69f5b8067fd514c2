-- Deep and goals that are met: in environments that agree on what is bound, and one premise further.
use Rattle.std.proofs.Common.{◌≡◌, refl, sym, ◌∙◌, ap, ap₂, subst, List, [], ◌∷◌, ◌++◌, filter, ◌⊎◌, inl, inr, Bool, true, false, if◌then◌else◌, Some, append_assoc}
use Rattle.std.specs.Prelude.{Contains}
use Rattle.st_il.specs.declared.definition.Il.{Il}
use Rattle.st_il.specs.declared.definition.Listed.{Listed}
use Rattle.st_il.specs.declared.expression.IlExp.{IlExp, out-IlExp}
use Rattle.st_il.specs.declared.expression.IlExp.TheOpen.{IlExp-F}
use Rattle.st_il.specs.declared.expression.Iteration.{Iteration}
use Rattle.st_il.specs.declared.expression.ListItem.{ListItem}
use Rattle.st_il.specs.declared.expression.PathSeg.{PathSeg}
use Rattle.st_il.specs.declared.expression.IlPrem.{IlPrem, out-IlPrem}
use Rattle.st_il.specs.declared.expression.IlPrem.TheOpen.{IlPrem-F}
use Rattle.st_il.specs.declared.value.Env.{Env}
use Rattle.st_il.specs.declared.value.Value.{Value}
use Rattle.st_il.specs.Names.{Name, has_name, all_known}
use Rattle.st_il.specs.Definitions.{syntaxes}
use Rattle.st_semantics.specs.Directions.{inputs_of, outputs_of}
use Rattle.st_semantics.specs.Environments.{AgreeOn}
use Rattle.st_semantics.specs.Iterations.{count_of}
use Rattle.st_semantics.specs.Evaluation.{tasks}
use Rattle.st_semantics.specs.Variables.{vars, vars_of}
use Rattle.st_semantics.specs.Holding.{HaveValues}
use Rattle.st_semantics.specs.Depth as d
use Rattle.st_semantics.specs.Depth.{Setting, evaluated, side_at, bound_side, bound_count, computed, Meets, MeetsHere, Unfolds, BindsTooHigh}
use Rattle.st_semantics.specs.Reaching.{Reached, MeetsAmong, bound_behind, listed_behind}
use Rattle.st_semantics.specs.Chains.{Reaches, here, element}
use Rattle.st_semantics.specs.Goals.{Goal}
use Rattle.st_semantics.proofs.Names.{Within, within-cases, known-within}
use Rattle.st_semantics.proofs.Agree.{Local, Gives-agree, tasks_agree, HaveValues-agree}
use Rattle.st_semantics.proofs.Runs.{evaluated_side}
use Rattle.st_search.specs.inner.Asking.{AsksGoal, AsksAmong}

-- ---- what is evaluated is bound

evaluated_known : (bound : List Name) (e part : IlExp) → evaluated bound e ≡ Some part → all_known bound (vars part) ≡ true
evaluated_known bound e part ev = whole (all_known bound (vars e)) refl
  where
    equation : (x y : IlExp) (k l : Bool) → all_known bound (vars x) ≡ k → all_known bound (vars y) ≡ l → bound_side k l x y ≡ Some part → all_known bound (vars part) ≡ true
    equation x y true l kx ky s = let is : x ≡ part = cc in subst (λ z. all_known bound (vars z) ≡ true) is kx
    equation x y false true kx ky s = let is : y ≡ part = cc in subst (λ z. all_known bound (vars z) ≡ true) is ky
    equation x y false false kx ky s = cc

    sides : (z : IlExp-F IlExp Iteration ListItem PathSeg) → side_at bound z ≡ Some part → all_known bound (vars part) ≡ true
    sides (IlExp-F.Eq x y) s = equation x y (all_known bound (vars x)) (all_known bound (vars y)) refl refl s
    sides _ s = cc

    whole : (k : Bool) → all_known bound (vars e) ≡ k → all_known bound (vars part) ≡ true
    whole true k =
        let both : Some e ≡ Some part = sym (ap (λ z. if z then Some e else side_at bound (out-IlExp e)) k) ∙ ev in
        let is : e ≡ part = cc in
        subst (λ z. all_known bound (vars z) ≡ true) is k
    whole false k = sides (out-IlExp e) (sym (evaluated_side bound e k) ∙ ev)

counts_known : (bound : List Name) (es : List IlExp) → Within (vars_of (filter (λ (e : IlExp). all_known bound (vars e)) es)) bound
counts_known bound [] x k = cc
counts_known bound (e ∷ es) x k = at (all_known bound (vars e)) refl k (counts_known bound es x)
  where
    at : (b : Bool) → all_known bound (vars e) ≡ b → has_name (vars_of (if b then e ∷ filter (λ (e : IlExp). all_known bound (vars e)) es else filter (λ (e : IlExp). all_known bound (vars e)) es)) x ≡ true
        → (has_name (vars_of (filter (λ (e : IlExp). all_known bound (vars e)) es)) x ≡ true → has_name bound x ≡ true) → has_name bound x ≡ true
    at true j k ih = elim (within-cases (vars e) (vars_of (filter (λ (e : IlExp). all_known bound (vars e)) es)) x k) [ inl first ↦ known-within bound (vars e) j x first | inr later ↦ ih later ]
    at false j k ih = ih k

-- where a premise is a goal, its inputs and the outputs that are no patterns are bound
pub record GoalIsBound (il : Il) (bound : List Name) (p : IlPrem) : Type 0 where
  pub inputs : (relation : Name) (es : List IlExp) → out-IlPrem p ≡ IlPrem-F.Goal relation es → all_known bound (vars_of (inputs_of il relation es)) ≡ true
  pub outputs : (relation : Name) (es : List IlExp) → out-IlPrem p ≡ IlPrem-F.Goal relation es → (e : IlExp) → Contains (computed (outputs_of il relation es)) e → all_known bound (vars e) ≡ true

-- environments that agree on what is bound agree on these variables
agree_there : (bound xs : List Name) (a b : Env) → all_known bound xs ≡ true → AgreeOn bound a b → AgreeOn xs a b
agree_there bound xs a b k g x i = g x (known-within bound xs k x i)

-- ---- environments that agree

module _ (s : Setting) (local : Local s.meaning) where
  Unfolds-agree : (bound : List Name) (how : Iteration) (xs : List Name) (a b : Env) (envs : List Env) → AgreeOn bound a b → Unfolds s bound how xs a envs → Unfolds s bound how xs b envs
  Unfolds-agree bound how xs a b envs g u = record { more = u.more; agrees = λ x i. sym (g x i) ∙ u.agrees x i; elements = u.elements }

  here_agrees : (bound : List Name) (a b : Env) (p : IlPrem) → GoalIsBound s.il bound p → AgreeOn bound a b → MeetsHere s bound a p → MeetsHere s bound b p
  here_agrees bound a b p known g (d.condition e part eq ev deep) =
      d.condition e part eq ev (Gives-agree (syntaxes s.il) s.calls deep b (agree_there bound (vars part) a b (evaluated_known bound e part ev) g))
  here_agrees bound a b p known g (d.input relation es eq deep) =
      d.input relation es eq (tasks_agree (syntaxes s.il) s.calls (inputs_of s.il relation es) a b (agree_there bound (vars_of (inputs_of s.il relation es)) a b (known.inputs relation es eq) g) deep)
  here_agrees bound a b p known g (d.output relation es vs e eq have contains deep) =
      d.output relation es vs e eq
      (HaveValues-agree s.meaning local (inputs_of s.il relation es) vs a b (agree_there bound (vars_of (inputs_of s.il relation es)) a b (known.inputs relation es eq) g) have)
      contains
      (Gives-agree (syntaxes s.il) s.calls deep b (agree_there bound (vars e) a b (known.outputs relation es eq e contains) g))
  here_agrees bound a b p known g (d.count how xs body eq deep) =
      d.count how xs body eq (tasks_agree (syntaxes s.il) s.calls (bound_count bound how) a b (λ x i. g x (counts_known bound (count_of how) x i)) deep)

  -- Deep is met in both
  pub Meets-agree : {bound : List Name} {ls : List Listed} {a : Env} {p : IlPrem} → Meets s bound ls a p → GoalIsBound s.il bound p → (b : Env) → AgreeOn bound a b → Meets s bound ls b p
  Meets-agree {bound = bound} {a = a} {p = p} (d.here m) known b g = d.here (here_agrees bound a b p known g m)
  Meets-agree {bound = bound} {a = a} (d.element how xs body before at after eq u passed m) known b g =
      d.element how xs body before at after eq (Unfolds-agree bound how xs a b (before ++ at ∷ after) g u) passed m
  Meets-agree {bound = bound} {a = a} (d.height how xs body eq t) known b g = d.height how xs body eq (record {
    envs = t.envs;
    unfolds = Unfolds-agree bound how xs a b t.envs g t.unfolds;
    passed = t.passed;
    x = t.x;
    iterated = t.iterated;
    unbound = t.unbound;
    values = t.values;
    values_are = t.values_are;
    high = t.high;
  })

  -- a goal is asked in both
  pub AsksGoal-agree : (bound : List Name) (ls : List Listed) (a b : Env) (p : IlPrem) (next : Goal) → GoalIsBound s.il bound p → AgreeOn bound a b → AsksGoal s bound ls a p next → AsksGoal s bound ls b p next
  AsksGoal-agree bound ls a b p next known g asks = from asks.inside
    where
      from : Reaches s asks.one asks.goal bound ls a p → AsksGoal s bound ls b p next
      from (here same is) =
          let goal : out-IlPrem p ≡ IlPrem-F.Goal next.relation asks.holes = ap out-IlPrem is ∙ asks.is_goal in
          record {
            one = b;
            goal = p;
            inside = here refl refl;
            holes = asks.holes;
            is_goal = goal;
            values = HaveValues-agree s.meaning local (inputs_of s.il next.relation asks.holes) next.inputs a b
                (agree_there bound (vars_of (inputs_of s.il next.relation asks.holes)) a b (known.inputs next.relation asks.holes goal) g)
                (subst (λ z. HaveValues s.meaning (tasks z (inputs_of s.il next.relation asks.holes)) next.inputs) (sym same) asks.values);
          }
      from (element how xs body before at after eq u passed inside) = record {
        one = asks.one;
        goal = asks.goal;
        inside = element how xs body before at after eq (Unfolds-agree bound how xs a b (before ++ at ∷ after) g u) passed inside;
        holes = asks.holes;
        is_goal = asks.is_goal;
        values = asks.values;
      }

-- ---- one premise further

-- a position among some and one more: it is that of the last, or one before
last_split : {A : Type 0} (before : List A) (p : A) (bs : List A) (q : A) (cs : List A) → before ++ p ∷ [] ≡ bs ++ q ∷ cs → ((before ≡ bs) × (p ≡ q)) ⊎ ((mid : List A) × (before ≡ bs ++ q ∷ mid))
last_split [] p [] q cs e = let same : p ≡ q = cc in inl (refl, same)
last_split [] p (f ∷ []) q cs e = cc
last_split [] p (f ∷ g ∷ bs) q cs e = cc
last_split (b ∷ before) p [] q cs e = let same : b ≡ q = cc in inr (before, ap (λ z. z ∷ before) same)
last_split {A} (b ∷ before) p (f ∷ bs) q cs e =
    let first : b ≡ f = cc in
    let rest : before ++ p ∷ [] ≡ bs ++ q ∷ cs = cc in
    further first (last_split before p bs q cs rest)
  where
    further : b ≡ f → ((before ≡ bs) × (p ≡ q)) ⊎ ((mid : List A) × (before ≡ bs ++ q ∷ mid)) → ((b ∷ before ≡ f ∷ bs) × (p ≡ q)) ⊎ ((mid : List A) × (b ∷ before ≡ (f ∷ bs) ++ q ∷ mid))
    further first (inl s) = inl (ap₂ (λ y z. y ∷ z) first s.0, s.1)
    further first (inr s) = inr (s.0, ap₂ (λ y z. y ∷ z) first s.1)

module _ (s : Setting) (ls : List Listed) (heads : List IlExp) (vs : List Value) where
  -- a premise is reached behind some
  abbrev pub ReachedWith : List IlPrem → (Env → Type 0) → Type 0
  ReachedWith before P = (env : Env) × Reached s (listed_behind ls heads before) heads vs before env × P env

  -- a goal is asked among some premises, or by the one behind them
  pub asked_next : (before : List IlPrem) (p : IlPrem) (next : Goal) → AsksAmong s ls heads vs (before ++ p ∷ []) next
      → AsksAmong s ls heads vs before next ⊎ ReachedWith before (λ env. AsksGoal s (bound_behind heads before) ls env p next)
  asked_next before p next asks = at (last_split before p asks.before asks.premise asks.after asks.split)
    where
      at : ((before ≡ asks.before) × (p ≡ asks.premise)) ⊎ ((mid : List IlPrem) × (before ≡ asks.before ++ asks.premise ∷ mid))
          → AsksAmong s ls heads vs before next ⊎ ReachedWith before (λ env. AsksGoal s (bound_behind heads before) ls env p next)
      at (inl same) = inr (
        asks.env,
        subst (λ z. Reached s (listed_behind ls heads z) heads vs z asks.env) (sym same.0) asks.reached,
        subst (λ z. AsksGoal s (bound_behind heads before) ls asks.env z next) (sym same.1)
            (subst (λ z. AsksGoal s (bound_behind heads z) ls asks.env asks.premise next) (sym same.0) asks.asks),
      )
      at (inr among) = inl (record { before = asks.before; premise = asks.premise; after = among.0; split = among.1; env = asks.env; reached = asks.reached; asks = asks.asks })

  pub asked_before : (before after : List IlPrem) (next : Goal) → AsksAmong s ls heads vs before next → AsksAmong s ls heads vs (before ++ after) next
  asked_before before after next asks = record {
    before = asks.before;
    premise = asks.premise;
    after = asks.after ++ after;
    split = ap (λ z. z ++ after) asks.split ∙ append_assoc asks.before (asks.premise ∷ asks.after) after;
    env = asks.env;
    reached = asks.reached;
    asks = asks.asks;
  }

  pub asked_here : (before : List IlPrem) (p : IlPrem) (after : List IlPrem) (next : Goal) → ReachedWith before (λ env. AsksGoal s (bound_behind heads before) ls env p next) → AsksAmong s ls heads vs (before ++ p ∷ after) next
  asked_here before p after next r = record { before = before; premise = p; after = after; split = refl; env = r.0; reached = r.1; asks = r.2 }

  -- Deep is met among some premises, or at the one behind them
  pub met_next : (before : List IlPrem) (p : IlPrem) → MeetsAmong s ls heads vs (before ++ p ∷ []) → MeetsAmong s ls heads vs before ⊎ ReachedWith before (λ env. Meets s (bound_behind heads before) ls env p)
  met_next before p meets = at (last_split before p meets.before meets.premise meets.after meets.split)
    where
      at : ((before ≡ meets.before) × (p ≡ meets.premise)) ⊎ ((mid : List IlPrem) × (before ≡ meets.before ++ meets.premise ∷ mid))
          → MeetsAmong s ls heads vs before ⊎ ReachedWith before (λ env. Meets s (bound_behind heads before) ls env p)
      at (inl same) = inr (
        meets.env,
        subst (λ z. Reached s (listed_behind ls heads z) heads vs z meets.env) (sym same.0) meets.reached,
        subst (λ z. Meets s (bound_behind heads before) ls meets.env z) (sym same.1)
            (subst (λ z. Meets s (bound_behind heads z) ls meets.env meets.premise) (sym same.0) meets.deep),
      )
      at (inr among) = inl (record { before = meets.before; premise = meets.premise; after = among.0; split = among.1; env = meets.env; reached = meets.reached; deep = meets.deep })

  pub met_before : (before after : List IlPrem) → MeetsAmong s ls heads vs before → MeetsAmong s ls heads vs (before ++ after)
  met_before before after meets = record {
    before = meets.before;
    premise = meets.premise;
    after = meets.after ++ after;
    split = ap (λ z. z ++ after) meets.split ∙ append_assoc meets.before (meets.premise ∷ meets.after) after;
    env = meets.env;
    reached = meets.reached;
    deep = meets.deep;
  }

  pub met_here : (before : List IlPrem) (p : IlPrem) (after : List IlPrem) → ReachedWith before (λ env. Meets s (bound_behind heads before) ls env p) → MeetsAmong s ls heads vs (before ++ p ∷ after)
  met_here before p after r = record { before = before; premise = p; after = after; split = refl; env = r.0; reached = r.1; deep = r.2 }
