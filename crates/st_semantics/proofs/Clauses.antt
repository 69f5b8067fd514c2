-- An outcome that is not Deep is the outcome at every larger depth.
use Rattle.std.proofs.Common.{◌≡◌, ℕ, zero, suc, ◌≤◌, refl, sym, ◌∙◌, ap, subst, List, [], ◌∷◌, ◌++◌, ◌⊎◌, inl, inr, Bool, true, false, if◌then◌else◌, bytes_eq, append_assoc, append-nil, arith, eq-or-lt_of_le, le_of_suc-le-suc}
use Rattle.std.specs.List.{list_all}
use Rattle.st_il.specs.declared.definition.ClauseDef.{ClauseDef}
use Rattle.st_il.specs.declared.definition.Il.{Il}
use Rattle.st_il.specs.declared.definition.Listed.{Listed}
use Rattle.st_il.specs.declared.expression.IlExp.{IlExp}
use Rattle.st_il.specs.declared.expression.IlPrem.{IlPrem}
use Rattle.st_il.specs.declared.value.Env.{Env}
use Rattle.st_il.specs.declared.value.Value.{Value}
use Rattle.st_semantics.specs.declared.outcome.Outcome.{Outcome}
use Rattle.st_semantics.specs.declared.outcome.Outcome.TheVariants.{Val, Deep}
use Rattle.st_il.specs.Names.{Name}
use Rattle.st_il.specs.Definitions.{syntaxes, clauses_in, clauses_of, clauses_from}
use Rattle.st_semantics.specs.Environments.{EnvOk, AgreeOn, TypedIn, listed_in}
use Rattle.st_semantics.specs.Evaluation.{Answers, tasks, Gives}
use Rattle.st_semantics.specs.Variables.{vars_of, prem_vars, prems_vars}
use Rattle.st_semantics.specs.Patterns.{is_pattern}
use Rattle.st_semantics.specs.Holding as h
use Rattle.st_semantics.specs.Holding.{Meaning, value_by, HaveValues, Instance, instances, Derives, HoldAll}
use Rattle.st_semantics.specs.Depth.{Setting}
use Rattle.st_semantics.specs.Reaching.{MeetsAmong, bound_behind}
use Rattle.st_semantics.specs.Calls.{no_goal, in_clause, Chosen, TooDeep, Decides, CallAt, ValueAt}
use Rattle.st_semantics.proofs.Names.{Within, within-left, within-right, within-both, no_names}
use Rattle.st_semantics.proofs.Agree.{Local, value_by-local, HaveValues-agree, HoldAll-agree, instances-agree}
use Rattle.st_semantics.proofs.Depths.{Refines, value_not_deep, Gives-up, Likely, likely, likely_then, likely_map, decided, Lowers, Gives-down, Gives-deep}
use Rattle.st_semantics.proofs.Holding.{HaveValues-map, HoldAll-map}
use Rattle.st_semantics.proofs.Restrict.{restricted, agree_picked, ok_restricted, typed_in, typed_of, listed_twice, listed_same}
use Rattle.st_semantics.proofs.Runs.{Runs}
use Rattle.st_semantics.proofs.Premises.{without-parts, Falls, falls_by, Holds-down, Meets-down, HaveValues-pattern}

-- The heads of a body are patterns, and each of its premises can be met at its place.
pub record CanRun (D : Derives) (ls : List Listed) (heads : List IlExp) (ps : List IlPrem) : Type 0 where
  pub premises : (before : List IlPrem) (p : IlPrem) (after : List IlPrem) → ps ≡ before ++ p ∷ after → Runs D (bound_behind heads before) ls p

pub prems_vars-append : (ps qs : List IlPrem) → prems_vars (ps ++ qs) ≡ prems_vars ps ++ prems_vars qs
prems_vars-append [] qs = refl
prems_vars-append (p ∷ ps) qs = ap (λ z. prem_vars p ++ z) (prems_vars-append ps qs) ∙ sym (append_assoc (prem_vars p) (prems_vars ps) (prems_vars qs))

-- the names that are bound behind one more premise
pub bound_more : (heads : List IlExp) (earlier : List IlPrem) (p : IlPrem) (top : List Name) → Within (bound_behind heads earlier) top → Within (prem_vars p) top → Within (bound_behind heads (earlier ++ (p ∷ []))) top
bound_more heads earlier p top we wp =
    subst (λ z. Within z top)
    (append_assoc (vars_of heads) (prems_vars earlier) (prem_vars p ++ []) ∙ ap (λ z. vars_of heads ++ z) (sym (prems_vars-append earlier (p ∷ []))))
    (within-both (bound_behind heads earlier) (prem_vars p ++ []) top we (within-both (prem_vars p) [] top wp (no_names top)))

pub append_hold : {V : Meaning} {O : Type 0} {D : Derives} (env : Env) (ps qs : List IlPrem) → HoldAll V O D (instances env ps) → HoldAll V O D (instances env qs) → HoldAll V O D (instances env (ps ++ qs))
append_hold env [] qs a b = b
append_hold env (p ∷ ps) qs (h.more x xs) b = h.more x (append_hold env ps qs xs b)

pub hold_first : {V : Meaning} {O : Type 0} {D : Derives} (at : Instance) (rest : List Instance) → HoldAll V O D (at ∷ rest) → h.Holds V O D at.0 at.1 × HoldAll V O D rest
hold_first at rest (h.more x xs) = (x, xs)

-- In a body that can be met in this order, the premises hold where calls come to less, or one meets
-- Deep there.
module _ (s : Setting) (V : Meaning) (falls : Falls (syntaxes s.il) s.calls V) (lift : (env : Env) (e : IlExp) (v : Value) → Gives (syntaxes s.il) s.calls env e (Val v) → s.meaning env e v) (allowed : s.otherwise)
    (local : Local s.meaning) (D : Derives) (ls : List Listed) (heads : List IlExp) (all : List IlPrem) (runs : CanRun D ls heads all) (vs : List Value) where
  -- an environment that is typed at what is listed of these names
  abbrev pub FitsTo : List Name → Env → Type 0
  FitsTo top env = (few : List Name) → Within few top → EnvOk (syntaxes s.il) (listed_in few ls) (restricted few env) × TypedIn (syntaxes s.il) ls few env

  abbrev LowAll : List Instance → Type 0
  LowAll ps = HoldAll (value_by (syntaxes s.il) s.calls) (Unit {0}) no_goal ps

  pub premises_down : {O : Type 0} (env : Env) → HaveValues s.meaning (tasks env heads) vs → (top : List Name) → FitsTo top env
      → (ps earlier after : List IlPrem) → all ≡ earlier ++ (ps ++ after) → Within (bound_behind heads earlier) top → Within (prems_vars ps) top
      → LowAll (instances env earlier) → HoldAll V O D (instances env ps)
      → Likely (LowAll (instances env ps) ⊎ MeetsAmong s ls heads vs all)
  premises_down env pats top fit [] earlier after eq we wp hc hd = likely (inl h.done)
  premises_down env pats top fit (p ∷ ps) earlier after eq we wp hc hd =
      let two = hold_first (env, p) (instances env ps) hd in
      let bound : List Name = bound_behind heads earlier in
      let less : Env = restricted bound env in
      let agree : AgreeOn bound less env = agree_picked bound env in
      let first : Within (prem_vars p) top = λ y j. wp y (within-left (prem_vars p) (prems_vars ps) y j) in
      let wider : Within (bound_behind heads (earlier ++ (p ∷ []))) top = bound_more heads earlier p top we first in
      likely_then (Holds-down s V falls lift allowed two.0 bound ls (runs.premises earlier p (ps ++ after) eq) (λ x i l at. (fit (prem_vars p) first).1 x (without-parts bound (prem_vars p) x i).1 l at) less agree) (elim [
        | inl a ↦ likely_map (elim [ inl b ↦ inl (h.more a b) | inr t ↦ inr t ])
            (premises_down env pats top fit ps (earlier ++ (p ∷ [])) after (eq ∙ sym (append_assoc earlier (p ∷ []) (ps ++ after))) wider (λ y j. wp y (within-right (prem_vars p) (prems_vars ps) y j))
            (append_hold env earlier (p ∷ []) hc (h.more a h.done)) two.1)
        | inr m ↦ likely (inr (record {
          before = earlier;
          premise = p;
          after = ps ++ after;
          split = eq;
          env = less;
          reached = record {
            typed = (fit bound we).0;
            heads_are = HaveValues-agree s.meaning local heads vs env less (λ x i. sym (agree x (within-left (vars_of heads) (prems_vars earlier) x i))) pats;
            hold = HoldAll-map (value_by (syntaxes s.il) s.calls) s.meaning lift no_goal s.derives (λ r us bad. absurd bad) (λ o. allowed)
                (HoldAll-agree (value_by (syntaxes s.il) s.calls) (value_by-local (syntaxes s.il) s.calls) (Unit {0}) no_goal hc (instances less earlier)
                (instances-agree earlier env less (λ x i. sym (agree x (within-right (vars_of heads) (prems_vars earlier) x i)))));
          };
          deep = m;
        }))
      ])

  -- an environment of all the variables fits to all names
  pub fits_all : (env : Env) → EnvOk (syntaxes s.il) ls env → (top : List Name) → FitsTo top env
  fits_all env ok top few w = (ok_restricted (syntaxes s.il) few ls env ok, typed_in (syntaxes s.il) ls env ok few)

  -- so does one of the variables behind some premises
  pub fits_behind : (env : Env) (top : List Name) → EnvOk (syntaxes s.il) (listed_in top ls) env → FitsTo top env
  fits_behind env top ok few w = (
    subst (λ z. EnvOk (syntaxes s.il) z (restricted few env)) (listed_twice few top ls w) (ok_restricted (syntaxes s.il) few (listed_in top ls) env ok),
    λ x i l e. typed_of (syntaxes s.il) (listed_in top ls) env ok x l (sym (listed_same top ls x (w x i)) ∙ e),
  )

  heads_within : (top : List IlPrem) → Within (bound_behind heads []) (bound_behind heads top)
  heads_within top = within-both (vars_of heads) [] (bound_behind heads top) (within-left (vars_of heads) (prems_vars top)) (no_names (bound_behind heads top))

  -- all premises from the first on, of which some are left
  pub body_down : {O : Type 0} (env : Env) → HaveValues s.meaning (tasks env heads) vs → (ps after : List IlPrem) → all ≡ ps ++ after → FitsTo (bound_behind heads ps) env
      → HoldAll V O D (instances env ps) → Likely (LowAll (instances env ps) ⊎ MeetsAmong s ls heads vs all)
  body_down env pats ps after eq fit hd =
      premises_down env pats (bound_behind heads ps) fit ps [] after eq (heads_within ps) (within-right (vars_of heads) (prems_vars ps)) h.done hd

-- ---- clauses

abbrev pub ClauseCanRun : ClauseDef → Type 0
ClauseCanRun c = (list_all is_pattern c.args ≡ true) × CanRun no_goal c.variables c.args c.premises

module _ (il : Il) (C D : Answers) (low : Lowers C D) (c : ClauseDef) (can : ClauseCanRun c) (args : List Value) where
  abbrev falls : Falls (syntaxes il) C (value_by (syntaxes il) D)
  falls = falls_by (syntaxes il) C D low

  args_down : (env : Env) → HaveValues (value_by (syntaxes il) D) (tasks env c.args) args → HaveValues (value_by (syntaxes il) C) (tasks env c.args) args
  args_down env have = HaveValues-pattern (in_clause il C) (value_by (syntaxes il) D) falls env c.args args can.0 have

  pub chosen_down : (env : Env) → Chosen il D c args env → Likely (Chosen il C c args env ⊎ TooDeep il C c args)
  chosen_down env ch =
      let pats = args_down env ch.heads_are in
      likely_map (elim [ inl a ↦ inl (record { typed = ch.typed; heads_are = pats; hold = a }) | inr t ↦ inr t ])
      (body_down (in_clause il C) (value_by (syntaxes il) D) falls (λ env e v g. g) tt (value_by-local (syntaxes il) C) no_goal c.variables c.args c.premises can.1 args env pats c.premises [] (sym (append-nil c.premises))
      (fits_all (in_clause il C) (value_by (syntaxes il) D) falls (λ env e v g. g) tt (value_by-local (syntaxes il) C) no_goal c.variables c.args c.premises can.1 args env ch.typed (bound_behind c.args c.premises)) ch.hold)

  pub too_deep_down : TooDeep il D c args → Likely (TooDeep il C c args)
  too_deep_down t =
      let pats = args_down t.env t.reached.heads_are in
      likely_then
      (body_down (in_clause il C) (value_by (syntaxes il) D) falls (λ env e v g. g) tt (value_by-local (syntaxes il) C) no_goal c.variables c.args c.premises can.1 args t.env pats t.before (t.premise ∷ t.after) t.split
      (fits_behind (in_clause il C) (value_by (syntaxes il) D) falls (λ env e v g. g) tt (value_by-local (syntaxes il) C) no_goal c.variables c.args c.premises can.1 args t.env (bound_behind c.args t.before) t.reached.typed) t.reached.hold) (elim [
        | inl a ↦ likely_map (λ m. record { before = t.before; premise = t.premise; after = t.after; split = t.split; env = t.env; reached = record { typed = t.reached.typed; heads_are = pats; hold = a }; deep = m })
            (Meets-down il C D low t.deep (can.1.premises t.before t.premise t.after t.split))
        | inr d ↦ likely d
      ])

  pub chosen_up : Refines C D → (env : Env) → Chosen il C c args env → Chosen il D c args env
  chosen_up up env ch = record {
    typed = ch.typed;
    heads_are = HaveValues-map (value_by (syntaxes il) C) (value_by (syntaxes il) D) (λ env e v g. Gives-up (syntaxes il) C D up (value_not_deep v) g) (tasks env c.args) args ch.heads_are;
    hold = HoldAll-map (value_by (syntaxes il) C) (value_by (syntaxes il) D) (λ env e v g. Gives-up (syntaxes il) C D up (value_not_deep v) g) no_goal no_goal (λ r us d. d) (λ o. o) ch.hold;
  }

abbrev pub AllCanRun : List ClauseDef → Type 0
AllCanRun [] = Unit {0}
AllCanRun (c ∷ cs) = ClauseCanRun c × AllCanRun cs

module _ (il : Il) (C D : Answers) (up : Refines C D) (low : Lowers C D) (args : List Value) where
  decides_down : (cs : List ClauseDef) (o : Outcome) → AllCanRun cs → Decides il D cs args o → Likely (Decides il C cs args o ⊎ Decides il C cs args Deep)
  decides_down [] o r d = likely (inl d)
  decides_down (c ∷ cs) o r (inl d) = likely_then (chosen_down il C D low c r.0 args d.0 d.1) (elim [
    | inl ch ↦ likely_map (elim [ inl g ↦ inl (inl (d.0, ch, g)) | inr g ↦ inr (inl (d.0, ch, g)) ]) (Gives-down (syntaxes il) C D low d.2)
    | inr t ↦ likely (inr (inr (inl (t, refl))))
  ])
  decides_down (c ∷ cs) o r (inr (inl d)) = likely_map (λ t. inr (inr (inl (t, refl)))) (too_deep_down il C D low c r.0 args d.0)
  decides_down (c ∷ cs) o r (inr (inr d)) = likely_then (decided (TooDeep il C c args)) (elim [
    | inl t ↦ likely (inr (inr (inl (t, refl))))
    | inr fine ↦
        let none : (env : Env) → Chosen il C c args env → ⊥ = λ env ch. d.0 env (chosen_up il C D low c r.0 args up env ch) in
        likely_map (elim [ inl a ↦ inl (inr (inr (none, fine, a))) | inr a ↦ inr (inr (inr (none, fine, a))) ]) (decides_down cs o r.1 d.2)
  ])

  decides_up : (cs : List ClauseDef) (o : Outcome) → AllCanRun cs → (o ≡ Deep → ⊥) → Decides il C cs args o → Decides il D cs args o
  decides_up [] o r n d = d
  decides_up (c ∷ cs) o r n (inl d) = inl (d.0, chosen_up il C D low c r.0 args up d.0 d.1, Gives-up (syntaxes il) C D up n d.2)
  decides_up (c ∷ cs) o r n (inr (inl d)) = absurd (n d.1)
  decides_up (c ∷ cs) o r n (inr (inr d)) = inr (inr (
    λ env ch. chosen_down il C D low c r.0 args env ch (elim [ inl a ↦ d.0 env a | inr t ↦ d.1 t ]),
    λ t. too_deep_down il C D low c r.0 args t d.1,
    decides_up cs o r.1 n d.2,
  ))

clauses_can_run : (cs : List ClauseDef) (fun : Name) → AllCanRun cs → AllCanRun (clauses_from fun cs)
clauses_can_run [] fun r = tt
clauses_can_run (c ∷ cs) fun r = go (clauses_can_run cs fun r.1) (bytes_eq fun c.fun)
  where
    go : AllCanRun (clauses_from fun cs) → (b : Bool) → AllCanRun (if b then c ∷ clauses_from fun cs else clauses_from fun cs)
    go ih true = (r.0, ih)
    go ih false = ih

module _ (il : Il) (runs : AllCanRun (clauses_in il.defs)) where
  -- one depth more
  abbrev Step : ℕ → Type 0
  Step n = Refines (CallAt il n) (CallAt il (suc n)) × Lowers (CallAt il n) (CallAt il (suc n))

  step : (n : ℕ) → Step n
  step zero = (λ f xs o c k. absurd (k c), λ f xs o c. likely (inr refl))
  step (suc n) =
      let ih : Step n = step n in (
        λ f xs o c k. decides_up il (CallAt il n) (CallAt il (suc n)) ih.0 ih.1 xs (clauses_of il f) o (clauses_can_run (clauses_in il.defs) f runs) k c,
        λ f xs o c. decides_down il (CallAt il n) (CallAt il (suc n)) ih.0 ih.1 xs (clauses_of il f) o (clauses_can_run (clauses_in il.defs) f runs) c,
      )

  -- larger depths
  pub up_to : (n m : ℕ) → n ≤ m → Refines (CallAt il n) (CallAt il m)
  up_to n zero le = subst (λ z. Refines (CallAt il z) (CallAt il zero)) (same n le) (λ f xs o c k. c)
    where
      same : (n : ℕ) → n ≤ zero → zero ≡ n
      same n le = omega (arith, le)
  up_to n (suc m) le = elim (eq-or-lt_of_le le) [
    | inl e ↦ subst (λ z. Refines (CallAt il n) (CallAt il z)) e (λ f xs o c k. c)
    | inr lt ↦ λ f xs o c k. (step m).0 f xs o (up_to n m (le_of_suc-le-suc lt) f xs o c k) k
  ]

  -- smaller depths
  pub down_to : (n m : ℕ) → n ≤ m → Lowers (CallAt il n) (CallAt il m)
  down_to n zero le = subst (λ z. Lowers (CallAt il z) (CallAt il zero)) (same n le) (λ f xs o c. likely (inl c))
    where
      same : (n : ℕ) → n ≤ zero → zero ≡ n
      same n le = omega (arith, le)
  down_to n (suc m) le = elim (eq-or-lt_of_le le) [
    | inl e ↦ subst (λ z. Lowers (CallAt il n) (CallAt il z)) e (λ f xs o c. likely (inl c))
    | inr lt ↦ λ f xs o c. likely_then ((step m).1 f xs o c) (elim [
      | inl a ↦ down_to n m (le_of_suc-le-suc lt) f xs o a
      | inr a ↦ likely_map (elim [ inl b ↦ inr b | inr b ↦ inr b ]) (down_to n m (le_of_suc-le-suc lt) f xs Deep a)
    ])
  ]

  pub value_stable : (n m : ℕ) → n ≤ m → (env : Env) (e : IlExp) (o : Outcome) → ValueAt il n env e o → (o ≡ Deep → ⊥) → ValueAt il m env e o
  value_stable n m le env e o g k = Gives-up (syntaxes il) (CallAt il n) (CallAt il m) (up_to n m le) k g

  pub deep_below : (n m : ℕ) → n ≤ m → (env : Env) (e : IlExp) → ValueAt il m env e Deep → (ValueAt il n env e Deep → ⊥) → ⊥
  deep_below n m le env e g = Gives-deep (syntaxes il) (CallAt il n) (CallAt il m) (down_to n m le) g
