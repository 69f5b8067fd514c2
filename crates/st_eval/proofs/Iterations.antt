-- An iterated premise that is met: its count, its elements, and what they bind.
use Rattle.std.proofs.Common.{◌≡◌, ℕ, sym, ◌∙◌, ap, List, [], ◌∷◌, ◌++◌, ◌⊎◌, inl, inr, true, false}
use Rattle.st_il.specs.declared.definition.Il.{Il}
use Rattle.st_il.specs.declared.definition.Listed.{Listed}
use Rattle.st_il.specs.declared.definition.SyntaxDef.{SyntaxDef}
use Rattle.st_il.specs.declared.expression.IlExp.{IlExp}
use Rattle.st_il.specs.declared.expression.IlPrem.{IlPrem, out-IlPrem}
use Rattle.st_il.specs.declared.expression.IlPrem.TheOpen.{IlPrem-F}
use Rattle.st_il.specs.declared.expression.Iteration.{Iteration}
use Rattle.st_il.specs.declared.value.Env.{Env}
use Rattle.st_il.specs.declared.value.Value.{Value}
use Rattle.st_semantics.specs.declared.outcome.Outcome.{Outcome}
use Rattle.st_semantics.specs.declared.outcome.Outcome.TheVariants.{Val, NoValue, Deep}
use Rattle.st_semantics.specs.declared.outcome.Outcomes.TheVariants.{Values, Stopped}
use Rattle.st_il.specs.Names.{Name, has_name, among, without}
use Rattle.st_il.specs.Definitions.{syntaxes}
use Rattle.st_semantics.specs.Environments.{AgreeOn, TypedIn}
use Rattle.st_semantics.specs.Parts.{given}
use Rattle.st_semantics.specs.Forms.{form_at, by_itself}
use Rattle.st_semantics.specs.Iterations.{count_of, index_of, spread, Spread, Misfit, Over, gathered}
use Rattle.st_semantics.specs.Scopes.{listed_inside}
use Rattle.st_semantics.specs.Evaluation.{Answers, tasks, GivesAll, variable}
use Rattle.st_semantics.specs.Variables.{prem_vars, cites}
use Rattle.st_semantics.specs.Holding as h
use Rattle.st_semantics.specs.Holding.{value_by, HaveValues, AreElements, each_instance, HoldAll}
use Rattle.st_semantics.specs.Depth as d
use Rattle.st_semantics.specs.Depth.{bound_count, ValuesAt, AllTypedIn, Passed, Unfolds}
use Rattle.st_semantics.specs.Calls.{no_goal, in_clause, CallAt}
use Rattle.st_semantics.specs.Laws.{CallsAreSingle}
use Rattle.st_semantics.proofs.Names.{within-right, known-within, true_false}
use Rattle.st_semantics.proofs.Agree.{EnvsAgree, value_by-local, Holds-agree, HoldAll-agree, each_instance-agree}
use Rattle.st_semantics.proofs.Singles.{IsSingle, Gives-single, GivesAll-single}
use Rattle.st_semantics.proofs.Acceptance.{cites-level}
use Rattle.st_semantics.proofs.Values.{gives_values}
use Rattle.st_semantics.proofs.Premises.{without-parts, inner_typed}
use Rattle.st_semantics.proofs.Clauses.{hold_first}
use Rattle.st_semantics.proofs.Inverse.{holds_each}
use Rattle.st_semantics.proofs.Bindings.{BindsInside, binds_inside, class_binds, Binds-wider}
use Rattle.st_semantics.proofs.Choice.{holds_not_deep}
use Rattle.st_eval.specs.Steps.{value_at, HoldsAt, MeetsAt, HasOnly, HoldsWith, Fails}
use Rattle.st_eval.specs.Elements.{IsEach, GoesOver, AllHoldWith, Gathers, LawOfCounts, LawOfElements, LawOfGathering}
use Rattle.st_eval.proofs.Trying.{only_low, Meets-agree}
use Rattle.st_eval.proofs.Unfolded.{IsUnfolded, IsPlain, Spreads, Met, met, inside_listed, bound_values, known_over, known, element_meets, height_meets, made}

misfit_over : (s : Spread) (envs : List Env) → s ≡ Misfit → s ≡ Over envs → ⊥
misfit_over s envs p q = let bad : Misfit ≡ Over envs = sym p ∙ q in cc

values_stop : (vs : List Value) (o : Outcome) → Values vs ≡ Stopped o → ⊥
values_stop vs o e = cc

-- where calls come to one outcome at most, so do expressions
pub plain_by : (defs : List SyntaxDef) (C : Answers) → IsSingle C → IsPlain (value_by defs C)
plain_by defs C single = record {
  local = value_by-local defs C;
  single = λ env e v w g k. let both : Val v ≡ Val w = Gives-single defs C single env e (Val v) (Val w) g k in cc;
  named = λ env e x v is here. variable x (by_itself (ap form_at is)) (sym (ap given here));
}

module _ (il : Il) (bound : List Name) (ls : List Listed) (p : IlPrem) (how : Iteration) (xs : List Name) (body : IlPrem) (each : IsEach il bound ls p how xs body) where
  pub binding : BindsInside bound how xs body
  binding = binds_inside (Binds-wider (class_binds il each.names_occurring each.few each.class each.executable each.one_open) bound (known-within bound each.few each.within)) how xs body each.is

  pub iterates : IsUnfolded bound ls p how xs body
  iterates = record { is = each.is; binds = binding.0; listed = each.listed; apart = each.apart }

module _ (il : Il) (single : CallsAreSingle il) (n : ℕ) (bound : List Name) (ls : List Listed) (env : Env) (p : IlPrem) (how : Iteration) (xs : List Name) (body : IlPrem) (each : IsEach il bound ls p how xs body) where
  -- what is bound inside, and the variables as they are listed there
  abbrev Inside : List Name
  Inside = index_of how ++ bound

  abbrev Scope : List Listed
  Scope = listed_inside how xs ls

  abbrev New : List Name
  New = without Inside (prem_vars body)

  plain : IsPlain (value_at il n)
  plain = plain_by (syntaxes il) (CallAt il n) (single n)

  around : IsUnfolded bound ls p how xs body
  around = iterates il bound ls p how xs body each

  body_free : (relation : Name) (es : List IlExp) → out-IlPrem body ≡ IlPrem-F.Goal relation es → ⊥
  body_free relation es is =
      let inner : cites p ≡ cites body = cites-level p (IlPrem-F.Each how xs body) each.is in
      let goal : cites body ≡ true = cites-level body (IlPrem-F.Goal relation es) is in
      true_false (sym goal ∙ (sym inner ∙ each.without_goal))

  -- where the count is Deep, no bound part of it has values
  count_not_deep : (few : List Value) → HaveValues (value_at il n) (tasks env (bound_count bound how)) few → (o : Outcome) → GivesAll (syntaxes il) (CallAt il n) (tasks env (bound_count bound how)) (Stopped o) → ⊥
  count_not_deep few hf o stops =
      values_stop few o (GivesAll-single (syntaxes il) (CallAt il n) (single n) (tasks env (bound_count bound how)) (Values few) (Stopped o) (gives_values (syntaxes il) (CallAt il n) (tasks env (bound_count bound how)) few hf) stops)

  -- ---- what it meets

  abbrev pub ElementsIn : Env → List Env → Type 0
  ElementsIn more envs = AreElements (value_at il n) how xs more envs

  pub met_at : MeetsAt il n bound ls env p → Met (in_clause il (CallAt il n)) bound ls env p how xs body each.is how xs body
  met_at m = met (in_clause il (CallAt il n)) bound ls env p how xs body each.is m

  -- where nothing makes it unfold, it fails
  no_unfolding : ((more : Env) → AgreeOn bound env more → (envs : List Env) → ElementsIn more envs → ⊥) → (GivesAll (syntaxes il) (CallAt il n) (tasks env (bound_count bound how)) (Stopped Deep) → ⊥) → Fails il n bound ls env p
  no_unfolding none fine = record {
    never = λ more g typed hold. let s = holds_each (value_at il n) (Unit {0}) no_goal more p how xs body hold each.is in none more g s.0 s.1;
    not_deep = λ m. elim (met_at m) [
      | inl deep ↦ fine deep
      | inr other ↦ elim (other) [
        | inl e ↦ none e.3.more e.3.agrees (e.0 ++ e.1 ∷ e.2) e.3.elements
        | inr t ↦ none t.unfolds.more t.unfolds.agrees t.envs t.unfolds.elements
      ]
    ];
  }

  pub counts_deep : GivesAll (syntaxes il) (CallAt il n) (tasks env (bound_count bound how)) (Stopped Deep) → MeetsAt il n bound ls env p
  counts_deep deep = d.here (d.count how xs body each.is deep)

  pub counts_none : GivesAll (syntaxes il) (CallAt il n) (tasks env (bound_count bound how)) (Stopped NoValue) → Fails il n bound ls env p
  counts_none stops = no_unfolding
      (λ more g envs el. let few = bound_values il bound ls p how xs body around (value_at il n) plain env more g (count_of how) el.0 el.1 in count_not_deep few.0 few.1 NoValue stops)
      (λ deep. let bad : Stopped NoValue ≡ Stopped Deep = GivesAll-single (syntaxes il) (CallAt il n) (single n) (tasks env (bound_count bound how)) (Stopped NoValue) (Stopped Deep) stops deep in cc)

  pub counts_misfit : (count : List Value) → HaveValues (value_at il n) (tasks env (bound_count bound how)) count → spread how (among bound xs) env count ≡ Misfit → Fails il n bound ls env p
  counts_misfit count hf misfit = no_unfolding
      (λ more g envs el.
      let k = known_over il bound ls p how xs body around (value_at il n) plain env count hf more g envs el in
      misfit_over (spread how (among bound xs) env count) k.0 misfit k.1)
      (λ deep. count_not_deep count hf Deep deep)

  -- ---- the elements

  goes_over : (elements : List Env) → GoesOver il n bound env how xs elements → Spreads (value_at il n) bound env how xs elements
  goes_over elements goes = record { count = goes.count; counted = goes.counted; over = goes.over }

  module _ (elements : List Env) (goes : GoesOver il n bound env how xs elements) where
    -- every environment with more variables has elements that agree on what is bound
    pub known_at : (more : Env) → AgreeOn bound env more → (envs : List Env) → ElementsIn more envs → EnvsAgree Inside elements envs
    known_at more g envs el = known il bound ls p how xs body around (value_at il n) plain env elements (goes_over elements goes) more g envs el

    pub not_deep_count : GivesAll (syntaxes il) (CallAt il n) (tasks env (bound_count bound how)) (Stopped Deep) → ⊥
    not_deep_count deep = count_not_deep goes.count goes.counted Deep deep

  -- what was found agrees with what was bound, is typed, and holds
  found_agree : (elements found : List Env) → AllHoldWith il n Inside Scope body elements found → EnvsAgree Inside elements found
  found_agree [] [] all = tt
  found_agree [] (f ∷ fs) all = absurd all
  found_agree (e ∷ es) [] all = absurd all
  found_agree (e ∷ es) (f ∷ fs) all = (all.0.agrees, found_agree es fs all.1)

  found_typed : (elements found : List Env) → AllHoldWith il n Inside Scope body elements found → AllTypedIn il Scope New found
  found_typed [] [] all = tt
  found_typed [] (f ∷ fs) all = absurd all
  found_typed (e ∷ es) [] all = absurd all
  found_typed (e ∷ es) (f ∷ fs) all =
      (λ x i l at. all.0.variables.typed x (within-right Inside (prem_vars body) x (without-parts Inside (prem_vars body) x i).1) l at, found_typed es fs all.1)

  found_hold : (elements found : List Env) → AllHoldWith il n Inside Scope body elements found → HoldAll (value_at il n) (Unit {0}) no_goal (each_instance found body)
  found_hold [] [] all = h.done
  found_hold [] (f ∷ fs) all = absurd all
  found_hold (e ∷ es) [] all = absurd all
  found_hold (e ∷ es) (f ∷ fs) all = h.more all.0.holds (found_hold es fs all.1)

  -- an element that agrees with a given one, where the premise holds
  abbrev Partner : Env → Type 0
  Partner at = (e : Env) × AgreeOn Inside at e × TypedIn (syntaxes il) Scope New e × HoldsAt il n e body

  partner : (before : List Env) (at : Env) (after envs : List Env) → EnvsAgree Inside (before ++ at ∷ after) envs → AllTypedIn il Scope New envs → HoldAll (value_at il n) (Unit {0}) no_goal (each_instance envs body) → Partner at
  partner [] at after [] g t hold = absurd g
  partner [] at after (e ∷ es) g t hold = (e, g.0, t.0, (hold_first (e, body) (each_instance es body) hold).0)
  partner (b ∷ before) at after [] g t hold = absurd g
  partner (b ∷ before) at after (e ∷ es) g t hold = partner before at after es g.1 t.1 (hold_first (e, body) (each_instance es body) hold).1

  -- an element, beside one of as many elements before which the premise holds
  abbrev Beside : Env → Env → Type 0
  Beside at other = AgreeOn Inside at other ⊎ Partner at ⊎ ((r : Env) × (found : Env) × HoldsWith il n Inside Scope r body found × AgreeOn Inside r other)

  beside : (before found : List Env) (at : Env) (after bs : List Env) (other : Env) (cs : List Env) → EnvsAgree Inside (before ++ at ∷ after) (bs ++ other ∷ cs) → AllHoldWith il n Inside Scope body before found
      → AllTypedIn il Scope New bs → HoldAll (value_at il n) (Unit {0}) no_goal (each_instance bs body) → Beside at other
  beside [] found at after [] other cs g all t hold = inl g.0
  beside [] found at after (b ∷ bs) other cs g all t hold = inr (inl (b, g.0, t.0, (hold_first (b, body) (each_instance bs body) hold).0))
  beside (r ∷ before) [] at after bs other cs g all t hold = absurd all
  beside (r ∷ before) (f ∷ found) at after [] other cs g all t hold = inr (inr (r, f, all.0, g.0))
  beside (r ∷ before) (f ∷ found) at after (b ∷ bs) other cs g all t hold = beside before found at after bs other cs g.1 all.1 t.1 (hold_first (b, body) (each_instance bs body) hold).1

  agree_back : (names : List Name) (a b : Env) → AgreeOn names a b → AgreeOn names b a
  agree_back names a b g x i = sym (g x i)

  module _ (before : List Env) (at : Env) (after found : List Env) (goes : GoesOver il n bound env how xs (before ++ at ∷ after)) (all : AllHoldWith il n Inside Scope body before found) where
    -- an element at which it fails
    pub element_fails : Fails il n Inside Scope at body → Fails il n bound ls env p
    element_fails fails = record {
      never = λ more g typed hold.
          let s = holds_each (value_at il n) (Unit {0}) no_goal more p how xs body hold each.is in
          let t : AllTypedIn il Scope New s.0 = inner_typed bound p how xs body each.is il ls more s.1.0 s.0 each.kinded typed s.1.2 in
          let e : Partner at = partner before at after s.0 (known_at (before ++ at ∷ after) goes more g s.0 s.1) t s.2 in
          fails.never e.0 e.1 e.2 e.3;
      not_deep = λ m. elim (met_at m) [
        | inl deep ↦ not_deep_count (before ++ at ∷ after) goes deep
        | inr other ↦ elim (other) [
          | inl e ↦ at_element e.0 e.1 e.2 e.3 e.4 e.5
          | inr t ↦ (
              let e : Partner at = partner before at after t.envs (known_at (before ++ at ∷ after) goes t.unfolds.more t.unfolds.agrees t.envs t.unfolds.elements) t.passed.typed t.passed.hold in
              fails.never e.0 e.1 e.2 e.3)
        ]
      ];
    }
      where
        at_element : (bs : List Env) (other : Env) (cs : List Env) → Unfolds (in_clause il (CallAt il n)) bound how xs env (bs ++ other ∷ cs) → Passed (in_clause il (CallAt il n)) bound ls how xs body bs → MeetsAt il n Inside Scope other body → ⊥
        at_element bs other cs u passed m = by_position (beside before found at after bs other cs (known_at (before ++ at ∷ after) goes u.more u.agrees (bs ++ other ∷ cs) u.elements) all passed.typed passed.hold)
          where
            by_position : Beside at other → ⊥
            by_position (inl g) = fails.not_deep (Meets-agree il (CallAt il n) m body_free at (agree_back Inside at other g))
            by_position (inr (inl e)) = fails.never e.0 e.1 e.2 e.3
            by_position (inr (inr e)) =
                holds_not_deep il (CallAt il n) (single n) m e.1 (binding il bound ls p how xs body each).1
                (only_low il Scope (Inside ++ prem_vars body) e.1 (inside_listed il bound ls p how xs body around) e.2.variables)
                (λ x i. sym (e.3 x i) ∙ e.2.agrees x i) e.2.holds

  module _ (before : List Env) (at : Env) (after found : List Env) (goes : GoesOver il n bound env how xs (before ++ at ∷ after)) (all : AllHoldWith il n Inside Scope body before found) where
    -- an element at which it meets Deep
    pub element_deep : MeetsAt il n Inside Scope at body → MeetsAt il n bound ls env p
    element_deep m =
        element_meets (in_clause il (CallAt il n)) plain bound ls env p how xs body around before at after found (goes_over (before ++ at ∷ after) goes) (found_agree before found all) (found_typed before found all) (found_hold before found all)
        (λ here g. Meets-agree il (CallAt il n) m body_free here g)

  -- ---- all elements

  module _ (elements found : List Env) (goes : GoesOver il n bound env how xs elements) (all : AllHoldWith il n Inside Scope body elements found) where
    -- what is too high
    pub gathered_deep : (x : Name) (vs : List Value) → has_name bound x ≡ false → has_name xs x ≡ true → ValuesAt x found vs → gathered how vs ≡ Deep → MeetsAt il n bound ls env p
    gathered_deep x vs unbound i at deep =
        height_meets (in_clause il (CallAt il n)) plain bound ls env p how xs body around elements found (goes_over elements goes) (found_agree elements found all) (found_typed elements found all) (found_hold elements found all)
        x vs unbound i at deep

    -- what is gathered
    pub gathered_holds : (other : Env) → Gathers bound env how xs found other → HasOnly il ls (bound ++ prem_vars p) other → HoldsWith il n bound ls env p other
    gathered_holds other g only =
        let m = made il bound ls p how xs body around (value_at il n) plain env elements found (goes_over elements goes) (found_agree elements found all) (found_typed elements found all) in
        record {
          agrees = g.agrees;
          variables = only;
          holds = Holds-agree (value_at il n) (value_by-local (syntaxes il) (CallAt il n)) (Unit {0}) no_goal
              (h.each how xs body m.2 each.is m.3
              (HoldAll-agree (value_at il n) (value_by-local (syntaxes il) (CallAt il n)) (Unit {0}) no_goal (found_hold elements found all) (each_instance m.2 body) (each_instance-agree body found m.2 m.4)))
              other (m.5 other g);
        }

pub law_of_counts : (il : Il) → CallsAreSingle il → LawOfCounts il
law_of_counts il single n bound ls env p how xs body each =
    (counts_deep il single n bound ls env p how xs body each, counts_none il single n bound ls env p how xs body each, counts_misfit il single n bound ls env p how xs body each)

pub law_of_elements : (il : Il) → CallsAreSingle il → LawOfElements il
law_of_elements il single n bound ls env p how xs body each before at after found goes all =
    (element_fails il single n bound ls env p how xs body each before at after found goes all, element_deep il single n bound ls env p how xs body each before at after found goes all)

pub law_of_gathering : (il : Il) → CallsAreSingle il → LawOfGathering il
law_of_gathering il single n bound ls env p how xs body each elements found goes all =
    (gathered_holds il single n bound ls env p how xs body each elements found goes all, gathered_deep il single n bound ls env p how xs body each elements found goes all)
