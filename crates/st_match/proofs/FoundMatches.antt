-- What is found among the candidates of patterns is what matches them.
use Rattle.std.proofs.Common.{◌≡◌, ◌↔◌, ℕ, ◌+◌, ◌<◌, ◌≤◌, refl, sym, ◌∙◌, ap, subst, List, [], ◌∷◌, ◌++◌, map, length, take, get_or, inl, inr, Bool, true, false, Option, Some, arith}
use Rattle.std.specs.Prelude.{◌≢◌, IsTrue, AllPairs, Contains}
use Rattle.std.specs.List.{All, list_all}
use Rattle.std.specs.Ordering.{is_lt}
use Rattle.std.proofs.lemmas.List.{take_more, take_all}
use Rattle.std.proofs.lemmas.List.Elements.{Contains-get_or, Contains-append_left, Contains-push, Contains-push_cases}
use Rattle.st_il.specs.declared.definition.Listed.{Listed}
use Rattle.st_il.specs.declared.definition.SyntaxDef.{SyntaxDef}
use Rattle.st_il.specs.declared.expression.IlExp.{IlExp}
use Rattle.st_il.specs.declared.value.Env.{Env}
use Rattle.st_il.specs.declared.value.Value.{Value}
use Rattle.st_il.specs.Order.{text_cmp}
use Rattle.st_semantics.specs.declared.outcome.Outcome.{Outcome}
use Rattle.st_semantics.specs.declared.outcome.Outcome.TheVariants.{Val, NoValue, Deep}
use Rattle.st_il.specs.Names.{Name, flattened, has_name, all_known}
use Rattle.st_semantics.specs.Environments.{Entry, value_in, names_of}
use Rattle.st_semantics.specs.Evaluation.{Gives}
use Rattle.st_semantics.specs.Matching.{no_answers}
use Rattle.st_semantics.specs.Variables.{vars_of}
use Rattle.st_semantics.specs.Patterns.{is_pattern, binds}
use Rattle.st_semantics.proofs.Names.{within-left, within-cases, known-within, or-right, true_false}
use Rattle.st_semantics.proofs.Low.{name_there}
use Rattle.st_semantics.proofs.Singles.{Gives-single}
use Rattle.st_match.specs.declared.matching.Sought.{Sought}
use Rattle.st_match.specs.inner.Fitting.{Fits}
use Rattle.st_match.specs.inner.Covering.{OneOf, Stands, joined, all_bound, AreCandidatesOfAll}
use Rattle.st_match.specs.inner.Names.{AreOrdered}
use Rattle.st_match.specs.inner.Types.{HasAsked, asked_of}
use Rattle.st_match.specs.inner.Assembly.{first_value, value_of_either}
use Rattle.st_match.specs.inner.Found.{IsExtension, AreExtensions, Suits, IsMade, Adds, AreSuited, AreEachOnce, AreFound}
use Rattle.st_match.proofs.Covers.{OneOf-map, OneOf-left, OneOf-right, OneOf-cases}
use Rattle.st_semantics.proofs.InOrder.{pairs_sorted, sorted_pairs, sorted_equal}
use Rattle.st_match.proofs.Assembled.{value_there, value_nowhere, entries-names, entries-lookup, entries-are}
use Rattle.st_match.proofs.Asked.{asked-typed, typed-asked}

-- ---- the value of the pattern

module _ (defs : List SyntaxDef) (p : IlExp) (env : Env) (v : Value) (o : Outcome) (g : Gives defs no_answers env p o) where
  one_outcome : Fits defs p v env → o ≡ Val v
  one_outcome f = Gives-single defs no_answers (λ fun vs a b x y. absurd x) env p o (Val v) g f

  pub fits-value : (w : Value) (r : Bool) → o ≡ Val w → (IsTrue r ↔ (w ≡ v)) → IsTrue r ↔ Fits defs p v env
  fits-value w r is h = (
    λ e. subst (Gives defs no_answers env p) (is ∙ ap Val (h.0 e)) g,
    λ f. let both : Val w ≡ Val v = sym is ∙ one_outcome f in h.1 cc,
  )

  pub fits-none : o ≡ NoValue → IsTrue false ↔ Fits defs p v env
  fits-none is = (λ e. absurd (true_false (sym e)), λ f. let bad : NoValue ≡ Val v = sym is ∙ one_outcome f in cc)

  pub fits-deep : o ≡ Deep → IsTrue false ↔ Fits defs p v env
  fits-deep is = (λ e. absurd (true_false (sym e)), λ f. let bad : Deep ≡ Val v = sym is ∙ one_outcome f in cc)

-- ---- one environment more

pub Adds-never : (P Made : Env → Type 0) (found : List Env) → ((env : Env) → Made env → P env → ⊥) → Adds P Made found found
Adds-never P Made found never = record { kept = λ e h. h; sound = λ e h. inl h; complete = λ e m p. absurd (never e m p) }

pub Adds-new : (P : Env → Type 0) (env : Env) (found more : List Env) → more ≡ found ++ env ∷ [] → P env → Adds P (λ made. made ≡ env) found more
Adds-new P env found more is p = subst (Adds P (λ made. made ≡ env) found) (sym is) (record {
  kept = λ e h. Contains-append_left found (env ∷ []) e h;
  sound = λ e h. elim (Contains-push_cases found env e h) [ inl k ↦ inl k | inr k ↦ inr (sym k, subst P k p) ];
  complete = λ e same q. subst (Contains (found ++ env ∷ [])) (sym same) (Contains-push found env);
})

-- what is put together is one environment
pub Adds-made : (P : Env → Type 0) (made : Option (List Entry)) (env : Env) (found more : List Env) → made ≡ Some env.entries → Adds P (λ e. e ≡ env) found more → Adds P (λ e. made ≡ Some e.entries) found more
Adds-made P made env found more is a = record {
  kept = a.kept;
  sound = λ e h. elim (a.sound e h) [ inl k ↦ inl k | inr k ↦ inr (is ∙ ap (λ (z : Env). Some z.entries) (sym k.0), k.1) ];
  complete = λ e m p. a.complete e (one e m) p;
}
  where
    one : (e : Env) → made ≡ Some e.entries → e ≡ env
    one e m =
        let both : Some e.entries ≡ Some env.entries = sym m ∙ is in
        let same : e.entries ≡ env.entries = cc in
        ap (λ (z : List Entry). let whole : Env = record { entries = z } in whole) same

-- ---- several candidates

pub AreSuited-begin : (sought : Sought) (candidates found : List Env) → found ≡ [] → AreSuited sought (take 0 candidates) found
AreSuited-begin sought candidates found is = subst (AreSuited sought (take 0 candidates)) (sym is) (record {
  sound = λ e h. let less = h.1 in absurd (omega (arith, less));
  complete = λ e m s. absurd m;
})

pub AreSuited-more : (sought : Sought) (candidates found more : List Env) (i : ℕ) (candidate : Env) → i < length candidates → candidate ≡ get_or candidates i candidate
    → AreSuited sought (take i candidates) found → Adds (Suits sought) (λ env. IsMade sought env candidate) found more → AreSuited sought (take (i + 1) candidates) more
AreSuited-more sought candidates found more i candidate h is f a =
    subst (λ z. AreSuited sought z more) (sym (take_more candidates i candidate h ∙ ap (λ z. take i candidates ++ z ∷ []) (sym is))) (record {
      sound = λ e k. elim (a.sound e k) [
        | inl l ↦ (let r = f.sound e l in (OneOf-left (IsMade sought e) (take i candidates) (candidate ∷ []) r.0, r.1))
        | inr l ↦ (OneOf-right (IsMade sought e) (take i candidates) (candidate ∷ []) (inl l.0), l.1)
      ];
      complete = λ e m s. elim (OneOf-cases (IsMade sought e) (take i candidates) (candidate ∷ []) m) [
        | inl l ↦ a.kept e (f.complete e l s)
        | inr l ↦ elim l [
          | inl k ↦ a.complete e k s
          | inr k ↦ absurd k
        ]
      ];
    })

pub AreSuited-end : (sought : Sought) (candidates found : List Env) (i : ℕ) → length candidates ≤ i → AreSuited sought (take i candidates) found → AreSuited sought candidates found
AreSuited-end sought candidates found i h f = subst (λ z. AreSuited sought z found) (take_all i candidates h) f

pub AreFound-once : (sought : Sought) (candidates found each : List Env) → AreEachOnce found each → AreSuited sought candidates found → AreFound sought candidates each
AreFound-once sought candidates found each e s = record {
  suited = record { sound = λ env h. s.sound env ((e.same env).0 h); complete = λ env made suits. (e.same env).1 (s.complete env made suits) };
  once = e.once;
}

-- ---- all candidates of a pattern

some_of : {A : Type 0} (P : A → Type 0) (xs : List A) → OneOf P xs → (a : A) × P a
some_of P [] o = absurd o
some_of P (x ∷ xs) (inl p) = (x, p)
some_of P (x ∷ xs) (inr o) = some_of P xs o

extends-stands : (defs : List SyntaxDef) (ls : List Listed) (ps : List IlExp) (vs : List Value) (env s : Env) → IsExtension defs ls ps vs env s → Stands s (has_name (names_of env)) env
extends-stands defs ls ps vs env s m = record {
  below = λ x v is. sym (m.extends x (name_there x v env.entries is)) ∙ is;
  has = λ x k. value_there env.entries x k;
}

-- where there are no candidates, no environment matches
pub extensions-none : (defs : List SyntaxDef) (ls : List Listed) (ps : List IlExp) (vs : List Value) (env : Env) (all : List Env) → all ≡ [] → list_all is_pattern ps ≡ true
    → AreCandidatesOfAll ps vs (env ∷ []) all → AreExtensions defs ls ps vs env all
extensions-none defs ls ps vs env all none pat c = subst (AreExtensions defs ls ps vs env) (sym none) (record {
  exactly = λ s. (
    λ h. let less = h.1 in absurd (omega (arith, less)),
    λ m. absurd (subst (OneOf (Stands s (joined (has_name (names_of env)) (all_bound ps)))) none ((c.cover defs pat).covers s (has_name (names_of env)) m.fit (inl (extends-stands defs ls ps vs env s m)))),
  );
  once = λ i j d less more. absurd (omega (arith, less, more));
})

module _ (sought : Sought) (ls : List Listed) (all found : List Env) (f : AreFound sought all found) (asked : sought.asked.now ≡ asked_of ls (vars_of sought.patterns.now))
    (ordered : AreOrdered (names_of sought.env.now ++ vars_of sought.patterns.now) sought.names.now) (pat : list_all is_pattern sought.patterns.now ≡ true)
    (known : all_known (names_of sought.env.now ++ flattened (map binds sought.patterns.now)) (vars_of sought.patterns.now) ≡ true)
    (c : AreCandidatesOfAll sought.patterns.now sought.values.now (sought.env.now ∷ []) all) where
  abbrev own : List Name
  own = names_of sought.env.now

  sound : (s : Env) → Contains found s → IsExtension sought.types.now ls sought.patterns.now sought.values.now sought.env.now s
  sound s h =
      let r = f.suited.sound s h in
      let m = some_of (IsMade sought s) all r.0 in
      let names = entries-names sought.env.now m.0 sought.names.now s.entries m.1 in
      record {
        ordered = subst (AllPairs (λ (x y : Name). is_lt (text_cmp x y) ≡ true)) (sym names) (pairs_sorted sought.names.now ordered.sorted);
        names = λ x. ap (λ z. has_name z x) names ∙ ordered.among x;
        extends = λ x k.
            let v = value_there sought.env.now.entries x k in
            let there : has_name sought.names.now x ≡ true = ordered.among x ∙ within-left own (vars_of sought.patterns.now) x k in
            v.1 ∙ sym (entries-lookup sought.env.now m.0 sought.names.now s.entries m.1 x there ∙ ap (λ z. first_value z (value_in m.0 x)) v.1);
        typed = asked-typed sought.types.now ls s (vars_of sought.patterns.now) (subst (All (HasAsked sought.types.now s)) asked r.1.typed);
        fit = r.1.fit;
      }

  module _ (s : Env) (m : IsExtension sought.types.now ls sought.patterns.now sought.values.now sought.env.now s) where
    stands : Stands s (has_name own) sought.env.now
    stands = extends-stands sought.types.now ls sought.patterns.now sought.values.now sought.env.now s m

    -- the first value that there is, is that of the match
    value_is : (candidate : Env) → Stands s (joined (has_name own) (all_bound sought.patterns.now)) candidate → (x : Name) → has_name sought.names.now x ≡ true → value_of_either sought.env.now candidate x ≡ value_in s x
    value_is candidate t x k = at (has_name own x) refl
      where
        bound_there : has_name own x ≡ false → all_bound sought.patterns.now x ≡ true
        bound_there n = elim (within-cases own (vars_of sought.patterns.now) x (sym (ordered.among x) ∙ k)) [
          | inl l ↦ absurd (true_false (sym l ∙ n))
          | inr l ↦ elim (within-cases own (flattened (map binds sought.patterns.now)) x (known-within (own ++ flattened (map binds sought.patterns.now)) (vars_of sought.patterns.now) known x l)) [
            | inl j ↦ absurd (true_false (sym j ∙ n))
            | inr j ↦ j
          ]
        ]

        at : (b : Bool) → has_name own x ≡ b → value_of_either sought.env.now candidate x ≡ value_in s x
        at true n =
            let v = value_there sought.env.now.entries x n in
            ap (λ z. first_value z (value_in candidate x)) v.1 ∙ (sym v.1 ∙ m.extends x n)
        at false n =
            let w = t.has x (or-right (has_name own x) (all_bound sought.patterns.now x) (bound_there n)) in
            ap (λ z. first_value z (value_in candidate x)) (value_nowhere sought.env.now.entries x n) ∙ (w.1 ∙ sym (t.below x w.0 w.1))

    made : (candidate : Env) → Stands s (joined (has_name own) (all_bound sought.patterns.now)) candidate → IsMade sought s candidate
    made candidate t = entries-are sought.env.now candidate sought.names.now s.entries
        (sorted_equal (names_of s) sought.names.now (sorted_pairs (names_of s) m.ordered) ordered.sorted (λ x. m.names x ∙ sym (ordered.among x)))
        ordered.sorted (value_is candidate t)

    complete : Contains found s
    complete = f.suited.complete s
        (OneOf-map (Stands s (joined (has_name own) (all_bound sought.patterns.now))) (IsMade sought s) made all
        ((c.cover sought.types.now pat).covers s (has_name own) m.fit (inl stands)))
        (record { typed = subst (All (HasAsked sought.types.now s)) (sym asked) (typed-asked sought.types.now ls s (vars_of sought.patterns.now) m.typed); fit = m.fit })

  pub extensions-found : AreExtensions sought.types.now ls sought.patterns.now sought.values.now sought.env.now found
  extensions-found = record { exactly = λ s. (sound s, complete s); once = f.once }
