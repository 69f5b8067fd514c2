-- Patterns that have values, one each, position by position; and patterns that are matched, one alone
-- or several at once.
use Rattle.std.proofs.Common.{◌≡◌, ◌↔◌, ℕ, zero, suc, ◌+◌, ◌<◌, ◌≤◌, refl, sym, ◌∙◌, ap, ap₂, subst, List, [], ◌∷◌, ◌++◌, map, filter, length, drop, get_or, Bool, true, false, ◌&&◌, if◌then◌else◌, append-nil, arith}
use Rattle.std.specs.Prelude.{IsTrue}
use Rattle.std.specs.List.{list_all}
use Rattle.std.proofs.lemmas.List.{drop_more, drop_all}
use Rattle.st_il.specs.declared.definition.Listed.{Listed}
use Rattle.st_il.specs.declared.definition.SyntaxDef.{SyntaxDef}
use Rattle.st_il.specs.declared.expression.IlExp.{IlExp}
use Rattle.st_il.specs.declared.value.Env.{Env}
use Rattle.st_il.specs.declared.value.Value.{Value}
use Rattle.st_il.specs.Names.{Name, flattened, has_name}
use Rattle.st_semantics.specs.Environments.{TypedIn, names_of}
use Rattle.st_semantics.specs.Formed as formed
use Rattle.st_semantics.specs.Formed.{IsFormed, AreFormed}
use Rattle.st_semantics.specs.Matching.{IsMatch}
use Rattle.st_semantics.specs.Patterns.{told, is_pattern, all_patterns, binds, bound_by}
use Rattle.st_semantics.specs.Variables.{vars, vars_of}
use Rattle.st_semantics.proofs.Names.{and-both, true_false}
use Rattle.st_match.specs.Matches.{AreMatches, IsMatchOfAll, AreAllMatches}
use Rattle.st_match.specs.inner.Fitting.{Fits, FitAll}
use Rattle.st_match.specs.inner.Found.{IsExtension, AreExtensions}

-- ---- one of several patterns

pub formed_at : (defs : List SyntaxDef) (ps : List IlExp) (i : ℕ) (p : IlExp) → i < length ps → p ≡ get_or ps i p → AreFormed defs ps → IsFormed defs p
formed_at defs [] i p h is all = absurd (omega (arith, h))
formed_at defs (q ∷ ps) zero p h is (formed.more first rest) = subst (IsFormed defs) (sym is) first
formed_at defs (q ∷ ps) (suc i) p h is (formed.more first rest) = formed_at defs ps i p (omega (arith, h)) is rest

pub pattern_at : (ps : List IlExp) (i : ℕ) (p : IlExp) → i < length ps → p ≡ get_or ps i p → list_all is_pattern ps ≡ true → is_pattern p ≡ true
pattern_at [] i p h is all = absurd (omega (arith, h))
pattern_at (q ∷ ps) zero p h is all = ap is_pattern is ∙ (and-both (is_pattern q) (list_all is_pattern ps) all).0
pattern_at (q ∷ ps) (suc i) p h is all = pattern_at ps i p (omega (arith, h)) is (and-both (is_pattern q) (list_all is_pattern ps) all).1

-- ---- their values

module _ (defs : List SyntaxDef) (s : Env) where
  pub FitAll-apart : (ps : List IlExp) (vs : List Value) → (length ps ≡ length vs → ⊥) → FitAll defs ps vs s → ⊥
  FitAll-apart [] [] differ f = differ refl
  FitAll-apart [] (v ∷ vs) differ f = f
  FitAll-apart (p ∷ ps) [] differ f = f
  FitAll-apart (p ∷ ps) (v ∷ vs) differ f = FitAll-apart ps vs (λ e. differ (ap suc e)) f.1

  module _ (ps : List IlExp) (vs : List Value) (i : ℕ) (p : IlExp) (v : Value) (h : i < length ps) (k : i < length vs) (p_is : p ≡ get_or ps i p) (v_is : v ≡ get_or vs i v) where
    ps_here : drop i ps ≡ p ∷ drop (i + 1) ps
    ps_here = drop_more ps i p h ∙ ap (λ z. z ∷ drop (i + 1) ps) (sym p_is)

    vs_here : drop i vs ≡ v ∷ drop (i + 1) vs
    vs_here = drop_more vs i v k ∙ ap (λ z. z ∷ drop (i + 1) vs) (sym v_is)

    here : FitAll defs (drop i ps) (drop i vs) s → Fits defs p v s × FitAll defs (drop (i + 1) ps) (drop (i + 1) vs) s
    here f = subst (λ z. FitAll defs (p ∷ drop (i + 1) ps) z s) vs_here (subst (λ z. FitAll defs z (drop i vs) s) ps_here f)

    -- one of them has not
    pub FitAll-refused : (b : Bool) → b ≡ false → (Fits defs p v s → IsTrue b) → (FitAll defs ps vs s → FitAll defs (drop i ps) (drop i vs) s) → IsTrue false ↔ FitAll defs ps vs s
    FitAll-refused b is test inv = (λ bad. absurd (true_false (sym bad)), λ f. sym is ∙ test (here (inv f)).0)

    -- one of them has
    pub FitAll-step : Fits defs p v s → FitAll defs ps vs s ↔ FitAll defs (drop i ps) (drop i vs) s → FitAll defs ps vs s ↔ FitAll defs (drop (i + 1) ps) (drop (i + 1) vs) s
    FitAll-step first inv = (
      λ f. (here (inv.0 f)).1,
      λ f. inv.1 (subst (λ z. FitAll defs z (drop i vs) s) (sym ps_here) (subst (λ z. FitAll defs (p ∷ drop (i + 1) ps) z s) (sym vs_here) (first, f))),
    )

  -- all of them have
  pub FitAll-end : (ps : List IlExp) (vs : List Value) (i : ℕ) → length ps ≤ i → length vs ≤ i → FitAll defs ps vs s ↔ FitAll defs (drop i ps) (drop i vs) s → IsTrue true ↔ FitAll defs ps vs s
  FitAll-end ps vs i h k inv = (λ t. inv.1 (subst (λ z. FitAll defs z (drop i vs) s) (sym (drop_all i ps h)) (subst (λ z. FitAll defs [] z s) (sym (drop_all i vs k)) tt)), λ f. refl)

-- ---- what is matched

pub all_told : (ps : List IlExp) → list_all is_pattern ps ≡ true → all_patterns (map told ps) ≡ true
all_told [] h = refl
all_told (p ∷ ps) h = let w = and-both (is_pattern p) (list_all is_pattern ps) h in ap₂ (λ a b. a && b) w.0 (all_told ps w.1)

pub bound_by-patterns : (ps : List IlExp) → list_all is_pattern ps ≡ true → bound_by ps ≡ flattened (map binds ps)
bound_by-patterns [] h = refl
bound_by-patterns (p ∷ ps) h =
    let w = and-both (is_pattern p) (list_all is_pattern ps) h in
    ap (λ z. flattened (map binds (if z then p ∷ filter is_pattern ps else filter is_pattern ps))) w.0 ∙ ap (λ z. binds p ++ z) (bound_by-patterns ps w.1)

module _ (defs : List SyntaxDef) (ls : List Listed) (p : IlExp) (v : Value) (env : Env) where
  alone : vars_of (p ∷ []) ≡ vars p
  alone = append-nil (vars p)

  extension : (more : Env) → IsMatch defs ls p v env more → IsExtension defs ls (p ∷ []) (v ∷ []) env more
  extension more m = record {
    ordered = m.ordered;
    names = λ x. m.names x ∙ ap (λ z. has_name (names_of env ++ z) x) (sym alone);
    extends = m.extends;
    typed = subst (λ z. TypedIn defs ls z more) (sym alone) m.typed;
    fit = (m.value, tt);
  }

  match : (more : Env) → IsExtension defs ls (p ∷ []) (v ∷ []) env more → IsMatch defs ls p v env more
  match more m = record {
    ordered = m.ordered;
    names = λ x. m.names x ∙ ap (λ z. has_name (names_of env ++ z) x) alone;
    extends = m.extends;
    typed = subst (λ z. TypedIn defs ls z more) alone m.typed;
    value = m.fit.0;
  }

  -- one pattern alone
  pub matches-alone : (found : List Env) → AreExtensions defs ls (p ∷ []) (v ∷ []) env found → AreMatches defs ls p v env found
  matches-alone found are = record {
    exactly = λ more. (λ c. match more ((are.exactly more).0 c), λ m. (are.exactly more).1 (extension more m));
    once = are.once;
  }

-- several patterns, where nothing is known before
pub matches-all : (defs : List SyntaxDef) (ls : List Listed) (ps : List IlExp) (vs : List Value) (env : Env) (found : List Env) → env.entries ≡ [] → AreExtensions defs ls ps vs env found → AreAllMatches defs ls ps vs found
matches-all defs ls ps vs env found none are = record {
  exactly = λ more. (λ c. matched more ((are.exactly more).0 c), λ m. (are.exactly more).1 (extended more m));
  once = are.once;
}
  where
    no_names_of : names_of env ≡ []
    no_names_of = ap (λ (z : List (Name × Value)). map (λ (e : Name × Value). e.0) z) none

    matched : (more : Env) → IsExtension defs ls ps vs env more → IsMatchOfAll defs ls ps vs more
    matched more m = record {
      ordered = m.ordered;
      names = λ x. m.names x ∙ ap (λ z. has_name (z ++ vars_of ps) x) no_names_of;
      typed = m.typed;
      values = m.fit;
    }

    extended : (more : Env) → IsMatchOfAll defs ls ps vs more → IsExtension defs ls ps vs env more
    extended more m = record {
      ordered = m.ordered;
      names = λ x. m.names x ∙ ap (λ z. has_name (z ++ vars_of ps) x) (sym no_names_of);
      extends = λ x k. absurd (true_false (sym (sym (ap (λ z. has_name z x) no_names_of) ∙ k)));
      typed = m.typed;
      fit = m.values;
    }
