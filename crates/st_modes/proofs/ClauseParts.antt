-- Which of the rules M3, M4, M6 and M7 a clause keeps, by its parts.
use Rattle.std.proofs.Common.{◌≡◌, refl, sym, ◌∙◌, ap, ap₂, Bool, true, false, not, ◌&&◌, if◌then◌else◌, ℕ, List, [], ◌∷◌, ◌++◌, map, filter, Some, None}
use Rattle.std.specs.Borrow.{Bor}
use Rattle.std.specs.List.{list_all}
use Rattle.std.proofs.lemmas.Bool.{false≢true}
use Rattle.st_num.specs.declared.rule.RuleId.TheVariants.{M3, M4, M6, M7}
use Rattle.st_il.specs.declared.definition.ClauseDef.{ClauseDef}
use Rattle.st_il.specs.declared.definition.Il.{Il}
use Rattle.st_il.specs.declared.expression.IlExp.{IlExp}
use Rattle.st_il.specs.declared.expression.IlPrem.{IlPrem}
use Rattle.st_il.specs.Names.{Name, has_name, all_known, flattened}
use Rattle.st_semantics.specs.Variables.{vars, vars_of, prems_vars, cites}
use Rattle.st_semantics.specs.OpenParts.{is_doubly_open}
use Rattle.st_semantics.specs.Orders.{run_on}
use Rattle.st_semantics.specs.Patterns.{is_pattern, binds, bound_by}
use Rattle.st_semantics.specs.ModeRules.{keeps_m3, keeps_m4, keeps_m6, keeps_m7, patterns_have_one_open}
use Rattle.st_order.specs.inner.Index.{names_in, SameNames}
use Rattle.st_order.specs.inner.Parts.{names_bound, bound_in}
use Rattle.st_modes.specs.inner.Breaches.{least_not_kept, clause_breach}
use Rattle.st_order.proofs.SameNames.{known_same, SameNames-made}

-- ---- what patterns bind

bound_by_all : (es : List IlExp) → list_all is_pattern es ≡ true → bound_by es ≡ names_bound (map bound_in es)
bound_by_all [] h = refl
bound_by_all (e ∷ es) h = by (is_pattern e) h (bound_by_all es)
  where
    by : (b : Bool) → (b && list_all is_pattern es) ≡ true → (list_all is_pattern es ≡ true → bound_by es ≡ names_bound (map bound_in es))
        → flattened (map binds (if b then e ∷ filter is_pattern es else filter is_pattern es)) ≡ (bound_in e).names ++ names_bound (map bound_in es)
    by true g more = ap (λ z. binds e ++ z) (more g)
    by false g more = absurd (false≢true g)

pub names_are_bound : (args : List IlExp) (names set : List Name) (slice row old : List (Bor (List ℕ))) → list_all is_pattern args ≡ true → SameNames set (names_in slice) → slice ≡ row → names_in row ≡ names_in old ++ names_bound (map bound_in args) → old ≡ []
    → all_known set names ≡ all_known (bound_by args) names
names_are_bound args names set slice row old patterns s e b none =
    known_same set (bound_by args) (λ q. SameNames-made set slice row old (names_bound (map bound_in args)) s e b none q ∙ ap (λ z. has_name z q) (sym (bound_by_all args patterns))) names

-- ---- M4

module _ (il : Il) (c : ClauseDef) where
  abbrev P : Bool
  P = list_all is_pattern c.args

  abbrev B : Bool
  B = all_known (bound_by c.args) (vars_of c.args)

  abbrev O : Bool
  O = list_all (λ (e : IlExp). not (is_doubly_open e)) c.args

  abbrev R : Bool
  R = patterns_have_one_open il (vars_of c.args) c.premises

  pub m4_no_pattern : P ≡ false → false ≡ keeps_m4 il c
  m4_no_pattern p = sym (ap (λ z. z && B && O && R) p)

  pub m4_unbound : P ≡ true → B ≡ false → false ≡ keeps_m4 il c
  m4_unbound p b = sym (ap₂ (λ y z. y && z && O && R) p b)

  pub m4_doubly_open : P ≡ true → B ≡ true → O ≡ false → false ≡ keeps_m4 il c
  m4_doubly_open p b o = sym (ap₂ (λ y z. y && z && O && R) p b ∙ ap (λ z. z && R) o)

  pub m4_premises : P ≡ true → B ≡ true → O ≡ true → (have : Bool) → have ≡ R → have ≡ keeps_m4 il c
  m4_premises p b o have h = h ∙ sym (ap₂ (λ y z. y && z && O && R) p b ∙ ap (λ z. z && R) o)

  -- ---- the least that is not kept

  pub m3_breach : keeps_m3 il c ≡ false → Some M3 ≡ clause_breach il c
  m3_breach h = sym (ap (λ b. least_not_kept b (keeps_m4 il c) (keeps_m6 c) (keeps_m7 c)) h)

  pub m4_breach : keeps_m3 il c ≡ true → keeps_m4 il c ≡ false → Some M4 ≡ clause_breach il c
  m4_breach h k = sym (ap₂ (λ a b. least_not_kept a b (keeps_m6 c) (keeps_m7 c)) h k)

  pub m6_breach : keeps_m3 il c ≡ true → keeps_m4 il c ≡ true → keeps_m6 c ≡ false → Some M6 ≡ clause_breach il c
  m6_breach h k l = sym (ap₂ (λ a b. least_not_kept a b (keeps_m6 c) (keeps_m7 c)) h k ∙ ap (λ b. least_not_kept true true b (keeps_m7 c)) l)

  pub m7_breach : keeps_m3 il c ≡ true → keeps_m4 il c ≡ true → keeps_m6 c ≡ true → keeps_m7 c ≡ false → Some M7 ≡ clause_breach il c
  m7_breach h k l m = sym (ap₂ (λ a b. least_not_kept a b (keeps_m6 c) (keeps_m7 c)) h k ∙ ap₂ (λ a b. least_not_kept true true a b) l m)

  pub no_breach : keeps_m3 il c ≡ true → keeps_m4 il c ≡ true → keeps_m6 c ≡ true → keeps_m7 c ≡ true → None ≡ clause_breach il c
  no_breach h k l m = sym (ap₂ (λ a b. least_not_kept a b (keeps_m6 c) (keeps_m7 c)) h k ∙ ap₂ (λ a b. least_not_kept true true a b) l m)

  pub m3_is : (names : List Name) (ps : List IlPrem) → names ≡ vars_of c.args → ps ≡ c.premises → run_on il names ps [] ≡ keeps_m3 il c
  m3_is names ps n p = ap₂ (λ x y. run_on il x y []) n p

  pub m7_is : (ps : List IlPrem) → ps ≡ c.premises → list_all (λ (p : IlPrem). not (cites p)) ps ≡ keeps_m7 c
  m7_is ps p = ap (list_all (λ (p : IlPrem). not (cites p))) p

-- ---- M6

pub m6_names : (c : ClauseDef) (set : List Name) (slice second first old : List (Bor (List ℕ))) (args : List IlExp) (ps : List IlPrem) → SameNames set (names_in slice) → slice ≡ second
    → names_in second ≡ names_in first ++ prems_vars ps → ps ≡ c.premises → names_in first ≡ names_in old ++ flattened (map vars args) → args ≡ c.args → old ≡ []
    → all_known set (vars c.result) ≡ keeps_m6 c
m6_names c set slice second first old args ps s e b p a as' none =
    known_same set (vars_of c.args ++ prems_vars c.premises)
    (λ q. s q ∙ ap (λ z. has_name z q) (ap names_in e ∙ b ∙ ap₂ (λ x y. x ++ prems_vars y) (a ∙ ap₂ (λ x y. names_in x ++ flattened (map vars y)) none as') p))
    (vars c.result)

-- the variables of the arguments, as they were added to none
pub all_vars_made : (args args' : List IlExp) (slice row old : List (Bor (List ℕ))) → slice ≡ row → names_in row ≡ names_in old ++ flattened (map vars args') → args' ≡ args → old ≡ [] → names_in slice ≡ vars_of args
all_vars_made args args' slice row old s a e none = ap names_in s ∙ a ∙ ap₂ (λ x y. names_in x ++ flattened (map vars y)) none e
