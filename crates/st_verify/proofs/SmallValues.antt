-- What atoms come to, and what environments of no variables are.
use Rattle.std.proofs.Common.{◌≡◌, ℕ, List, [], ◌∷◌, true, map, ap, ◌∙◌, sym, refl, subst, arith, rules}
use Rattle.std.specs.Prelude.{AllPairs}
use Rattle.std.specs.Ordering.{is_lt}
use Rattle.std.proofs.lemmas.List.Elements.{All-nil}
use Rattle.st_il.specs.Order.{text_cmp}
use Rattle.st_il.specs.declared.definition.SyntaxDef.{SyntaxDef}
use Rattle.st_il.specs.declared.expression.IlExp.{IlExp}
use Rattle.st_il.specs.declared.expression.IlExp.TheVariants as exp
use Rattle.st_il.specs.declared.value.Env.{Env}
use Rattle.st_il.specs.declared.value.Value.{the_lemmas}
use Rattle.st_il.specs.declared.value.Value.TheVariants as value
use Rattle.st_il.specs.Height.{height}
use Rattle.st_il.specs.Small.{atom_exp}
use Rattle.st_semantics.specs.declared.outcome.Outcome.{Outcome}
use Rattle.st_semantics.specs.declared.outcome.Outcome.TheVariants.{Val}
use Rattle.st_semantics.specs.declared.outcome.Outcomes.{Outcomes}
use Rattle.st_semantics.specs.declared.outcome.Outcomes.TheVariants.{Values}
use Rattle.st_il.specs.Names.{Name, all_known}
use Rattle.st_semantics.specs.Environments.{Entry, EnvOk, HasListed}
use Rattle.st_semantics.specs.Parts.{Operation, limited}
use Rattle.st_semantics.specs.Forms.{HasForm, Strict, Variable, Calls, Iterates, by_itself}
use Rattle.st_semantics.specs.Evaluation as gives
use Rattle.st_semantics.specs.Evaluation.{Answers, Gives, GivesAll, tasks, applied}
use Rattle.st_semantics.proofs.Singles.{HasForm-single}

-- ---- an atom is its own value

atom_height : (atom : List ℕ) → height (value.Case atom []) ≡ 1
atom_height atom = search (rules, the_lemmas)

abbrev making : List ℕ → Operation
making atom vs = limited (value.Case atom vs)

made_atom : (atom : List ℕ) → making atom [] ≡ Val (value.Case atom [])
made_atom atom = simp (atom_height atom) refl

atom_form : (defs : List SyntaxDef) (syntax atom : List ℕ) → HasForm defs (atom_exp syntax atom) (Strict [] (making atom))
atom_form defs syntax atom = by_itself (simp (exp.outs-Case syntax atom []) refl)

pub atom_given : (defs : List SyntaxDef) (C : Answers) (env : Env) (syntax atom : List ℕ) → Gives defs C env (atom_exp syntax atom) (Val (value.Case atom []))
atom_given defs C env syntax atom =
    gives.strict [] (making atom) (Values []) (atom_form defs syntax atom) (gives.none refl) (sym (made_atom atom))

none_given : (defs : List SyntaxDef) (C : Answers) (r : Outcomes) → GivesAll defs C [] r → r ≡ Values []
none_given defs C r (gives.none is) = is

strict_atom : (defs : List SyntaxDef) (C : Answers) (env : Env) (atom : List ℕ) (es : List IlExp) (f : Operation) (r : Outcomes) (o : Outcome)
    → Strict es f ≡ Strict [] (making atom) → GivesAll defs C (tasks env es) r → o ≡ applied f r → o ≡ Val (value.Case atom [])
strict_atom defs C env atom es f r o same all is =
    let no_operands : es ≡ [] = cc in
    let operation : f ≡ making atom = cc in
    let nothing = none_given defs C r (subst (λ some. GivesAll defs C (tasks env some) r) no_operands all) in
    is ∙ ap (λ g. applied g r) operation ∙ ap (applied (making atom)) nothing ∙ made_atom atom

-- no other outcome comes of it
pub atom_only : (defs : List SyntaxDef) (C : Answers) (env : Env) (syntax atom : List ℕ) (o : Outcome) → Gives defs C env (atom_exp syntax atom) o
    → o ≡ Val (value.Case atom [])
atom_only defs C env syntax atom o (gives.strict es f r form all is) =
    strict_atom defs C env atom es f r o (HasForm-single defs (atom_exp syntax atom) _ _ form (atom_form defs syntax atom)) all is
atom_only defs C env syntax atom o (gives.variable x form is) =
    let never : Variable x ≡ Strict [] (making atom) = HasForm-single defs (atom_exp syntax atom) _ _ form (atom_form defs syntax atom) in cc
atom_only defs C env syntax atom o (gives.call fun args r form all called) =
    let never : Calls fun args ≡ Strict [] (making atom) = HasForm-single defs (atom_exp syntax atom) _ _ form (atom_form defs syntax atom) in cc
atom_only defs C env syntax atom o (gives.iteration_ends how xs body r form all way) =
    let never : Iterates how xs body ≡ Strict [] (making atom) = HasForm-single defs (atom_exp syntax atom) _ _ form (atom_form defs syntax atom) in cc
atom_only defs C env syntax atom o (gives.iteration how xs body r envs t form all way each is) =
    let never : Iterates how xs body ≡ Strict [] (making atom) = HasForm-single defs (atom_exp syntax atom) _ _ form (atom_form defs syntax atom) in cc

-- ---- environments of no variables

no_entry : (entries : List Entry) → all_known [] (map (λ (e : Entry). e.0) entries) ≡ true → entries ≡ []
no_entry [] known = refl
no_entry (e ∷ es) known = cc

pub env_empty : (defs : List SyntaxDef) (env : Env) → EnvOk defs [] env → env.entries ≡ []
env_empty defs env ok = no_entry env.entries ok.no_other

abbrev Precedes : Name → Name → Type 0
Precedes x y = is_lt (text_cmp x y) ≡ true

pub empty_env : (defs : List SyntaxDef) (env : Env) → env.entries ≡ [] → EnvOk defs [] env
empty_env defs env empty = record {
  ordered = subst (λ (es : List Entry). AllPairs Precedes (map (λ (e : Entry). e.0) es)) (sym empty) (λ i j d below at. absurd (omega arith));
  no_other = ap (λ (es : List Entry). all_known [] (map (λ (e : Entry). e.0) es)) empty;
  typed = All-nil (HasListed defs env);
}
