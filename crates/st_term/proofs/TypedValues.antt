-- A value that a variable of a type matches has this type.
use Rattle.std.proofs.Common.{◌≡◌, refl, sym, ◌∙◌, ap, subst, ℕ, zero, suc, ◌+◌, ◌≤◌, ◌↔◌, Bool, true, false, not, cond, ◌&&◌, ◌||◌, if◌then◌else◌, List, [], ◌∷◌, ◌++◌, append_assoc, append-nil, map, drop, length, Some, arith}
use Rattle.std.specs.Prelude.{IsTrue, slice_get, unwrap_or}
use Rattle.std.specs.List.{list_all}
use Rattle.st_il.specs.declared.definition.Listed.{Listed}
use Rattle.st_il.specs.declared.definition.SyntaxDef.{SyntaxDef}
use Rattle.st_il.specs.declared.expression.IlExp.{IlExp}
use Rattle.st_il.specs.declared.expression.IlExp.TheOpen.{IlExp-F}
use Rattle.st_il.specs.declared.expression.IlExp.TheVariants.{Var, outs-Var}
use Rattle.st_il.specs.declared.ty.Ty.{Ty}
use Rattle.st_il.specs.declared.value.Env.{Env}
use Rattle.st_il.specs.declared.value.Value.{Value}
use Rattle.st_match.specs.Matches.{IsMatchOfAll, AreAllMatches}
use Rattle.st_il.specs.Names.{Name, has_name, flattened, all_known}
use Rattle.st_semantics.specs.Directions.{inputs_by}
use Rattle.st_semantics.specs.Environments.{IsTypedValue, AreTypedValues, wrapped, type_of, value_in, IsSomeTyped, listed_as}
use Rattle.st_semantics.specs.Formed.{AreFormed}
use Rattle.st_semantics.specs.Formed as formed
use Rattle.st_semantics.specs.Forms.{HasForm, Variable, form_at}
use Rattle.st_semantics.specs.Matching.{no_answers}
use Rattle.st_semantics.specs.Patterns.{is_pattern, binds, bound_by, told}
use Rattle.st_semantics.specs.Patterns as patterns
use Rattle.st_semantics.specs.Variables.{vars_of}
use Rattle.st_semantics.proofs.Inverse.{variable_value}
use Rattle.st_semantics.proofs.Names.{bytes-same, vars-form}
use Rattle.st_semantics.proofs.PatternForms.{binds-level}
use Rattle.st_semantics.proofs.PatternParts.{told-level}

-- ---- a variable as a pattern

form_var : (defs : List SyntaxDef) (x : Name) → HasForm defs (Var x) (Variable x)
form_var defs x = HasForm.by_itself (ap form_at (outs-Var x))

pattern_var : (x : Name) → is_pattern (Var x) ≡ true
pattern_var x = ap (λ (t : patterns.Told). t.pattern) (told-level (Var x) (IlExp-F.Var x) (outs-Var x))

binds_var : (x : Name) → binds (Var x) ≡ x ∷ []
binds_var x = binds-level (Var x) (IlExp-F.Var x) (outs-Var x)

vars_var : (defs : List SyntaxDef) (x : Name) → vars_of (Var x ∷ []) ≡ x ∷ []
vars_var defs x = ap (λ (ns : List Name). ns ++ []) (vars-form defs (Var x) (Variable x) (form_var defs x))

bound_var : (x : Name) → bound_by (Var x ∷ []) ≡ x ∷ []
bound_var x = ap (λ b. flattened (map binds (cond b (Var x ∷ []) []))) (pattern_var x) ∙ ap (λ (ns : List Name). ns ++ []) (binds_var x)

known_itself : (x : Name) → all_known (x ∷ []) (x ∷ []) ≡ true
known_itself x = ap (λ b. (b || false) && true) (bytes-same x)

-- these patterns can be matched
pub record CanMatch (defs : List SyntaxDef) (es : List IlExp) : Type 0 where
  pub patterns : list_all is_pattern es ≡ true
  pub formed : AreFormed defs es
  pub bound : all_known (bound_by es) (vars_of es) ≡ true

var_matches : (defs : List SyntaxDef) (x : Name) → CanMatch defs (Var x ∷ [])
var_matches defs x = record {
  patterns = ap (λ b. b && true) (pattern_var x);
  formed = formed.AreFormed.more (formed.IsFormed.variable x (form_var defs x)) formed.AreFormed.none;
  bound = ap (λ ns. all_known ns (vars_of (Var x ∷ []))) (bound_var x) ∙ ap (all_known (x ∷ [])) (vars_var defs x) ∙ known_itself x;
}

pub can_match : (defs : List SyntaxDef) (x : Name) (pattern : IlExp) (es : List IlExp) → es ≡ pattern ∷ [] → pattern ≡ Var x → CanMatch defs es
can_match defs x pattern es is var = subst (CanMatch defs) (sym (is ∙ ap (λ p. p ∷ []) var)) (var_matches defs x)

-- ---- what it matches

has_type : (defs : List SyntaxDef) (l : Listed) (v : Value) (more : Env) → l.dim ≡ [] → IsMatchOfAll defs (l ∷ []) (Var l.name ∷ []) (v ∷ []) more → IsTypedValue defs l.ty v
has_type defs l v more flat m =
    let there : value_in more l.name ≡ Some v = variable_value defs no_answers more (Var l.name) l.name v (form_var defs l.name) m.values.0 in
    let occurs : has_name (vars_of (Var l.name ∷ [])) l.name ≡ true = ap (λ ns. has_name ns l.name) (vars_var defs l.name) ∙ ap (λ b. b || false) (bytes-same l.name) in
    let listed : listed_as l.name (l ∷ []) ≡ Some l = ap (λ b. if b then Some l else listed_as l.name []) (bytes-same l.name) in
    let typed : IsSomeTyped defs (type_of l) (Some v) = subst (IsSomeTyped defs (type_of l)) there (m.typed l.name occurs l listed) in
    subst (λ t. IsTypedValue defs t v) (ap (λ d. wrapped d l.ty) flat) typed

found_type : (defs : List SyntaxDef) (l : Listed) (v : Value) (found : List Env) → l.dim ≡ [] → AreAllMatches defs (l ∷ []) (Var l.name ∷ []) (v ∷ []) found → (found ≡ [] → ⊥) → IsTypedValue defs l.ty v
found_type defs l v [] flat all some = absurd (some refl)
found_type defs l v (more ∷ found) flat all some = has_type defs l v more flat ((all.exactly more).0 (0, omega arith, refl))

pub by_match : (defs : List SyntaxDef) (l : Listed) (pattern : IlExp) (v : Value) (ls : List Listed) (es : List IlExp) (vs : List Value) (found : List Env) (empty : Bool) → ls ≡ l ∷ [] → es ≡ pattern ∷ []
    → vs ≡ v ∷ [] → pattern ≡ Var l.name → l.dim ≡ [] → AreAllMatches defs ls es vs found → IsTrue empty ↔ (found ≡ []) → not empty ≡ true → IsTypedValue defs l.ty v
by_match defs l pattern v ls es vs found empty ls_are es_are vs_are var flat all tells some =
    found_type defs l v found flat
    (subst (λ p. AreAllMatches defs (l ∷ []) (p ∷ []) (v ∷ []) found) var
    (subst (λ z. AreAllMatches defs (l ∷ []) (pattern ∷ []) z found) vs_are
    (subst (λ z. AreAllMatches defs (l ∷ []) z vs found) es_are (subst (λ z. AreAllMatches defs z es vs found) ls_are all))))
    (λ none. by empty (tells.1 none) some)
  where
    by : (b : Bool) → IsTrue b → not b ≡ true → ⊥
    by true empty some = absurd (cc)
    by false empty some = absurd (cc)

-- ---- value by value

-- where the values behind a place have their types, so have all
abbrev pub Suffices : List SyntaxDef → List Ty → List Value → ℕ → Type 0
Suffices defs ts vs i = AreTypedValues defs (drop i ts) (drop i vs) → AreTypedValues defs ts vs

one_typed : (defs : List SyntaxDef) (ts : List Ty) (vs : List Value) (i : ℕ) (t : Ty) (v : Value) → slice_get ts i ≡ Some t → slice_get vs i ≡ Some v → IsTypedValue defs t v
    → AreTypedValues defs (drop (suc i) ts) (drop (suc i) vs) → AreTypedValues defs (drop i ts) (drop i vs)
one_typed defs [] vs i t v is there h more = absurd (cc)
one_typed defs (x ∷ ts) [] i t v is there h more = absurd (cc)
one_typed defs (x ∷ ts) (y ∷ vs) zero t v is there h more =
    let one : t ≡ x = cc in
    let other : v ≡ y = cc in
    (subst (λ z. IsTypedValue defs z y) one (subst (IsTypedValue defs t) other h), more)
one_typed defs (x ∷ ts) (y ∷ vs) (suc i) t v is there h more = one_typed defs ts vs i t v is there h more

pub suffices_more : (defs : List SyntaxDef) (ts : List Ty) (vs : List Value) (i : ℕ) (t : Ty) (v : Value) → Suffices defs ts vs i → slice_get ts i ≡ Some t → slice_get vs i ≡ Some v → IsTypedValue defs t v
    → Suffices defs ts vs (i + 1)
suffices_more defs ts vs i t v all is there h more =
    let one : i + 1 ≡ suc i = omega arith in
    all (one_typed defs ts vs i t v is there h (subst (λ n. AreTypedValues defs (drop n ts) (drop n vs)) one more))

past_typed : (defs : List SyntaxDef) (ts : List Ty) (vs : List Value) (i : ℕ) → length ts ≡ length vs → length ts ≤ i → AreTypedValues defs (drop i ts) (drop i vs)
past_typed defs [] [] zero same past = tt
past_typed defs [] [] (suc i) same past = tt
past_typed defs [] (y ∷ vs) i same past = absurd (omega (arith, same))
past_typed defs (x ∷ ts) [] i same past = absurd (omega (arith, same))
past_typed defs (x ∷ ts) (y ∷ vs) zero same past = absurd (omega (arith, past))
past_typed defs (x ∷ ts) (y ∷ vs) (suc i) same past = past_typed defs ts vs i (omega (arith, same)) (omega (arith, past))

pub suffices_all : (defs : List SyntaxDef) (ts : List Ty) (vs : List Value) (i : ℕ) → Suffices defs ts vs i → length ts ≡ length vs → length ts ≤ i → AreTypedValues defs ts vs
suffices_all defs ts vs i all same past = all (past_typed defs ts vs i same past)

-- ---- the types at inputs

input_at : (inputs : List Bool) (holes : List Ty) (n : ℕ) (hole : Ty) → slice_get holes n ≡ Some hole
    → inputs_by (drop n inputs) (drop n holes) ≡ (if unwrap_or (slice_get inputs n) false then hole ∷ [] else []) ++ inputs_by (drop (suc n) inputs) (drop (suc n) holes)
input_at inputs [] n hole is = absurd (cc)
input_at [] (x ∷ holes) zero hole is = refl
input_at (b ∷ inputs) (x ∷ holes) zero hole is = by b
  where
    by : (c : Bool) → (if c then x ∷ inputs_by inputs holes else inputs_by inputs holes) ≡ (if c then hole ∷ [] else []) ++ inputs_by inputs holes
    by true = let same : x ≡ hole = cc in ap (λ z. z ∷ inputs_by inputs holes) same
    by false = refl
input_at [] (x ∷ holes) (suc n) hole is = refl
input_at (b ∷ inputs) (x ∷ holes) (suc n) hole is = input_at inputs holes n hole is

pub next_input : (inputs : List Bool) (holes types new all : List Ty) (n : ℕ) (hole : Ty) → types ++ inputs_by (drop n inputs) (drop n holes) ≡ all → slice_get holes n ≡ Some hole
    → new ≡ types ++ (if unwrap_or (slice_get inputs n) false then hole ∷ [] else []) → new ++ inputs_by (drop (n + 1) inputs) (drop (n + 1) holes) ≡ all
next_input inputs holes types new all n hole before is pushed =
    let one : n + 1 ≡ suc n = omega arith in
    let here : List Ty = if unwrap_or (slice_get inputs n) false then hole ∷ [] else [] in
    ap (λ k. new ++ inputs_by (drop k inputs) (drop k holes)) one ∙ ap (λ z. z ++ inputs_by (drop (suc n) inputs) (drop (suc n) holes)) pushed
    ∙ append_assoc types here (inputs_by (drop (suc n) inputs) (drop (suc n) holes)) ∙ ap (λ z. types ++ z) (sym (input_at inputs holes n hole is)) ∙ before

of_nothing : (inputs : List Bool) → inputs_by {A = Ty} inputs [] ≡ []
of_nothing [] = refl
of_nothing (b ∷ inputs) = refl

no_inputs : (inputs : List Bool) (holes : List Ty) (n : ℕ) → length holes ≤ n → inputs_by (drop n inputs) (drop n holes) ≡ []
no_inputs inputs [] zero past = of_nothing inputs
no_inputs inputs [] (suc n) past = of_nothing (drop (suc n) inputs)
no_inputs inputs (x ∷ holes) zero past = absurd (omega (arith, past))
no_inputs [] (x ∷ holes) (suc n) past = refl
no_inputs (b ∷ inputs) (x ∷ holes) (suc n) past = no_inputs inputs holes n (omega (arith, past))

pub all_inputs : (inputs : List Bool) (holes types all : List Ty) (n : ℕ) → types ++ inputs_by (drop n inputs) (drop n holes) ≡ all → length holes ≤ n → types ≡ all
all_inputs inputs holes types all n before past = sym (append-nil types) ∙ ap (λ z. types ++ z) (sym (no_inputs inputs holes n past)) ∙ before
