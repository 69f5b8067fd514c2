-- The definitions of a small specification one by one, and what the code finds among them.
use Rattle.std.proofs.Common.{◌≡◌, ℕ, zero, suc, ◌<◌, List, [], ◌∷◌, Some, map, ap, sym, refl, subst, arith, ◌⊎◌, inl, inr, get_or, length}
use Rattle.std.specs.Prelude.{slice_get, Any, Contains}
use Rattle.st_il.specs.declared.definition.Alternative.TheVariants as alternative
use Rattle.st_il.specs.declared.definition.IlDef.{IlDef}
use Rattle.st_il.specs.declared.small.Small.{Small}
use Rattle.st_il.specs.declared.small.SmallRule.{SmallRule}
use Rattle.st_il.specs.Small.{il_of, rule_def, syntax_def, relation_def}
use Rattle.st_verify.specs.SmallVerdict.{IsRelationNamed, IsRuleNamed, IsCase, HasCase}

-- one of the rules, of which something holds
abbrev pub RuleWith : List SmallRule → (SmallRule → Type 0) → Type 0
RuleWith some P = (number : ℕ) × (rule : SmallRule) × (slice_get some number ≡ Some rule) × P rule

any_rule : {Y : Type 0} (f : SmallRule → Y) (P : Y → Type 0) (some : List SmallRule) (k : ℕ) (d : Y) → get_or (map f some) k d ≡ d → k < length (map f some) → P d
    → RuleWith some (λ rule. P (f rule))
any_rule f P [] k d is below p = absurd (omega arith)
any_rule f P (rule ∷ some) zero d is below p = (0, rule, refl, subst P (sym is) p)
any_rule f P (rule ∷ some) (suc k) d is below p = let (number, one, at, holds) = any_rule f P some k d is (omega arith) p in (suc number, one, at, holds)

rule_any : {Y : Type 0} (f : SmallRule → Y) (P : Y → Type 0) (some : List SmallRule) (k : ℕ) (rule : SmallRule) → slice_get some k ≡ Some rule → P (f rule) → Any P (map f some)
rule_any f P [] k rule at p = cc
rule_any f P (one ∷ some) zero rule at p = let same : one ≡ rule = cc in (0, f rule, omega arith, ap f same, p)
rule_any f P (one ∷ some) (suc k) rule at p =
    let (n, d, below, is, holds) = rule_any f P some k rule at p in
    (suc n, d, omega arith, is, holds)

-- a definition of which something holds is the syntax, the relation or a rule
abbrev OneOf : Small → (IlDef → Type 0) → Type 0
OneOf s P =
    P (syntax_def s.syntax s.atoms) ⊎ P (relation_def s.relation s.syntax) ⊎ RuleWith s.rules (λ rule. P (rule_def s.relation s.syntax rule))

pub any_def : (s : Small) (P : IlDef → Type 0) → Any P (il_of s).defs → OneOf s P
any_def s P (zero, d, below, is, p) = inl (subst P (sym is) p)
any_def s P (suc zero, d, below, is, p) = inr (inl (subst P (sym is) p))
any_def s P (suc (suc k), d, below, is, p) = inr (inr (any_rule (rule_def s.relation s.syntax) P s.rules k d is (omega arith) p))

pub rule_def_there : (s : Small) (P : IlDef → Type 0) (k : ℕ) (rule : SmallRule) → slice_get s.rules k ≡ Some rule → P (rule_def s.relation s.syntax rule) → Any P (il_of s).defs
rule_def_there s P k rule at p =
    let (n, d, below, is, holds) = rule_any (rule_def s.relation s.syntax) P s.rules k rule at p in
    (suc (suc n), d, omega arith, is, holds)

-- ---- names

named_of : (s : Small) (name : List ℕ) → OneOf s (IsRelationNamed name) → name ≡ s.relation
named_of s name (inl never) = absurd never
named_of s name (inr (inl is)) = sym is
named_of s name (inr (inr never)) = absurd never.3

pub named_relation : (s : Small) (name : List ℕ) → Any (IsRelationNamed name) (il_of s).defs → name ≡ s.relation
named_relation s name any = named_of s name (any_def s (IsRelationNamed name) any)

pub relation_there : (s : Small) → Any (IsRelationNamed s.relation) (il_of s).defs
relation_there s = (1, relation_def s.relation s.syntax, omega arith, refl, refl)

rule_of_one : (s : Small) (relation name : List ℕ) → OneOf s (IsRuleNamed relation name) → RuleWith s.rules (λ rule. rule.name ≡ name)
rule_of_one s relation name (inl never) = absurd never
rule_of_one s relation name (inr (inl never)) = absurd never
rule_of_one s relation name (inr (inr (k, rule, at, named))) = (k, rule, at, named.1)

pub named_rule : (s : Small) (relation name : List ℕ) → Any (IsRuleNamed relation name) (il_of s).defs → RuleWith s.rules (λ rule. rule.name ≡ name)
named_rule s relation name any = rule_of_one s relation name (any_def s (IsRuleNamed relation name) any)

-- ---- cases of the syntax

case_contained : (atoms : List (List ℕ)) (tag : List ℕ) → Any (IsCase tag) (map (λ atom. alternative.Case atom []) atoms) → Contains atoms tag
case_contained [] tag (k, d, below, is, p) = absurd (omega arith)
case_contained (atom ∷ atoms) tag (zero, d, below, is, p) = let same : atom ≡ tag = cc in (0, omega arith, same)
case_contained (atom ∷ atoms) tag (suc k, d, below, is, p) =
    let (n, under, there) = case_contained atoms tag (k, d, omega arith, is, p) in (suc n, omega arith, there)

contained_case : (atoms : List (List ℕ)) (tag : List ℕ) → Contains atoms tag → Any (IsCase tag) (map (λ atom. alternative.Case atom []) atoms)
contained_case [] tag (k, below, is) = absurd (omega arith)
contained_case (atom ∷ atoms) tag (zero, below, is) = (0, alternative.Case tag [], omega arith, ap (λ t. alternative.Case t []) is, refl)
contained_case (atom ∷ atoms) tag (suc k, below, is) =
    let (n, d, under, there, holds) = contained_case atoms tag (k, omega arith, is) in (suc n, d, omega arith, there, holds)

case_of_one : (s : Small) (name tag : List ℕ) → OneOf s (HasCase name tag) → Contains s.atoms tag
case_of_one s name tag (inl has) = case_contained s.atoms tag has.1
case_of_one s name tag (inr (inl never)) = absurd never
case_of_one s name tag (inr (inr never)) = absurd never.3

pub case_known : (s : Small) (name tag : List ℕ) → Any (HasCase name tag) (il_of s).defs → Contains s.atoms tag
case_known s name tag any = case_of_one s name tag (any_def s (HasCase name tag) any)

pub known_case : (s : Small) (tag : List ℕ) → Contains s.atoms tag → Any (HasCase s.syntax tag) (il_of s).defs
known_case s tag known = (0, syntax_def s.syntax s.atoms, omega arith, refl, (refl, contained_case s.atoms tag known))
