-- A token that the grammar refuses, or the end there, breaks one rule.
use Rattle.std.proofs.Common.{◌≡◌, inl, inr, ℕ, ◌<◌, List, length, take, get_or, Bool, true, false, ◌==◌, Some, None, slice_get, if◌then◌else◌, refl, sym, subst, ◌∙◌, arith}
use Rattle.std.proofs.lemmas.Option.{slice_get-get_or, slice_get_past}
use Rattle.st_num.specs.declared.rule.RuleId.{RuleId}
use Rattle.st_num.specs.declared.rule.RuleId.TheVariants.{S1, S4}
use Rattle.st_num.specs.declared.token.Token.{Token}
use Rattle.st_grammar.proofs.PositionSteps.{is_same}
use Rattle.st_parse_faults.specs.Faults.{Text, terminals_of, BeginsLeftOut, RuleOf}
use Rattle.st_parse_faults.proofs.JudgingLemmas.{OfGrammar, grammar_s1, grammar_s4}

-- the two tell the same
abbrev pub Same : Bool → Type 0 → Type 0
Same b A = (b ≡ true → A) × (A → b ≡ true)

pub zero_is : (n : ℕ) → Same (n == 0) (n ≡ 0)
zero_is n = (λ e. is_same n 0 e, λ e. grind arith)

pub one_token : (tokens : List Token) (k : ℕ) (d y : Token) → k < length tokens → slice_get tokens k ≡ Some y → y ≡ get_or tokens k d
one_token tokens k d y h e = let both : Some y ≡ Some (get_or tokens k d) = sym e ∙ slice_get-get_or tokens k d h in cc

-- whether a form is left out there decides the rule, which is no limit
pub of_grammar : (b : Bool) → OfGrammar (if b then S4 else S1)
of_grammar true = grammar_s4
of_grammar false = grammar_s1

pub rule_told : (text : Text) (k : ℕ) (d : Token) (b : Bool) → k < length text.tokens → Same b (text.LeavesOut (take k (terminals_of text)) (get_or text.tokens k d)) → RuleOf text k (if b then S4 else S1)
rule_told text k d true h s = inl (refl, (get_or text.tokens k d, slice_get-get_or text.tokens k d h, s.0 refl))
rule_told text k d false h s = inr (
  refl,
  λ q. let no : false ≡ true = s.1 (subst (text.LeavesOut (take k (terminals_of text))) (one_token text.tokens k d q.0 h q.1) q.2) in absurd (cc),
)

pub one_rule : (text : Text) (k : ℕ) (q r : RuleId) → RuleOf text k q → RuleOf text k r → q ≡ r
one_rule text k q r (inl a) (inl b) = a.0 ∙ sym b.0
one_rule text k q r (inl a) (inr b) = absurd (b.1 a.1)
one_rule text k q r (inr a) (inl b) = absurd (a.1 b.1)
one_rule text k q r (inr a) (inr b) = a.0 ∙ sym b.0

-- at the end no form begins
pub no_token : (text : Text) (k : ℕ) → k ≡ length text.tokens → BeginsLeftOut text k → ⊥
no_token text k e b = let no : Some b.0 ≡ None = sym b.1 ∙ slice_get_past text.tokens k (omega (arith, e)) in absurd (cc)

-- so the rule there is that of the grammar
pub rule_at_end : (text : Text) (k : ℕ) (r : RuleId) → k ≡ length text.tokens → RuleOf text k r → r ≡ S1
rule_at_end text k r e (inl a) = absurd (no_token text k e a.1)
rule_at_end text k r e (inr a) = a.0
