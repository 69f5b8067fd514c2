-- Tokens have at most one answer of expressions, want of memory aside.
use Rattle.std.proofs.Common.{◌≡◌, ℕ, ◌≤◌, ◌<◌, inl, inr, List, map, Ok, Err, sym, ap, subst, ◌∙◌, arith}
use Rattle.st_num.specs.declared.limit.TheConstants.{HIGHEST_TREE}
use Rattle.st_num.specs.declared.span.Span.{Span}
use Rattle.st_num.specs.declared.rule.RuleId.{RuleId}
use Rattle.st_num.specs.declared.token.Token.{Token}
use Rattle.st_num.specs.declared.fault.Fault.TheVariants.{Refused}
use Rattle.st_el.specs.declared.expression.Exp.{Exp}
use Rattle.st_parse_builder.specs.Heights.{highest, height}
use Rattle.st_parse_faults.specs.Place.{place_at}
use Rattle.st_parse.specs.ExpressionSource.{Answers}
use Rattle.st_parse.proofs.ExpressionBroken.{one_broken, never_kept}
use Rattle.st_parse.proofs.ExpressionParsing.{one_meaning}

pub one_file : (names : List (List ℕ)) (tokens : List Token) (a b : List Exp) → Answers names tokens (Ok a) → Answers names tokens (Ok b) → a ≡ b
one_file names tokens a b p q = one_meaning names tokens a b p.0.1 q.0.1

-- expressions that are too high are no others
never_high : (a b : List Exp) → a ≡ b → HIGHEST_TREE < highest (map height a) → highest (map height b) ≤ HIGHEST_TREE → ⊥
never_high a b e h k =
    let g : HIGHEST_TREE < highest (map height b) = subst (λ es. HIGHEST_TREE < highest (map height es)) e h in omega arith

pub never_file : (names : List (List ℕ)) (tokens : List Token) (exps : List Exp) (at : Span) (rule : RuleId) → Answers names tokens (Err (Refused at rule)) → Answers names tokens (Ok exps) → ⊥
never_file names tokens exps at rule (inl f) s = never_kept names tokens f.0 rule f.1 s.0.0
never_file names tokens exps at rule (inr h) s = never_high h.0 exps (one_meaning names tokens h.0 exps h.1.1 s.0.1) h.2 s.1

pub one_refusal : (names : List (List ℕ)) (tokens : List Token) (at there : Span) (rule other : RuleId) → Answers names tokens (Err (Refused at rule)) → Answers names tokens (Err (Refused there other))
    → (at ≡ there) × (rule ≡ other)
one_refusal names tokens at there rule other (inl f) (inl g) =
    let e = one_broken names tokens f.0 g.0 rule other f.1 g.1 in
    (f.2 ∙ ap (place_at tokens) e.0 ∙ sym g.2, e.1)
one_refusal names tokens at there rule other (inl f) (inr h) = absurd (never_kept names tokens f.0 rule f.1 h.1.0)
one_refusal names tokens at there rule other (inr h) (inl g) = absurd (never_kept names tokens g.0 other g.1 h.1.0)
one_refusal names tokens at there rule other (inr h) (inr k) = (h.4 ∙ sym k.4, h.3 ∙ sym k.3)
