-- The first rule that is not kept, of those from a place on.
use Rattle.std.proofs.Common.{◌≡◌, ℕ, ◌+◌, ◌<◌, ◌≤◌, List, [], ◌∷◌, Option, Some, None, length, get_or, drop, refl, ◌∙◌, sym, ap, subst, inl, inr, drop-cons, add-one}
use Rattle.std.proofs.lemmas.List.{drop_all}
use Rattle.st_semantics.specs.declared.verify_rule.VerifyRule.{VerifyRule}
use Rattle.st_verify.specs.SmallVerdict.{FirstBroken}

pub kept_here : (K : VerifyRule → Type 0) (rules : List VerifyRule) (i : ℕ) (rule : VerifyRule) (broken : Option VerifyRule) → i < length rules → K (get_or rules i rule)
    → FirstBroken K (drop (i + 1) rules) broken → FirstBroken K (drop i rules) broken
kept_here K rules i rule broken at kept later =
    let here : drop i rules ≡ get_or rules i rule ∷ drop (i + 1) rules = drop-cons rules i rule at ∙ ap (λ n. get_or rules i rule ∷ drop n rules) (sym (add-one i)) in
    subst (λ left. FirstBroken K left broken) (sym here) (inl (kept, later))

pub broken_here : (K : VerifyRule → Type 0) (rules : List VerifyRule) (i : ℕ) (rule : VerifyRule) → i < length rules → (K (get_or rules i rule) → ⊥)
    → FirstBroken K (drop i rules) (Some (get_or rules i rule))
broken_here K rules i rule at broken =
    subst (λ left. FirstBroken K left (Some (get_or rules i rule))) (sym (drop-cons rules i rule at)) (inr (broken, refl))

pub none_broken : (K : VerifyRule → Type 0) (rules : List VerifyRule) (i : ℕ) → length rules ≤ i → FirstBroken K (drop i rules) None
none_broken K rules i past = subst (λ left. FirstBroken K left None) (sym (drop_all i rules past)) refl

-- where all are kept, none is broken
abbrev pub AllKept : (VerifyRule → Type 0) → List VerifyRule → Type 0
AllKept K [] = Unit {0}
AllKept K (rule ∷ rules) = K rule × AllKept K rules

pub all_kept : (K : VerifyRule → Type 0) (rules : List VerifyRule) (broken : Option VerifyRule) → AllKept K rules → FirstBroken K rules broken → broken ≡ None
all_kept K [] broken kept first = first
all_kept K (rule ∷ rules) broken kept (inl here) = all_kept K rules broken kept.1 here.1
all_kept K (rule ∷ rules) broken kept (inr never) = absurd (never.0 kept.0)

-- a rule that is kept is passed over
pub passed : (K : VerifyRule → Type 0) (rule : VerifyRule) (rules : List VerifyRule) (broken : Option VerifyRule) → K rule → FirstBroken K (rule ∷ rules) broken
    → FirstBroken K rules broken
passed K rule rules broken kept (inl here) = here.1
passed K rule rules broken kept (inr never) = absurd (never.0 kept)
