-- Entries of tokens that pass no limit, the entry of a token, and the rule of one that passes a
-- limit.
use Rattle.std.proofs.Common.{◌≡◌, ℕ, ◌≤◌, List, [], ◌∷◌, ◌++◌, length, get_or, Bool, true, false, ◌||◌, nat_lt, Some, None, if◌then◌else◌, sym, ap, ◌∙◌, append_assoc, arith}
use Rattle.std.specs.List.{list_any}
use Rattle.std.proofs.lemmas.List.Folds.{list_any-append}
use Rattle.std.proofs.Math.Seq.{get_or-append_seam}
use Rattle.st_num.specs.declared.rule.RuleId.{RuleId}
use Rattle.st_num.specs.declared.rule.RuleId.TheVariants.{S2, S3}
use Rattle.st_parse_faults.specs.inner.Judging.{broken, limited}
use Rattle.st_parse_faults.specs.Number.{Number, too_deep, too_many}
use Rattle.st_parse_faults.specs.Faults.{passes_limit, limit_rule, NonePasses}
use Rattle.st_parse_faults.proofs.KeptTallies.{neither}
use Rattle.st_parse_faults.proofs.NumberFacts.{or_false}

-- ---- no limit

pub below : (a b : ℕ) → nat_lt a b ≡ false → b ≤ a
below a b e = grind arith

pub front_clear : (xs ys : List (List Number)) → NonePasses (xs ++ ys) → NonePasses xs
front_clear xs ys e = (neither (list_any passes_limit xs) (list_any passes_limit ys) (sym (list_any-append passes_limit xs ys) ∙ e)).0

pub entry_clear : (xs : List (List Number)) (e : List Number) → NonePasses (xs ++ e ∷ []) → (list_any too_deep e ≡ false) × (list_any too_many e ≡ false)
entry_clear xs e f =
    let last = (neither (list_any passes_limit xs) (passes_limit e || false) (sym (list_any-append passes_limit xs (e ∷ [])) ∙ f)).1 in
    neither (list_any too_deep e) (list_any too_many e) (sym (or_false (passes_limit e)) ∙ last)

pub more_clear : (xs : List (List Number)) (e : List Number) → NonePasses xs → list_any too_deep e ≡ false → list_any too_many e ≡ false → NonePasses (xs ++ e ∷ [])
more_clear xs e f d m =
    list_any-append passes_limit xs (e ∷ [])
    ∙ ap (λ v. v || (passes_limit e || false)) f
    ∙ or_false (passes_limit e)
    ∙ ap (λ v. v || list_any too_many e) d
    ∙ m

-- ---- one entry

pub entry_at : (xs es : List (List Number)) (e : List Number) (k : ℕ) → length xs ≡ k → get_or ((xs ++ e ∷ []) ++ es) k [] ≡ e
entry_at xs es e k h = ap (λ n. get_or ((xs ++ e ∷ []) ++ es) n []) (sym h) ∙ ap (λ v. get_or v (length xs) []) (append_assoc xs (e ∷ []) es) ∙ get_or-append_seam xs e es []

pub limit_broken : (S : Type 0) (e : List Number) (r : RuleId) (s : S) → limited (list_any too_deep e) (list_any too_many e) s ≡ broken r → limit_rule e ≡ Some r
limit_broken S e r s f = go (list_any too_deep e) (list_any too_many e) f
  where
    go : (a b : Bool) → limited a b s ≡ broken r → (if a then Some S2 else if b then Some S3 else None) ≡ Some r
    go true b g = let is : S2 ≡ r = cc in ap Some is
    go false true g = let is : S3 ≡ r = cc in ap Some is
    go false false g = absurd (cc)

pub broken_limit : (S : Type 0) (e : List Number) (r : RuleId) (s : S) → limit_rule e ≡ Some r → limited (list_any too_deep e) (list_any too_many e) s ≡ broken r
broken_limit S e r s f = go (list_any too_deep e) (list_any too_many e) f
  where
    go : (a b : Bool) → (if a then Some S2 else if b then Some S3 else None) ≡ Some r → limited a b s ≡ broken r
    go true b g = let is : S2 ≡ r = cc in ap broken is
    go false true g = let is : S3 ≡ r = cc in ap broken is
    go false false g = absurd (cc)
