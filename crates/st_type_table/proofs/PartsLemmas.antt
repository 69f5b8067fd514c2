-- Parts of a definition that are asked one run behind another.
use Rattle.std.proofs.Common.{◌≡◌, refl, sym, ap, ◌∙◌, subst, ℕ, zero, suc, ◌+◌, ◌<◌, ◌≤◌, List, [], ◌∷◌, ◌++◌, append_assoc, length, take, drop, None, arith, inl, inr, ◌⊎◌}
use Rattle.std.specs.List.{flat_map}
use Rattle.st_il.specs.declared.ty.Ty.{Ty}
use Rattle.st_il.specs.declared.definition.SyntaxDef.{SyntaxDef}
use Rattle.st_il.specs.declared.definition.SyntaxBody.{SyntaxBody}
use Rattle.st_il.specs.declared.definition.SyntaxBody.TheVariants as body
use Rattle.st_il.specs.declared.definition.Alternative.{Alternative}
use Rattle.st_type_table.specs.Leads.{names_in}
use Rattle.st_type_table.specs.Breach.{AllHold, FindsAt, on_alias, on_alternative, on_alternatives, on_field, on_fields, on_parts, run}
use Rattle.st_type_table.proofs.FlatLemmas.{append_nil, take-split}
use Rattle.st_type_table.proofs.CheckLemmas.{AllHold-append, front_hold, back_hold}
use Rattle.st_type_table.proofs.ReachLemmas.{take-take, run-end}

-- nothing is asked of no parts
pub FindsAt-none : (defs : List SyntaxDef) (at : ℕ) → FindsAt defs at 0 0 None
FindsAt-none defs at d e = by d.body
  where
    by : (b : SyntaxBody) → AllHold defs (on_parts d.name b 0 0)
    by (body.Alias t) = tt
    by (body.Variant parts) = tt
    by (body.Fields fields) = tt

-- ---- runs

run-join : {A : Type 0} (xs : List A) (from mid to : ℕ) → from ≤ mid → mid ≤ to → run from to xs ≡ run from mid xs ++ run mid to xs
run-join xs zero mid to h g = sym (take-split (take to xs) mid) ∙ ap (λ ys. ys ++ drop mid (take to xs)) (take-take xs mid to g)
run-join xs (suc from) zero to h g = absurd (omega arith)
run-join xs (suc from) (suc mid) zero h g = absurd (omega arith)
run-join [] (suc from) (suc mid) (suc to) h g = refl
run-join (x ∷ xs) (suc from) (suc mid) (suc to) h g = run-join xs from mid to (omega arith) (omega arith)

run-length : {A : Type 0} (xs : List A) (from mid : ℕ) → from ≤ mid → mid ≤ length xs → from + length (run from mid xs) ≡ mid
run-length xs zero zero h g = refl
run-length [] zero (suc mid) h g = absurd (omega arith)
run-length (x ∷ xs) zero (suc mid) h g = let r = run-length xs zero mid (omega arith) (omega arith) in omega (arith, r)
run-length xs (suc from) zero h g = absurd (omega arith)
run-length [] (suc from) (suc mid) h g = absurd (omega arith)
run-length (x ∷ xs) (suc from) (suc mid) h g = let r = run-length xs from mid (omega arith) (omega arith) in omega (arith, r)

run-front : {A : Type 0} (xs : List A) (from mid : ℕ) → from ≤ mid → take from xs ++ run from mid xs ≡ take mid xs
run-front xs from mid h = ap (λ ys. ys ++ drop from (take mid xs)) (sym (take-take xs from mid h)) ∙ take-split (take mid xs) from

within_or : (a b : ℕ) → (a ≤ b) ⊎ (b < a)
within_or zero b = inl (omega arith)
within_or (suc a) zero = inr (omega arith)
within_or (suc a) (suc b) = by (within_or a b)
  where
    by : (a ≤ b) ⊎ (b < a) → (suc a ≤ suc b) ⊎ (suc b < suc a)
    by (inl h) = inl (omega (arith, h))
    by (inr h) = inr (omega (arith, h))

-- ---- conditions on runs

module _ (defs : List SyntaxDef) where
  both-alternatives : (target : List ℕ) (n : ℕ) (before xs ys : List Alternative) → AllHold defs (on_alternatives target n before xs) → AllHold defs (on_alternatives target (n + length xs) (before ++ xs) ys)
      → AllHold defs (on_alternatives target n before (xs ++ ys))
  both-alternatives target n before [] ys h g =
      subst (λ k. AllHold defs (on_alternatives target k before ys)) (omega arith) (subst (λ z. AllHold defs (on_alternatives target (n + 0) z ys)) (append_nil before) g)
  both-alternatives target n before (x ∷ xs) ys h g =
      AllHold-append defs (on_alternative target n (before ++ x ∷ []) x) (on_alternatives target (suc n) (before ++ x ∷ []) (xs ++ ys))
      (front_hold defs (on_alternative target n (before ++ x ∷ []) x) (on_alternatives target (suc n) (before ++ x ∷ []) xs) h)
      (both-alternatives target (suc n) (before ++ x ∷ []) xs ys
      (back_hold defs (on_alternative target n (before ++ x ∷ []) x) (on_alternatives target (suc n) (before ++ x ∷ []) xs) h)
      (subst (λ k. AllHold defs (on_alternatives target k ((before ++ x ∷ []) ++ xs) ys)) (omega arith)
      (subst (λ z. AllHold defs (on_alternatives target (n + length (x ∷ xs)) z ys)) (sym (append_assoc before (x ∷ []) xs)) g)))

  both-fields : (n : ℕ) (before xs ys : List (List ℕ × Ty)) → AllHold defs (on_fields n before xs) → AllHold defs (on_fields (n + length xs) (before ++ xs) ys) → AllHold defs (on_fields n before (xs ++ ys))
  both-fields n before [] ys h g = subst (λ k. AllHold defs (on_fields k before ys)) (omega arith) (subst (λ z. AllHold defs (on_fields (n + 0) z ys)) (append_nil before) g)
  both-fields n before (x ∷ xs) ys h g =
      AllHold-append defs (on_field n before x) (on_fields (suc n) (before ++ x ∷ []) (xs ++ ys))
      (front_hold defs (on_field n before x) (on_fields (suc n) (before ++ x ∷ []) xs) h)
      (both-fields (suc n) (before ++ x ∷ []) xs ys (back_hold defs (on_field n before x) (on_fields (suc n) (before ++ x ∷ []) xs) h)
      (subst (λ k. AllHold defs (on_fields k ((before ++ x ∷ []) ++ xs) ys)) (omega arith)
      (subst (λ z. AllHold defs (on_fields (n + length (x ∷ xs)) z ys)) (sym (append_assoc before (x ∷ []) xs)) g)))

  both-alias : (name : List ℕ) (xs ys : List Ty) → AllHold defs (flat_map (λ u. on_alias name 0 (names_in u)) xs) → AllHold defs (flat_map (λ u. on_alias name 0 (names_in u)) ys)
      → AllHold defs (flat_map (λ u. on_alias name 0 (names_in u)) (xs ++ ys))
  both-alias name [] ys h g = g
  both-alias name (x ∷ xs) ys h g =
      AllHold-append defs (on_alias name 0 (names_in x)) (flat_map (λ u. on_alias name 0 (names_in u)) (xs ++ ys))
      (front_hold defs (on_alias name 0 (names_in x)) (flat_map (λ u. on_alias name 0 (names_in u)) xs) h)
      (both-alias name xs ys (back_hold defs (on_alias name 0 (names_in x)) (flat_map (λ u. on_alias name 0 (names_in u)) xs) h) g)

  -- what holds of one run of parts and of the next holds of both
  pub AllHold-parts : (name : List ℕ) (b : SyntaxBody) (from mid to : ℕ) → from ≤ mid → mid ≤ to → AllHold defs (on_parts name b from mid) → AllHold defs (on_parts name b mid to) → AllHold defs (on_parts name b from to)
  AllHold-parts name (body.Alias t) from mid to h g p q =
      subst (λ ts. AllHold defs (flat_map (λ u. on_alias name 0 (names_in u)) ts)) (sym (run-join (t ∷ []) from mid to h g)) (both-alias name (run from mid (t ∷ [])) (run mid to (t ∷ [])) p q)
  AllHold-parts name (body.Variant parts) from mid to h g p q =
      subst (λ ys. AllHold defs (on_alternatives name from (take from parts) ys)) (sym (run-join parts from mid to h g))
      (both-alternatives name from (take from parts) (run from mid parts) (run mid to parts) p (next (within_or mid (length parts))))
    where
      next : (mid ≤ length parts) ⊎ (length parts < mid) → AllHold defs (on_alternatives name (from + length (run from mid parts)) (take from parts ++ run from mid parts) (run mid to parts))
      next (inl l) = subst (λ k. AllHold defs (on_alternatives name k (take from parts ++ run from mid parts) (run mid to parts))) (sym (run-length parts from mid h l))
          (subst (λ z. AllHold defs (on_alternatives name mid z (run mid to parts))) (sym (run-front parts from mid h)) q)
      next (inr l) = subst (λ ys. AllHold defs (on_alternatives name (from + length (run from mid parts)) (take from parts ++ run from mid parts) ys)) (sym (run-end parts mid to (omega (arith, l)))) tt
  AllHold-parts name (body.Fields fields) from mid to h g p q =
      subst (λ ys. AllHold defs (on_fields from (take from fields) ys)) (sym (run-join fields from mid to h g))
      (both-fields from (take from fields) (run from mid fields) (run mid to fields) p (next (within_or mid (length fields))))
    where
      next : (mid ≤ length fields) ⊎ (length fields < mid) → AllHold defs (on_fields (from + length (run from mid fields)) (take from fields ++ run from mid fields) (run mid to fields))
      next (inl l) = subst (λ k. AllHold defs (on_fields k (take from fields ++ run from mid fields) (run mid to fields))) (sym (run-length fields from mid h l))
          (subst (λ z. AllHold defs (on_fields mid z (run mid to fields))) (sym (run-front fields from mid h)) q)
      next (inr l) = subst (λ ys. AllHold defs (on_fields (from + length (run from mid fields)) (take from fields ++ run from mid fields) ys)) (sym (run-end fields mid to (omega (arith, l)))) tt
