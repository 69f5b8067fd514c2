-- The indices of what is elaborated are noted.
use Rattle.std.proofs.Common.{◌≡◌, inl, inr, refl, sym, ap, ap₂, ◌∙◌, subst, ℕ, List, [], ◌∷◌, ◌++◌, map, length}
use Rattle.std.specs.List.{AllByRecursion}
use Rattle.st_il.specs.declared.expression.IlExp.{IlExp, out-IlExp}
use Rattle.st_il.specs.declared.expression.IlExp.TheOpen.{IlExp-F}
use Rattle.st_il.specs.declared.expression.IlPrem.{IlPrem, roll-IlPrem, out-roll-IlPrem, map-IlPrem, fold_out-IlPrem}
use Rattle.st_il.specs.declared.expression.IlPrem.TheOpen.{IlPrem-F}
use Rattle.st_il.specs.declared.expression.Iteration.{Iteration, out-Iteration}
use Rattle.st_dims.specs.declared.within.Within.{Within}
use Rattle.st_dims.specs.Around.{entered, outside}
use Rattle.st_il.specs.Names.{flattened}
use Rattle.st_semantics.specs.Iterations.{count_of, index_of, kind_of}
use Rattle.st_semantics.proofs.Wider.{Parts, prem-ind}
use Rattle.st_ilcheck.specs.Variables.{indices, indices_at, indices_in, count_indices_at, prem_indices, prem_indices_at, all_indices}
use Rattle.st_elab_law.specs.Notes.{Note, indexes, Notes, beside, all_of}
use Rattle.st_elab_law.specs.Noted.{iteration_note, iterated, must_at, noted, prem_noted, prem_noted_at, all_noted}
use Rattle.st_elab_typed.proofs.ExpInduction.{Level, parts_at, exp_induction}
use Rattle.st_elab_typed.proofs.Members.{Has, Has-left, Has-right, Has-either, Has-map}
use Rattle.st_elab_typed.proofs.Occurring.{IsPlain}
use Rattle.st_elab_typed.proofs.Collected.{mapped, of_count, operands-are, opened, opened-count, counted-are, index-is}
use Rattle.st_elab_typed.proofs.NotedParts.{noted-level, noted-parts, noted-Iter, round-parts, prem_noted-level}

-- each of these indices is noted, whatever stands round the part
abbrev pub AreNoted : List (List ℕ) → Notes → Type 0
AreNoted names notes = (w : Within) (i : List ℕ) → Has names i → Has (notes w) (indexes i)

both_noted : (ns ms : List (List ℕ)) (s t : Notes) → AreNoted ns s → AreNoted ms t → AreNoted (ns ++ ms) (beside s t)
both_noted ns ms s t h k w i m = elim (Has-either ns ms i m) [ inl a ↦ Has-left (s w) (t w) (indexes i) (h w i a) | inr b ↦ Has-right (s w) (t w) (indexes i) (k w i b) ]

all_noted_of : {A : Type 0} (f : A → List (List ℕ)) (g : A → Notes) (xs : List A) → AllByRecursion (λ (x : A). AreNoted (f x) (g x)) xs → AreNoted (flattened (map f xs)) (all_of (map g xs))
all_noted_of f g [] h = λ w i m. absurd m
all_noted_of f g (x ∷ xs) h = both_noted (f x) (flattened (map f xs)) (g x) (all_of (map g xs)) h.0 (all_noted_of f g xs h.1)

-- an iteration: its index, what stands in its count, and what stands in its body
iterated_noted : (how : Iteration) (counts inner : List (List ℕ)) (body : Notes) → AreNoted counts (all_of (map noted (count_of how))) → AreNoted inner body
    → AreNoted (index_of how ++ (counts ++ inner)) (iterated (record { kind = kind_of how; index = index_of how; must = must_at (out-Iteration how); count = all_of (map noted (count_of how)) }) body)
iterated_noted how counts inner body h k w i m =
    let e : Within = entered (kind_of how) (index_of how) w in
    let first : List Note = iteration_note (must_at (out-Iteration how)) (length w.kinds) (body e) in
    let last : List Note = all_of (map noted (count_of how)) w in
    elim (Has-either (index_of how) (counts ++ inner) i m) [
      | inl a ↦ Has-left (first ++ map indexes (index_of how) ++ body e) last (indexes i)
          (Has-left (first ++ map indexes (index_of how)) (body e) (indexes i) (Has-right first (map indexes (index_of how)) (indexes i) (Has-map indexes (index_of how) i a)))
      | inr b ↦ elim (Has-either counts inner i b) [
        | inl c ↦ Has-right (first ++ map indexes (index_of how) ++ body e) last (indexes i) (h w i c)
        | inr d ↦ Has-left (first ++ map indexes (index_of how) ++ body e) last (indexes i) (Has-right (first ++ map indexes (index_of how)) (body e) (indexes i) (k e i d))
      ]
    ]

indices-parts : (y : Level) → IsPlain y → indices_at (mapped indices_at count_indices_at y) ≡ indices_in (parts_at y)
indices-parts (IlExp-F.Iter how xs body) h = absurd h
indices-parts y h = ap flattened (operands-are indices_at count_indices_at y)

indices-counted : (how : Iteration) → of_count indices_at count_indices_at how ≡ index_of how ++ indices_in (count_of how)
indices-counted how =
    opened-count indices_at count_indices_at how
    ∙ ap₂ (λ a b. a ++ b) (index-is indices_at count_indices_at (out-Iteration how)) (counted-are indices_at count_indices_at (out-Iteration how))

indices-level : (x : IlExp) (y : Level) → out-IlExp x ≡ y → indices x ≡ indices_at (mapped indices_at count_indices_at y)
indices-level x y is = opened indices_at count_indices_at x ∙ ap (λ z. indices_at (mapped indices_at count_indices_at z)) is

regroup : (index counts inner : List (List ℕ)) (i : List ℕ) → Has ((index ++ counts) ++ inner) i → Has (index ++ (counts ++ inner)) i
regroup index counts inner i h = elim (Has-either (index ++ counts) inner i h) [
  | inl a ↦ elim (Has-either index counts i a) [ inl b ↦ Has-left index (counts ++ inner) i b | inr b ↦ Has-right index (counts ++ inner) i (Has-left counts inner i b) ]
  | inr a ↦ Has-right index (counts ++ inner) i (Has-right counts inner i a)
]

-- the indices in an expression are noted
pub indices-noted : (x : IlExp) → AreNoted (indices x) (noted x)
indices-noted = exp_induction (λ x. AreNoted (indices x) (noted x)) (λ x h. by x (out-IlExp x) refl h)
  where
    at : (x : IlExp) (y : Level) → out-IlExp x ≡ y → AllByRecursion (λ z. AreNoted (indices z) (noted z)) (parts_at y) → AreNoted (indices x) (noted x)
    at x (IlExp-F.Var name) is h = λ w i m. absurd (subst (λ z. Has z i) (indices-level x (IlExp-F.Var name) is) m)
    at x (IlExp-F.Iter how xs body) is h = λ w i m.
        let names : Has ((index_of how ++ indices_in (count_of how)) ++ indices body) i =
        subst (λ z. Has z i) (indices-level x (IlExp-F.Iter how xs body) is ∙ ap (λ z. z ++ indices body) (indices-counted how)) m in
        subst (λ (z : Notes). Has (z w) (indexes i)) (sym (noted-Iter x how xs body is))
        (iterated_noted how (indices_in (count_of how)) (indices body) (noted body) (all_noted_of indices noted (count_of how) h.1) h.0 w i (regroup (index_of how) (indices_in (count_of how)) (indices body) i names))
    at x y is h = λ w i m.
        subst (λ (z : Notes). Has (z w) (indexes i)) (sym (noted-level x y is ∙ noted-parts y tt))
        (all_noted_of indices noted (parts_at y) h w i (subst (λ z. Has z i) (indices-level x y is ∙ indices-parts y tt) m))

    by : (x : IlExp) (y : Level) → out-IlExp x ≡ y → AllByRecursion (λ z. AreNoted (indices z) (noted z)) (parts_at (out-IlExp x)) → AreNoted (indices x) (noted x)
    by x y is h = at x y is (subst (λ z. AllByRecursion (λ v. AreNoted (indices v) (noted v)) (parts_at z)) is h)

indices_in-noted : (xs : List IlExp) → AreNoted (indices_in xs) (all_of (map noted xs))
indices_in-noted xs = all_noted_of indices noted xs (each xs)
  where
    each : (xs : List IlExp) → AllByRecursion (λ z. AreNoted (indices z) (noted z)) xs
    each [] = tt
    each (x ∷ xs) = (indices-noted x, each xs)

-- ---- premises

abbrev IsPremNoted : IlPrem → Type 0
IsPremNoted p = AreNoted (prem_indices p) (prem_noted p)

prem_indices-level : (y : IlPrem-F IlPrem) → prem_indices (roll-IlPrem y) ≡ prem_indices_at (map-IlPrem IlPrem (List (List ℕ)) prem_indices y)
prem_indices-level y = fold_out-IlPrem (List (List ℕ)) prem_indices_at (roll-IlPrem y) ∙ ap (λ z. prem_indices_at (map-IlPrem IlPrem (List (List ℕ)) prem_indices z)) (out-roll-IlPrem y)

prem_by_level : (y : IlPrem-F IlPrem) → AreNoted (prem_indices_at (map-IlPrem IlPrem (List (List ℕ)) prem_indices y)) (prem_noted_at (map-IlPrem IlPrem Notes prem_noted y)) → IsPremNoted (roll-IlPrem y)
prem_by_level y h w i m = subst (λ (z : Notes). Has (z w) (indexes i)) (sym (prem_noted-level y)) (h w i (subst (λ z. Has z i) (prem_indices-level y) m))

-- the indices in a premise are noted
pub prem_indices-noted : (p : IlPrem) → AreNoted (prem_indices p) (prem_noted p)
prem_indices-noted = prem-ind IsPremNoted step
  where
    step : (y : IlPrem-F IlPrem) → Parts IsPremNoted y → IsPremNoted (roll-IlPrem y)
    step (IlPrem-F.If e) h = prem_by_level (IlPrem-F.If e) (indices-noted e)
    step (IlPrem-F.Goal relation es) h = prem_by_level (IlPrem-F.Goal relation es) (indices_in-noted es)
    step IlPrem-F.Otherwise h = prem_by_level IlPrem-F.Otherwise (λ w i m. absurd m)
    step (IlPrem-F.Each how xs body) h =
        prem_by_level (IlPrem-F.Each how xs body)
        (subst (AreNoted (index_of how ++ (indices_in (count_of how) ++ prem_indices body))) (ap (λ r. iterated r (prem_noted body)) (sym (round-parts how)))
        (iterated_noted how (indices_in (count_of how)) (prem_indices body) (prem_noted body) (indices_in-noted (count_of how)) h))

each_premise : (ps : List IlPrem) → AllByRecursion IsPremNoted ps
each_premise [] = tt
each_premise (p ∷ ps) = (prem_indices-noted p, each_premise ps)

-- the indices in a rule or a clause are noted
pub all_indices-noted : (es : List IlExp) (ps : List IlPrem) (i : List ℕ) → Has (all_indices es ps) i → Has (all_noted es ps) (indexes i)
all_indices-noted es ps i m =
    both_noted (indices_in es) (flattened (map prem_indices ps)) (all_of (map noted es)) (all_of (map prem_noted ps))
    (indices_in-noted es) (all_noted_of prem_indices prem_noted ps (each_premise ps)) outside i m
