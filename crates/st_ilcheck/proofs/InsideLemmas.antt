-- Occurrences in the body of an iteration.
use Rattle.std.proofs.Common.{◌≡◌, ℕ, ◌+◌, ◌<◌, ◌≤◌, refl, sym, ap, ◌∙◌, List, [], ◌∷◌, ◌++◌, Bool, true, false, cond, map, filter, length, drop, get_or, append_assoc, append-nil}
use Rattle.std.specs.Prelude.{not}
use Rattle.std.proofs.lemmas.List.{drop_all}
use Rattle.st_num.specs.declared.dim.Kind.{Kind}
use Rattle.st_il.specs.Names.{Name, has_name}
use Rattle.st_ilcheck.specs.Variables.{Occurrence, deeper, inside}
use Rattle.st_ilcheck.proofs.Drops.{from}

module _ (index : List Name) (kind : Kind) where
  pub inside-skipped : (o : Occurrence) → has_name index o.0 ≡ true → inside index kind (o ∷ []) ≡ []
  inside-skipped o h = ap (λ b. map (deeper kind) (cond (not b) (o ∷ []) [])) h

  pub inside-kept : (o : Occurrence) → has_name index o.0 ≡ false → inside index kind (o ∷ []) ≡ deeper kind o ∷ []
  inside-kept o h = ap (λ b. map (deeper kind) (cond (not b) (o ∷ []) [])) h

  split_by : (b : Bool) (o : Occurrence) (os : List Occurrence) → map (deeper kind) (cond b (o ∷ os) os) ≡ map (deeper kind) (cond b (o ∷ []) []) ++ map (deeper kind) os
  split_by true o os = refl
  split_by false o os = refl

  split : (o : Occurrence) (os : List Occurrence) → inside index kind (o ∷ os) ≡ inside index kind (o ∷ []) ++ inside index kind os
  split o os = split_by (not (has_name index o.0)) o (filter (λ (z : Occurrence). not (has_name index z.0)) os)

  pub inside-next : (all : List Occurrence) (i : ℕ) (o : Occurrence) (found longer : List Occurrence) → i < length all → o ≡ get_or all i o → longer ≡ found ++ inside index kind (o ∷ [])
      → longer ++ inside index kind (drop (i + 1) all) ≡ found ++ inside index kind (drop i all)
  inside-next all i o found longer h is w =
      ap (λ z. z ++ inside index kind (drop (i + 1) all)) w
      ∙ (append_assoc found (inside index kind (o ∷ [])) (inside index kind (drop (i + 1) all))
      ∙ ap (λ z. found ++ z) (sym (split o (drop (i + 1) all)) ∙ sym (ap (inside index kind) (from all i o h is))))

  pub inside-end : (all : List Occurrence) (i : ℕ) (found : List Occurrence) → length all ≤ i → found ++ inside index kind (drop i all) ≡ inside index kind all → found ≡ inside index kind all
  inside-end all i found h w = sym (append-nil found) ∙ (ap (λ z. found ++ inside index kind z) (sym (drop_all i all h)) ∙ w)
