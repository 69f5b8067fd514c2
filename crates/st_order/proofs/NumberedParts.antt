-- Premises with their numbers, one after another.
use Rattle.std.proofs.Common.{◌≡◌, refl, sym, ◌∙◌, ap, ℕ, ◌+◌, ◌<◌, Bool, true, false, not, nat_eq, if◌then◌else◌, List, [], ◌∷◌, ◌++◌, append_assoc, length, get_or, drop, Option, Some}
use Rattle.std.specs.List.{enumerate_from}
use Rattle.st_il.specs.declared.definition.Il.{Il}
use Rattle.st_il.specs.declared.expression.IlPrem.{IlPrem}
use Rattle.st_il.specs.Names.{Name}
use Rattle.st_semantics.specs.Executable.{class_of}
use Rattle.st_semantics.specs.OrderOf as told
use Rattle.st_semantics.specs.OrderOf.{but_for}
use Rattle.st_order.specs.declared.class.Class.{Class}
use Rattle.st_order.specs.declared.selection.Numbered.{Numbered}
use Rattle.st_order.specs.inner.Classes.{kind, is_kind}
use Rattle.st_order.specs.inner.Selections.{numbered, all_numbered, first_of}
use Rattle.st_semantics.proofs.HoleSums.{drop_there}

all_numbered_append : (xs ys : List Numbered) → all_numbered (xs ++ ys) ≡ all_numbered xs ++ all_numbered ys
all_numbered_append [] ys = refl
all_numbered_append (x ∷ xs) ys = ap (λ z. numbered x ∷ z) (all_numbered_append xs ys)

abbrev pub with_number : ℕ → IlPrem → told.Numbered
with_number k p = (k, p)

-- one more premise is numbered
pub numbered_next : (ps : List IlPrem) (i n : ℕ) (p : IlPrem) (row new : List Numbered) (whole : List told.Numbered) (one : Numbered) → i < length ps → p ≡ get_or ps i p → n ≡ i + 1
    → numbered one ≡ with_number n p → all_numbered row ++ enumerate_from (i + 1) (drop i ps) ≡ whole → new ≡ row ++ one ∷ [] → all_numbered new ++ enumerate_from ((i + 1) + 1) (drop (i + 1) ps) ≡ whole
numbered_next ps i n p row new whole one h e n_is one_is inv new_is =
    let more : List told.Numbered = enumerate_from ((i + 1) + 1) (drop (i + 1) ps) in
    ap (λ z. z ++ more) (ap all_numbered new_is ∙ all_numbered_append row (one ∷ []) ∙ ap (λ z. all_numbered row ++ z ∷ []) (one_is ∙ ap (λ (k : ℕ). with_number k p) n_is))
    ∙ append_assoc (all_numbered row) (with_number (i + 1) p ∷ []) more ∙ ap (λ z. all_numbered row ++ enumerate_from (i + 1) z) (sym (drop_there ps i p h e)) ∙ inv

-- ---- a premise is left out

but_for_head : (k : ℕ) (p : told.Numbered) (ps : List told.Numbered) → but_for k (p ∷ ps) ≡ but_for k (p ∷ []) ++ but_for k ps
but_for_head k p ps = at (not (nat_eq p.0 k))
  where
    at : (b : Bool) → (if b then p ∷ but_for k ps else but_for k ps) ≡ (if b then p ∷ [] else []) ++ but_for k ps
    at true = refl
    at false = refl

pub but_for_next : (k : ℕ) (ps : List Numbered) (i : ℕ) (p : Numbered) (now new whole : List told.Numbered) → i < length ps → p ≡ get_or ps i p
    → now ++ but_for k (all_numbered (drop i ps)) ≡ whole → new ≡ now ++ but_for k (numbered p ∷ []) → new ++ but_for k (all_numbered (drop (i + 1) ps)) ≡ whole
but_for_next k ps i p now new whole h e inv n =
    let more : List told.Numbered = all_numbered (drop (i + 1) ps) in
    ap (λ z. z ++ but_for k more) n ∙ append_assoc now (but_for k (numbered p ∷ [])) (but_for k more) ∙ ap (λ z. now ++ z) (sym (but_for_head k (numbered p) more))
    ∙ ap (λ z. now ++ but_for k (all_numbered z)) (sym (drop_there ps i p h e)) ∙ inv

-- ---- the first of a class

module _ (il : Il) (bound : List Name) (wanted : Class) where
  -- this one has it
  pub first_here : (ps : List Numbered) (i : ℕ) (p : Numbered) (class : Option Class) (whole : Option told.Numbered) → i < length ps → p ≡ get_or ps i p
      → whole ≡ first_of il bound wanted (all_numbered (drop i ps)) → class ≡ kind (class_of il bound p.premise.now) → is_kind wanted class ≡ true → Some (numbered p) ≡ whole
  first_here ps i p class whole h e inv c is =
      sym (inv ∙ ap (λ z. first_of il bound wanted (all_numbered z)) (drop_there ps i p h e)
      ∙ ap (λ b. if b then Some (numbered p) else first_of il bound wanted (all_numbered (drop (i + 1) ps))) (ap (is_kind wanted) (sym c) ∙ is))

  -- this one has it not
  pub first_later : (ps : List Numbered) (i : ℕ) (p : Numbered) (class : Option Class) (whole : Option told.Numbered) → i < length ps → p ≡ get_or ps i p
      → whole ≡ first_of il bound wanted (all_numbered (drop i ps)) → class ≡ kind (class_of il bound p.premise.now) → is_kind wanted class ≡ false
      → whole ≡ first_of il bound wanted (all_numbered (drop (i + 1) ps))
  first_later ps i p class whole h e inv c is =
      inv ∙ ap (λ z. first_of il bound wanted (all_numbered z)) (drop_there ps i p h e)
      ∙ ap (λ b. if b then Some (numbered p) else first_of il bound wanted (all_numbered (drop (i + 1) ps))) (ap (is_kind wanted) (sym c) ∙ is)
