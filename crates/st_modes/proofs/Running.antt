-- Premises that are run at their written places depend on which names are bound, and on no order
-- of them.
use Rattle.std.proofs.Common.{◌≡◌, refl, sym, ◌∙◌, ap, ap₂, ℕ, ◌+◌, ◌<◌, ◌≤◌, Bool, true, false, ◌&&◌, List, [], ◌∷◌, ◌++◌, length, get_or, drop, is_some, Option, Some, None}
use Rattle.st_il.specs.declared.definition.Il.{Il}
use Rattle.st_il.specs.declared.expression.IlPrem.{IlPrem}
use Rattle.st_il.specs.Names.{Name}
use Rattle.st_semantics.specs.Variables.{prem_vars}
use Rattle.st_semantics.specs.Executable as run
use Rattle.st_semantics.specs.Executable.{Test, Equation, Judgement, class_of}
use Rattle.st_semantics.specs.Orders.{run_on}
use Rattle.st_semantics.specs.ModeRules.{has_one_open, patterns_have_one_open}
use Rattle.st_order.specs.declared.class.Class as made
use Rattle.st_order.specs.inner.Index.{SameNames}
use Rattle.st_order.specs.inner.Classes.{kind}
use Rattle.st_semantics.proofs.HoleSums.{drop_there}
use Rattle.st_order.proofs.HoleParts.{drop_all}
use Rattle.st_order.proofs.NamesIn.{SameNames-append}
use Rattle.st_order.proofs.SameNames.{known_same}
use Rattle.st_order.proofs.SameClass.{class_same}

pub run_same : (il : Il) (ps : List IlPrem) (a b : List Name) → SameNames a b → (asked : List Name) → run_on il a ps asked ≡ run_on il b ps asked
run_same il [] a b s asked = known_same a b s asked
run_same il (p ∷ ps) a b s asked =
    ap₂ (λ x y. is_some x && y) (class_same il p a b s) (run_same il ps (a ++ prem_vars p) (b ++ prem_vars p) (SameNames-append a b (prem_vars p) s) asked)

pub open_same : (il : Il) (ps : List IlPrem) (a b : List Name) → SameNames a b → patterns_have_one_open il a ps ≡ patterns_have_one_open il b ps
open_same il [] a b s = refl
open_same il (p ∷ ps) a b s =
    ap₂ (λ x y. has_one_open x && y) (class_same il p a b s) (open_same il ps (a ++ prem_vars p) (b ++ prem_vars p) (SameNames-append a b (prem_vars p) s))

-- ---- whether there is a class

some_kind : (c : Option run.Class) → is_some (kind c) ≡ is_some c
some_kind None = refl
some_kind (Some Test) = refl
some_kind (Some (Equation pattern)) = refl
some_kind (Some Judgement) = refl

and_false : (a b : Bool) → a ≡ false → (a && b) ≡ false
and_false a b h = ap (λ z. z && b) h

module _ (il : Il) (ps : List IlPrem) (i : ℕ) (p : IlPrem) (now whole : List Name) (h : i < length ps) (is : p ≡ get_or ps i p) where
  -- ---- one after another, where some can be run

  abbrev Inv : Type 0
  Inv = run_on il now (drop i ps) [] ≡ run_on il whole ps []

  run_head : Inv → run_on il whole ps [] ≡ (is_some (class_of il now p) && run_on il (now ++ prem_vars p) (drop (i + 1) ps) [])
  run_head inv = sym inv ∙ ap (λ z. run_on il now z []) (drop_there ps i p h is)

  -- the next one can be run
  pub run_next : (new : List Name) (class : Option made.Class) → class ≡ kind (class_of il now p) → is_some class ≡ true → SameNames new (now ++ prem_vars p) → Inv
      → run_on il new (drop (i + 1) ps) [] ≡ run_on il whole ps []
  run_next new class c there s inv =
      run_same il (drop (i + 1) ps) new (now ++ prem_vars p) s []
      ∙ sym (run_head inv ∙ ap (λ z. z && run_on il (now ++ prem_vars p) (drop (i + 1) ps) []) (sym (some_kind (class_of il now p)) ∙ ap is_some (sym c) ∙ there))

  -- it cannot
  pub run_stopped : (class : Option made.Class) → class ≡ kind (class_of il now p) → is_some class ≡ false → Inv → false ≡ run_on il whole ps []
  run_stopped class c none inv =
      sym (run_head inv ∙ and_false (is_some (class_of il now p)) (run_on il (now ++ prem_vars p) (drop (i + 1) ps) []) (sym (some_kind (class_of il now p)) ∙ ap is_some (sym c) ∙ none))

  -- ---- the same of patterns

  abbrev OpenInv : Type 0
  OpenInv = patterns_have_one_open il now (drop i ps) ≡ patterns_have_one_open il whole ps

  open_head : OpenInv → patterns_have_one_open il whole ps ≡ (has_one_open (class_of il now p) && patterns_have_one_open il (now ++ prem_vars p) (drop (i + 1) ps))
  open_head inv = sym inv ∙ ap (λ z. patterns_have_one_open il now z) (drop_there ps i p h is)

  pub open_next : (new : List Name) (has : Bool) → has ≡ has_one_open (class_of il now p) → has ≡ true → SameNames new (now ++ prem_vars p) → OpenInv
      → patterns_have_one_open il new (drop (i + 1) ps) ≡ patterns_have_one_open il whole ps
  open_next new has c there s inv =
      open_same il (drop (i + 1) ps) new (now ++ prem_vars p) s
      ∙ sym (open_head inv ∙ ap (λ z. z && patterns_have_one_open il (now ++ prem_vars p) (drop (i + 1) ps)) (sym c ∙ there))

  pub open_stopped : (has : Bool) → has ≡ has_one_open (class_of il now p) → has ≡ false → OpenInv → false ≡ patterns_have_one_open il whole ps
  open_stopped has c none inv =
      sym (open_head inv ∙ and_false (has_one_open (class_of il now p)) (patterns_have_one_open il (now ++ prem_vars p) (drop (i + 1) ps)) (sym c ∙ none))

-- ---- nothing is left

pub run_end : (il : Il) (ps : List IlPrem) (i : ℕ) (now whole : List Name) → length ps ≤ i → run_on il now (drop i ps) [] ≡ run_on il whole ps [] → true ≡ run_on il whole ps []
run_end il ps i now whole beyond inv = sym (ap (λ z. run_on il now z []) (drop_all ps i beyond)) ∙ inv

pub open_end : (il : Il) (ps : List IlPrem) (i : ℕ) (now whole : List Name) → length ps ≤ i → patterns_have_one_open il now (drop i ps) ≡ patterns_have_one_open il whole ps
    → true ≡ patterns_have_one_open il whole ps
open_end il ps i now whole beyond inv = sym (ap (λ z. patterns_have_one_open il now z) (drop_all ps i beyond)) ∙ inv
