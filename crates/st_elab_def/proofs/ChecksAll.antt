-- A phase, one definition after another.
use Rattle.std.proofs.Common.{◌≡◌, sym, ◌∙◌, subst, ℕ, ◌+◌, ◌<◌, List, length, take, drop, get_or}
use Rattle.std.specs.Prelude.{Result, Ok, Err}
use Rattle.st_num.specs.declared.fault.Fault.{Fault}
use Rattle.st_el.specs.declared.definition.Def.{Def}
use Rattle.st_elab_table.specs.declared.decls.Decls.{Decls}
use Rattle.st_elab_def.specs.declared.breach.DefFault.{DefFault}
use Rattle.st_elab_def.specs.declared.breach.DefFault.TheVariants.{Refused, Memory}
use Rattle.st_elab_def.specs.Answers.{Told as ToldOfAll}
use Rattle.st_elab_def.specs.Breaches.{FirstBreach}
use Rattle.st_elab_def.specs.Definitions.{Definition, definitions}
use Rattle.st_elab_def.specs.Phases.{Placed, phase}
use Rattle.st_elab_def.specs.inner.Walk.{standing, AllPassAt, Checks, ChecksAll, asked_of, numbered}
use Rattle.st_elab_def.proofs.Leaves.{AllPass-of, numbered-told, number-here, Leaves, Leaves-next, Leaves-stop}

module _ (D : Decls) (on : Definition → List Placed) (defs : List Def) (i : ℕ) (def : Def) (h : i < length defs) (is : def ≡ get_or defs i def) (left : Leaves D on defs i) where
  abbrev here : Definition
  here = standing (take i defs) def (drop (i + 1) defs)

  told_here : {A : Type 0} (r : Result A Fault) → Checks D (on here) r → ToldOfAll (λ (x : A). AllPassAt D (on here)) (FirstBreach D (asked_of on here)) (numbered i r)
  told_here {A} r k = numbered-told D on here i (λ (x : A). AllPassAt D (on here)) r (number-here defs i def h) k

  -- the first breach is in what this definition is asked
  pub phase-stop : {A B : Type 0} (r : Result A Fault) (s : Result A DefFault) (t : Result B DefFault) (e : DefFault) → s ≡ numbered i r → s ≡ Err e → t ≡ Err e
      → Checks D (on here) r → ChecksAll D (phase on (definitions defs)) t
  phase-stop {A} r s t (Refused b) is_s was out k =
      subst (ChecksAll D (phase on (definitions defs))) (sym out)
      (Leaves-stop D on defs i def h is left b
      (subst (ToldOfAll (λ (x : A). AllPassAt D (on here)) (FirstBreach D (asked_of on here))) (sym is_s ∙ was) (told_here r k)))
  phase-stop r s t Memory is_s was out k = subst (ChecksAll D (phase on (definitions defs))) (sym out) tt

  -- what this definition is asked passes
  pub phase-next : {A : Type 0} (r : Result A Fault) (s : Result A DefFault) (x : A) → s ≡ numbered i r → s ≡ Ok x → Checks D (on here) r → Leaves D on defs (i + 1)
  phase-next {A} r s x is_s was k =
      Leaves-next D on defs i def h is left
      (AllPass-of D here (on here) (subst (ToldOfAll (λ (x : A). AllPassAt D (on here)) (FirstBreach D (asked_of on here))) (sym is_s ∙ was) (told_here r k)))
