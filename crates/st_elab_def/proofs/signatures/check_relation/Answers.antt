use Rattle.std.proofs.Common.{refl, sym, subst, ◌∙◌, inl, Bool, List, [], ◌∷◌, length}
use Rattle.std.specs.Prelude.{IfSome, IfNone, flat_map}
use Rattle.st_elab_sig.specs.Modes.{IsMode}
use Rattle.st_elab_sig.specs.Signatures.{holes_of}
use Rattle.st_elab_def.specs.Conditions.{mode}
use Rattle.st_elab_def.specs.Phases.{placed, all_declared, names_in}
use Rattle.st_elab_def.specs.inner.Walk.{Checks}
use Rattle.st_elab_def.proofs.Checks.{checks-go}
use Rattle.st_elab_def.proofs.signatures.check_relation.Goals as goal

pub returns-in_default : goal.returns-in_default
returns-in_default c = λ D k.
    let never : (m : List Bool) → IsMode c.as_slice-hints.result.now c.in_ok-count.count m → ⊥ =
    subst (λ o. IfNone o ((m : List Bool) → IsMode c.as_slice-hints.result.now c.in_ok-count.count m → ⊥)) c.in_default.is c.in_ok-_mode.ensures.never in
    inl ((λ h. never h.0 (subst (λ hs. IsMode hs c.in_ok-count.count h.0) (sym c.as_slice-hints.ensures) (subst (λ n. IsMode c.args.def.now.hints n h.0) (sym c.in_ok-count.ensures) h.1))), refl)

pub returns : goal.returns
returns c = λ D k.
    let said : IsMode c.as_slice-hints.result.now c.in_ok-count.count c.in-Some._mode =
    subst (λ o. IfSome o (IsMode c.as_slice-hints.result.now c.in_ok-count.count)) c.in-Some.is c.in_ok-_mode.ensures.said in
    let said_of : IsMode c.args.def.now.hints (length (holes_of c.args.notation.now)) c.in-Some._mode =
    subst (λ n. IsMode c.args.def.now.hints n c.in-Some._mode) c.in_ok-count.ensures (subst (λ hs. IsMode hs c.in_ok-count.count c.in-Some._mode) c.as_slice-hints.ensures said) in
    checks-go D (placed c.args.def.now.at (mode c.args.def.now.hints (length (holes_of c.args.notation.now))) ∷ []) (all_declared (flat_map names_in (holes_of c.args.notation.now))) c.check_names.result
    ((c.in-Some._mode, said_of), tt)
    (subst (λ ns. Checks D (all_declared ns) c.check_names.result) (c.as_slice-named.ensures ∙ c.in_ok-names.ensures) (c.check_names.ensures D k))
