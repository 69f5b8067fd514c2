use Rattle.std.proofs.Common.{◌≡◌, ℕ, ◌+◌, ◌<◌, List, ◌∷◌, ◌++◌, length, get_or, drop, flat_map, sym, ap, subst, ◌∙◌, arith}
use Rattle.st_il.specs.declared.definition.IlDef.{IlDef}
use Rattle.st_iltext.specs.IlText.{definition_line}
use Rattle.st_text.specs.Printing.{IsCutOff}
use Rattle.st_text.proofs.CutOff.{OnErr-any, drop-next, written_cut, written_step}
use Rattle.st_iltext.proofs.il.print_il.Goals as goal

-- the lines that are left begin with that of the next definition
definition_lines-drop : (ds : List IlDef) (i : ℕ) (d : IlDef) → i < length ds → d ≡ get_or ds i d
    → flat_map definition_line (drop i ds) ≡ definition_line d ++ flat_map definition_line (drop (i + 1) ds)
definition_lines-drop ds i d h e =
    ap (flat_map definition_line) (drop-next ds i d h ∙ ap (λ x. x ∷ drop (i + 1) ds) (sym e))

pub returns-in_err-print_line-clause-err : goal.returns-in_err-print_line-clause-err
returns-in_err-print_line-clause-err c =
    let cut = written_cut _ _ _ _ _ _ _ c.loop-def.invariant (definition_lines-drop c.as_slice-def-items.result.now c.loop-def.def-index c.def-item.result (omega arith) c.def-item.is) c.in_err-print_line.ensures.err in
    OnErr-any _ _ (subst (λ (ds : List IlDef). IsCutOff c.args.out.now.items (flat_map definition_line ds) c.print_line.new.out.items) c.as_slice-def-items.ensures cut)

pub loop-def-preserved : goal.loop-def-preserved
loop-def-preserved c =
    written_step _ _ _ _ _ _ _ c.loop-def.invariant (definition_lines-drop c.as_slice-def-items.result.now c.loop-def.def-index c.def-item.result (omega arith) c.def-item.is) c.in_ok-print_line.ensures.ok
