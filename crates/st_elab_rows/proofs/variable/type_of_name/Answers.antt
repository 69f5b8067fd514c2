use Rattle.std.proofs.Common.{◌≡◌, sym, subst, ◌∙◌, arith}
use Rattle.std.specs.Prelude.{Some}
use Rattle.st_elab_table.specs.Variables.{type_of_name}
use Rattle.st_elab_rows.proofs.Names.{found_before, not_before}
use Rattle.st_elab_rows.proofs.variable.type_of_name.Goals as goal

pub returns-in-Some-2 : goal.returns-in-Some-2
returns-in-Some-2 c = subst (λ z. Some c.in-Some-2.ty ≡ type_of_name c.args.decls.now z) c.as_slice-bytes.ensures
    (found_before c.args.decls.now c.loop-at.at c.as_slice-bytes.result.now c.in-Some-2.ty (sym c.in_ok-ty.ensures ∙ c.in_default.is) c.loop-at.invariant.searched
    c.loop-at-test.true c.loop-at.invariant.within (sym c.in-Some-2.is ∙ c.in_ok-ty-2.ensures))

pub loop-at-preserved : goal.loop-at-preserved
loop-at-preserved c = record {
  within = omega (arith, c.loop-at.invariant.within);
  searched = not_before c.args.decls.now c.loop-at.at c.as_slice-bytes.result.now c.loop-at.invariant.searched
      c.loop-at-test.true c.loop-at.invariant.within (sym c.in_default-2.is ∙ c.in_ok-ty-2.ensures);
}
