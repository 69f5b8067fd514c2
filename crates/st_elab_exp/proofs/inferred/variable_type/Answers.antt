use Rattle.std.proofs.Common.{◌≡◌, sym, ap, subst, map, ◌∙◌}
use Rattle.std.specs.Prelude.{IfOk, Some}
use Rattle.std.specs.Map.{lookup}
use Rattle.std.specs.Option.{option_copied}
use Rattle.st_num.specs.Names.{same_name}
use Rattle.st_elab_table.specs.Inferred.{entry_of}
use Rattle.st_num.specs.Names.{is_among}
use Rattle.st_elab_exp.proofs.Inferring.{index_type, scope_type, other_type}
use Rattle.st_elab_exp.proofs.inferred.variable_type.Goals as goal

pub returns-then-is_among : goal.returns-then-is_among
returns-then-is_among c =
    let x = c.args.context.now in
    sym (index_type x.decls.now x.scope.now x.within.now c.args.name.now
    (ap (is_among c.args.name.now) (sym c.as_slice.ensures) ∙ sym c.is_among.ensures ∙ c.if-is_among.true))

pub returns-in-Some : goal.returns-in-Some
returns-in-Some c =
    let x = c.args.context.now in
    ap Some c.in_ok-copy_ty.ensures
    ∙ sym (scope_type x.decls.now x.scope.now x.within.now c.args.name.now c.in-Some.ty.now
    (ap (is_among c.args.name.now) (sym c.as_slice.ensures) ∙ sym c.is_among.ensures ∙ c.if-is_among.false)
    (ap (λ z. lookup (same_name c.args.name.now) (map entry_of z)) (sym c.as_slice-2.ensures) ∙ sym c.scoped_type.ensures ∙ ap option_copied c.in-Some.is))

pub returns : goal.returns
returns c =
    let x = c.args.context.now in
    subst (λ z. IfOk c.type_of_name.result (λ ty. ty ≡ z))
    (sym (other_type x.decls.now x.scope.now x.within.now c.args.name.now
    (ap (is_among c.args.name.now) (sym c.as_slice.ensures) ∙ sym c.is_among.ensures ∙ c.if-is_among.false)
    (ap (λ z. lookup (same_name c.args.name.now) (map entry_of z)) (sym c.as_slice-2.ensures) ∙ sym c.scoped_type.ensures ∙ ap option_copied c.in_default.is)))
    c.type_of_name.ensures
