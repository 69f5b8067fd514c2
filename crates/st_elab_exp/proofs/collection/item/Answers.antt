use Rattle.std.proofs.Common.{rules, sym, ◌∙◌, true}
use Rattle.st_elab_table.specs.Forms.{place}
use Rattle.st_elab_table.specs.Questions.{Made, Breach, Gives, Fails, Step, Ends, Asks}
use Rattle.st_elab_table.specs.Steps.{made, asked, found}
use Rattle.st_elab_table.specs.Collections.{splice, found_item, item_row}
use Rattle.st_elab_table.specs.Elaboration.{Leads, ends}
use Rattle.st_elab_table.proofs.RowLemmas.{item_all, item_found, item_one}
use Rattle.st_elab_rows.proofs.Builds.{Told-stops}
use Rattle.st_elab_exp.proofs.Collecting.{item_leads}
use Rattle.st_elab_exp.proofs.collection.item.Goals as goal

pub returns-in_err-list : goal.returns-in_err-list
returns-in_err-list g c =
    let x = c.args.context.now in
    Told-stops _ _
    (λ (b : Breach). (next : Made → Step) → Leads x.decls.now x.scope.now (Asks (asked x.within.now c.args.part.now c.args.ty.now) next) (Fails b))
    (λ (b : Breach). Leads x.decls.now x.scope.now (item_row x.within.now c.args.ty.now c.args.element.now c.args.part.now) (Fails b))
    c.asked.result c.from_residual.result c.in_err-list.field-0.0 c.in_err-list.was (search rules)
    (λ b k. item_all x.decls.now x.scope.now x.within.now c.args.ty.now c.args.element.now c.args.part.now (Fails b) (sym c.is_spliced.ensures ∙ c.if-is_spliced.true) (k splice))
    c.asked.ensures

pub returns-then-is_spliced : goal.returns-then-is_spliced
returns-then-is_spliced g c =
    let x = c.args.context.now in (
      record { exp = c.in_ok-list.list.exp; ty = c.in_ok-list.list.ty; spliced = true },
      item_all x.decls.now x.scope.now x.within.now c.args.ty.now c.args.element.now c.args.part.now _ (sym c.is_spliced.ensures ∙ c.if-is_spliced.true) (c.in_ok-list.ensures splice _ ends),
      search rules,
    )

pub returns-in_err-given : goal.returns-in_err-given
returns-in_err-given g c =
    let x = c.args.context.now in
    Told-stops _ _
    (λ (b : Breach). (next : Made → Step) → Leads x.decls.now x.scope.now (Asks (found x.within.now c.args.part.now) next) (Fails b))
    (λ (b : Breach). Leads x.decls.now x.scope.now (item_row x.within.now c.args.ty.now c.args.element.now c.args.part.now) (Fails b))
    c.found.result c.from_residual-in_err-given.result c.in_err-given.field-0.0 c.in_err-given.was (search rules)
    (λ b k. item_found x.decls.now x.scope.now x.within.now c.args.ty.now c.args.element.now c.args.part.now (Fails b)
    (sym c.is_spliced.ensures ∙ c.if-is_spliced.false) (sym c.is_told_by_type.ensures ∙ c.if-is_told_by_type.true) (k (found_item (place c.args.part.now) c.args.ty.now c.args.element.now)))
    c.found.ensures

pub returns-then-is_told_by_type : goal.returns-then-is_told_by_type
returns-then-is_told_by_type g c =
    let x = c.args.context.now in
    item_leads x _ _ _
    (λ a h. item_found x.decls.now x.scope.now x.within.now c.args.ty.now c.args.element.now c.args.part.now a
    (sym c.is_spliced.ensures ∙ c.if-is_spliced.false) (sym c.is_told_by_type.ensures ∙ c.if-is_told_by_type.true)
    (c.in_ok-given.ensures (found_item (place c.args.part.now) c.args.ty.now c.args.element.now) a h)) c.found_item.ensures

pub returns-in_err-one : goal.returns-in_err-one
returns-in_err-one g c =
    let x = c.args.context.now in
    Told-stops _ _
    (λ (b : Breach). (next : Made → Step) → Leads x.decls.now x.scope.now (Asks (asked x.within.now c.args.part.now c.args.element.now) next) (Fails b))
    (λ (b : Breach). Leads x.decls.now x.scope.now (item_row x.within.now c.args.ty.now c.args.element.now c.args.part.now) (Fails b))
    c.asked-2.result c.from_residual-in_err-one.result c.in_err-one.field-0.0 c.in_err-one.was (search rules)
    (λ b k. item_one x.decls.now x.scope.now x.within.now c.args.ty.now c.args.element.now c.args.part.now (Fails b)
    (sym c.is_spliced.ensures ∙ c.if-is_spliced.false) (sym c.is_told_by_type.ensures ∙ c.if-is_told_by_type.false) (k (λ m. Ends (Gives m))))
    c.asked-2.ensures

pub returns : goal.returns
returns g c =
    let x = c.args.context.now in (
      made c.in_ok-one.one.exp c.in_ok-one.one.ty,
      item_one x.decls.now x.scope.now x.within.now c.args.ty.now c.args.element.now c.args.part.now _
          (sym c.is_spliced.ensures ∙ c.if-is_spliced.false) (sym c.is_told_by_type.ensures ∙ c.if-is_told_by_type.false) (c.in_ok-one.ensures (λ m. Ends (Gives m)) _ ends),
      search rules,
    )
