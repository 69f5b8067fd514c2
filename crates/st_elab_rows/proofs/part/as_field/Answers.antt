use Rattle.std.proofs.Common.{sym}
use Rattle.st_elab_table.proofs.RowLemmas.{field_found, field_unknown, field_no_record}
use Rattle.st_elab_rows.proofs.Fields.{fields_meant, no_fields_meant}
use Rattle.st_elab_rows.proofs.part.as_field.Goals as goal

pub returns-in_default : goal.returns-in_default
returns-in_default c = λ S next. field_no_record c.args.decls.now S c.args.at c.args.whole c.args.name.now c.args.ty.now c.meaning.result.now next c.meaning.ensures.means
    (no_fields_meant c.args.decls.now.types c.args.ty.now c.meaning.result.now c.meaning.ensures.means c.in_default.ensures.none)

pub returns-in_default-field_named : goal.returns-in_default-field_named
returns-in_default-field_named c = λ S next. field_unknown c.args.decls.now S c.args.at c.args.whole c.args.name.now c.args.ty.now c.in-Some.fields.now next
    (fields_meant c.args.decls.now.types c.args.ty.now c.meaning.result.now c.in-Some.fields.now c.meaning.ensures.means c.in-Some.ensures.some)
    (sym c.in_default-field_named.ensures)

pub returns : goal.returns
returns c = λ S next a h. field_found c.args.decls.now S c.args.at c.args.whole c.args.name.now c.args.ty.now c.in-Some-field_named.field.now c.in-Some.fields.now next a
    (fields_meant c.args.decls.now.types c.args.ty.now c.meaning.result.now c.in-Some.fields.now c.meaning.ensures.means c.in-Some.ensures.some)
    (sym c.in-Some-field_named.ensures) h
