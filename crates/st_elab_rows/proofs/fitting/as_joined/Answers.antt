use Rattle.st_elab_table.proofs.RowLemmas.{joined_list, joined_record, joined_fails}
use Rattle.st_elab_rows.proofs.Leaves.{refuted, proved}
use Rattle.st_elab_rows.proofs.fitting.as_joined.Goals as goal

pub returns-in-List : goal.returns-in-List
returns-in-List c = λ S next a h. joined_list c.args.decls.now S c.args.at c.args.ty.now c.meaning.result.now c.in-List.field-0 next a c.meaning.ensures.means c.in-List.is h

pub returns-then-joinable : goal.returns-then-joinable
returns-then-joinable c = λ S next a h. joined_record c.args.decls.now S c.args.at c.args.ty.now c.meaning.result.now next a c.meaning.ensures.means c.in_default.not-List
    (proved c.joinable.result c.if-joinable.true c.joinable.ensures.0) h

pub returns : goal.returns
returns c = λ S next. joined_fails c.args.decls.now S c.args.at c.args.ty.now c.meaning.result.now next c.meaning.ensures.means c.in_default.not-List
    (refuted c.joinable.result c.if-joinable.false c.joinable.ensures.1)
