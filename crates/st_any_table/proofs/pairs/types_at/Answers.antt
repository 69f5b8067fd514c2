use Rattle.std.proofs.Common.{sym, ap, ◌∙◌, length, arith, Some}
use Rattle.std.specs.Prelude.{slice_get}
use Rattle.st_type_table.proofs.PartLemmas.{read-at}
use Rattle.st_any_table.proofs.pairs.types_at.Goals as goal

pub returns : goal.returns
returns c = ap (λ ps. slice_get ps c.args.at) (sym c.as_slice-pairs.ensures) ∙ read-at c.as_slice-pairs.result.now c.args.at c.index-pairs-at.result (let h = c.requires in let s = ap length c.as_slice-pairs.ensures in omega (arith, h, s)) c.index-pairs-at.is
    ∙ (λ i. Some (sym c.left.ensures i, sym c.right.ensures i))
