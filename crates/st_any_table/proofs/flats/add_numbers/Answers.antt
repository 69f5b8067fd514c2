use Rattle.std.proofs.Common.{sym, subst}
use Rattle.st_type_table.proofs.SearchLemmas.{take-number, take-whole}
use Rattle.st_any_table.specs.inner.Flats.{IsAdding}
use Rattle.st_any_table.proofs.AlikeLemmas.{IsAdding-start, IsAdding-next}
use Rattle.st_any_table.proofs.flats.add_numbers.Goals as goal

pub loop-number-init : goal.loop-number-init
loop-number-init c = IsAdding-start c.args.numbers.now

pub loop-number-preserved : goal.loop-number-preserved
loop-number-preserved c = subst (λ ns. IsAdding c.args.numbers.now ns c.add_number.new.numbers) (sym (take-number c.args.more.now c.loop-number.number-index c.loop-number-test.true))
    (IsAdding-next c.args.numbers.now _ c.loop-number.numbers c.add_number.new.numbers _ c.loop-number.invariant c.in_ok-add_number.ensures)

pub returns : goal.returns
returns c = subst (λ ns. IsAdding c.args.numbers.now ns c.loop-number.numbers) (take-whole c.args.more.now c.loop-number.number-index c.loop-number-test.false) c.loop-number.invariant
