use Rattle.std.proofs.Common.{◌≡◌, true}
use Rattle.std.proofs.lemmas.List.{append-nil}
use Rattle.std.proofs.lemmas.Result.{err_from_is_err_and}
use Rattle.st_num.specs.Number.{below_zero}
use Rattle.st_num.proofs.NumeralLemmas.{take-signed_decimal}
use Rattle.st_num.proofs.numeral.print_number.Goals as goal
use Rattle.st_num.proofs.numeral.print_number.Goals.{then-is_negative+in_ok-push, else-is_negative}

pub returns-in_err-extend_from_slice-clause-err : goal.returns-in_err-extend_from_slice-clause-err
returns-in_err-extend_from_slice-clause-err c =
    let failed = err_from_is_err_and c.from_residual-in_err-extend_from_slice.result c.from_residual-in_err-extend_from_slice.ensures.1 in
    let kept : c.extend_from_slice.new.self.items ≡ c.if-is_negative.out.items = c.in_err-extend_from_slice.ensures.items in
    rw failed.1 (elim c.if-is_negative.branch [
      | then-is_negative+in_ok-push w ↦ (
        1,
        (
            let negative : below_zero c.args.n ≡ true = cc in
            cc (kept, take-signed_decimal c.args.n negative, w.in_ok-push.ensures.items)),
      )
      | else-is_negative w ↦ (0, cc (kept, append-nil c.args.out.now.items))
    ])
