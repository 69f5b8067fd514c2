use Rattle.std.proofs.Common.{◌∙◌, subst, sym, ap}
use Rattle.std.specs.Prelude.{IfErr, Err}
use Rattle.std.proofs.lemmas.Result.{err_from_is_err_and}
use Rattle.st_source.specs.Faults.{TellsFault}
use Rattle.st_source.proofs.Checks.{scan_more, source_fault}
use Rattle.st_source.proofs.specification.scan_all.Goals as goal

pub returns-in_err-more-clause-refused : goal.returns-in_err-more-clause-refused
returns-in_err-more-clause-refused c =
    let failed = err_from_is_err_and c.from_residual.result c.from_residual.ensures.1 in
    subst (λ r. IfErr r (TellsFault c.args.files.now)) (sym (failed.1 ∙ ap Err failed.2))
    (source_fault c.args.files.now c.loop-number.number c.index-files-number.result c.as_slice.result.now c.loop-number.tokens.items c.in_err-more.field-0.0
    c.loop-number.invariant c.loop-number-test.true c.index-files-number.is c.as_slice.ensures c.in_err-more.ensures.refused)

pub loop-number-preserved : goal.loop-number-preserved
loop-number-preserved c =
    scan_more c.args.files.now c.loop-number.number c.index-files-number.result c.as_slice.result.now c.loop-number.tokens.items c.in_ok-more.more.items
    c.append.new.tokens.items c.loop-number.invariant c.loop-number-test.true c.index-files-number.is c.as_slice.ensures c.in_ok-more.ensures.tokens c.in_ok-append.ensures
