use Rattle.std.proofs.Common.{ap}
use Rattle.st_tool.specs.Commands.{limit_of}
use Rattle.st_tool.proofs.AnswerLemmas.{has_first, fits_behind}
use Rattle.st_tool.proofs.Outcomes.{gives_eval, gives_next, gives_run, gives_derivation}
use Rattle.st_words.specs.FileNames.{file_names}
use Rattle.st_tool.proofs.commands.answer_given.Goals as goal

-- ---- a query

pub first_file-requires : goal.first_file-requires
first_file-requires c = has_first c.args.command.now c.args.given.now c.in-Eval.field-0 c.in-Eval.names (ap file_names c.in-Eval.is) c.requires.fits

pub eval_files-requires : goal.eval_files-requires
eval_files-requires c =
    let fit = fits_behind c.args.command.now c.args.given.now c.in-Eval.field-0 c.in-Eval.names (ap file_names c.in-Eval.is) c.requires.fits c.first_file.result.0.now c.first_file.result.1.now
    c.as_slice-in-Eval.result.now c.first_file.ensures (ap limit_of c.in-Eval.is) c.requires.few c.as_slice-in-Eval.ensures in
    record { named = fit.named; few = fit.few; short = fit.short; short_query = fit.short_first }

pub returns-in-Eval : goal.returns-in-Eval
returns-in-Eval c =
    gives_eval c.args.command.now c.first_file.result.0.now c.in-Eval.field-0 c.in-Eval.names c.as_slice-in-Eval.result.now c.args.given.now c.first_file.result.1.now c.eval_files.result
    c.in-Eval.is c.first_file.ensures c.as_slice-in-Eval.ensures c.eval_files.ensures

-- ---- all that is derivable

pub first_file-requires-in-Next : goal.first_file-requires-in-Next
first_file-requires-in-Next c = has_first c.args.command.now c.args.given.now c.in-Next.field-1 c.in-Next.names (ap file_names c.in-Next.is) c.requires.fits

pub next_files-requires : goal.next_files-requires
next_files-requires c =
    let fit = fits_behind c.args.command.now c.args.given.now c.in-Next.field-1 c.in-Next.names (ap file_names c.in-Next.is) c.requires.fits c.first_file-in-Next.result.0.now
    c.first_file-in-Next.result.1.now c.as_slice-in-Next.result.now c.first_file-in-Next.ensures (ap limit_of c.in-Next.is) c.requires.few c.as_slice-in-Next.ensures in
    record { named = fit.named; few = fit.few; short = fit.short; short_text = fit.short_first }

pub returns-in-Next : goal.returns-in-Next
returns-in-Next c =
    gives_next c.args.command.now c.in-Next.relation c.as_str.result.now c.first_file-in-Next.result.0.now c.in-Next.field-1 c.in-Next.names c.as_slice-in-Next.result.now c.args.given.now
    c.first_file-in-Next.result.1.now c.next_files.result c.in-Next.is c.first_file-in-Next.ensures c.as_slice-in-Next.ensures c.as_str.ensures c.next_files.ensures

-- ---- runs

pub first_file-requires-in-Run : goal.first_file-requires-in-Run
first_file-requires-in-Run c = has_first c.args.command.now c.args.given.now c.in-Run.field-1 c.in-Run.names (ap file_names c.in-Run.is) c.requires.fits

pub run_files-requires : goal.run_files-requires
run_files-requires c =
    let fit = fits_behind c.args.command.now c.args.given.now c.in-Run.field-1 c.in-Run.names (ap file_names c.in-Run.is) c.requires.fits c.first_file-in-Run.result.0.now
    c.first_file-in-Run.result.1.now c.as_slice-in-Run.result.now c.first_file-in-Run.ensures (ap limit_of c.in-Run.is) c.requires.few c.as_slice-in-Run.ensures in
    record { named = fit.named; few = fit.few; short = fit.short; short_text = fit.short_first }

pub returns-in-Run : goal.returns-in-Run
returns-in-Run c =
    gives_run c.args.command.now c.in-Run.relation c.as_str-in-Run.result.now c.first_file-in-Run.result.0.now c.in-Run.field-1 c.in-Run.names c.as_slice-in-Run.result.now c.args.given.now
    c.first_file-in-Run.result.1.now c.in-Run.fuel c.in-Run.depth c.run_files.result c.in-Run.is c.first_file-in-Run.ensures c.as_slice-in-Run.ensures c.as_str-in-Run.ensures c.run_files.ensures

-- ---- derivations

pub returns-in-Derive : goal.returns-in-Derive
returns-in-Derive c =
    gives_derivation c.args.command.now c.in-Derive.relation c.as_str-in-Derive.result.now c.two_files.result.0.now c.two_files.result.1.now
    c.in-Derive.field-1 c.in-Derive.field-2 c.args.given.now c.in-Derive.field-3 c.in-Derive.field-4 c.derive_file.result c.in-Derive.is c.two_files.ensures
    c.derive_file.ensures c.as_str-in-Derive.ensures
