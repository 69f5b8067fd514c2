use Rattle.std.proofs.Common.{◌∙◌, ap₂, arith}
use Rattle.clap.specs.Words.{with_subcommand}
use Rattle.clap.specs.declared.builder.command.Command.TheViews.{out-Command}
use Rattle.st_words.proofs.ProgramLemmas.{settings_app, one_more_command}
use Rattle.st_words.proofs.program.program.Goals as goal

pub loop-name-init : goal.loop-name-init
loop-name-init c = settings_app (out-Command c.new.result) (out-Command c.no_binary_name.result) (out-Command c.disable_help_flag.result) (out-Command c.disable_help_subcommand.result)
    (out-Command c.disable_version_flag.result) (out-Command c.subcommand_required-program.result)
    c.new.ensures.app c.no_binary_name.ensures c.disable_help_flag.ensures c.disable_help_subcommand.ensures c.disable_version_flag.ensures c.subcommand_required-program.ensures

pub loop-name-preserved : goal.loop-name-preserved
loop-name-preserved c =
    c.in_ok-program.ensures.shape c.in_ok-command_named.ensures.local
    ∙ ap₂ with_subcommand c.loop-name.invariant c.in_ok-command_named.ensures.shape
    ∙ one_more_command c.loop-name.name-index _ (omega arith)
