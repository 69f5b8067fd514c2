use Rattle.std.proofs.Common.{◌∙◌}
use Rattle.st_tool.specs.Commands.{limit_of}
use Rattle.st_tool.specs.Loads.{counts_of}
use Rattle.st_tool.proofs.Outcomes.{loads-fit, loads_of}
use Rattle.st_words.specs.FileNames.{file_names}
use Rattle.st_tool.proofs.commands.answer_command.Goals as goal

pub answer_loaded-requires-clause-fits : goal.answer_loaded-requires-clause-fits
answer_loaded-requires-clause-fits g c =
    let held = g.F.Files.held c.args.files.now in
    let before = counts_of (g.F.Files.loads c.args.files.now) (g.F.Files.faults c.args.files.now) (g.F.Files.last c.args.files.now) in
    let after = counts_of (g.F.Files.loads c.load_all.new.files) (g.F.Files.faults c.load_all.new.files) (g.F.Files.last c.load_all.new.files) in
    let command = c.args.command.now in
    loads-fit held (limit_of command) (file_names command) before after c.in_ok-loaded.loaded
    (loads_of held c.limit_of.result (limit_of command) (file_names command) c.as_slice.result.now before after c.in_ok-loaded.loaded
    c.limit_of.ensures (c.as_slice.ensures ∙ c.in_ok-names.ensures) c.in_ok-loaded.ensures.loads)
