use Rattle.std.proofs.Common.{◌∙◌}
use Rattle.st_commands.specs.declared.searches.Asked.TheVariants.{Run}
use Rattle.st_commands.proofs.SaysLemmas.{of_name}
use Rattle.st_commands.proofs.searches.run_files.Goals as goal

pub returns : goal.returns
returns c =
    of_name (Run c.args.fuel c.args.depth) c.args.names.now c.in_ok-relation.relation c.args.relation.now c.args.text.now c.args.files.now c.ask_files.result
    (c.in_ok-relation.ensures ∙ c.as_bytes.ensures.value) c.ask_files.ensures
