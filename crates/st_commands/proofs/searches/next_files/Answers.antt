use Rattle.std.proofs.Common.{◌≤◌, ◌∙◌, sym, subst, false, arith}
use Rattle.st_commands.specs.declared.searches.Asked.TheVariants.{Next}
use Rattle.st_runs.specs.Runs.{NextSays}
use Rattle.st_commands.specs.Searches.{next_depth}
use Rattle.st_commands.proofs.SaysLemmas.{GivesOf, of_name}
use Rattle.st_commands.proofs.searches.next_files.Goals as goal

deep_enough : 1 ≤ next_depth
unfolding next_depth
deep_enough = omega arith

pub ask_files-requires-clause-depth : goal.ask_files-requires-clause-depth
ask_files-requires-clause-depth c = subst (λ n. 1 ≤ n) (sym c.next_depth.ensures) deep_enough

pub returns : goal.returns
returns c =
    subst (λ n. GivesOf false (λ il. NextSays il c.args.relation.now n) c.args.names.now c.args.relation.now c.args.text.now c.args.files.now c.ask_files.result) c.next_depth.ensures
    (of_name (Next c.next_depth.result) c.args.names.now c.in_ok-relation.relation c.args.relation.now c.args.text.now c.args.files.now c.ask_files.result
    (c.in_ok-relation.ensures ∙ c.as_bytes.ensures.value) c.ask_files.ensures)
