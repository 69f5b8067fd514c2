use Rattle.std.proofs.Common.{◌∙◌}
use Rattle.st_runs.proofs.SearchLemmas.{next_is, nothing_follows}
use Rattle.st_runs.proofs.searching.least_of.Goals as goal

pub returns-in_ok-copy_values-in-Some : goal.returns-in_ok-copy_values-in-Some
returns-in_ok-copy_values-in-Some c =
    let s = c.args.searching.now in (
      c.requires.found.0,
      next_is c.meaning_of_rules.ensures.trees s.language.now s.relation.now s.depth c.args.term.now c.args.found.now c.in-Some.output.now c.in_ok-copy_values-in-Some.field-0 c.in-Some.ensures.value
          (c.in_ok-copy_values-in-Some.ensures ∙ c.as_slice.ensures) c.requires.found.1,
    )

pub returns-in-None : goal.returns-in-None
returns-in-None c =
    let s = c.args.searching.now in
    (c.requires.found.0, nothing_follows c.meaning_of_rules.ensures.trees s.language.now s.relation.now s.depth c.args.term.now c.args.found.now c.in-None.ensures.value c.requires.found.1)
