use Rattle.st_term.proofs.TypedValues.{can_match, by_match}
use Rattle.st_term.proofs.typed.is_matched_by.Goals as goal

pub all_match-requires : goal.all_match-requires
all_match-requires c =
    let can = can_match c.args.types.now c.args.variable.now.name c.args.pattern.now c.from_ref-patterns.result.now c.from_ref-patterns.ensures.value c.requires.pattern in
    record { patterns = can.patterns; formed = can.formed; bound = can.bound }

pub returns : goal.returns
returns c =
    by_match c.args.types.now c.args.variable.now c.args.pattern.now c.args.value.now c.from_ref-variables.result.now c.from_ref-patterns.result.now c.from_ref.result.now c.in_ok-found.found
    c.is_empty.result c.from_ref-variables.ensures.value c.from_ref-patterns.ensures.value c.from_ref.ensures.value c.requires.pattern c.requires.dim c.in_ok-found.ensures c.is_empty.ensures
