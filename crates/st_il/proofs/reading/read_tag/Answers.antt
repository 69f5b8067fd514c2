use Rattle.st_il.proofs.Tags.{answer_no_tag_parts, answer_some, answer_none}
use Rattle.st_il.proofs.reading.read_tag.Goals as goal

pub returns-in_default-clause-none : goal.returns-in_default-clause-none
returns-in_default-clause-none c = answer_no_tag_parts c.in_ok-parts.field-0 c.args.tag.now c.in_default.is c.in_ok-parts.ensures.none

pub returns-clause-some : goal.returns-clause-some
returns-clause-some c =
    answer_some c.in_ok-parts.field-0 c.in-Some.parts c.as_slice.result.now c.args.tag.now c.in_ok-found.found c.in-Some.is c.in_ok-parts.ensures.some c.as_slice.ensures c.in_ok-found.ensures

pub returns-clause-none : goal.returns-clause-none
returns-clause-none c =
    answer_none c.in_ok-parts.field-0 c.in-Some.parts c.as_slice.result.now c.args.tag.now c.in_ok-found.found c.in-Some.is c.in_ok-parts.ensures.some c.as_slice.ensures c.in_ok-found.ensures
