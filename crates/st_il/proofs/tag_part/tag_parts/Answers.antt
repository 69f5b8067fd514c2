use Rattle.st_il.proofs.TagParts.{no_tag_parts, last_tag_part, next_tag_part, some_tag_part, none_tag_part, ends_there, goes_there}
use Rattle.st_il.proofs.tag_part.tag_parts.Goals as goal

pub returns-in_default-clause-none : goal.returns-in_default-clause-none
returns-in_default-clause-none c =
    no_tag_parts c.parts.parts c.parts.rest.now c.args.tag.now c.split_tag_part.result.0.now c.split_tag_part.result.1 c.parts.invariant.parts c.parts.invariant.led c.split_tag_part.ensures.front c.split_tag_part.ensures.whole
    (none_tag_part c.in_ok-part.field-0 c.split_tag_part.result.0.now c.in_default.is c.in_ok-part.ensures.none)

pub returns-in_default-behind-clause-some : goal.returns-in_default-behind-clause-some
returns-in_default-behind-clause-some c =
    let is = some_tag_part c.in_ok-part.field-0 c.in-Some.part c.split_tag_part.result.0.now c.in-Some.is c.in_ok-part.ensures.some in
    last_tag_part c.parts.parts c.push.new.self c.in-Some.part c.parts.rest.now c.args.tag.now c.split_tag_part.result.0.now c.parts.invariant.parts c.parts.invariant.led
    (ends_there c.split_tag_part.result.1 c.parts.rest.now c.split_tag_part.result.0.now c.in_default-behind.is c.split_tag_part.ensures.whole) is.0 is.1 c.in_ok-push.ensures.ok

pub parts-preserved : goal.parts-preserved
parts-preserved c =
    let is = some_tag_part c.in_ok-part.field-0 c.in-Some.part c.split_tag_part.result.0.now c.in-Some.is c.in_ok-part.ensures.some in
    let next =
    next_tag_part c.parts.parts c.push.new.self c.in-Some.part c.parts.rest.now c.args.tag.now c.split_tag_part.result.0.now c.in-Some-behind.others.now c.parts.invariant.parts c.parts.invariant.led
    (goes_there c.split_tag_part.result.1 c.in-Some-behind.others c.parts.rest.now c.split_tag_part.result.0.now c.in-Some-behind.is c.split_tag_part.ensures.whole) is.0 is.1 c.in_ok-push.ensures.ok in
    record { parts = next.0; led = next.1 }
