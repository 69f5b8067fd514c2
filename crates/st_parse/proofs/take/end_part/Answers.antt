use Rattle.std.proofs.Common.{map, ap}
use Rattle.st_draft.specs.inner.Parts.{word_of}
use Rattle.st_parse.proofs.Works.{part_keeps}
use Rattle.st_parse.proofs.take.end_part.Goals as goal

pub returns : goal.returns
returns c before after h a e =
    part_keeps c.give_up.result c.args.kept.now c.fill_kept.new.kept c.args.parts.now c.give_up.new.parts before after c.args.slot c.args.around c.as_slice-actions.result.now (map word_of c.as_slice.result.now) h a e
    c.as_slice-actions.ensures (ap (map word_of) c.as_slice.ensures) c.in_ok-fill_kept.ensures c.give_up.ensures.arguments c.give_up.ensures.rest
