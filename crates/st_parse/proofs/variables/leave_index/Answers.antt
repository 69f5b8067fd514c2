use Rattle.std.proofs.Common.{map, refl, sym, ◌∙◌}
use Rattle.st_parse.specs.inner.Parts.{word_of, index_in}
use Rattle.st_parse.proofs.Notes.{all_stay, index_left}
use Rattle.st_parse.proofs.variables.leave_index.Goals as goal

pub returns-in_default : goal.returns-in_default
returns-in_default c e = all_stay (index_in (map word_of c.args.words.now)) e c.args.seen.now c.args.seen.now (sym c.in_ok-index.ensures ∙ c.in_default.is) refl

pub returns : goal.returns
returns c e =
    index_left c.leave_out.result (index_in (map word_of c.args.words.now)) c.in-Some.index c.as_slice.result.now e c.args.seen.now c.leave_out.new.seen
    (sym c.in_ok-index.ensures ∙ c.in-Some.is) c.as_slice.ensures c.leave_out.ensures
