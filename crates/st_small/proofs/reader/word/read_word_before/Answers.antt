use Rattle.std.proofs.Common.{◌++◌, sym, ◌∙◌}
use Rattle.std.proofs.lemmas.List.{append_cancel_left}
use Rattle.st_small.proofs.reader.word.read_word_before.Goals as goal

pub returns-clause-only : goal.returns-clause-only
returns-clause-only c = λ word rest is_word stops e.
    let found = c.in_ok-word.ensures.only word (c.args.end.now ++ rest) is_word stops e in
    (found.0, append_cancel_left c.args.end.now _ _ (sym c.in_ok-rest.ensures ∙ found.1))
