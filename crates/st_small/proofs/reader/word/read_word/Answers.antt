use Rattle.st_small.specs.inner.SmallForm.{IsLetter}
use Rattle.st_small.proofs.ReaderWords.{word_none, word_split}
use Rattle.st_small.proofs.reader.word.read_word.Goals as goal

pub returns-then-count-eq0-clause-only : goal.returns-then-count-eq0-clause-only
returns-then-count-eq0-clause-only c = λ word rest is_word after e.
    let none = rw c.if-count-eq0.true at c.count_letters-count.ensures.stops in
    word_none (IsLetter c.args.case) c.args.bytes.now word rest none is_word after e

pub returns-clause-only : goal.returns-clause-only
returns-clause-only c = λ word rest is_word after e.
    word_split (IsLetter c.args.case) c.args.bytes.now c.count_letters-count.result _ _ word rest
    c.split_at.ensures.front c.split_at.ensures.back c.count_letters-count.ensures.letters
    c.count_letters-count.ensures.stops is_word after e
