use Rattle.std.proofs.Common.{arith, ◌<◌, length}
use Rattle.std.proofs.lemmas.List.Elements.{All-more}
use Rattle.st_small.specs.inner.SmallForm.{IsLetter}
use Rattle.st_small.proofs.reader.word.count_letters.Goals as goal

pub loop-i-preserved : goal.loop-i-preserved
loop-i-preserved c =
    let within : c.loop-i.i < length c.args.bytes.now = omega arith in
    All-more (IsLetter c.args.case) c.args.bytes.now c.loop-i.i 0 within c.loop-i.invariant (c.has.ensures.0 c.if-not-has.false)
