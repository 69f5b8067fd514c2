use Rattle.st_elab_sig.proofs.ModesLemmas.{no_word}
use Rattle.st_elab_sig.proofs.mode.mode_said.Goals as goal

pub returns-in_default-clause-never : goal.returns-in_default-clause-never
returns-in_default-clause-never c = λ mode said.
    no_word c.args.words.now c.loop-word.word-index c.word-item.result c.loop-word-test.true c.word-item.is c.in_default.ensures mode said.spelled
