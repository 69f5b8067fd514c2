use Rattle.std.proofs.Common.{rules, arith}
use Rattle.std.proofs.lemmas.Grind.{common_steps}
use Rattle.st_elab_sig.proofs.SignaturesLemmas.{words_in-Atom, words_in-Hole, words_in-Seq, words_in-Infix, words_in-Bracket}
use Rattle.st_elab_sig.proofs.signature.+words.Goals as goal

pub push_words-returns-in-Atom : goal.push_words-returns-in-Atom
push_words-returns-in-Atom t c =
    rw (words_in-Atom c.args.notation.now c.in-Atom.name c.in-Atom.is) (grind (arith, common_steps))

pub push_words-returns-in-Hole : goal.push_words-returns-in-Hole
push_words-returns-in-Hole t c =
    rw (words_in-Hole c.args.notation.now c.in-Hole.field-0 c.in-Hole.is) (grind (arith, common_steps))

pub push_words-returns-in-Seq : goal.push_words-returns-in-Seq
push_words-returns-in-Seq t c = rw (words_in-Seq c.args.notation.now c.in-Seq.parts c.in-Seq.is) (search rules)

pub push_words-returns-in_ok-push_sign-in-Infix : goal.push_words-returns-in_ok-push_sign-in-Infix
push_words-returns-in_ok-push_sign-in-Infix t c =
    rw (words_in-Infix c.args.notation.now c.in-Infix.left c.in-Infix.sign c.in-Infix.right c.in-Infix.is)
    (grind (arith, common_steps))

pub push_words-returns-in_ok-push_words-in-Bracket : goal.push_words-returns-in_ok-push_words-in-Bracket
push_words-returns-in_ok-push_words-in-Bracket t c =
    rw (words_in-Bracket c.args.notation.now c.in-Bracket.opening c.in-Bracket.inside c.in-Bracket.is)
    (grind (arith, common_steps))
