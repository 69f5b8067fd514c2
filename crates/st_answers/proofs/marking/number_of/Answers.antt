use Rattle.std.proofs.Common.{◌≡◌, refl, true, bytes_eq, arith}
use Rattle.std.proofs.lemmas.Option.{slice_get_read}
use Rattle.st_answers.proofs.MarkLemmas.{is_first}
use Rattle.st_answers.proofs.marking.number_of.Goals as goal

pub returns-then-eq : goal.returns-then-eq
returns-then-eq c =
    let r = c.index-relations-i.result in
    let test : bytes_eq c.args.name.now r.now.name ≡ true = cc (c.if-eq.ensures, c.if-eq.true, c.eq.ensures, c.as_slice.ensures, c.as_slice-in-loop-i.ensures) in
    is_first c.args.name.now c.args.relations.now c.loop-i.i r c.loop-i.invariant (slice_get_read c.args.relations.now _ c.loop-i.i r refl (omega arith) c.index-relations-i.is) test
