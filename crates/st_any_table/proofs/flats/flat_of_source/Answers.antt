use Rattle.std.proofs.Common.{sym, subst, []}
use Rattle.st_any_table.specs.inner.Flats.{IsFlat, AllKnown}
use Rattle.st_any_table.proofs.FlatsLemmas.{IsFlat-start, AllKnown-named}
use Rattle.st_any_table.proofs.flats.flat_of_source.Goals as goal

pub add_included-requires-clause-known : goal.add_included-requires-clause-known
add_included-requires-clause-known c = AllKnown-named c.args.defs.now c.args.flats.now c.in-Some.name.now (subst (AllKnown c.args.defs.now c.args.flats.now) (sym c.in-Some.ensures) c.requires.known)

pub returns-in_ok-add_included-in-Some : goal.returns-in_ok-add_included-in-Some
returns-in_ok-add_included-in-Some c = λ cases r. subst (IsFlat c.args.defs.now cases c.add_included.new.numbers) c.in-Some.ensures
    (c.in_ok-add_included-in-Some.ensures cases [] r (subst (λ ns. IsFlat c.args.defs.now cases ns []) (sym c.new-numbers.ensures) (IsFlat-start c.args.defs.now cases)))

pub returns-in-None : goal.returns-in-None
returns-in-None c = λ cases r. subst (IsFlat c.args.defs.now cases c.new.result) c.in-None.ensures (subst (λ ns. IsFlat c.args.defs.now cases ns []) (sym c.new.ensures) (IsFlat-start c.args.defs.now cases))
