use Rattle.std.proofs.Common.{subst}
use Rattle.std.proofs.lemmas.Option.{slice_get_within}
use Rattle.st_il.specs.Key.{plain}
use Rattle.st_type_table.specs.Keys.{IsFirstWith}
use Rattle.st_type_table.proofs.KeyLemmas.{FirstWith-differ, NoneHasKey-all}
use Rattle.st_type_table.proofs.PartLemmas.{read-at, same-item}
use Rattle.st_type_table.proofs.meaning.first_with.Goals as goal

pub bounds-cases-number : goal.bounds-cases-number
bounds-cases-number c =
    let at = (c.requires.index (plain c.args.key.now) c.in-Some.number).0 c.in-Some.ensures in
    slice_get_within c.args.cases.now c.in-Some.number at.0 at.1.0

pub returns-in-Some : goal.returns-in-Some
returns-in-Some c =
    let k = plain c.args.key.now in
    let at = (c.requires.index k c.in-Some.number).0 c.in-Some.ensures in
    let there = read-at c.args.cases.now c.in-Some.number c.index-cases-number.result (slice_get_within c.args.cases.now c.in-Some.number at.0 at.1.0) c.index-cases-number.is in
    subst (IsFirstWith k c.args.cases.now) (same-item c.args.cases.now c.in-Some.number at.0 c.index-cases-number.result at.1.0 there)
    (FirstWith-differ k c.args.cases.now c.in-Some.number at.0 c.requires.differ at.1.0 at.1.1)

pub returns-in-None : goal.returns-in-None
returns-in-None c = NoneHasKey-all (plain c.args.key.now) c.args.cases.now (λ n d e h. c.in-None.ensures n ((c.requires.index (plain c.args.key.now) n).1 (d, (e, h))))
