use Rattle.std.proofs.Common.{◌<◌, sym, ap, ◌∙◌, arith}
use Rattle.st_words.specs.Names.{name_spelling}
use Rattle.st_words.proofs.NamesLemmas.{name_place, name_place_below, name_there}
use Rattle.st_words.proofs.name.name_of.Goals as goal

pub returns : goal.returns
returns c = λ name e.
    let below : name_place name < 12 = name_place_below name in
    c.loop-name.invariant (name_place name) (omega (arith, below, c.loop-name-test.false)) (e ∙ ap name_spelling (sym (name_there name)))
