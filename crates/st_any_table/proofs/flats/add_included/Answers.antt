use Rattle.st_any_table.proofs.FlatsLemmas.{add-some, add-none}
use Rattle.st_any_table.proofs.flats.add_included.Goals as goal

pub returns-in_ok-add_numbers-in-Some : goal.returns-in_ok-add_numbers-in-Some
returns-in_ok-add_numbers-in-Some c = λ cases done r f.
    add-some c.args.defs.now c.args.flats.now cases c.args.numbers.now c.add_numbers.new.numbers c.in-Some.more.now c.as_slice.result.now done c.args.name.now r c.in-Some.ensures c.as_slice.ensures c.in_ok-add_numbers-in-Some.ensures f

pub returns-in-None : goal.returns-in-None
returns-in-None c = λ cases done r f. add-none c.args.defs.now c.args.flats.now cases c.args.numbers.now done c.args.name.now c.requires.size c.requires.known c.in-None.ensures f
