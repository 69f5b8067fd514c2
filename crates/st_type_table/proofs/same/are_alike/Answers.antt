use Rattle.st_type_table.proofs.SameNumberLemmas.{alike-numbers}
use Rattle.st_type_table.proofs.same.are_alike.Goals as goal

pub returns-in-Some-Some : goal.returns-in-Some-Some
returns-in-Some-Some c = alike-numbers c.args.forms.now.numbers.entries c.args.forms.now.list.keys c.args.a.now c.args.b.now c.in-Some-Some.one c.in-Some-Some.other
    c.if-are_one_name.ensures c.in-Some-Some.ensures c.in-Some-Some.ensures'
