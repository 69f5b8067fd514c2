use Rattle.st_elab_def.proofs.HasCome.{not-later, later-fragment, fragments-same, fragments-more}
use Rattle.st_elab_def.proofs.whole.is_later.Goals as goal

pub returns-in_ok-add-in-Some-clause-later : goal.returns-in_ok-add-in-Some-clause-later
returns-in_ok-add-in-Some-clause-later c = λ d is knows.
    later-fragment d c.args.node.now c.in-Some.found.0.now c.in-Some.ensures.0 c.in-Some.found.1.now c.args.fragments.now.keys c.in_ok-add-in-Some.field-0 is c.in-Some.ensures.1 c.in_ok-add-in-Some.ensures.added knows

pub returns-in_ok-add-in-Some-clause-more : goal.returns-in_ok-add-in-Some-clause-more
returns-in_ok-add-in-Some-clause-more c = λ before def is knows.
    fragments-more before def c.args.node.now c.in-Some.found.0.now c.in-Some.ensures.0 c.in-Some.found.1.now c.args.fragments.now.keys c.add.new.names.keys is c.in-Some.ensures.1 c.in_ok-add-in-Some.ensures.more knows

pub returns-in-None-clause-later : goal.returns-in-None-clause-later
returns-in-None-clause-later c = λ d is knows. not-later d c.args.node.now is c.in-None.ensures

pub returns-in-None-clause-more : goal.returns-in-None-clause-more
returns-in-None-clause-more c = λ before def is knows. fragments-same before def c.args.node.now c.args.fragments.now.keys is c.in-None.ensures knows
