use Rattle.st_answers.proofs.MarkLemmas.{unfit_marks}
use Rattle.st_answers.proofs.marking.declared_mark.Goals as goal

pub returns-in_ok-text-in-Some : goal.returns-in_ok-text-in-Some
returns-in_ok-text-in-Some c = λ il table found has.
    unfit_marks il c.args.steps c.args.relation.now c.in-Some.unfit c.args.unfit.now c.in_ok-text-in-Some.text.items found has c.in-Some.is c.in_ok-text-in-Some.ensures
