use Rattle.std.proofs.Common.{◌∙◌, sym, true≢false}
use Rattle.st_answers.proofs.MarkLemmas.{not_run, runs, leads_away}
use Rattle.st_answers.proofs.marking.stepping_mark.Goals as goal

pub returns-then-not-steps : goal.returns-then-not-steps
returns-then-not-steps c = λ il table found has. not_run il c.args.steps c.args.relation.now found has c.if-not-steps.true

pub returns-then-stepping : goal.returns-then-stepping
returns-then-stepping c = λ il table found has. runs il c.args.steps c.args.relation.now found has ((c.stepping.ensures il table).0 c.if-stepping.true)

pub returns : goal.returns
returns c = λ il table found has.
    leads_away il c.args.steps c.args.relation.now c.in_ok-text.text.items found has c.if-not-steps.false
    (λ stepping. true≢false (sym ((c.stepping.ensures il table).1 stepping) ∙ c.if-stepping.false)) c.in_ok-text.ensures.items
