use Rattle.std.proofs.Common.{sym, ◌∙◌, subst}
use Rattle.st_elab_def.specs.inner.Whole.{PlacesOne}
use Rattle.st_elab_def.proofs.ContentLemmas.{ok_both}
use Rattle.st_elab_def.proofs.PlacesOne.{places-declared, places-later, places-none, popped}
use Rattle.st_elab_def.proofs.whole.place_declared.Goals as goal

pub returns-then-later : goal.returns-then-later
returns-then-later c = λ D d rest later numbered makes is.
    places-later D d rest c.args.declared.now c.args.out.now (sym later ∙ c.if-later.true) is

pub returns-in-Some : goal.returns-in-Some
returns-in-Some c = ok_both c.push.result
    (λ one D d rest later numbered makes is.
    subst (PlacesOne D d rest c.pop.new.self c.args.out.now) (sym one)
    (places-declared D d rest c.in-Some.def c.args.declared.now c.pop.new.self c.args.number c.args.out.now (sym later ∙ c.if-later.false) numbered makes
    (popped c.args.declared.now c.pop.new.self c.pop.result c.in-Some.def c.in-Some.is c.pop.ensures) is))
    c.push.ensures

pub returns-in-None : goal.returns-in-None
returns-in-None c = λ D d rest later numbered makes is.
    absurd (places-none D d rest c.args.declared.now c.pop.new.self c.pop.result c.in-None.is c.pop.ensures (sym later ∙ c.if-later.false) makes is)
