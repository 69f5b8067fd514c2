use Rattle.std.proofs.Common.{sym, subst}
use Rattle.st_elab_def.specs.inner.Contents.{Makes}
use Rattle.st_elab_def.specs.inner.Whole.{PlacesOne}
use Rattle.st_elab_def.proofs.ContentLemmas.{ok_both}
use Rattle.st_elab_def.proofs.PlacesOne.{places-made}
use Rattle.st_elab_def.proofs.whole.place.Goals as goal

pub returns-in-Some : goal.returns-in-Some
returns-in-Some c = ok_both c.push.result
    (λ one D d rest later numbered makes is.
    subst (PlacesOne D d rest c.args.declared.now c.args.out.now) (sym one)
    (places-made D d rest c.in-Some.content c.args.declared.now c.args.number c.args.out.now numbered (subst (Makes D d) c.in-Some.is makes) is))
    c.push.ensures

pub returns-in-None : goal.returns-in-None
returns-in-None c = ok_both c.place_declared.result
    (λ placed D d rest later numbered makes is.
    placed D d rest later numbered (subst (Makes D d) c.in-None.is makes) is)
    c.place_declared.ensures
