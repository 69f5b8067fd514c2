use Rattle.std.proofs.Common.{ap, sym, subst, ◌∙◌}
use Rattle.st_el.specs.Erasure.{is_fragment_node}
use Rattle.st_elab_def.specs.inner.Gathering.{IsFragmentOf}
use Rattle.st_elab_def.proofs.LastFragments.{last-same, last-more, fragment-of}
use Rattle.st_elab_def.proofs.dots.note.Goals as goal

pub returns-in_ok-_earlier-in-Some : goal.returns-in_ok-_earlier-in-Some
returns-in_ok-_earlier-in-Some c = λ before def is here knows.
    last-more before def c.in-Some.found.0.now c.args.number c.args.last.now.entries c.put.new.map.entries
    (fragment-of def c.in-Some.found.0.now c.in-Some.found.1.now (subst (λ node. IsFragmentOf node c.in-Some.found.0.now c.in-Some.found.1.now) (sym is) c.in-Some.ensures))
    here c.in_ok-_earlier-in-Some.ensures.more knows

pub returns-in-None : goal.returns-in-None
returns-in-None c = λ before def is here knows.
    last-same before def c.args.last.now.entries (λ q. ap (is_fragment_node q) is ∙ c.in-None.ensures q) knows
