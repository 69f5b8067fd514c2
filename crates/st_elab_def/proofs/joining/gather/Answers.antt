use Rattle.std.proofs.Common.{◌∙◌}
use Rattle.st_elab_def.proofs.ContentLemmas.{ok_both}
use Rattle.st_elab_def.proofs.Gathered.{gathered-more, gathered-same}
use Rattle.st_elab_def.proofs.joining.gather.Goals as goal

pub returns-in-Some : goal.returns-in-Some
returns-in-Some c =
    ok_both c.gather_fragment.result
    (λ more before def e g. gathered-more before def c.in-Some.found.0.now c.in-Some.ensures.0 c.in-Some.found.1.now c.args.parts.now.entries c.gather_fragment.new.parts.entries (e ∙ c.in-Some.ensures.1) g more)
    c.gather_fragment.ensures

pub returns-in-None : goal.returns-in-None
returns-in-None c = λ before def e g. gathered-same before def c.args.node.now c.args.parts.now.entries e c.in-None.ensures g
