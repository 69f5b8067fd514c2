use Rattle.std.proofs.Common.{ap, ◌∙◌, ◌++◌}
use Rattle.std.specs.Prelude.{flat_map}
use Rattle.st_el.specs.Erasure.{alternatives_in}
use Rattle.st_elab_def.specs.DeclsOf.{alternative_of}
use Rattle.st_elab_def.specs.inner.Gathering.{gathered_in}
use Rattle.st_elab_def.proofs.Gathered.{gathered-put}
use Rattle.st_elab_def.proofs.joining.gather_fragment.Goals as goal

pub returns : goal.returns
returns c =
    gathered-put c.args.parts.now.entries c.put.new.map.entries c.put-2.new.map.entries c.args.name.now c.push_body.new.out (flat_map alternative_of (alternatives_in c.args.body.now))
    c.in_ok-put.ensures.more c.in_ok-_none.ensures.more
    (c.in_ok-push_body.ensures ∙ ap (λ parts. parts ++ flat_map alternative_of (alternatives_in c.args.body.now)) (c.found_of-all.ensures ∙ ap gathered_in c.in_ok-put.ensures.was))
