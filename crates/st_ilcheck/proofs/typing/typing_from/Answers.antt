use Rattle.st_ilcheck.proofs.Builds.{typing-made}
use Rattle.st_ilcheck.proofs.typing.typing_from.Goals as goal

pub returns : goal.returns
returns c =
    typing-made c.args.language.now c.args.listed.now c.args.exp.now c.args.parts.types _ _ c.in_ok-ty.ty c.args.parts.broken c.in_ok-here.here c.in_ok-broken.broken
    c.requires c.as_slice.ensures c.in_ok-ty.ensures c.as_slice-2.ensures c.in_ok-here.ensures c.in_ok-broken.ensures
