use Rattle.std.proofs.Common.{rules}
use Rattle.st_elab_def.proofs.SoundSyntaxes.{sound-breach}
use Rattle.st_elab_def.proofs.tables.table_of.Goals as goal

pub unreachable-requires : goal.unreachable-requires
unreachable-requires c =
    sound-breach c.args.syntaxes.now c.in-Err-Refused._syntax c.in-Err-Refused._broken c.requires
    (c.build.ensures.refused c.in-Err-Refused._syntax c.in-Err-Refused._broken (search rules))
