use Rattle.std.proofs.Common.{◌≡◌, take, map}
use Rattle.clap.specs.Words.{app_of}
use Rattle.st_words.specs.inner.Program.{program_with, shape_named, all_names}
use Rattle.st_words.proofs.program.program.Given as goal

-- the commands so far are there
abbrev pub invariant-loop-name : goal.invariant-loop-name
invariant-loop-name l = app_of l.program ≡ program_with (map shape_named (take l.name-index all_names))
