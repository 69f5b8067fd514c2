-- Which commands are answered once their files are loaded.
use Rattle.std.specs.Prelude.{[], ◌∷◌}
use Rattle.st_words.specs.declared.command.Command.{Command}
use Rattle.st_words.specs.declared.command.Command.TheVariants.{Derive, Make}

-- the command is built
abbrev pub IsAnswerable : Command → Type 0
IsAnswerable (Derive relation term (file ∷ []) fuel depth) = Unit {0}
IsAnswerable (Derive relation term files fuel depth) = ⊥
IsAnswerable (Make n) = ⊥
IsAnswerable command = Unit {0}
