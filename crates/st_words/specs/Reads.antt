-- Which command words ask for.
use Rattle.std.specs.Prelude.{◌≡◌, ℕ, List, ◌∷◌, ⊤}
use Rattle.st_words.specs.declared.arrangement.Arrangement.{Arrangement}
use Rattle.st_words.specs.declared.command.Command.{Command}
use Rattle.st_words.specs.declared.name.CommandName.{CommandName}
use Rattle.st_words.specs.declared.fault.WordsFault.{WordsFault}
use Rattle.st_words.specs.declared.fault.WordsFault.TheVariants.{Usage, Memory}
use Rattle.st_words.specs.Names.{name_spelling}
use Rattle.st_words.specs.Arranged.{IsArranged}
use Rattle.st_words.specs.Table.{Asks}

-- the words ask for this command: its name is the first word, and the table has the others
pub record Reads (words : List (List ℕ)) (command : Command) : Type 0 where
  pub name : CommandName
  pub behind : List (List ℕ)
  pub given : Arrangement
  pub first : words ≡ name_spelling name ∷ behind
  pub arranged : IsArranged behind given
  pub asks : Asks name given command

-- the words ask for no command but this one
abbrev pub IsOnlyReading : List (List ℕ) → Command → Type 0
IsOnlyReading words command = (other : Command) → Reads words other → other ≡ command

-- the words ask for no command
abbrev pub HasNoReading : List (List ℕ) → Type 0
HasNoReading words = (command : Command) → ¬ (Reads words command)

-- usage tells that the words ask for no command; want of memory tells nothing
abbrev pub TellsUsage : List (List ℕ) → WordsFault → Type 0
TellsUsage words Usage = HasNoReading words
TellsUsage words Memory = ⊤
