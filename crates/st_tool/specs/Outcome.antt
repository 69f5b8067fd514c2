-- The outcome of a call: its status, and the bytes that it writes.
use Rattle.std.specs.Prelude.{◌≡◌, ℕ, ◌<◌, ◌≤◌, length, take, List, Option, Some, slice_get}
use Rattle.st_outside.specs.Sink.{Takes}
use Rattle.st_tool.specs.declared.loads.Loaded.{Loaded}
use Rattle.st_tool.specs.declared.loads.Loaded.TheVariants.{Given, Failed, TooLong}
use Rattle.st_answers.specs.declared.status.Status.{Status}
use Rattle.st_answers.specs.declared.status.Status.TheVariants as answer
use Rattle.st_tool.specs.Commands.{Gives, IsBuilt, limit_of}
use Rattle.st_tool.specs.Loads.{Held, Counts, LoadsTo}
use Rattle.st_tool.specs.Texts.{usage_text, too_many_text, too_large_text, load_failed_text}
use Rattle.st_answers.specs.Unbuilt.{unbuilt_text}
use Rattle.st_words.specs.declared.command.Command.{Command}
use Rattle.st_words.specs.FileNames.{file_names}
use Rattle.st_words.specs.Reads.{Reads, HasNoReading}

-- the load of that number stopped a command: its name is told
abbrev pub StopsAt : (List ℕ → List ℕ) → Command → ℕ → List ℕ → Type 0
StopsAt text command number bytes =
    (name : List ℕ) × (slice_get (file_names command) number ≡ Some name) × (bytes ≡ text name)

-- What a command gives where its loads came to this.
abbrev pub Outcome : Command → Loaded → Status → List ℕ → Type 0
Outcome command (Given files) status bytes = Gives command files status bytes
Outcome command (Failed number) status bytes =
    (status ≡ answer.Load) × StopsAt load_failed_text command number bytes
Outcome command (TooLong number) status bytes =
    (status ≡ answer.TooLarge) × StopsAt too_large_text command number bytes

-- the most file names of a command
abbrev pub most_files : ℕ
most_files = 64

-- the words ask for this command, and not for too many files
pub record Asks (words : List (List ℕ)) (command : Command) : Type 0 where
  pub reads : Reads words command
  pub few : length (file_names command) ≤ most_files

-- What a call gives: of words, over files of these counts before and after.
pub data HasOutcome (held : Held) (words : List (List ℕ)) (before after : Counts) : Status → List ℕ
    → Type 0 where
  -- the words ask for no command
  unread : {bytes : List ℕ} → HasNoReading words → after ≡ before → bytes ≡ usage_text
      → HasOutcome held words before after answer.Usage bytes
  -- the words name too many files
  too_many : {bytes : List ℕ} (command : Command) → Reads words command
      → most_files < length (file_names command)
      → after ≡ before → bytes ≡ too_many_text
      → HasOutcome held words before after answer.TooLarge bytes
  -- what they ask for is not built
  unbuilt : {bytes : List ℕ} (command : Command) → Asks words command → (IsBuilt words command → ⊥)
      → after ≡ before → bytes ≡ unbuilt_text
      → HasOutcome held words before after answer.Unbuilt bytes
  -- the files of the command were loaded, as far as they are given
  loads : {status : Status} {bytes : List ℕ} (command : Command) (loaded : Loaded)
      → Asks words command → IsBuilt words command
      → LoadsTo held (limit_of command) (file_names command) before loaded after
      → Outcome command loaded status bytes → HasOutcome held words before after status bytes

-- What was written in a call that ended with a status: all bytes of an outcome of that status;
-- where a write failed, fewer than those of some outcome;
-- where memory was wanting, nothing.
abbrev pub Written : Held → List (List ℕ) → Counts → Counts → Option (List ℕ) → Option (List ℕ)
    → Status → Type 0
Written held words before after taken now answer.Write =
    (status : Status) × (bytes : List ℕ) × (out : ℕ)
    × HasOutcome held words before after status bytes
    × (out < length bytes) × Takes taken now (take out bytes)
Written held words before after taken now answer.Memory = now ≡ taken
Written held words before after taken now status =
    (bytes : List ℕ) × HasOutcome held words before after status bytes × Takes taken now bytes
