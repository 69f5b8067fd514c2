-- The causes of a failed load, and what a raised count of faults means.
use Rattle.std.specs.Prelude.{◌≡◌, ℕ, ◌+◌, ◌<◌, List, Some, slice_get, ◌⊎◌}
use Rattle.st_outside.specs.Counts.{Rose}
use Rattle.st_answers.specs.declared.status.Status.{Status}
use Rattle.st_answers.specs.declared.status.Status.TheVariants as answer
use Rattle.st_words.specs.declared.command.Command.{Command}
use Rattle.st_tool.specs.Loads.{Counts, raised}
use Rattle.st_words.specs.FileNames.{file_names}
use Rattle.st_words.specs.Reads.{Reads}

-- The load of one of the command's files failed:
-- the count of faults rose, the name is the one whose load failed last,
-- and that many loads were made, this one the last.
pub record IsLoadFault (words : List (List ℕ)) (before after : Counts) : Type 0 where
  pub command : Command
  pub reads : Reads words command
  pub number : ℕ
  pub name : List ℕ
  pub is_name : slice_get (file_names command) number ≡ Some name
  pub last : after.last ≡ Some name
  pub loads : after.loads ≡ raised before.loads (number + 1)
  pub rose : Rose before.faults after.faults

-- a fault of the files is told by the status,
-- unless the output was not written or memory was wanting
abbrev pub FaultIsTold : Counts → Counts → Status → Type 0
FaultIsTold before after status =
    before.faults < after.faults
    → (status ≡ answer.Load) ⊎ (status ≡ answer.Write) ⊎ (status ≡ answer.Memory)
