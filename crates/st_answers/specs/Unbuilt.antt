-- How it is said that nothing of a kind is built.
use Rattle.std.specs.Prelude.{◌≡◌, ℕ, List, codes}
use Rattle.st_answers.specs.declared.status.Status.{Status}
use Rattle.st_answers.specs.declared.status.Status.TheVariants as answer

-- what is asked for is not built
abbrev pub unbuilt_text : List ℕ
unbuilt_text = codes "unbuilt\n"

-- nothing of this kind is built
abbrev pub IsUnbuilt : Status → List ℕ → Type 0
IsUnbuilt status bytes = (status ≡ answer.Unbuilt) × (bytes ≡ unbuilt_text)
