-- The printed texts of commands, beside those of answers.
use Rattle.std.specs.Prelude.{ℕ, List, ◌++◌, codes}

-- the words ask for no command
abbrev pub usage_text : List ℕ
usage_text = codes "usage\n"

-- the words name too many files
abbrev pub too_many_text : List ℕ
too_many_text = codes "too many files\n"

-- the load of a file failed
abbrev pub load_failed_text : List ℕ → List ℕ
load_failed_text name = codes "load failed " ++ name ++ codes "\n"

-- a file is longer than its limit
abbrev pub too_large_text : List ℕ → List ℕ
too_large_text name = codes "too large " ++ name ++ codes "\n"
