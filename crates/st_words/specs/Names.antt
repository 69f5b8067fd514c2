-- How the name of each command is written.
use Rattle.std.specs.Prelude.{ℕ, List, codes}
use Rattle.st_words.specs.declared.name.CommandName.{CommandName}
use Rattle.st_words.specs.declared.name.CommandName.TheVariants.{Check, Il, Groups, Order, Eval, Next, Run, Derive, Verify, Prose, Latex, Make}

-- how the name of a command is written
abbrev pub name_spelling : CommandName → List ℕ
name_spelling Check = codes "check"
name_spelling Il = codes "il"
name_spelling Groups = codes "groups"
name_spelling Order = codes "order"
name_spelling Eval = codes "eval"
name_spelling Next = codes "next"
name_spelling Run = codes "run"
name_spelling Derive = codes "derive"
name_spelling Verify = codes "verify"
name_spelling Prose = codes "prose"
name_spelling Latex = codes "latex"
name_spelling Make = codes "make"
