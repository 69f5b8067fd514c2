-- How each reserved word is written.
use Rattle.std.specs.Prelude.{ℕ, List, codes}
use Rattle.st_num.specs.declared.word.Word.{Word}
use Rattle.st_num.specs.declared.word.Word.TheVariants.{Syntax, Relation, Rule, Var, Def, Grammar, Hint, If, Otherwise, Eps, True, False, Bool, Nat, Int, Text, Rat, Real}

-- the characters by which a reserved word is written
abbrev pub word_spelling : Word → List ℕ
word_spelling Syntax = codes "syntax"
word_spelling Relation = codes "relation"
word_spelling Rule = codes "rule"
word_spelling Var = codes "var"
word_spelling Def = codes "def"
word_spelling Grammar = codes "grammar"
word_spelling Hint = codes "hint"
word_spelling If = codes "if"
word_spelling Otherwise = codes "otherwise"
word_spelling Eps = codes "eps"
word_spelling True = codes "true"
word_spelling False = codes "false"
word_spelling Bool = codes "bool"
word_spelling Nat = codes "nat"
word_spelling Int = codes "int"
word_spelling Text = codes "text"
word_spelling Rat = codes "rat"
word_spelling Real = codes "real"
