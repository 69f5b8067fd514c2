-- How many brackets are open.
use Rattle.std.specs.Prelude.{ℕ, ◌+◌, ◌-◌, List, [], ◌∷◌}
use Rattle.st_grammar.specs.declared.sort.Closing.TheVariants.{ByBar as by_bar}
use Rattle.st_grammar.specs.Terminals.{Terminal, opening, closing}

-- the brackets that are open behind the token, where so many are open before it
abbrev pub nesting_after : ℕ → Terminal → ℕ
nesting_after n (opening k x) = n + 1
nesting_after n (closing by_bar x) = n
nesting_after n (closing c x) = n - 1
nesting_after n l = n

-- the brackets that are open behind these tokens, where so many are open before them
abbrev pub brackets_behind : ℕ → List Terminal → ℕ
brackets_behind n [] = n
brackets_behind n (l ∷ ls) = brackets_behind (nesting_after n l) ls
