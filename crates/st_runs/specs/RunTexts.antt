-- The printed texts of runs, of all that is derivable, and of chains.
use Rattle.std.specs.Prelude.{ℕ, ◌+◌, ◌-◌, List, [], ◌∷◌, ◌++◌, Option, Some, None, length, codes, decimal}
use Rattle.std.specs.List.{flat_map}
use Rattle.st_il.specs.declared.value.Value.{Value}
use Rattle.st_search.specs.declared.answer.Chain.{Chain}
use Rattle.st_il.specs.Names.{Name}
use Rattle.st_semantics.specs.Transcript.{Term}
use Rattle.st_term.specs.TermText.{term_text}
use Rattle.st_runs.specs.declared.transcript.Ending.{Ending}
use Rattle.st_runs.specs.declared.transcript.Ending.TheVariants.{Stuck, Fuel}

-- ---- runs

-- the line of a term and its number
abbrev pub term_line : ℕ → Term → List ℕ
term_line number term = decimal number ++ codes " " ++ term_text term ++ codes "\n"

-- the lines of terms, numbered from a number on
abbrev pub term_lines : ℕ → List Term → List ℕ
term_lines number [] = []
term_lines number (term ∷ terms) = term_line number term ++ term_lines (number + 1) terms

-- the word of how a run ended
abbrev pub ending_word : Ending → List ℕ
ending_word Stuck = codes "stuck"
ending_word Fuel = codes "fuel"

-- the last line: how a run ended, after so many steps
abbrev pub ending_line : Ending → ℕ → List ℕ
ending_line ending steps =
    ending_word ending ++ codes " after " ++ decimal steps ++ codes " steps\n"

-- the text of a run over these terms
abbrev pub transcript_text : List Term → Ending → List ℕ
transcript_text terms ending = term_lines 0 terms ++ ending_line ending (length terms - 1)

-- ---- all that is derivable

-- the line of what is derivable
abbrev pub output_line : Term → List ℕ
output_line output = term_text output ++ codes "\n"

-- a line for each of these, and how many they are
abbrev pub outputs_text : List Term → List ℕ
outputs_text outputs =
    flat_map output_line outputs ++ decimal (length outputs) ++ codes " outputs\n"

-- ---- chains

-- more calls or goals than so many would be open at once
abbrev pub depth_text : ℕ → List ℕ
depth_text depth = codes "depth " ++ decimal depth ++ codes "\n"

-- the line of a goal: its relation, and its inputs as a term
abbrev pub goal_line : Name × List Value → List ℕ
goal_line goal = codes "  " ++ goal.0 ++ codes " " ++ term_text goal.1 ++ codes "\n"

-- the line of where a chain is cut, if it is shorter than the depth: the rule and its premise
abbrev pub cut_line : Option (Name × ℕ) → List ℕ
cut_line None = []
cut_line (Some cut) =
    codes "  value " ++ cut.0 ++ codes " premise " ++ decimal cut.1 ++ codes "\n"

-- the lines of a chain
abbrev pub chain_text : Chain → List ℕ
chain_text chain = flat_map goal_line chain.goals ++ cut_line chain.at

-- a search came to this depth, by a chain
abbrev pub deep_text : ℕ → Chain → List ℕ
deep_text depth chain = depth_text depth ++ chain_text chain
