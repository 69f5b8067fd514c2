-- What each token that is read begins, with its numbers, by what is open.
use Rattle.std.specs.Prelude.{ℕ, ◌+◌, List, [], ◌∷◌, ◌++◌, map}
use Rattle.st_grammar.specs.Trees.{Heading, length, segment}
use Rattle.st_grammar.specs.Grammar.{size}
use Rattle.st_grammar.specs.Reading.{Frames, bottom, within, over, timing, State, want, got, naming, pathed, indexing, comparing}
use Rattle.st_parse_faults.specs.Number as number
use Rattle.st_parse_faults.specs.Number.{Number}
use Rattle.st_parse_faults.specs.Signs.{posts}
use Rattle.st_parse_faults.specs.Numbers.{Context, context, in_bracket, next_part, behind, in_count, label_entry, open_entry, numbers, lead_numbers, heading_numbers, path_numbers, part_numbers}

-- ---- parts

-- the context of what is read next in a part that stands there
abbrev pub context_in : Context → Frames → Context
context_in c (bottom σ) = context σ c.before 0 c.depth c.begins
context_in c (within h ts pre fs) = next_part (in_bracket (context_in c fs) h) ts pre
context_in c (over g fs) = behind (context_in c fs) g
context_in c (timing t m x fs) = in_count (context_in c fs) t

-- what each token of what is open begins
abbrev pub frame_numbers : Context → Frames → List (List Number)
frame_numbers c (bottom σ) = []
frame_numbers c (within h ts pre fs) =
    frame_numbers c fs
    ++ (heading_numbers (context_in c fs) h
    ++ (part_numbers (in_bracket (context_in c fs) h) ts
    ++ map (label_entry (number.part (size ts + 1) ∷ [])) pre))
frame_numbers c (over g fs) = frame_numbers c fs ++ lead_numbers (context_in c fs) g
frame_numbers c (timing t m x fs) =
    frame_numbers c fs
    ++ (numbers (context_in c fs) t ++ (number.row (posts (context_in c fs).sort t + 1) ∷ []) ∷ [])

-- what each token that is read of a part begins
abbrev pub state_numbers : Context → State → List (List Number)
state_numbers c (want fs) = frame_numbers c fs
state_numbers c (got t fs) = frame_numbers c fs ++ numbers (context_in c fs) t
state_numbers c (naming h ts pre fs) = frame_numbers c (within h ts pre fs)
state_numbers c (pathed p fs) = frame_numbers c fs ++ path_numbers (context_in c fs) p
state_numbers c (indexing o fs) =
    frame_numbers c fs ++ open_entry (context_in c fs).begins ((context_in c fs).depth + 1) ∷ []
state_numbers c (comparing o i fs) =
    frame_numbers c fs ++ open_entry (context_in c fs).begins ((context_in c fs).depth + 1) ∷ [] ∷ []

-- how many brackets are open behind what stands before the parts of a bracket
abbrev pub heading_brackets : Heading → ℕ
heading_brackets (length o) = 0
heading_brackets (segment p o) = 2
heading_brackets h = 1

-- how many brackets are open
abbrev pub frame_brackets : Frames → ℕ
frame_brackets (bottom σ) = 0
frame_brackets (within h ts pre fs) = heading_brackets h + frame_brackets fs
frame_brackets (over g fs) = frame_brackets fs
frame_brackets (timing t m x fs) = frame_brackets fs

-- how many brackets are open where a part is read so far
abbrev pub part_brackets : State → ℕ
part_brackets (want fs) = frame_brackets fs
part_brackets (got t fs) = frame_brackets fs
part_brackets (naming h ts pre fs) = heading_brackets h + frame_brackets fs
part_brackets (pathed p fs) = 1 + frame_brackets fs
part_brackets (indexing o fs) = 1 + frame_brackets fs
part_brackets (comparing o i fs) = 1 + frame_brackets fs
