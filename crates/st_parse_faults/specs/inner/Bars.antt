-- How many bars of lengths are open where definitions are read so far, and which tokens may open
-- more.
use Rattle.std.specs.Prelude.{ℕ, ◌+◌, Bool, true, false}
use Rattle.st_grammar.specs.declared.sort.Closing.TheVariants.{ByBar as by_bar}
use Rattle.st_grammar.specs.Terminals.{Terminal, opening, closing}
use Rattle.st_grammar.specs.Trees.{Heading, length}
use Rattle.st_grammar.specs.Reading as part
use Rattle.st_grammar.specs.Positions.{State, at, inside}

-- one for the opening bar of a length, and none for another bracket
abbrev pub heading_bars : Heading → ℕ
heading_bars (length o) = 1
heading_bars h = 0

-- the lengths whose opening bars are read, and not their closing ones
abbrev pub frame_bars : part.Frames → ℕ
frame_bars (part.bottom σ) = 0
frame_bars (part.within h ts pre fs) = heading_bars h + frame_bars fs
frame_bars (part.over g fs) = frame_bars fs
frame_bars (part.timing t m x fs) = frame_bars fs

-- the lengths that are open where a part is read so far
abbrev pub part_bars : part.State → ℕ
part_bars (part.want fs) = frame_bars fs
part_bars (part.got t fs) = frame_bars fs
part_bars (part.naming h ts pre fs) = heading_bars h + frame_bars fs
part_bars (part.pathed p fs) = frame_bars fs
part_bars (part.indexing o fs) = frame_bars fs
part_bars (part.comparing o i fs) = frame_bars fs

-- the lengths that are open where definitions are read so far
abbrev pub bars : State → ℕ
bars (at p) = 0
bars (inside s st) = part_bars st

-- the token is a bracket that opens, or a bar
abbrev pub may_open : Terminal → Bool
may_open (opening k x) = true
may_open (closing by_bar x) = true
may_open l = false
