-- What is counted in a part, as its tokens are read: between the same brackets, in a sequence, and
-- on one operand.
use Rattle.std.specs.Prelude.{ℕ, ◌+◌, List, [], ◌∷◌, Bool, true, false, not, ◌||◌, nat_lt, if◌then◌else◌}
use Rattle.std.specs.List.{list_any}
use Rattle.st_num.specs.declared.limit.TheConstants.{MOST_PARTS, MOST_SIGNS}
use Rattle.st_grammar.specs.Trees.{ahead, items, length, segment}
use Rattle.st_grammar.specs.Grammar.{size}
use Rattle.st_grammar.specs.Reading.{Frames, bottom, within, over, timing, want, got, naming, pathed, indexing, comparing, sort}
use Rattle.st_grammar.specs.Reading as reading
use Rattle.st_grammar.specs.Positions.{State, Slot, Position, at, inside, arg_slot, argued, entering}
use Rattle.st_parse_faults.specs.declared.tally.Tally.{Tally}
use Rattle.st_parse_faults.specs.Signs.{posts, heading_posts, path_posts, is_turnstile, signs, heading_signs, path_signs, lead_signs, all_signs, ends_with_label}

-- ---- what is open

-- the signs between the innermost brackets so far, where n stand before outside all brackets
abbrev pub signs_in : ℕ → Frames → ℕ
signs_in n (bottom σ) = n
signs_in n (within (length o) ts pre fs) = all_signs ts + signs_in n fs
signs_in n (within h ts pre fs) = all_signs ts
signs_in n (over g fs) = lead_signs g + signs_in n fs
signs_in n (timing t m x fs) = signs t + signs_in n fs

-- the parts between the innermost brackets that are read to their ends
abbrev pub parts_in : Frames → ℕ
parts_in (bottom σ) = 0
parts_in (within h ts pre fs) = size ts
parts_in (over g fs) = parts_in fs
parts_in (timing t m x fs) = parts_in fs

-- the elements of the sequence before the next one
abbrev pub elements_in : Frames → ℕ
elements_in (over (items ts) fs) = size ts
elements_in fs = 0

-- the elements of the sequence that are begun, with the one that is read there
abbrev pub elements_with : Frames → ℕ
elements_with (timing t m x fs) = elements_with fs
elements_with (over (items ts) fs) = size ts + 1
elements_with fs = 1

-- the prefix signs in a row before an operand
abbrev pub aheads : Frames → ℕ
aheads (over (ahead m x) fs) = if is_turnstile m then 0 else aheads fs + 1
aheads fs = 0

-- one more, where this holds
abbrev pub with_one : Bool → ℕ → ℕ
with_one true n = n + 1
with_one false n = n

-- ---- tallies

-- a tally: parts and elements that are begun, signs between two sides, prefix or postfix signs
-- in a row, and whether a next part is due
abbrev pub tally : ℕ → ℕ → ℕ → ℕ → Bool → Tally
tally p e s r d = record { parts = p; elements = e; signs = s; row = r; due = d }

-- the tally where no part is begun, and so many signs stand before between the same brackets
abbrev pub fresh : ℕ → Tally
fresh n = tally 0 0 n 0 true

-- the tally where an operand is due; the name of a field begins its part
abbrev pub due_tally : ℕ → Frames → Tally
due_tally n (bottom σ) = fresh n
due_tally n (within h ts pre fs) =
    tally (with_one (ends_with_label pre) (size ts)) 0 (signs_in n (within h ts pre fs)) 0
    (not (ends_with_label pre))
due_tally n (over g fs) =
    tally (parts_in fs + 1) (elements_in (over g fs)) (signs_in n (over g fs))
    (aheads (over g fs)) false
due_tally n (timing t m x fs) =
    tally (parts_in fs + 1) (elements_with fs) (signs_in n (timing t m x fs))
    (posts (sort fs) t + 1) false

-- the tally where an operand stands with so many signs and postfix signs; a count behind `^` is
-- none
abbrev pub held_tally : ℕ → ℕ → ℕ → Frames → Tally
held_tally n s r (timing t m x fs) = due_tally n (timing t m x fs)
held_tally n s r fs = tally (parts_in fs + 1) (elements_with fs) (s + signs_in n fs) r false

-- the tallies round the innermost brackets, the innermost first
abbrev pub tallies_round : ℕ → Frames → List Tally
tallies_round n (bottom σ) = []
tallies_round n (within (segment p o) ts pre fs) =
    fresh 0 ∷ held_tally n (path_signs p) (path_posts (sort fs) p) fs ∷ tallies_round n fs
tallies_round n (within h ts pre fs) =
    held_tally n (heading_signs h) (heading_posts (sort fs) h) fs ∷ tallies_round n fs
tallies_round n (over g fs) = tallies_round n fs
tallies_round n (timing t m x fs) = tallies_round n fs

-- the tallies between the brackets that are open in a part, the innermost first
abbrev pub part_tallies : ℕ → reading.State → List Tally
part_tallies n (want fs) = due_tally n fs ∷ tallies_round n fs
part_tallies n (got t fs) = held_tally n (signs t) (posts (sort fs) t) fs ∷ tallies_round n fs
part_tallies n (naming h ts pre fs) =
    tally (size ts) 0 (signs_in n (within h ts pre fs)) 0 true
    ∷ tallies_round n (within h ts pre fs)
part_tallies n (pathed p fs) =
    fresh 0 ∷ held_tally n (path_signs p) (path_posts (sort fs) p) fs ∷ tallies_round n fs
part_tallies n (indexing o fs) = fresh 0 ∷ held_tally n 0 0 fs ∷ tallies_round n fs
part_tallies n (comparing o i fs) = fresh 0 ∷ held_tally n 0 0 fs ∷ tallies_round n fs

-- the signs before a part, between the same brackets: arguments of a definition stand so
abbrev pub signs_before : Slot → ℕ
signs_before (arg_slot ds w f o ts pre) = all_signs ts
signs_before s = 0

-- the signs before a position, between the same brackets
abbrev pub position_signs : Position → ℕ
position_signs (argued ds w f o ts) = all_signs ts
position_signs (entering s) = signs_before s
position_signs p = 0

-- the tallies between the brackets that are open, the innermost first
abbrev pub tallies : State → List Tally
tallies (at p) = fresh (position_signs p) ∷ []
tallies (inside s st) = part_tallies (signs_before s) st

-- ---- limits

-- one of the numbers of the tally passes its limit
abbrev pub tally_passes : Tally → Bool
tally_passes y =
    nat_lt MOST_PARTS y.parts || nat_lt MOST_PARTS y.elements || nat_lt MOST_SIGNS y.signs
    || nat_lt MOST_SIGNS y.row

-- Between some brackets a number passes its limit.
abbrev pub part_passes : State → Bool
part_passes st = list_any tally_passes (tallies st)
