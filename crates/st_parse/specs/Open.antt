-- The variables of a definition that is cut off, in the order of the text.
use Rattle.std.specs.Prelude.{List, [], ◌++◌, flat_map, Option, Some, None}
use Rattle.std.specs.Option.{option_or}
use Rattle.st_num.specs.declared.limit.TheConstants.{MOST_PREMISES}
use Rattle.st_num.specs.declared.span.Span.{Span}
use Rattle.st_grammar.specs.Terminals.{Terminal}
use Rattle.st_grammar.specs.Trees.{Tree, Lead, left, ahead, items, Trees, Heading, index, segment, update, Path}
use Rattle.st_grammar.specs.Definitions.{Iterations, Premises}
use Rattle.st_grammar.specs.Reading as part
use Rattle.st_grammar.specs.Reading.{Frames, bottom, within, over, timing, want, got, naming, pathed, indexing, comparing}
use Rattle.st_grammar.specs.Positions.{Rule, rule_head, clause_head, Slot, rule_slot, cond_slot, count_slot, Position, entering, premised, premise_open, goal_colon, iterated, State, at, inside, filled}
use Rattle.st_parse_builder.specs.Meaning.{meaning, meanings, base, steps}
use Rattle.st_parse_builder.specs.Definitions as meant
use Rattle.st_parse_builder.specs.Definitions.{condition, premises_meaning, patterns, defs_meaning}
use Rattle.st_parse_builder.specs.Variables.{Occurrence, variables, seg_variables, prem_variables}
use Rattle.st_parse_builder.specs.Limits.{place_past}
use Rattle.st_parse.specs.Before.{before}
use Rattle.st_parse.specs.Limits.{variable_past, first_that}

-- ---- a part that is cut off

-- the variables of parts, one behind the other
abbrev pub trees_variables : Trees → List Occurrence
trees_variables ts = flat_map variables (meanings ts)

-- those of what a path goes into, and of its steps
abbrev pub path_variables : Path → List Occurrence
path_variables p = variables (base p) ++ flat_map seg_variables (steps p)

-- those before the parts that a bracket holds
abbrev pub heading_variables : Heading → List Occurrence
heading_variables (index t o) = variables (meaning t)
heading_variables (segment p o) = path_variables p
heading_variables (update p m x) = path_variables p
heading_variables h = []

-- those before a last part
abbrev pub lead_variables : Lead → List Occurrence
lead_variables (left l m x) = variables (meaning l)
lead_variables (ahead m x) = []
lead_variables (items ts) = trees_variables ts

-- those of what is open
abbrev pub frames_variables : Frames → List Occurrence
frames_variables (bottom σ) = []
frames_variables (within h ts pre fs) =
    frames_variables fs ++ (heading_variables h ++ trees_variables ts)
frames_variables (over g fs) = frames_variables fs ++ lead_variables g
frames_variables (timing t m x fs) = frames_variables fs ++ variables (meaning t)

-- those of what is read of a part
abbrev pub part_variables : part.State → List Occurrence
part_variables (want fs) = frames_variables fs
part_variables (got t fs) = frames_variables fs ++ variables (meaning t)
part_variables (naming h ts pre fs) =
    frames_variables fs ++ (heading_variables h ++ trees_variables ts)
part_variables (pathed p fs) = frames_variables fs ++ path_variables p
part_variables (indexing o fs) = frames_variables fs
part_variables (comparing o i fs) = frames_variables fs

-- ---- a rule or clause that is cut off

-- the variables before the conclusion or the result: those of the arguments of a clause
abbrev pub head_variables : Rule → List Occurrence
head_variables (rule_head ds w r ls c) = []
head_variables (clause_head ds w f a e) = flat_map variables (patterns a)

-- those of a rule or clause with these premises
abbrev pub rule_variables : Rule → Tree → Premises → List Occurrence
rule_variables r t ps =
    head_variables r ++ (variables (meaning t) ++ flat_map prem_variables (premises_meaning ps))

-- the same with one more premise, of which this is read
abbrev pub premise_variables : Rule → Tree → Premises → List Terminal → List Terminal → Tree
    → Iterations → List Occurrence
premise_variables r t ps os ls u i =
    rule_variables r t ps ++ prem_variables (meant.iterated os (condition ls (meaning u)) i)

-- the variables before a part, where it belongs to a rule or clause
abbrev pub slot_variables : Slot → List Occurrence
slot_variables (rule_slot r) = head_variables r
slot_variables (cond_slot r t ps d os ls) = rule_variables r t ps
slot_variables (count_slot r t ps d os ls u i l) = premise_variables r t ps os ls u i
slot_variables s = []

-- those before a position
abbrev pub position_variables : Position → List Occurrence
position_variables (entering s) = slot_variables s
position_variables (premised r t ps) = rule_variables r t ps
position_variables (premise_open r t ps d os) = rule_variables r t ps
position_variables (goal_colon r t ps d os n) = rule_variables r t ps
position_variables (iterated r t ps d os ls u i) = premise_variables r t ps os ls u i
position_variables p = []

-- The variables of a part count where it belongs to a rule or clause.
abbrev pub cut_variables : Slot → List Occurrence → List Occurrence
cut_variables (rule_slot r) vs = vs
cut_variables (cond_slot r t ps d os ls) vs = vs
cut_variables (count_slot r t ps d os ls u i l) vs = vs
cut_variables s vs = []

-- those before a part and in it: as of a whole part, where it may end
abbrev pub inside_variables : Slot → part.State → Option Tree → List Occurrence
inside_variables s st (Some t) = position_variables (filled s t)
inside_variables s st None = slot_variables s ++ cut_variables s (part_variables st)

-- the variables of the definition that stands open
abbrev pub open_variables : State → List Occurrence
open_variables (at p) = position_variables p
open_variables (inside s st) = inside_variables s st (part.finish st)

-- the first variable past the limit, in the definitions before the open one or in that
abbrev pub first_past : State → Option Span
first_past st =
    option_or (first_that variable_past (defs_meaning (before st)))
    (place_past MOST_PREMISES (open_variables st))
