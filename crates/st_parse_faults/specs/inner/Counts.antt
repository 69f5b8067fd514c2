-- What is counted between parts, and how much of it there may be.
use Rattle.std.specs.Prelude.{◌+◌, [], Bool, true, false, ◌||◌, nat_lt}
use Rattle.st_num.specs.declared.limit.TheConstants.{MOST_DEFINITIONS, MOST_PREMISES, MOST_PARTS, MOST_SIGNS}
use Rattle.st_grammar.specs.Definitions.{Iterations, no_iterations, closed, marked, counted}
use Rattle.st_grammar.specs.Reading as part
use Rattle.st_grammar.specs.Positions.{State, at, inside, syntax_name, relation_name, rule_name, var_name, fun_name, premise_open, iterated, entering, field_name, arg_slot, count_slot}
use Rattle.st_parse_faults.specs.declared.counts.Counts.{Counts}
use Rattle.st_parse_faults.specs.declared.counts.Event.{Event}
use Rattle.st_parse_faults.specs.declared.counts.Event.TheVariants.{Definition, Premise, Member, Iteration, Closed, Nothing}

-- A part that the next token begins is an alternative, a field of a body, or an argument of a
-- definition.
abbrev pub member_due : State → Bool
member_due (at (entering s)) = true
member_due (at (field_name h o ms pre)) = true
member_due (inside (arg_slot ds w f o ts pre) (part.want (part.bottom σ))) = true
member_due st = false

-- what a token begins with which these iterations end: an iteration, a `)`, or nothing
abbrev pub iteration_event : Iterations → Event
iteration_event no_iterations = Nothing
iteration_event (closed i l) = Closed
iteration_event (marked i l) = Iteration
iteration_event (counted i l t) = Iteration

-- a member, where one was due, and else nothing
abbrev pub member_event : Bool → Event
member_event true = Member
member_event false = Nothing

-- what the token begins behind which this is the state, where a member was due or not
abbrev pub event : Bool → State → Event
event b (at (syntax_name ds w)) = Definition
event b (at (relation_name ds w)) = Definition
event b (at (rule_name ds w)) = Definition
event b (at (var_name ds w)) = Definition
event b (at (fun_name ds w)) = Definition
event b (at (premise_open r t ps d [])) = Premise
event b (at (iterated r t ps d os ls u i)) = iteration_event i
event b (at p) = Nothing
event b (inside (count_slot r t ps d os ls u i l) (part.want (part.bottom σ))) = Iteration
event b (inside s st) = member_event b

-- The counts behind what a token begins: premises and members are those of one definition, and
-- iterations those in a row.
abbrev pub counts_after : Counts → Event → Counts
counts_after c Definition =
    record { definitions = c.definitions + 1; premises = 0; members = 0; iterations = 0 }
counts_after c Premise =
    record {
      definitions = c.definitions;
      premises = c.premises + 1;
      members = c.members;
      iterations = 0;
    }
counts_after c Member =
    record {
      definitions = c.definitions;
      premises = c.premises;
      members = c.members + 1;
      iterations = c.iterations;
    }
counts_after c Iteration =
    record {
      definitions = c.definitions;
      premises = c.premises;
      members = c.members;
      iterations = c.iterations + 1;
    }
counts_after c Closed =
    record {
      definitions = c.definitions;
      premises = c.premises;
      members = c.members;
      iterations = 0;
    }
counts_after c Nothing = c

-- One of the numbers passes its limit.
abbrev pub counts_pass : Counts → Bool
counts_pass c =
    nat_lt MOST_DEFINITIONS c.definitions || nat_lt MOST_PREMISES c.premises
    || nat_lt MOST_PARTS c.members || nat_lt MOST_SIGNS c.iterations

-- nothing is begun yet
abbrev pub no_counts : Counts
no_counts = record { definitions = 0; premises = 0; members = 0; iterations = 0 }
