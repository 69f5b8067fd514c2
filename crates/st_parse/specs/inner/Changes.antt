-- What each token between parts changes of a draft.
use Rattle.std.specs.Prelude.{List, length, Bool, true, false, if◌then◌else◌}
use Rattle.st_grammar.specs.declared.sort.Bracket.{Bracket}
use Rattle.st_parse_automaton.specs.declared.position.Host.{Host}
use Rattle.st_parse_automaton.specs.declared.position.Host.TheVariants as host
use Rattle.st_parse_automaton.specs.declared.position.Slot.{Slot}
use Rattle.st_parse_automaton.specs.declared.position.Slot.TheVariants as slot
use Rattle.st_parse_automaton.specs.declared.position.IterationState.TheVariants as iterations
use Rattle.st_parse_automaton.specs.declared.position.Position.{Position}
use Rattle.st_parse_automaton.specs.declared.position.Position.TheVariants as position
use Rattle.st_parse_automaton.specs.inner.DefinitionAutomaton as definitions
use Rattle.st_parse.specs.declared.change.DefinitionEnd.{DefinitionEnd}
use Rattle.st_parse.specs.declared.change.DefinitionEnd.TheVariants as ending
use Rattle.st_parse.specs.declared.change.Change.{Change}
use Rattle.st_parse.specs.declared.change.Change.TheVariants as change

-- ---- which change

-- The name of a definition is due, behind its word.
abbrev pub names_definition : Position → Bool
names_definition position.SyntaxName = true
names_definition position.RelationName = true
names_definition position.RuleName = true
names_definition position.VarName = true
names_definition position.FunName = true
names_definition p = false

-- what of a definition ends where its hints may stand
abbrev pub host_ending : Host → DefinitionEnd
host_ending host.Case = ending.Cases false
host_ending host.Var = ending.Var
host_ending host.Notation = ending.Relation
host_ending host.Fun = ending.Fun
host_ending h = ending.Nothing

-- what ends where a next definition may begin
abbrev pub ending_of : Position → DefinitionEnd
ending_of (position.Hinted h b) = host_ending h
ending_of position.Premised = ending.Rule
ending_of (position.Iterated m) = ending.Condition
ending_of p = ending.Nothing

-- Hints of fields and alternatives are not kept.
abbrev pub keeps_hints : Host → Bool
keeps_hints host.Field = false
keeps_hints host.Case = false
keeps_hints h = true

-- what a token changes where hints may stand
abbrev pub behind_hints : Host → Position → Change
behind_hints h (position.SyntaxId d) = change.Id
behind_hints h position.Between = change.End ending.Fields
behind_hints h p = if names_definition p then change.Begin (host_ending h) else change.Nothing

-- A condition stands before, with its iterations so far.
abbrev pub is_iterated : Position → Bool
is_iterated (position.Iterated m) = true
is_iterated p = false

-- what a token changes behind whole premises or a condition
abbrev pub in_premises : Position → Position → Change
in_premises before position.PremiseOpen = change.Premise (is_iterated before)
in_premises before (position.Iterated iterations.Wanted) = change.Nothing
in_premises before p = change.Begin (ending_of before)

-- what a token changes behind `--` and the parentheses that are open
abbrev pub in_premise : Position → Change
in_premise position.PremiseOpen = change.Parenthesis
in_premise position.GoalColon = change.Goal
in_premise p = change.Otherwise

-- what a token changes in the name of a fragment or a rule, or before that of a rule
abbrev pub in_id : Position → Change
in_id (position.SyntaxId d) = change.Id
in_id (position.RuleId d) = change.Id
in_id p = change.Nothing

-- what a token changes in a hint: it goes on with it, or ends it
abbrev pub in_hint : Host → Position → Change
in_hint h (position.HintWords k) = change.HintWord
in_hint h p = change.HintEnd (keeps_hints h)

-- what a token changes that stands where a part may begin, but begins none
abbrev pub entering : Position → Change
entering position.Dotted = change.Dots
entering position.Between = change.End (ending.Cases true)
entering p = change.Nothing

-- what changes from a position to a position
abbrev pub change_at : Position → Position → Change
change_at position.Between after = change.Begin ending.Nothing
change_at position.SyntaxName after = change.Name
change_at position.RelationName after = change.Name
change_at position.RuleName after = change.Name
change_at position.VarName after = change.Name
change_at position.FunName after = change.Name
change_at position.RuleColon after = in_id after
change_at (position.SyntaxId d) after = in_id after
change_at (position.RuleId d) after = in_id after
change_at (position.Hinted h b) after = behind_hints h after
change_at (position.HintName h) after = change.HintName
change_at (position.HintWords h) after = in_hint h after
change_at (position.Entering s) after = entering after
change_at (position.FieldName b) after = change.End ending.Fields
change_at position.Premised after = in_premises position.Premised after
change_at (position.Iterated m) after = in_premises (position.Iterated m) after
change_at position.PremiseOpen after = in_premise after
change_at before after = change.Nothing

-- what the arguments of a function are, told by the part behind them
abbrev pub behind_arguments : Slot → Change
behind_arguments slot.Fun = change.Params
behind_arguments slot.Rule = change.Args
behind_arguments s = change.Nothing

-- what changes from a position into a part
abbrev pub change_into : Position → Slot → Change
change_into position.FunNamed s = behind_arguments s
change_into (position.ArgumentsClosed b) s = behind_arguments s
change_into (position.FieldName b) s = change.Label
change_into position.PremiseOpen s = change.If
change_into before s = change.Nothing

-- what a token changes that leads to a position, with these brackets open there
abbrev pub change_to : Position → Position → List Bracket → Change
change_to before (position.Iterated iterations.Complete) ks = change.Mark (length ks)
change_to before after ks = change_at before after

-- what a token changes that leads from this position there
abbrev pub change_of : Position → definitions.State → Change
change_of before (definitions.at p ks) = change_to before p ks
change_of before (definitions.inside s st ks) = change_into before s
