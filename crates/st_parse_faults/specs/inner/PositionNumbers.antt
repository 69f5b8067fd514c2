-- What each token of definitions that is read begins, with its numbers, by the position.
use Rattle.std.specs.Prelude.{ℕ, ◌+◌, ◌-◌, List, [], ◌∷◌, ◌++◌, map, length, false}
use Rattle.st_grammar.specs.declared.sort.Sort.TheVariants.{Expression as expression, Notation as notation, Typ as typ}
use Rattle.st_grammar.specs.Trees.{Tree}
use Rattle.st_grammar.specs.Grammar.{size}
use Rattle.st_grammar.specs.Definitions.{fields, cases, closings, given, default, Premises, no_premises, more_premises, Args, no_args, args, Def, syntax_def, var_def, relation_def, rule_def, fun_def, clause_def, Defs, no_defs, more_defs}
use Rattle.st_grammar.specs.Reading as part
use Rattle.st_grammar.specs.Positions.{Head, syntax_head, Rule, rule_head, clause_head, Host, of_syntax, of_field, of_case, of_var, of_relation, of_notation, of_fun, Slot, field_slot, case_slot, var_slot, notation_slot, fun_slot, arg_slot, rule_slot, cond_slot, count_slot, slot_sort, Position, between, syntax_name, var_name, var_colon, relation_name, rule_name, rule_colon, fun_name, fun_named, argued, args_closed, syntax_id, rule_id, hinted, hint_open, hint_name, hint_words, entering, dotted, field_name, premised, premise_open, goal_colon, iterated, State, at, inside}
use Rattle.st_parse_faults.specs.declared.counts.Counts.{Counts}
use Rattle.st_parse_faults.specs.Nesting.{brackets_behind}
use Rattle.st_parse_faults.specs.Number as number
use Rattle.st_parse_faults.specs.Number.{Number}
use Rattle.st_parse_faults.specs.Numbers.{Context, context, label_entry, no_entries, open_entry, numbers}
use Rattle.st_parse_faults.specs.DefinitionNumbers.{members_size, premises_size, defs_size, iterations_row, word_numbers, hints_numbers, alone, member_begins, field_numbers, case_numbers, paren_numbers, iteration_begins, iteration_numbers, premise_begins, premises_numbers, argument_numbers, args_numbers, def_begins, defs_numbers}
use Rattle.st_parse_faults.specs.inner.Limits.{signs_before}
use Rattle.st_parse_faults.specs.inner.Numbering.{state_numbers, part_brackets}

-- ---- entries

-- the entries of a syntax up to its `=`
abbrev pub head_numbers : Head → List (List Number)
head_numbers (syntax_head ds w x ls hs e) =
    defs_numbers ds
    ++ (def_begins ds ∷ [] ∷ (no_entries ls ++ (hints_numbers 0 hs ++ [] ∷ [])))

-- the entries of a rule or a clause up to its conclusion or result
abbrev pub rule_numbers : Rule → List (List Number)
rule_numbers (rule_head ds w r ls c) =
    defs_numbers ds ++ (def_begins ds ∷ [] ∷ (no_entries ls ++ [] ∷ []))
rule_numbers (clause_head ds w f a e) =
    defs_numbers ds ++ (def_begins ds ∷ [] ∷ (args_numbers a ++ [] ∷ []))

-- the entries of a rule or a clause up to these premises
abbrev pub ruled_numbers : Rule → Tree → Premises → List (List Number)
ruled_numbers r t ps =
    rule_numbers r ++ (numbers (alone (expression false) 0 []) t ++ premises_numbers ps)

-- how many brackets are open where hints may stand
abbrev pub host_depth : Host → ℕ
host_depth (of_field h o ms pre t) = 1
host_depth h = 0

-- the entries of what hints stand behind
abbrev pub host_numbers : Host → List (List Number)
host_numbers (of_syntax ds w x ls) = defs_numbers ds ++ (def_begins ds ∷ [] ∷ no_entries ls)
host_numbers (of_field h o ms pre t) =
    head_numbers h
    ++ (open_entry [] 1
    ∷ (field_numbers ms
    ++ (map (label_entry (member_begins ms)) pre ++ numbers (alone typ 1 []) t)))
host_numbers (of_case h ms pre t) =
    head_numbers h
    ++ (case_numbers ms ++ (no_entries pre ++ numbers (alone notation 0 (member_begins ms)) t))
host_numbers (of_var ds w x c t) =
    defs_numbers ds ++ (def_begins ds ∷ [] ∷ [] ∷ numbers (alone typ 0 []) t)
host_numbers (of_relation ds w r) = defs_numbers ds ++ (def_begins ds ∷ [] ∷ [])
host_numbers (of_notation ds w r hs c t) =
    defs_numbers ds
    ++ (def_begins ds ∷ [] ∷ (hints_numbers 0 hs ++ ([] ∷ numbers (alone notation 0 []) t)))
host_numbers (of_fun ds w f a c t) =
    defs_numbers ds ++ (def_begins ds ∷ [] ∷ (args_numbers a ++ ([] ∷ numbers (alone typ 0 []) t)))

-- the entries before a part that is read for this
abbrev pub slot_numbers : Slot → List (List Number)
slot_numbers (field_slot h o ms pre) =
    head_numbers h
    ++ (open_entry [] 1 ∷ (field_numbers ms ++ map (label_entry (member_begins ms)) pre))
slot_numbers (case_slot h ms pre) = head_numbers h ++ (case_numbers ms ++ no_entries pre)
slot_numbers (var_slot ds w x c) = defs_numbers ds ++ (def_begins ds ∷ [] ∷ [] ∷ [])
slot_numbers (notation_slot ds w r hs c) =
    defs_numbers ds ++ (def_begins ds ∷ [] ∷ (hints_numbers 0 hs ++ [] ∷ []))
slot_numbers (fun_slot ds w f a c) =
    defs_numbers ds ++ (def_begins ds ∷ [] ∷ (args_numbers a ++ [] ∷ []))
slot_numbers (arg_slot ds w f o ts pre) =
    defs_numbers ds
    ++ (def_begins ds ∷ [] ∷ open_entry [] 1 ∷ (argument_numbers ts ++ no_entries pre))
slot_numbers (rule_slot r) = rule_numbers r
slot_numbers (cond_slot r t ps d os ls) =
    ruled_numbers r t ps ++ (premise_begins ps ∷ (paren_numbers 0 os ++ no_entries ls))
slot_numbers (count_slot r t ps d os ls u i l) =
    ruled_numbers r t ps
    ++ (premise_begins ps
    ∷ (paren_numbers 0 os
    ++ (no_entries ls
    ++ (numbers (alone (expression false) (length os) []) u
    ++ (iteration_numbers (length os) i ++ iteration_begins i ∷ [])))))

-- how many brackets are open before a part that is read for this
abbrev pub slot_depth : Slot → ℕ
slot_depth (field_slot h o ms pre) = 1
slot_depth (arg_slot ds w f o ts pre) = 1
slot_depth (cond_slot r t ps d os ls) = length os
slot_depth (count_slot r t ps d os ls u i l) = length os - closings i
slot_depth s = 0

-- what begins with a part that is read for this
abbrev pub slot_begins : Slot → List Number
slot_begins (case_slot h ms pre) = member_begins ms
slot_begins (arg_slot ds w f o ts pre) = number.member (size ts + 1) ∷ []
slot_begins s = []

-- the context of a part that is read for this
abbrev pub slot_context : Slot → Context
slot_context s = context (slot_sort s) (signs_before s) 0 (slot_depth s) (slot_begins s)

-- the entries up to a position
abbrev pub position_numbers : Position → List (List Number)
position_numbers (between ds) = defs_numbers ds
position_numbers (syntax_name ds w) = defs_numbers ds ++ def_begins ds ∷ []
position_numbers (var_name ds w) = defs_numbers ds ++ def_begins ds ∷ []
position_numbers (var_colon ds w x) = defs_numbers ds ++ def_begins ds ∷ [] ∷ []
position_numbers (relation_name ds w) = defs_numbers ds ++ def_begins ds ∷ []
position_numbers (rule_name ds w) = defs_numbers ds ++ def_begins ds ∷ []
position_numbers (rule_colon ds w r) = defs_numbers ds ++ def_begins ds ∷ [] ∷ []
position_numbers (fun_name ds w) = defs_numbers ds ++ def_begins ds ∷ []
position_numbers (fun_named ds w f) = defs_numbers ds ++ def_begins ds ∷ [] ∷ []
position_numbers (argued ds w f o ts) =
    defs_numbers ds ++ (def_begins ds ∷ [] ∷ open_entry [] 1 ∷ argument_numbers ts)
position_numbers (args_closed ds w f o ts c) =
    defs_numbers ds
    ++ (def_begins ds ∷ [] ∷ open_entry [] 1 ∷ (argument_numbers ts ++ [] ∷ []))
position_numbers (syntax_id ds w x ls d) =
    defs_numbers ds ++ (def_begins ds ∷ [] ∷ no_entries ls)
position_numbers (rule_id ds w r ls d) = defs_numbers ds ++ (def_begins ds ∷ [] ∷ no_entries ls)
position_numbers (hinted h hs) = host_numbers h ++ hints_numbers (host_depth h) hs
position_numbers (hint_open h hs w) =
    host_numbers h ++ (hints_numbers (host_depth h) hs ++ [] ∷ [])
position_numbers (hint_name h hs w o) =
    host_numbers h
    ++ (hints_numbers (host_depth h) hs ++ [] ∷ open_entry [] (host_depth h + 1) ∷ [])
position_numbers (hint_words h hs w o n ws ks) =
    host_numbers h
    ++ (hints_numbers (host_depth h) hs
    ++ ([] ∷ open_entry [] (host_depth h + 1) ∷ [] ∷ word_numbers (host_depth h + 1) ws))
position_numbers (entering s) = slot_numbers s
position_numbers (dotted h d) = head_numbers h ++ [] ∷ []
position_numbers (field_name h o ms pre) =
    head_numbers h
    ++ (open_entry [] 1 ∷ (field_numbers ms ++ map (label_entry (member_begins ms)) pre))
position_numbers (premised r t ps) = ruled_numbers r t ps
position_numbers (premise_open r t ps d os) =
    ruled_numbers r t ps ++ (premise_begins ps ∷ paren_numbers 0 os)
position_numbers (goal_colon r t ps d os n) =
    ruled_numbers r t ps ++ (premise_begins ps ∷ (paren_numbers 0 os ++ [] ∷ []))
position_numbers (iterated r t ps d os ls u i) =
    ruled_numbers r t ps
    ++ (premise_begins ps
    ∷ (paren_numbers 0 os
    ++ (no_entries ls
    ++ (numbers (alone (expression false) (length os) []) u ++ iteration_numbers (length os) i))))

-- what each token that is read of definitions begins
abbrev pub read_numbers : State → List (List Number)
read_numbers (at p) = position_numbers p
read_numbers (inside s st) = slot_numbers s ++ state_numbers (slot_context s) st

-- ---- brackets

-- how many brackets are open at a position
abbrev pub position_brackets : Position → ℕ
position_brackets (argued ds w f o ts) = 1
position_brackets (hinted h hs) = host_depth h
position_brackets (hint_open h hs w) = host_depth h
position_brackets (hint_name h hs w o) = host_depth h + 1
position_brackets (hint_words h hs w o n ws ks) = brackets_behind (host_depth h + 1) ws
position_brackets (entering s) = slot_depth s
position_brackets (field_name h o ms pre) = 1
position_brackets (premise_open r t ps d os) = length os
position_brackets (goal_colon r t ps d os n) = length os
position_brackets (iterated r t ps d os ls u i) = length os - closings i
position_brackets p = 0

-- how many brackets are open where definitions are read so far
abbrev pub brackets : State → ℕ
brackets (at p) = position_brackets p
brackets (inside s st) = slot_depth s + part_brackets st

-- ---- counts

-- so many are begun: definitions, premises, members and iterations
abbrev pub counts : ℕ → ℕ → ℕ → ℕ → Counts
counts d p m i = record { definitions = d; premises = p; members = m; iterations = i }

-- how many arguments these are
abbrev pub args_size : Args → ℕ
args_size no_args = 0
args_size (args o ts c) = size ts

-- how many iterations stand in a row at the end of these premises
abbrev pub last_row : Premises → ℕ
last_row no_premises = 0
last_row (more_premises ps (default d o)) = 0
last_row (more_premises ps (given d os ls t i)) = iterations_row i

-- what is counted in this definition, which is the one of this number
abbrev pub def_counts : ℕ → Def → Counts
def_counts n (syntax_def w x ls hs e (fields o ms c)) = counts n 0 (members_size ms) 0
def_counts n (syntax_def w x ls hs e (cases ms es)) = counts n 0 (members_size ms) 0
def_counts n (var_def w x c t hs) = counts n 0 0 0
def_counts n (relation_def w r hs c t ks) = counts n 0 0 0
def_counts n (rule_def w r ls c t ps) = counts n (premises_size ps) 0 (last_row ps)
def_counts n (fun_def w f a c t hs) = counts n 0 (args_size a) 0
def_counts n (clause_def w f a e t ps) = counts n (premises_size ps) (args_size a) (last_row ps)

-- what is counted behind these definitions
abbrev pub defs_counts : Defs → Counts
defs_counts no_defs = counts 0 0 0 0
defs_counts (more_defs ds d) = def_counts (defs_size ds + 1) d

-- which definition a syntax is
abbrev pub head_number : Head → ℕ
head_number (syntax_head ds w x ls hs e) = defs_size ds + 1

-- which definition a rule or clause is
abbrev pub rule_number : Rule → ℕ
rule_number (rule_head ds w r ls c) = defs_size ds + 1
rule_number (clause_head ds w f a e) = defs_size ds + 1

-- how many arguments a clause has
abbrev pub rule_members : Rule → ℕ
rule_members (rule_head ds w r ls c) = 0
rule_members (clause_head ds w f a e) = args_size a

-- what is counted in a rule or clause with so many premises, and iterations in a row
abbrev pub rule_counts : Rule → ℕ → ℕ → Counts
rule_counts r p i = counts (rule_number r) p (rule_members r) i

-- what is counted where hints may stand
abbrev pub host_counts : Host → Counts
host_counts (of_syntax ds w x ls) = counts (defs_size ds + 1) 0 0 0
host_counts (of_field h o ms pre t) = counts (head_number h) 0 (members_size ms + 1) 0
host_counts (of_case h ms pre t) = counts (head_number h) 0 (members_size ms + 1) 0
host_counts (of_var ds w x c t) = counts (defs_size ds + 1) 0 0 0
host_counts (of_relation ds w r) = counts (defs_size ds + 1) 0 0 0
host_counts (of_notation ds w r hs c t) = counts (defs_size ds + 1) 0 0 0
host_counts (of_fun ds w f a c t) = counts (defs_size ds + 1) 0 (args_size a) 0

-- what is counted before a part that is read for this
abbrev pub slot_counts : Slot → Counts
slot_counts (field_slot h o ms pre) = counts (head_number h) 0 (members_size ms + 1) 0
slot_counts (case_slot h ms pre) = counts (head_number h) 0 (members_size ms) 0
slot_counts (var_slot ds w x c) = counts (defs_size ds + 1) 0 0 0
slot_counts (notation_slot ds w r hs c) = counts (defs_size ds + 1) 0 0 0
slot_counts (fun_slot ds w f a c) = counts (defs_size ds + 1) 0 (args_size a) 0
slot_counts (arg_slot ds w f o ts pre) = counts (defs_size ds + 1) 0 (size ts) 0
slot_counts (rule_slot r) = rule_counts r 0 0
slot_counts (cond_slot r t ps d os ls) = rule_counts r (premises_size ps + 1) 0
slot_counts (count_slot r t ps d os ls u i l) =
    rule_counts r (premises_size ps + 1) (iterations_row i + 1)

-- what is counted behind the first token of a part that is read for this
abbrev pub inner_counts : Slot → Counts
inner_counts (case_slot h ms pre) = counts (head_number h) 0 (members_size ms + 1) 0
inner_counts (arg_slot ds w f o ts pre) = counts (defs_size ds + 1) 0 (size ts + 1) 0
inner_counts s = slot_counts s

-- what is counted at a position
abbrev pub position_counts : Position → Counts
position_counts (between ds) = defs_counts ds
position_counts (syntax_name ds w) = counts (defs_size ds + 1) 0 0 0
position_counts (var_name ds w) = counts (defs_size ds + 1) 0 0 0
position_counts (var_colon ds w x) = counts (defs_size ds + 1) 0 0 0
position_counts (relation_name ds w) = counts (defs_size ds + 1) 0 0 0
position_counts (rule_name ds w) = counts (defs_size ds + 1) 0 0 0
position_counts (rule_colon ds w r) = counts (defs_size ds + 1) 0 0 0
position_counts (fun_name ds w) = counts (defs_size ds + 1) 0 0 0
position_counts (fun_named ds w f) = counts (defs_size ds + 1) 0 0 0
position_counts (argued ds w f o ts) = counts (defs_size ds + 1) 0 (size ts) 0
position_counts (args_closed ds w f o ts c) = counts (defs_size ds + 1) 0 (size ts) 0
position_counts (syntax_id ds w x ls d) = counts (defs_size ds + 1) 0 0 0
position_counts (rule_id ds w r ls d) = counts (defs_size ds + 1) 0 0 0
position_counts (hinted h hs) = host_counts h
position_counts (hint_open h hs w) = host_counts h
position_counts (hint_name h hs w o) = host_counts h
position_counts (hint_words h hs w o n ws ks) = host_counts h
position_counts (entering s) = slot_counts s
position_counts (dotted h d) = counts (head_number h) 0 0 0
position_counts (field_name h o ms pre) = counts (head_number h) 0 (members_size ms) 0
position_counts (premised r t ps) = rule_counts r (premises_size ps) (last_row ps)
position_counts (premise_open r t ps d os) = rule_counts r (premises_size ps + 1) 0
position_counts (goal_colon r t ps d os n) = rule_counts r (premises_size ps + 1) 0
position_counts (iterated r t ps d os ls u i) =
    rule_counts r (premises_size ps + 1) (iterations_row i)

-- what is counted where definitions are read so far
abbrev pub counts_in : State → Counts
counts_in (at p) = position_counts p
counts_in (inside s (part.want (part.bottom σ))) = slot_counts s
counts_in (inside s st) = inner_counts s
