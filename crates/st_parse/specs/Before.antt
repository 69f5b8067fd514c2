-- The definitions before the one that is read.
use Rattle.st_grammar.specs.Definitions.{Defs}
use Rattle.st_grammar.specs.Positions.{Head, syntax_head, Rule, rule_head, clause_head, Host, of_syntax, of_field, of_case, of_var, of_relation, of_notation, of_fun, Slot, field_slot, case_slot, var_slot, notation_slot, fun_slot, arg_slot, rule_slot, cond_slot, count_slot, Position, between, syntax_name, var_name, var_colon, relation_name, rule_name, rule_colon, fun_name, fun_named, argued, args_closed, syntax_id, rule_id, hinted, hint_open, hint_name, hint_words, entering, dotted, field_name, premised, premise_open, goal_colon, iterated, State, at, inside}

-- the definitions before a syntax that is open
abbrev pub head_before : Head → Defs
head_before (syntax_head ds w x ls hs e) = ds

-- the definitions before a rule or a clause that is open
abbrev pub rule_before : Rule → Defs
rule_before (rule_head ds w r ls c) = ds
rule_before (clause_head ds w f a e) = ds

-- the definitions before the one whose hints are read
abbrev pub host_before : Host → Defs
host_before (of_syntax ds w x ls) = ds
host_before (of_field h o ms pre t) = head_before h
host_before (of_case h ms pre t) = head_before h
host_before (of_var ds w x c t) = ds
host_before (of_relation ds w r) = ds
host_before (of_notation ds w r hs c t) = ds
host_before (of_fun ds w f a c t) = ds

-- the definitions before the one that a part is read for
abbrev pub slot_before : Slot → Defs
slot_before (field_slot h o ms pre) = head_before h
slot_before (case_slot h ms pre) = head_before h
slot_before (var_slot ds w x c) = ds
slot_before (notation_slot ds w r hs c) = ds
slot_before (fun_slot ds w f a c) = ds
slot_before (arg_slot ds w f o ts pre) = ds
slot_before (rule_slot r) = rule_before r
slot_before (cond_slot r t ps d os ls) = rule_before r
slot_before (count_slot r t ps d os ls u i l) = rule_before r

-- the definitions before the one that stands open at a position between tokens
abbrev pub position_before : Position → Defs
position_before (between ds) = ds
position_before (syntax_name ds w) = ds
position_before (var_name ds w) = ds
position_before (var_colon ds w x) = ds
position_before (relation_name ds w) = ds
position_before (rule_name ds w) = ds
position_before (rule_colon ds w r) = ds
position_before (fun_name ds w) = ds
position_before (fun_named ds w f) = ds
position_before (argued ds w f o ts) = ds
position_before (args_closed ds w f o ts c) = ds
position_before (syntax_id ds w x ls d) = ds
position_before (rule_id ds w r ls d) = ds
position_before (hinted h hs) = host_before h
position_before (hint_open h hs w) = host_before h
position_before (hint_name h hs w o) = host_before h
position_before (hint_words h hs w o n ws cs) = host_before h
position_before (entering s) = slot_before s
position_before (dotted h d) = head_before h
position_before (field_name h o ms pre) = head_before h
position_before (premised r t ps) = rule_before r
position_before (premise_open r t ps d os) = rule_before r
position_before (goal_colon r t ps d os n) = rule_before r
position_before (iterated r t ps d os ls u i) = rule_before r

-- the definitions before the one that is read, wherever in it the reading is
abbrev pub before : State → Defs
before (at p) = position_before p
before (inside s st) = slot_before s
