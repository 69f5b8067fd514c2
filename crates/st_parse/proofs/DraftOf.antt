-- The draft at each position of a reading.
use Rattle.std.proofs.Common.{ℕ, List, [], ◌∷◌, ◌++◌, map, Bool, true, false, Option, Some, None}
use Rattle.st_num.specs.declared.span.Span.{Span}
use Rattle.st_grammar.specs.Terminals.{Terminal}
use Rattle.st_grammar.specs.Trees.{Tree, Trees, none, more}
use Rattle.st_grammar.specs.Definitions.{token_in, Hints, Members, no_members, Iterations, Premises, Args, no_args, args, Defs}
use Rattle.st_grammar.specs.Positions.{Head, syntax_head, Rule, rule_head, clause_head, Host, of_syntax, of_field, of_case, of_var, of_relation, of_notation, of_fun, Slot, field_slot, case_slot, var_slot, notation_slot, fun_slot, arg_slot, rule_slot, cond_slot, count_slot, Position, between, syntax_name, var_name, var_colon, relation_name, rule_name, rule_colon, fun_name, fun_named, argued, args_closed, syntax_id, rule_id, hinted, hint_open, hint_name, hint_words, entering, dotted, field_name, premised, premise_open, goal_colon, iterated}
use Rattle.st_el.specs.declared.expression.Exp.{Exp}
use Rattle.st_el.specs.declared.ty.Typ.{Typ}
use Rattle.st_el.specs.declared.notation.Notation.{Notation}
use Rattle.st_el.specs.declared.definition.Prem.{Prem}
use Rattle.st_el.specs.declared.definition.Hint.{Hint}
use Rattle.st_el.specs.Plain.{nowhere}
use Rattle.st_grammar.specs.declared.action.Action.{Action}
use Rattle.st_parse_builder.specs.Meaning.{meaning, label}
use Rattle.st_parse_builder.specs.Notations.{typ_meaning, notation_meaning}
use Rattle.st_grammar.specs.inner.Actions.{acts}
use Rattle.st_parse_builder.specs.Definitions as meant
use Rattle.st_parse_builder.specs.Definitions.{name_in, place_in, fragment_name, hints_meaning, fields_meaning, cases_meaning, has_dots_before, condition, premises_meaning, params, patterns, defs_meaning}
use Rattle.st_parse.specs.declared.draft.Members.{Members as Body}
use Rattle.st_parse.specs.declared.draft.Sides.{Sides}
use Rattle.st_parse.specs.declared.draft.Premises.{Premises as Prems}
use Rattle.st_parse.specs.declared.draft.Draft.{Draft}
use Rattle.st_parse.specs.inner.Drafts.{no_hint, no_members as no_body, no_sides, premises_so_far, begun, with_hints}

abbrev pub place_of : Terminal → Span
place_of l = (token_in l).at

abbrev pub drafted : Defs → Terminal → Terminal → Option (List ℕ) → List Hint → Body → Sides → Prems → Draft
drafted ds w x id hs b s p = record {
  defs = defs_meaning ds;
  head = record { at = place_of w; name = name_in x; id = id };
  hints = hs;
  hint = no_hint;
  members = b;
  sides = s;
  premises = p;
}

-- the name behind the first word is read
abbrev pub named_draft : Defs → Terminal → Terminal → List Terminal → Draft
named_draft ds w x ls = drafted ds w x (fragment_name ls) [] no_body no_sides (premises_so_far [])

abbrev pub fields_body : List ℕ → List (List ℕ × Typ) → Body
fields_body name fs = record { label = name; fields = fs; dots = false; notations = [] }

abbrev pub cases_body : Bool → List Notation → Body
cases_body b ns = record { label = []; fields = []; dots = b; notations = ns }

abbrev pub head_draft : Head → Body → Draft
head_draft (syntax_head ds w x ls hs e) b = drafted ds w x (fragment_name ls) (hints_meaning hs) b no_sides (premises_so_far [])

abbrev pub typ_sides : List Typ → Option Typ → Sides
typ_sides ts t = record { clause = false; params = ts; args = []; typ = t; exp = None }

abbrev pub rule_sides : Rule → Option Exp → Sides
rule_sides (rule_head ds w r ls c) e = record { clause = false; params = []; args = []; typ = None; exp = e }
rule_sides (clause_head ds w f a c) e = record { clause = true; params = []; args = patterns a; typ = None; exp = e }

abbrev pub rule_draft : Rule → Option Exp → Prems → Draft
rule_draft (rule_head ds w r ls c) e p = drafted ds w r (fragment_name ls) [] no_body (rule_sides (rule_head ds w r ls c) e) p
rule_draft (clause_head ds w f a c) e p = drafted ds w f None [] no_body (rule_sides (clause_head ds w f a c) e) p

-- dots stand before the alternatives of which the last one is set off so
abbrev pub has_dots : Members → List Terminal → Bool
has_dots no_members (d ∷ b ∷ []) = true
has_dots ms pre = has_dots_before ms

abbrev pub host_draft : Host → Hints → Draft
host_draft (of_syntax ds w x ls) hs = drafted ds w x (fragment_name ls) (hints_meaning hs) no_body no_sides (premises_so_far [])
host_draft (of_field h o ms pre t) hs = head_draft h (fields_body [] (fields_meaning ms ++ (label pre, typ_meaning t) ∷ []))
host_draft (of_case h ms pre t) hs = head_draft h (cases_body (has_dots ms pre) (cases_meaning ms ++ notation_meaning t ∷ []))
host_draft (of_var ds w x c t) hs = drafted ds w x None (hints_meaning hs) no_body (typ_sides [] (Some (typ_meaning t))) (premises_so_far [])
host_draft (of_relation ds w r) hs = drafted ds w r None (hints_meaning hs) no_body no_sides (premises_so_far [])
host_draft (of_notation ds w r hs c t) ks =
    drafted ds w r None (hints_meaning hs ++ hints_meaning ks) (cases_body false (notation_meaning t ∷ [])) no_sides (premises_so_far [])
host_draft (of_fun ds w f a c t) hs = drafted ds w f None (hints_meaning hs) no_body (typ_sides (params a) (Some (typ_meaning t))) (premises_so_far [])

-- the relation that a condition names
abbrev pub goal_of : List Terminal → Option (List ℕ)
goal_of (r ∷ c ∷ ls) = Some (name_in r)
goal_of ls = None

abbrev pub premise_at : Premises → Terminal → List Terminal → Span → Option (List ℕ) → Option Prem → Prems
premise_at ps d os start goal p = record {
  whole = premises_meaning ps;
  at = place_of d;
  opened = map place_of os;
  start = start;
  goal = goal;
  prem = p;
}

abbrev pub iterated_at : Premises → Terminal → List Terminal → List Terminal → Tree → Iterations → Prems
iterated_at ps d os ls u i = premise_at ps d os (place_in ls) None (Some (meant.iterated os (condition ls (meaning u)) i))

abbrev pub slot_draft : Slot → Draft
slot_draft (field_slot h o ms pre) = head_draft h (fields_body (label pre) (fields_meaning ms))
slot_draft (case_slot h ms pre) = head_draft h (cases_body (has_dots ms pre) (cases_meaning ms))
slot_draft (var_slot ds w x c) = named_draft ds w x []
slot_draft (notation_slot ds w r hs c) = drafted ds w r None (hints_meaning hs) no_body no_sides (premises_so_far [])
slot_draft (fun_slot ds w f a c) = drafted ds w f None [] no_body (typ_sides (params a) None) (premises_so_far [])
slot_draft (arg_slot ds w f o ts pre) = named_draft ds w f []
slot_draft (rule_slot r) = rule_draft r None (premises_so_far [])
slot_draft (cond_slot r t ps d os ls) = rule_draft r (Some (meaning t)) (premise_at ps d os (place_in ls) (goal_of ls) None)
slot_draft (count_slot r t ps d os ls u i l) = rule_draft r (Some (meaning t)) (iterated_at ps d os ls u i)

abbrev pub position_draft : Position → Draft
position_draft (between ds) = begun (defs_meaning ds) nowhere
position_draft (syntax_name ds w) = begun (defs_meaning ds) (place_of w)
position_draft (var_name ds w) = begun (defs_meaning ds) (place_of w)
position_draft (var_colon ds w x) = named_draft ds w x []
position_draft (relation_name ds w) = begun (defs_meaning ds) (place_of w)
position_draft (rule_name ds w) = begun (defs_meaning ds) (place_of w)
position_draft (rule_colon ds w r) = named_draft ds w r []
position_draft (fun_name ds w) = begun (defs_meaning ds) (place_of w)
position_draft (fun_named ds w f) = named_draft ds w f []
position_draft (argued ds w f o ts) = named_draft ds w f []
position_draft (args_closed ds w f o ts c) = named_draft ds w f []
position_draft (syntax_id ds w x ls d) = named_draft ds w x ls
position_draft (rule_id ds w r ls d) = named_draft ds w r ls
position_draft (hinted h hs) = host_draft h hs
position_draft (hint_open h hs w) = host_draft h hs
position_draft (hint_name h hs w o) = host_draft h hs
position_draft (hint_words h hs w o n ws cs) = with_hints (host_draft h hs).hints (record { name = name_in n; words = map token_in ws }) (host_draft h hs)
position_draft (entering s) = slot_draft s
position_draft (dotted h d) = head_draft h (cases_body true [])
position_draft (field_name h o ms pre) = head_draft h (fields_body [] (fields_meaning ms))
position_draft (premised r t ps) = rule_draft r (Some (meaning t)) (premises_so_far (premises_meaning ps))
position_draft (premise_open r t ps d os) = rule_draft r (Some (meaning t)) (premise_at ps d os nowhere None None)
position_draft (goal_colon r t ps d os n) = rule_draft r (Some (meaning t)) (premise_at ps d os (place_of n) (Some (name_in n)) None)
position_draft (iterated r t ps d os ls u i) = rule_draft r (Some (meaning t)) (iterated_at ps d os ls u i)

-- ---- arguments, which are types or patterns

abbrev pub arguments_acts : Trees → List (List Action)
arguments_acts none = []
arguments_acts (more ts pre t) = arguments_acts ts ++ acts t ∷ []

abbrev pub args_acts : Args → List (List Action)
args_acts no_args = []
args_acts (args o ts c) = arguments_acts ts

-- the arguments that are read
abbrev pub position_args : Position → Args
position_args (argued ds w f o ts) = args o ts o
position_args (args_closed ds w f o ts c) = args o ts c
position_args (entering (arg_slot ds w f o ts pre)) = args o ts o
position_args p = no_args

abbrev pub slot_args : Slot → Trees
slot_args (arg_slot ds w f o ts pre) = ts
slot_args s = none
