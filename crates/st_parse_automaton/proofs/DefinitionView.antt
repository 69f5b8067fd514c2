-- The definition automaton abbreviates a reading of definitions: what it keeps of each state.
use Rattle.std.proofs.Common.{◌≡◌, ℕ, zero, suc, ◌-◌, ◌≤◌, ◌<◌, List, [], ◌∷◌, ◌++◌, length, Bool, true, false, ◌&&◌, ◌||◌, ◌==◌, Some, None, if◌then◌else◌, refl, sym, ap, ◌∙◌, arith}
use Rattle.st_num.specs.declared.mark.Mark.{Mark}
use Rattle.st_grammar.specs.declared.sort.Leaf.TheVariants as leaves
use Rattle.st_grammar.specs.declared.sort.Bracket.{Bracket}
use Rattle.st_grammar.specs.declared.sort.Bracket.TheVariants as bracket
use Rattle.st_grammar.specs.declared.sort.Closing.TheVariants as closings_of
use Rattle.st_grammar.specs.Terminals as terminals
use Rattle.st_grammar.specs.Terminals.{leaf, dot, sign, opening, closing, other}
use Rattle.st_grammar.specs.Trees.{Trees, none}
use Rattle.st_grammar.specs.Grammar as grammar
use Rattle.st_grammar.specs.Definitions as def
use Rattle.st_grammar.specs.Definitions.{keyword, touches, is_slash, is_minus, is_equal, is_dots, is_mix_kind, Hints, no_hints, more_hints, Members, no_members, member, Iterations, no_iterations, closed, marked, counted, closings, Premises, more_premises, given}
use Rattle.st_grammar.specs.Positions as spec
use Rattle.st_grammar.specs.Positions.{Head, Rule, of_syntax, of_field, of_case, of_var, of_relation, of_notation, of_fun, field_slot, case_slot, var_slot, notation_slot, fun_slot, arg_slot, rule_slot, cond_slot, count_slot, between, syntax_name, var_name, var_colon, relation_name, rule_name, rule_colon, fun_name, fun_named, argued, args_closed, syntax_id, rule_id, hinted, hint_open, hint_name, hint_words, entering, dotted, field_name, premised, premise_open, goal_colon, iterated, reads_types}
use Rattle.st_parse_automaton.specs.declared.position.Host.{Host}
use Rattle.st_parse_automaton.specs.declared.position.Host.TheVariants as host
use Rattle.st_parse_automaton.specs.declared.position.CaseAt.{CaseAt}
use Rattle.st_parse_automaton.specs.declared.position.CaseAt.TheVariants as case
use Rattle.st_parse_automaton.specs.declared.position.Slot.{Slot}
use Rattle.st_parse_automaton.specs.declared.position.Slot.TheVariants as slot
use Rattle.st_parse_automaton.specs.declared.position.IterationState.{IterationState}
use Rattle.st_parse_automaton.specs.declared.position.IterationState.TheVariants as iterations
use Rattle.st_parse_automaton.specs.declared.position.Position.{Position}
use Rattle.st_parse_automaton.specs.declared.position.Position.TheVariants as position
use Rattle.st_parse_automaton.specs.inner.Shapes.{shape, class_of}
use Rattle.st_parse_automaton.specs.inner.DefinitionAutomaton as definitions
use Rattle.st_parse_automaton.specs.inner.DefinitionAutomaton.{at, inside}
use Rattle.st_parse_automaton.proofs.View.{part_of, part_reads}
use Rattle.st_parse_automaton.proofs.View as view
use Rattle.st_parse_automaton.proofs.Simulation as simulation

-- ---- the view

abbrev pub rounds : ℕ → List Bracket
rounds zero = []
rounds (suc n) = bracket.Round ∷ rounds n

abbrev pub host_of : spec.Host → Host
host_of (of_syntax ds w x ls) = host.Syntax
host_of (of_field h o ms pre t) = host.Field
host_of (of_case h ms pre t) = host.Case
host_of (of_var ds w x c t) = host.Var
host_of (of_relation ds w r) = host.Relation
host_of (of_notation ds w r hs c t) = host.Notation
host_of (of_fun ds w f a c t) = host.Fun

-- nothing stands behind the name of a syntax
abbrev pub fresh : spec.Host → Hints → Bool
fresh (of_syntax ds w x []) no_hints = true
fresh h hs = false

abbrev pub case_at : Members → List terminals.Terminal → CaseAt
case_at no_members [] = case.Start
case_at no_members (b ∷ ls) = case.Led
case_at (member ms q t hs) (b ∷ []) = case.Barred
case_at (member ms q t hs) ls = case.Nowhere

abbrev pub is_first : Trees → List terminals.Terminal → Bool
is_first none [] = true
is_first ts pre = false

abbrev pub has_no_member : Members → Bool
has_no_member no_members = true
has_no_member (member ms q t hs) = false

abbrev pub slot_of : spec.Slot → Slot
slot_of (field_slot h o ms pre) = slot.Field
slot_of (case_slot h ms pre) = slot.Case (case_at ms pre)
slot_of (var_slot ds w x c) = slot.Var
slot_of (notation_slot ds w r hs c) = slot.Notation
slot_of (fun_slot ds w f a c) = slot.Fun
slot_of (arg_slot ds w f o ts pre) = slot.Argument (is_first ts pre) (reads_types ts)
slot_of (rule_slot r) = slot.Rule
slot_of (cond_slot r t ps d os ls) = slot.Condition
slot_of (count_slot r t ps d os ls u i l) = slot.Count

abbrev pub slot_open : spec.Slot → List Bracket
slot_open (cond_slot r t ps d os ls) = rounds (length os)
slot_open (count_slot r t ps d os ls u i l) = rounds (length os - closings i)
slot_open s = []

abbrev pub marks_of : Iterations → IterationState
marks_of no_iterations = iterations.None
marks_of (closed i l) = iterations.Wanted
marks_of (marked i l) = iterations.Complete
marks_of (counted i l t) = iterations.Complete

abbrev pub position_of : spec.Position → Position
position_of (between ds) = position.Between
position_of (syntax_name ds w) = position.SyntaxName
position_of (var_name ds w) = position.VarName
position_of (var_colon ds w x) = position.VarColon
position_of (relation_name ds w) = position.RelationName
position_of (rule_name ds w) = position.RuleName
position_of (rule_colon ds w r) = position.RuleColon
position_of (fun_name ds w) = position.FunName
position_of (fun_named ds w f) = position.FunNamed
position_of (argued ds w f o ts) = position.Argued (reads_types ts)
position_of (args_closed ds w f o ts c) = position.ArgumentsClosed (reads_types ts)
position_of (syntax_id ds w x ls d) = position.SyntaxId d
position_of (rule_id ds w r ls d) = position.RuleId d
position_of (hinted h hs) = position.Hinted (host_of h) (fresh h hs)
position_of (hint_open h hs w) = position.HintOpen (host_of h)
position_of (hint_name h hs w o) = position.HintName (host_of h)
position_of (hint_words h hs w o n ws ks) = position.HintWords (host_of h)
position_of (entering s) = position.Entering (slot_of s)
position_of (dotted h d) = position.Dotted
position_of (field_name h o ms pre) = position.FieldName (has_no_member ms)
position_of (premised r t ps) = position.Premised
position_of (premise_open r t ps d os) = position.PremiseOpen
position_of (goal_colon r t ps d os n) = position.GoalColon
position_of (iterated r t ps d os ls u i) = position.Iterated (marks_of i)

abbrev pub open_of : spec.Position → List Bracket
open_of (hint_words h hs w o n ws ks) = ks
open_of (premise_open r t ps d os) = rounds (length os)
open_of (goal_colon r t ps d os n) = rounds (length os)
open_of (iterated r t ps d os ls u i) = rounds (length os - closings i)
open_of (entering s) = slot_open s
open_of p = []

abbrev pub definitions_of : spec.State → definitions.State
definitions_of (spec.at p) = at (position_of p) (open_of p)
definitions_of (spec.inside s st) = inside (slot_of s) (view.state_of st) (slot_open s)

-- ---- tests

pub or_no : (b : Bool) → b || false ≡ b
or_no true = refl
or_no false = refl

pub signed_is : (p : Mark → Bool) (l : terminals.Terminal) → definitions.signed p (class_of l) ≡ def.signed p l
signed_is p (leaf k x) = refl
signed_is p (dot x) = refl
signed_is p (sign m x) = refl
signed_is p (opening b x) = refl
signed_is p (closing c x) = refl
signed_is p (other x) = refl

pub low_is : (l : terminals.Terminal) → definitions.is_low (class_of l) ≡ def.is_low l
low_is (leaf leaves.Low x) = refl
low_is (leaf leaves.Basic x) = refl
low_is (leaf leaves.Variable x) = refl
low_is (leaf leaves.Atom x) = refl
low_is (leaf leaves.Number x) = refl
low_is (leaf leaves.Literal x) = refl
low_is (leaf leaves.Function x) = refl
low_is (dot x) = refl
low_is (sign m x) = refl
low_is (opening b x) = refl
low_is (closing c x) = refl
low_is (other x) = refl

pub fun_is : (l : terminals.Terminal) → definitions.is_fun (class_of l) ≡ def.is_fun l
fun_is (leaf leaves.Low x) = refl
fun_is (leaf leaves.Basic x) = refl
fun_is (leaf leaves.Variable x) = refl
fun_is (leaf leaves.Atom x) = refl
fun_is (leaf leaves.Number x) = refl
fun_is (leaf leaves.Literal x) = refl
fun_is (leaf leaves.Function x) = refl
fun_is (dot x) = refl
fun_is (sign m x) = refl
fun_is (opening b x) = refl
fun_is (closing c x) = refl
fun_is (other x) = refl

pub label_is : (l : terminals.Terminal) → definitions.is_label (class_of l) ≡ grammar.is_label l
label_is l = simulation.is_label_is l

pub relation_is : (l : terminals.Terminal) → definitions.names_relation (class_of l) ≡ def.names_relation l
relation_is (leaf k x) = label_is (leaf k x)
relation_is (dot x) = refl
relation_is (sign m x) = refl
relation_is (opening b x) = refl
relation_is (closing c x) = refl
relation_is (other x) = or_no (is_mix_kind x.kind)

pub name_is : (l : terminals.Terminal) → definitions.is_name (class_of l) ≡ def.is_name l
name_is l = ap (λ b. b || definitions.names_relation (class_of l)) (low_is l) ∙ ap (λ b. def.is_low l || b) (relation_is l)

pub var_is : (l : terminals.Terminal) → (definitions.is_low (class_of l) || definitions.is_label (class_of l)) ≡ (def.is_low l || grammar.is_label l)
var_is l = ap (λ b. b || definitions.is_label (class_of l)) (low_is l) ∙ ap (λ b. def.is_low l || b) (label_is l)

pub bar_is : (l : terminals.Terminal) → definitions.is_bar (class_of l) ≡ def.is_bar l
bar_is (leaf k x) = refl
bar_is (dot x) = refl
bar_is (sign m x) = refl
bar_is (opening b x) = refl
bar_is (closing closings_of.ByRound x) = refl
bar_is (closing closings_of.BySquare x) = refl
bar_is (closing closings_of.ByBrace x) = refl
bar_is (closing closings_of.ByBar x) = refl
bar_is (other x) = refl

pub close_is : (l : terminals.Terminal) → definitions.closes_round (class_of l) ≡ def.closes_round l
close_is (leaf k x) = refl
close_is (dot x) = refl
close_is (sign m x) = refl
close_is (opening b x) = refl
close_is (closing closings_of.ByRound x) = refl
close_is (closing closings_of.BySquare x) = refl
close_is (closing closings_of.ByBrace x) = refl
close_is (closing closings_of.ByBar x) = refl
close_is (other x) = refl

pub close_brace_is : (l : terminals.Terminal) → definitions.closes_brace (class_of l) ≡ def.closes_brace l
close_brace_is (leaf k x) = refl
close_brace_is (dot x) = refl
close_brace_is (sign m x) = refl
close_brace_is (opening b x) = refl
close_brace_is (closing closings_of.ByRound x) = refl
close_brace_is (closing closings_of.BySquare x) = refl
close_brace_is (closing closings_of.ByBrace x) = refl
close_brace_is (closing closings_of.ByBar x) = refl
close_brace_is (other x) = refl

pub open_is : (l : terminals.Terminal) → definitions.opens_round (class_of l) ≡ def.opens_round l
open_is (leaf k x) = refl
open_is (dot x) = refl
open_is (sign m x) = refl
open_is (opening bracket.Round x) = refl
open_is (opening bracket.Square x) = refl
open_is (opening bracket.Brace x) = refl
open_is (opening bracket.TickRound x) = refl
open_is (opening bracket.TickSquare x) = refl
open_is (opening bracket.TickBrace x) = refl
open_is (opening bracket.Dollar x) = refl
open_is (closing c x) = refl
open_is (other x) = refl

pub open_brace_is : (l : terminals.Terminal) → definitions.opens_brace (class_of l) ≡ def.opens_brace l
open_brace_is (leaf k x) = refl
open_brace_is (dot x) = refl
open_brace_is (sign m x) = refl
open_brace_is (opening bracket.Round x) = refl
open_brace_is (opening bracket.Square x) = refl
open_brace_is (opening bracket.Brace x) = refl
open_brace_is (opening bracket.TickRound x) = refl
open_brace_is (opening bracket.TickSquare x) = refl
open_brace_is (opening bracket.TickBrace x) = refl
open_brace_is (opening bracket.Dollar x) = refl
open_brace_is (closing c x) = refl
open_brace_is (other x) = refl

pub id_is : (d : Bool) (l : terminals.Terminal) → definitions.id_step d (class_of l) ≡ def.id_step d l
id_is true l = refl
id_is false l = ap (λ b. if touches l && b then Some true else if touches l && def.is_dot l then Some false else None) (signed_is is_minus l)

pub balance_is : (ks : List Bracket) (l : terminals.Terminal) → definitions.balance ks (shape l) ≡ def.balance_step ks l
balance_is ks (leaf k x) = refl
balance_is ks (dot x) = refl
balance_is ks (sign m x) = refl
balance_is ks (opening b x) = refl
balance_is [] (closing closings_of.ByRound x) = refl
balance_is [] (closing closings_of.BySquare x) = refl
balance_is [] (closing closings_of.ByBrace x) = refl
balance_is [] (closing closings_of.ByBar x) = refl
balance_is (k ∷ ks) (closing closings_of.ByRound x) = refl
balance_is (k ∷ ks) (closing closings_of.BySquare x) = refl
balance_is (k ∷ ks) (closing closings_of.ByBrace x) = refl
balance_is (k ∷ ks) (closing closings_of.ByBar x) = refl
balance_is ks (other x) = refl

pub slot_sort_is : (s : spec.Slot) → definitions.slot_sort (slot_of s) ≡ spec.slot_sort s
slot_sort_is (field_slot h o ms pre) = refl
slot_sort_is (case_slot h ms pre) = refl
slot_sort_is (var_slot ds w x c) = refl
slot_sort_is (notation_slot ds w r hs c) = refl
slot_sort_is (fun_slot ds w f a c) = refl
slot_sort_is (arg_slot ds w f o ts pre) = refl
slot_sort_is (rule_slot r) = refl
slot_sort_is (cond_slot r t ps d os ls) = refl
slot_sort_is (count_slot r t ps d os ls u i l) = refl

pub wants_is : (i : Iterations) → definitions.wants_iteration (marks_of i) ≡ def.wants_iteration i
wants_is no_iterations = refl
wants_is (closed i l) = refl
wants_is (marked i l) = refl
wants_is (counted i l t) = refl

pub closed_is : (i : Iterations) → definitions.has_closed (marks_of i) ≡ def.has_closed i
closed_is no_iterations = refl
closed_is (closed i l) = refl
closed_is (marked i l) = refl
closed_is (counted i l t) = refl

-- ---- brackets of a premise

pub empty_is : (n : ℕ) → definitions.is_empty (rounds n) ≡ (n == 0)
empty_is zero = refl
empty_is (suc n) = sym (differs (suc n) 0 (omega arith))
  where
    differs : (a b : ℕ) → b < a → a == b ≡ false
    differs a b h = grind arith

pub none_left : (c n : ℕ) → c ≤ n → definitions.is_empty (rounds (n - c)) ≡ (c == n)
none_left c n h = empty_is (n - c) ∙ go (c == n) refl
  where
    go : (b : Bool) → c == n ≡ b → (n - c == 0) ≡ b
    go true e = grind arith
    go false e = grind arith

pub tail_rounds : (n : ℕ) → definitions.tail (rounds n) ≡ rounds (n - 1)
tail_rounds zero = refl
tail_rounds (suc n) = ap rounds (omega arith)

pub length_more : (os : List terminals.Terminal) (l : terminals.Terminal) → length (os ++ l ∷ []) ≡ suc (length os)
length_more [] l = omega arith
length_more (o ∷ os) l = let e = length_more os l in omega (arith, e)
