-- The tokens that led to a position of a definition, and what holds of what they led to.
use Rattle.std.proofs.Common.{◌≡◌, ◌≤◌, List, [], ◌∷◌, ◌++◌, length, Bool, true, false, ◌||◌, Option, Some, None, append_assoc, append-nil, arith}
use Rattle.std.specs.List.{AllByRecursion}
use Rattle.st_grammar.specs.declared.sort.Style.TheVariants.{Parts as parts}
use Rattle.st_grammar.specs.declared.keyword.Keyword.TheVariants.{SyntaxWord as syntax_word, RelationWord as relation_word, RuleWord as rule_word, VarWord as var_word, DefWord as def_word, HintWord as hint_word, Dashes as dashes}
use Rattle.st_grammar.specs.declared.sort.Sort.TheVariants.{Expression as expression, Notation as notation, Typ as typ}
use Rattle.st_grammar.specs.Terminals.{Terminal}
use Rattle.st_grammar.specs.Levels.{is_caret, is_colon, is_comma}
use Rattle.st_grammar.specs.Trees.{Tree, none, more, text, texts}
use Rattle.st_grammar.specs.Grammar.{is_label, SetsOff, Fits, EachFits}
use Rattle.st_grammar.specs.Definitions.{keyword, touches, signed, is_slash, is_equal, is_dots, opens_round, opens_brace, is_low, is_fun, names_relation, is_name, scan, id_step, FragmentFits, balance_step, hints_text, HintsFit, Members, no_members, member, members_text, SetsOffField, SetsOffCase, FieldsFit, CasesFit, Iterations, iterations_text, closings, has_closed, IterationsFit, CondFits, OpensRound, Premises, premises_text, PremisesFit, args, args_text, ArgsFit, defs_text, DefsFit}
use Rattle.st_grammar.specs.Positions.{Head, syntax_head, Rule, rule_head, clause_head, Host, of_syntax, of_field, of_case, of_var, of_relation, of_notation, of_fun, Slot, field_slot, case_slot, var_slot, notation_slot, fun_slot, arg_slot, rule_slot, cond_slot, count_slot, slot_sort, Position, between, syntax_name, var_name, var_colon, relation_name, rule_name, rule_colon, fun_name, fun_named, argued, args_closed, syntax_id, rule_id, hinted, hint_open, hint_name, hint_words, entering, dotted, field_name, premised, premise_open, goal_colon, iterated, State, at, inside, filled}
use Rattle.st_grammar.proofs.Complete.{level_pos}
use Rattle.st_grammar.proofs.Sound as sound

-- ---- texts

abbrev pub head_text : Head → List Terminal
head_text (syntax_head ds w x ls hs e) = defs_text ds ++ (w ∷ x ∷ (ls ++ (hints_text hs ++ e ∷ [])))

abbrev pub rule_text : Rule → List Terminal
rule_text (rule_head ds w r ls c) = defs_text ds ++ (w ∷ r ∷ (ls ++ c ∷ []))
rule_text (clause_head ds w f a e) = defs_text ds ++ (w ∷ f ∷ (args_text a ++ e ∷ []))

-- a rule or clause up to these premises
abbrev pub ruled_text : Rule → Tree → Premises → List Terminal
ruled_text r t ps = rule_text r ++ (text t ++ premises_text ps)

abbrev pub host_text : Host → List Terminal
host_text (of_syntax ds w x ls) = defs_text ds ++ (w ∷ x ∷ ls)
host_text (of_field h o ms pre t) = head_text h ++ (o ∷ (members_text ms ++ (pre ++ text t)))
host_text (of_case h ms pre t) = head_text h ++ (members_text ms ++ (pre ++ text t))
host_text (of_var ds w x c t) = defs_text ds ++ (w ∷ x ∷ c ∷ text t)
host_text (of_relation ds w r) = defs_text ds ++ (w ∷ r ∷ [])
host_text (of_notation ds w r hs c t) = defs_text ds ++ (w ∷ r ∷ (hints_text hs ++ (c ∷ text t)))
host_text (of_fun ds w f a c t) = defs_text ds ++ (w ∷ f ∷ (args_text a ++ (c ∷ text t)))

abbrev pub slot_text : Slot → List Terminal
slot_text (field_slot h o ms pre) = head_text h ++ (o ∷ (members_text ms ++ pre))
slot_text (case_slot h ms pre) = head_text h ++ (members_text ms ++ pre)
slot_text (var_slot ds w x c) = defs_text ds ++ (w ∷ x ∷ c ∷ [])
slot_text (notation_slot ds w r hs c) = defs_text ds ++ (w ∷ r ∷ (hints_text hs ++ c ∷ []))
slot_text (fun_slot ds w f a c) = defs_text ds ++ (w ∷ f ∷ (args_text a ++ c ∷ []))
slot_text (arg_slot ds w f o ts pre) = defs_text ds ++ (w ∷ f ∷ o ∷ (texts ts ++ pre))
slot_text (rule_slot r) = rule_text r
slot_text (cond_slot r t ps d os ls) = ruled_text r t ps ++ (d ∷ (os ++ ls))
slot_text (count_slot r t ps d os ls u i l) = ruled_text r t ps ++ (d ∷ (os ++ (ls ++ (text u ++ (iterations_text i ++ l ∷ [])))))

abbrev pub position_text : Position → List Terminal
position_text (between ds) = defs_text ds
position_text (syntax_name ds w) = defs_text ds ++ w ∷ []
position_text (var_name ds w) = defs_text ds ++ w ∷ []
position_text (var_colon ds w x) = defs_text ds ++ w ∷ x ∷ []
position_text (relation_name ds w) = defs_text ds ++ w ∷ []
position_text (rule_name ds w) = defs_text ds ++ w ∷ []
position_text (rule_colon ds w r) = defs_text ds ++ w ∷ r ∷ []
position_text (fun_name ds w) = defs_text ds ++ w ∷ []
position_text (fun_named ds w f) = defs_text ds ++ w ∷ f ∷ []
position_text (argued ds w f o ts) = defs_text ds ++ (w ∷ f ∷ o ∷ texts ts)
position_text (args_closed ds w f o ts c) = defs_text ds ++ (w ∷ f ∷ o ∷ (texts ts ++ c ∷ []))
position_text (syntax_id ds w x ls d) = defs_text ds ++ (w ∷ x ∷ ls)
position_text (rule_id ds w r ls d) = defs_text ds ++ (w ∷ r ∷ ls)
position_text (hinted h hs) = host_text h ++ hints_text hs
position_text (hint_open h hs w) = host_text h ++ (hints_text hs ++ w ∷ [])
position_text (hint_name h hs w o) = host_text h ++ (hints_text hs ++ w ∷ o ∷ [])
position_text (hint_words h hs w o n ws cs) = host_text h ++ (hints_text hs ++ (w ∷ o ∷ n ∷ ws))
position_text (entering s) = slot_text s
position_text (dotted h d) = head_text h ++ d ∷ []
position_text (field_name h o ms pre) = head_text h ++ (o ∷ (members_text ms ++ pre))
position_text (premised r t ps) = ruled_text r t ps
position_text (premise_open r t ps d os) = ruled_text r t ps ++ (d ∷ os)
position_text (goal_colon r t ps d os n) = ruled_text r t ps ++ (d ∷ (os ++ n ∷ []))
position_text (iterated r t ps d os ls u i) = ruled_text r t ps ++ (d ∷ (os ++ (ls ++ (text u ++ iterations_text i))))

abbrev pub seen : State → List Terminal
seen (at p) = position_text p
seen (inside s st) = slot_text s ++ sound.seen st

-- ---- what holds

abbrev pub HeadFits : Head → Type 0
HeadFits (syntax_head ds w x ls hs e) =
    DefsFit ds × (keyword w ≡ syntax_word) × (is_low x ≡ true) × FragmentFits ls × HintsFit hs × (signed is_equal e ≡ true)

abbrev pub RuleFits : Rule → Type 0
RuleFits (rule_head ds w r ls c) =
    DefsFit ds × (keyword w ≡ rule_word) × (names_relation r ≡ true) × FragmentFits ls × (signed is_colon c ≡ true)
RuleFits (clause_head ds w f a e) =
    DefsFit ds × (keyword w ≡ def_word) × (is_fun f ≡ true) × ArgsFit (expression false) a × (signed is_equal e ≡ true)

abbrev pub HostFits : Host → Type 0
HostFits (of_syntax ds w x ls) = DefsFit ds × (keyword w ≡ syntax_word) × (is_low x ≡ true) × FragmentFits ls
HostFits (of_field h o ms pre t) = HeadFits h × (opens_brace o ≡ true) × FieldsFit ms × SetsOffField ms pre × Fits typ t
HostFits (of_case h ms pre t) = HeadFits h × CasesFit ms × SetsOffCase ms pre × Fits notation t
HostFits (of_var ds w x c t) =
    DefsFit ds × (keyword w ≡ var_word) × (is_low x || is_label x ≡ true) × (signed is_colon c ≡ true) × Fits typ t
HostFits (of_relation ds w r) = DefsFit ds × (keyword w ≡ relation_word) × (names_relation r ≡ true)
HostFits (of_notation ds w r hs c t) =
    DefsFit ds × (keyword w ≡ relation_word) × (names_relation r ≡ true) × HintsFit hs × (signed is_colon c ≡ true) × Fits notation t
HostFits (of_fun ds w f a c t) =
    DefsFit ds × (keyword w ≡ def_word) × (is_fun f ≡ true) × ArgsFit typ a × (signed is_colon c ≡ true) × Fits typ t

-- a rule or clause and premises before one that has begun so
abbrev pub CondHolds : Rule → Tree → Premises → Terminal → List Terminal → Type 0
CondHolds r t ps d os = RuleFits r × Fits (expression false) t × PremisesFit ps × (keyword d ≡ dashes) × AllByRecursion OpensRound os

-- and a condition with iterations
pub record Iterated (r : Rule) (t : Tree) (ps : Premises) (d : Terminal) (os ls : List Terminal) (u : Tree) (i : Iterations) : Type 0 where
  pub cond : CondHolds r t ps d os
  pub begins : CondFits ls
  pub fits : Fits (expression false) u
  pub iterations : IterationsFit i
  pub enough : closings i ≤ length os

abbrev pub SlotFits : Slot → Type 0
SlotFits (field_slot h o ms pre) = HeadFits h × (opens_brace o ≡ true) × FieldsFit ms × SetsOffField ms pre
SlotFits (case_slot h ms pre) = HeadFits h × CasesFit ms × SetsOffCase ms pre
SlotFits (var_slot ds w x c) = DefsFit ds × (keyword w ≡ var_word) × (is_low x || is_label x ≡ true) × (signed is_colon c ≡ true)
SlotFits (notation_slot ds w r hs c) =
    DefsFit ds × (keyword w ≡ relation_word) × (names_relation r ≡ true) × HintsFit hs × (signed is_colon c ≡ true)
SlotFits (fun_slot ds w f a c) = DefsFit ds × (keyword w ≡ def_word) × (is_fun f ≡ true) × ArgsFit typ a × (signed is_colon c ≡ true)
SlotFits (arg_slot ds w f o ts pre) =
    DefsFit ds × (keyword w ≡ def_word) × (is_fun f ≡ true) × (opens_round o ≡ true) × (touches o ≡ true)
    × EachFits (expression false) parts 1 ts × SetsOff parts ts pre
SlotFits (rule_slot r) = RuleFits r
SlotFits (cond_slot r t ps d os ls) = CondHolds r t ps d os × CondFits ls
SlotFits (count_slot r t ps d os ls u i l) = Iterated r t ps d os ls u i × (has_closed i ≡ true) × (signed is_caret l ≡ true)

-- a name that is being read, as far as it is
abbrev pub InId : List Terminal → Bool → Type 0
InId [] d = ⊥
InId (s ∷ ls) d = (signed is_slash s ≡ true) × (scan id_step true ls ≡ Some d)

-- what stands before the name of a field
abbrev pub BeforeField : Members → List Terminal → Type 0
BeforeField no_members [] = Unit {0}
BeforeField (member ms q t hs) (k ∷ []) = signed is_comma k ≡ true
BeforeField ms pre = ⊥

abbrev pub PositionHolds : Position → Type 0
PositionHolds (between ds) = DefsFit ds
PositionHolds (syntax_name ds w) = DefsFit ds × (keyword w ≡ syntax_word)
PositionHolds (var_name ds w) = DefsFit ds × (keyword w ≡ var_word)
PositionHolds (var_colon ds w x) = DefsFit ds × (keyword w ≡ var_word) × (is_low x || is_label x ≡ true)
PositionHolds (relation_name ds w) = DefsFit ds × (keyword w ≡ relation_word)
PositionHolds (rule_name ds w) = DefsFit ds × (keyword w ≡ rule_word)
PositionHolds (rule_colon ds w r) = DefsFit ds × (keyword w ≡ rule_word) × (names_relation r ≡ true)
PositionHolds (fun_name ds w) = DefsFit ds × (keyword w ≡ def_word)
PositionHolds (fun_named ds w f) = DefsFit ds × (keyword w ≡ def_word) × (is_fun f ≡ true)
PositionHolds (argued ds w f o none) = ⊥
PositionHolds (argued ds w f o (more ts pre t)) =
    DefsFit ds × (keyword w ≡ def_word) × (is_fun f ≡ true) × (opens_round o ≡ true) × (touches o ≡ true)
    × EachFits (expression false) parts 1 (more ts pre t)
PositionHolds (args_closed ds w f o ts c) = DefsFit ds × (keyword w ≡ def_word) × (is_fun f ≡ true) × ArgsFit (expression false) (args o ts c)
PositionHolds (syntax_id ds w x ls d) = DefsFit ds × (keyword w ≡ syntax_word) × (is_low x ≡ true) × InId ls d
PositionHolds (rule_id ds w r ls d) = DefsFit ds × (keyword w ≡ rule_word) × (names_relation r ≡ true) × InId ls d
PositionHolds (hinted h hs) = HostFits h × HintsFit hs
PositionHolds (hint_open h hs w) = HostFits h × HintsFit hs × (keyword w ≡ hint_word)
PositionHolds (hint_name h hs w o) = HostFits h × HintsFit hs × (keyword w ≡ hint_word) × (opens_round o ≡ true)
PositionHolds (hint_words h hs w o n ws cs) =
    HostFits h × HintsFit hs × (keyword w ≡ hint_word) × (opens_round o ≡ true) × (is_name n ≡ true) × (scan balance_step [] ws ≡ Some cs)
PositionHolds (entering s) = SlotFits s
PositionHolds (dotted h d) = HeadFits h × (signed is_dots d ≡ true)
PositionHolds (field_name h o ms pre) = HeadFits h × (opens_brace o ≡ true) × FieldsFit ms × BeforeField ms pre
PositionHolds (premised r t ps) = RuleFits r × Fits (expression false) t × PremisesFit ps
PositionHolds (premise_open r t ps d os) = CondHolds r t ps d os
PositionHolds (goal_colon r t ps d os n) = CondHolds r t ps d os × (names_relation n ≡ true)
PositionHolds (iterated r t ps d os ls u i) = Iterated r t ps d os ls u i

abbrev pub Holds : State → Type 0
Holds (at p) = PositionHolds p
Holds (inside s st) = SlotFits s × sound.Holds st × (sound.state_base st ≡ slot_sort s)

pub record Reached (us : List Terminal) (st : State) : Type 0 where
  pub holds : Holds st
  pub spelled : seen st ≡ us

abbrev pub ReachedBy : List Terminal → Option State → Type 0
ReachedBy us None = Unit {0}
ReachedBy us (Some st) = Reached us st

-- ---- parts that are read

pub filled_holds : (s : Slot) (t : Tree) → SlotFits s → Fits (slot_sort s) t → PositionHolds (filled s t)
filled_holds (field_slot h o ms pre) t f g = ((f.0, f.1, f.2, f.3, g), tt)
filled_holds (case_slot h ms pre) t f g = ((f.0, f.1, f.2, g), tt)
filled_holds (var_slot ds w x c) t f g = ((f.0, f.1, f.2, f.3, g), tt)
filled_holds (notation_slot ds w r hs c) t f g = ((f.0, f.1, f.2, f.3, f.4, g), tt)
filled_holds (fun_slot ds w k a c) t f g = ((f.0, f.1, f.2, f.3, f.4, g), tt)
filled_holds (arg_slot ds w k o ts pre) t f g = (f.0, f.1, f.2, f.3, f.4, (f.5, f.6, g, level_pos (expression false) t g, tt))
filled_holds (rule_slot r) t f g = (f, g, tt)
filled_holds (cond_slot r t ps d os ls) u f g = record { cond = f.0; begins = f.1; fits = g; iterations = tt; enough = omega arith }
filled_holds (count_slot r t ps d os ls u i l) c f g = record {
  cond = f.0.cond;
  begins = f.0.begins;
  fits = f.0.fits;
  iterations = (f.0.iterations, f.1, f.2, g);
  enough = f.0.enough;
}

pub filled_text : (s : Slot) (t : Tree) → position_text (filled s t) ≡ slot_text s ++ text t
filled_text (field_slot h o ms pre) t = simp (append_assoc, append-nil)
filled_text (case_slot h ms pre) t = simp (append_assoc, append-nil)
filled_text (var_slot ds w x c) t = simp (append_assoc, append-nil)
filled_text (notation_slot ds w r hs c) t = simp (append_assoc, append-nil)
filled_text (fun_slot ds w k a c) t = simp (append_assoc, append-nil)
filled_text (arg_slot ds w k o ts pre) t = simp (append_assoc, append-nil)
filled_text (rule_slot r) t = simp (append_assoc, append-nil)
filled_text (cond_slot r t ps d os ls) u = simp (append_assoc, append-nil)
filled_text (count_slot r t ps d os ls u i l) c = simp (append_assoc, append-nil)
