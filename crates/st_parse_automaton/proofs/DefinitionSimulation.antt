-- The definition automaton takes each step of the reading.
use Rattle.std.proofs.Common.{◌≡◌, ℕ, suc, ◌-◌, ◌≤◌, List, [], ◌∷◌, ◌++◌, length, Bool, true, false, not, ◌&&◌, ◌==◌, Option, Some, None, option_and_then, option_map, if◌then◌else◌, refl, sym, ap, subst, ◌∙◌, arith}
use Rattle.st_grammar.specs.declared.sort.Bracket.{Bracket}
use Rattle.st_grammar.specs.declared.sort.Bracket.TheVariants as bracket
use Rattle.st_grammar.specs.declared.keyword.Keyword.{Keyword}
use Rattle.st_grammar.specs.declared.keyword.Keyword.TheVariants as key
use Rattle.st_grammar.specs.Terminals as terminals
use Rattle.st_grammar.specs.Terminals.{leaf, dot, sign, opening, closing, other}
use Rattle.st_grammar.specs.Levels.{is_iteration_sign, is_caret, is_comma, is_colon}
use Rattle.st_grammar.specs.Trees.{Tree, none, more}
use Rattle.st_grammar.specs.Reading as part
use Rattle.st_grammar.specs.Definitions as def
use Rattle.st_grammar.specs.Definitions.{keyword, touches, is_slash, is_minus, is_equal, is_dots, is_mix_kind, Hints, no_hints, more_hints, Members, no_members, member, Iterations, no_iterations, closed, marked, counted, closings, Premises, more_premises, given}
use Rattle.st_grammar.specs.Positions as spec
use Rattle.st_grammar.specs.Positions.{Head, Rule, of_syntax, of_field, of_case, of_var, of_relation, of_notation, of_fun, field_slot, case_slot, var_slot, notation_slot, fun_slot, arg_slot, rule_slot, cond_slot, count_slot, between, syntax_name, var_name, var_colon, relation_name, rule_name, rule_colon, fun_name, fun_named, argued, args_closed, syntax_id, rule_id, hinted, hint_open, hint_name, hint_words, entering, dotted, field_name, premised, premise_open, goal_colon, iterated, reads_types}
use Rattle.st_parse_automaton.specs.declared.position.Host.TheVariants as host
use Rattle.st_parse_automaton.specs.declared.position.CaseAt.TheVariants as case
use Rattle.st_parse_automaton.specs.declared.position.Slot.TheVariants as slot
use Rattle.st_parse_automaton.specs.declared.position.IterationState.TheVariants as iterations
use Rattle.st_parse_automaton.specs.declared.position.Position.TheVariants as position
use Rattle.st_parse_automaton.specs.declared.position.Advance.{Advance}
use Rattle.st_parse_automaton.specs.declared.position.Advance.TheVariants as advance_case
use Rattle.st_grammar.specs.declared.action.Action.{Action}
use Rattle.st_grammar.specs.inner.Emission as emission
use Rattle.st_num.specs.declared.token.Token.{Token}
use Rattle.st_parse_automaton.specs.inner.Shapes.{shape, class_of}
use Rattle.st_parse_automaton.specs.inner.PartAutomaton as parts
use Rattle.st_parse_automaton.specs.inner.DefinitionAutomaton as definitions
use Rattle.st_parse_automaton.specs.inner.DefinitionAutomaton.{at, inside}
use Rattle.st_parse_automaton.proofs.View.{part_of, part_reads}
use Rattle.st_parse_automaton.proofs.View as view
use Rattle.st_parse_automaton.proofs.Simulation as simulation
use Rattle.st_grammar.proofs.Sound as sound
use Rattle.st_grammar.proofs.PositionTexts as texts
use Rattle.st_grammar.proofs.PositionReading.{filled_reached}
use Rattle.st_parse_automaton.proofs.DefinitionView.{rounds, host_of, fresh, case_at, has_no_member, slot_of, slot_open, marks_of, position_of, open_of, definitions_of, signed_is, low_is, fun_is, label_is, relation_is, name_is, var_is, bar_is, close_is, close_brace_is, open_is, open_brace_is, id_is, balance_is, slot_sort_is, wants_is, closed_is, none_left, tail_rounds, length_more}

-- ---- choices

pub same_if : (b c : Bool) (y : definitions.State) (x : spec.State) (o : Option definitions.State) (q : Option spec.State) → b ≡ c → y ≡ definitions_of x → o ≡ option_map definitions_of q
    → (if b then Some y else o) ≡ option_map definitions_of (if c then Some x else q)
same_if b true y x o q e f g = ap (λ d. if d then Some y else o) e ∙ ap (λ z. Some z) f
same_if b false y x o q e f g = ap (λ d. if d then Some y else o) e ∙ g

pub same_when : (b c : Bool) (y : definitions.State) (x : spec.State) → b ≡ c → y ≡ definitions_of x → definitions.when b y ≡ option_map definitions_of (spec.when c x)
same_when b c y x e f = same_if b c y x None None e f refl

pub both_if : (b c : Bool) (o r : Option definitions.State) (q s : Option spec.State) → b ≡ c → o ≡ option_map definitions_of q → r ≡ option_map definitions_of s
    → (if b then o else r) ≡ option_map definitions_of (if c then q else s)
both_if b true o r q s e f g = ap (λ d. if d then o else r) e ∙ f
both_if b false o r q s e f g = ap (λ d. if d then o else r) e ∙ g

pub both_and : (a b c d : Bool) → a ≡ b → c ≡ d → (a && c) ≡ (b && d)
both_and a b c d e f = ap (λ v. v && c) e ∙ ap (λ v. b && v) f

-- ---- positions

pub begin_def_is : (ds : def.Defs) (l : terminals.Terminal) (k : Keyword) → definitions.begin_def k [] ≡ option_map definitions_of (spec.begin_def ds l k)
begin_def_is ds l key.SyntaxWord = refl
begin_def_is ds l key.RelationWord = refl
begin_def_is ds l key.RuleWord = refl
begin_def_is ds l key.VarWord = refl
begin_def_is ds l key.DefWord = refl
begin_def_is ds l key.HintWord = refl
begin_def_is ds l key.IfWord = refl
begin_def_is ds l key.OtherwiseWord = refl
begin_def_is ds l key.Dashes = refl
begin_def_is ds l key.NoWord = refl

pub colon_is : (ds : def.Defs) (w r : terminals.Terminal) (ls : List terminals.Terminal) (l : terminals.Terminal) → definitions.colon_step (class_of l) [] ≡ option_map definitions_of (spec.colon_step ds w r ls l)
colon_is ds w r ls l = same_when _ _ _ _ (signed_is is_colon l) refl

pub result_is : (ds : def.Defs) (w f : terminals.Terminal) (a : def.Args) (b : Bool) (l : terminals.Terminal) → definitions.result_step b (class_of l) [] ≡ option_map definitions_of (spec.result_step ds w f a b l)
result_is ds w f a b l =
    same_if _ _ (definitions.start_of slot.Fun []) (spec.begun (fun_slot ds w f a l)) (definitions.when (definitions.signed is_equal (class_of l)) (definitions.start_of slot.Rule [])) (spec.when (def.signed is_equal l) (spec.begun (rule_slot (spec.clause_head ds w f a l))))
    (ap (λ c. c && b) (signed_is is_colon l)) refl (same_when _ _ _ _ (signed_is is_equal l) refl)

pub host_step_is : (h : spec.Host) (hs : Hints) (l : terminals.Terminal) → definitions.host_step (host_of h) (fresh h hs) (class_of l) [] ≡ option_map definitions_of (spec.host_step h hs l)
host_step_is (of_syntax ds w x []) no_hints l =
    same_if _ _ (at (position.SyntaxId true) []) (spec.at (syntax_id ds w x (l ∷ []) true)) (definitions.when (definitions.signed is_equal (class_of l)) (at (position.Entering (slot.Case case.Start)) []))
    (spec.when (def.signed is_equal l) (spec.at (entering (case_slot (spec.syntax_head ds w x [] no_hints l) no_members []))))
    (signed_is is_slash l) refl (same_when _ _ _ _ (signed_is is_equal l) refl)
host_step_is (of_syntax ds w x []) (more_hints hs k) l = same_when _ _ _ _ (signed_is is_equal l) refl
host_step_is (of_syntax ds w x (s ∷ ls)) no_hints l = same_when _ _ _ _ (signed_is is_equal l) refl
host_step_is (of_syntax ds w x (s ∷ ls)) (more_hints hs k) l = same_when _ _ _ _ (signed_is is_equal l) refl
host_step_is (of_field h o ms pre t) hs l =
    same_if _ _ (at (position.FieldName false) []) (spec.at (field_name h o (member ms pre t hs) (l ∷ []))) (definitions.when (definitions.closes_brace (class_of l)) (at position.Between []))
    (spec.when (def.closes_brace l) (spec.at (between (spec.syntax_whole h (def.fields o (member ms pre t hs) l)))))
    (signed_is is_comma l) refl (same_when _ _ _ _ (close_brace_is l) refl)
host_step_is (of_case h ms pre t) hs l = same_when _ _ _ _ (bar_is l) refl
host_step_is (of_var ds w x c t) hs l = refl
host_step_is (of_relation ds w r) hs l = same_when _ _ _ _ (signed_is is_colon l) refl
host_step_is (of_notation ds w r hs c t) ks l = refl
host_step_is (of_fun ds w f a c t) hs l = refl

pub hint_or_is : (k : Keyword) (h : spec.Host) (hs : Hints) (l : terminals.Terminal) → definitions.hint_or k (host_of h) (fresh h hs) (class_of l) [] ≡ option_map definitions_of (spec.hint_or k h hs l)
hint_or_is key.HintWord h hs l = refl
hint_or_is key.SyntaxWord h hs l = host_step_is h hs l
hint_or_is key.RelationWord h hs l = host_step_is h hs l
hint_or_is key.RuleWord h hs l = host_step_is h hs l
hint_or_is key.VarWord h hs l = host_step_is h hs l
hint_or_is key.DefWord h hs l = host_step_is h hs l
hint_or_is key.IfWord h hs l = host_step_is h hs l
hint_or_is key.OtherwiseWord h hs l = host_step_is h hs l
hint_or_is key.Dashes h hs l = host_step_is h hs l
hint_or_is key.NoWord h hs l = host_step_is h hs l

pub old_hints : (h : spec.Host) (hs : Hints) (k : def.Hint) → fresh h (more_hints hs k) ≡ false
old_hints (of_syntax ds w x []) hs k = refl
old_hints (of_syntax ds w x (s ∷ ls)) hs k = refl
old_hints (of_field h o ms pre t) hs k = refl
old_hints (of_case h ms pre t) hs k = refl
old_hints (of_var ds w x c t) hs k = refl
old_hints (of_relation ds w r) hs k = refl
old_hints (of_notation ds w r js c t) hs k = refl
old_hints (of_fun ds w f a c t) hs k = refl

pub hint_step_is : (h : spec.Host) (hs : Hints) (w o n : terminals.Terminal) (ws : List terminals.Terminal) (ks : List Bracket) (l : terminals.Terminal) (q : Option (List Bracket))
    → definitions.hint_step (host_of h) ks (class_of l) q ≡ option_map definitions_of (spec.hint_step h hs w o n ws ks l q)
hint_step_is h hs w o n ws ks l (Some js) = refl
hint_step_is h hs w o n ws [] l None =
    same_when _ _ (at (position.Hinted (host_of h) false) []) (spec.at (hinted h (more_hints hs (def.hint w o n ws l)))) (close_is l) (ap (λ b. at (position.Hinted (host_of h) b) []) (sym (old_hints h hs (def.hint w o n ws l))))
hint_step_is h hs w o n ws (k ∷ ks) l None = refl

pub id_goes_is : (q : Option Bool) (d : Bool) (f : Bool → definitions.State) (g : Bool → spec.State) (o : Option definitions.State) (r : Option spec.State) → ((e : Bool) → f e ≡ definitions_of (g e)) → o ≡ option_map definitions_of r
    → definitions.id_goes q d f o ≡ option_map definitions_of (spec.id_goes q d g r)
id_goes_is (Some e) d f g o r h k = ap (λ z. Some z) (h e)
id_goes_is None true f g o r h k = refl
id_goes_is None false f g o r h k = k

pub case_enters : (h : Head) (ms : Members) (pre : List terminals.Terminal) (l : terminals.Terminal) → definitions.enter_case (case_at ms pre) (class_of l) [] ≡ option_map definitions_of (spec.enter_case h ms pre l)
case_enters h no_members [] l =
    same_if _ _ (at (position.FieldName true) []) (spec.at (field_name h l no_members []))
    (if definitions.signed is_dots (class_of l) then Some (at position.Dotted []) else definitions.when (definitions.is_bar (class_of l)) (at (position.Entering (slot.Case case.Led)) []))
    (if def.signed is_dots l then Some (spec.at (dotted h l)) else spec.when (def.is_bar l) (spec.at (entering (case_slot h no_members (l ∷ [])))))
    (open_brace_is l) refl
    (same_if _ _ (at position.Dotted []) (spec.at (dotted h l)) (definitions.when (definitions.is_bar (class_of l)) (at (position.Entering (slot.Case case.Led)) [])) (spec.when (def.is_bar l) (spec.at (entering (case_slot h no_members (l ∷ [])))))
    (signed_is is_dots l) refl (same_when _ _ _ _ (bar_is l) refl))
case_enters h no_members (b ∷ ls) l = refl
case_enters h (member ms q t hs) [] l = refl
case_enters h (member ms q t hs) (b ∷ []) l = same_when _ _ _ _ (signed_is is_dots l) refl
case_enters h (member ms q t hs) (b ∷ c ∷ ls) l = refl

pub other_enters : (s : spec.Slot) (l : terminals.Terminal) → definitions.enter_other (slot_of s) (class_of l) (slot_open s) ≡ option_map definitions_of (spec.enter_other s l)
other_enters (field_slot h o ms pre) l = refl
other_enters (case_slot h ms pre) l = case_enters h ms pre l
other_enters (var_slot ds w x c) l = refl
other_enters (notation_slot ds w r hs c) l = refl
other_enters (fun_slot ds w f a c) l = refl
other_enters (arg_slot ds w f o none []) l = same_when _ _ _ _ (close_is l) refl
other_enters (arg_slot ds w f o none (c ∷ pre)) l = refl
other_enters (arg_slot ds w f o (more ts q t) pre) l = refl
other_enters (rule_slot r) l = refl
other_enters (cond_slot r t ps d os ls) l = refl
other_enters (count_slot r t ps d os ls u i k) l = refl

pub part_moves_are : (s : spec.Slot) (st : part.State) (l : terminals.Terminal) → sound.Holds st → sound.state_base st ≡ spec.slot_sort s
    → simulation.Agree (def.token_in l) (emission.emitted st l) (parts.step (definitions.slot_sort (slot_of s)) (view.state_of st) (shape l)) (part.step st l)
part_moves_are s st l h e =
    subst (λ σ. simulation.Agree (def.token_in l) (emission.emitted st l) (parts.step σ (view.state_of st) (shape l)) (part.step st l)) (sym (slot_sort_is s ∙ sym e)) (simulation.moves_are st l h)

pub part_step_is : (s : spec.Slot) (st : part.State) (l : terminals.Terminal) → sound.Holds st → sound.state_base st ≡ spec.slot_sort s
    → parts.next (definitions.slot_sort (slot_of s)) (view.state_of st) (shape l) ≡ option_map view.state_of (part.step st l)
part_step_is s st l h e = ap (λ σ. parts.next σ (view.state_of st) (shape l)) (slot_sort_is s ∙ sym e) ∙ simulation.step_is st l h

pub field_step_is : (h : Head) (o : terminals.Terminal) (ms : Members) (pre : List terminals.Terminal) (l : terminals.Terminal) → definitions.field_step (has_no_member ms) (class_of l) [] ≡ option_map definitions_of (spec.field_step h o ms pre l)
field_step_is h o no_members pre l =
    same_if _ _ (definitions.start_of slot.Field []) (spec.begun (field_slot h o no_members (pre ++ l ∷ []))) (definitions.when (definitions.closes_brace (class_of l)) (at position.Between [])) (spec.when (def.closes_brace l) (spec.at (between (spec.syntax_whole h (def.fields o no_members l)))))
    (label_is l) refl (same_when _ _ _ _ (close_brace_is l) refl)
field_step_is h o (member ms q t hs) pre l = same_when _ _ _ _ (label_is l) refl

pub premise_step_is : (r : Rule) (t : Tree) (ps : Premises) (d : terminals.Terminal) (os : List terminals.Terminal) (l : terminals.Terminal) → definitions.premise_step (class_of l) (rounds (length os)) ≡ option_map definitions_of (spec.premise_step r t ps d os l)
premise_step_is r t ps d os l =
    same_if _ _ (at position.PremiseOpen (bracket.Round ∷ rounds (length os))) (spec.at (premise_open r t ps d (os ++ l ∷ []))) (definitions.when (definitions.names_relation (class_of l)) (at position.GoalColon (rounds (length os)))) (spec.when (def.names_relation l) (spec.at (goal_colon r t ps d os l)))
    (open_is l) (ap (λ n. at position.PremiseOpen (rounds n)) (sym (length_more os l))) (same_when _ _ _ _ (relation_is l) refl)

pub premise_word_is : (k : Keyword) (r : Rule) (t : Tree) (ps : Premises) (d : terminals.Terminal) (os : List terminals.Terminal) (l : terminals.Terminal) → definitions.premise_word k (class_of l) (rounds (length os)) ≡ option_map definitions_of (spec.premise_word k r t ps d os l)
premise_word_is key.IfWord r t ps d os l = refl
premise_word_is key.OtherwiseWord r t ps d [] l = refl
premise_word_is key.OtherwiseWord r t ps d (o ∷ os) l =
    let n : length (o ∷ os) ≡ suc (length os) = omega arith in
    ap (λ k. definitions.premise_word key.OtherwiseWord (class_of l) (rounds k)) n
    ∙ ap (λ k. definitions.premise_step (class_of l) (rounds k)) (sym n)
    ∙ premise_step_is r t ps d (o ∷ os) l
premise_word_is key.SyntaxWord r t ps d os l = premise_step_is r t ps d os l
premise_word_is key.RelationWord r t ps d os l = premise_step_is r t ps d os l
premise_word_is key.RuleWord r t ps d os l = premise_step_is r t ps d os l
premise_word_is key.VarWord r t ps d os l = premise_step_is r t ps d os l
premise_word_is key.DefWord r t ps d os l = premise_step_is r t ps d os l
premise_word_is key.HintWord r t ps d os l = premise_step_is r t ps d os l
premise_word_is key.Dashes r t ps d os l = premise_step_is r t ps d os l
premise_word_is key.NoWord r t ps d os l = premise_step_is r t ps d os l

pub next_premise_is : (k : Keyword) (r : Rule) (t : Tree) (ps : Premises) (l : terminals.Terminal) → definitions.next_premise k [] ≡ option_map definitions_of (spec.next_premise k r t ps l)
next_premise_is key.Dashes r t ps l = refl
next_premise_is key.SyntaxWord r t ps l = refl
next_premise_is key.RelationWord r t ps l = refl
next_premise_is key.RuleWord r t ps l = refl
next_premise_is key.VarWord r t ps l = refl
next_premise_is key.DefWord r t ps l = refl
next_premise_is key.HintWord r t ps l = refl
next_premise_is key.IfWord r t ps l = refl
next_premise_is key.OtherwiseWord r t ps l = refl
next_premise_is key.NoWord r t ps l = refl

pub is_same : (a b : ℕ) → a == b ≡ true → a ≡ b
is_same a b e = grind arith

pub and_left : (b c : Bool) → b && c ≡ true → b ≡ true
and_left true c e = refl
and_left false c e = absurd (cc)

-- where all is closed, nothing is open
pub all_closed : (os : List terminals.Terminal) (i : Iterations) → spec.is_whole os i ≡ true → rounds (length os - closings i) ≡ []
all_closed os i e = let s = is_same (closings i) (length os) (and_left _ _ e) in ap rounds (zero_left (length os) (closings i) s)
  where
    zero_left : (n c : ℕ) → c ≡ n → n - c ≡ 0
    zero_left n c h = omega arith

pub whole_is : (os : List terminals.Terminal) (i : Iterations) → closings i ≤ length os → (definitions.is_empty (rounds (length os - closings i)) && not (definitions.wants_iteration (marks_of i))) ≡ spec.is_whole os i
whole_is os i h = both_and _ _ _ _ (none_left (closings i) (length os) h) (ap not (wants_is i))

pub iterate_is : (r : Rule) (t : Tree) (ps : Premises) (d : terminals.Terminal) (os ls : List terminals.Terminal) (u : Tree) (i : Iterations) (l : terminals.Terminal) → closings i ≤ length os
    → definitions.iterate (marks_of i) (class_of l) (rounds (length os - closings i)) ≡ option_map definitions_of (spec.iterate r t ps d os ls u i l)
iterate_is r t ps d os ls u i l h =
    same_if _ _ (at (position.Iterated iterations.Wanted) (definitions.tail ks)) (spec.at (iterated r t ps d os ls u (closed i l))) a b
    (both_and _ _ _ _ (close_is l) (both_and _ _ _ _ (ap not (none_left (closings i) (length os) h)) (ap not (wants_is i))))
    (ap (at (position.Iterated iterations.Wanted)) (tail_rounds (length os - closings i) ∙ ap rounds fewer))
    (same_if _ _ (at (position.Iterated iterations.Complete) ks) (spec.at (iterated r t ps d os ls u (marked i l))) c e
    (both_and _ _ _ _ (signed_is is_iteration_sign l) (closed_is i)) refl
    (same_if _ _ (definitions.start_of slot.Count ks) (spec.begun (count_slot r t ps d os ls u i l)) f g
    (both_and _ _ _ _ (signed_is is_caret l) (closed_is i)) refl
    (ap (λ v. if v then definitions.next_premise (keyword l) ks else None) (whole_is os i h) ∙ go (spec.is_whole os i) refl)))
  where
    ks : List Bracket
    ks = rounds (length os - closings i)

    fewer : length os - closings i - 1 ≡ length os - closings (closed i l)
    fewer = omega arith

    f : Option definitions.State
    f = if definitions.is_empty ks && not (definitions.wants_iteration (marks_of i)) then definitions.next_premise (keyword l) ks else None

    g : Option spec.State
    g = if spec.is_whole os i then spec.next_premise (keyword l) r t (more_premises ps (given d os ls u i)) l else None

    c : Option definitions.State
    c = if definitions.signed is_caret (class_of l) && definitions.has_closed (marks_of i) then Some (definitions.start_of slot.Count ks) else f

    e : Option spec.State
    e = if def.signed is_caret l && def.has_closed i then Some (spec.begun (count_slot r t ps d os ls u i l)) else g

    a : Option definitions.State
    a = if definitions.signed is_iteration_sign (class_of l) && definitions.has_closed (marks_of i) then Some (at (position.Iterated iterations.Complete) ks) else c

    b : Option spec.State
    b = if def.signed is_iteration_sign l && def.has_closed i then Some (spec.at (iterated r t ps d os ls u (marked i l))) else e

    go : (v : Bool) → spec.is_whole os i ≡ v → (if v then definitions.next_premise (keyword l) (rounds (length os - closings i)) else None) ≡ option_map definitions_of (if v then spec.next_premise (keyword l) r t (more_premises ps (given d os ls u i)) l else None)
    go true w = ap (definitions.next_premise (keyword l)) (all_closed os i w) ∙ next_premise_is (keyword l) r t (more_premises ps (given d os ls u i)) l
    go false w = refl

-- No part is due at the position.
abbrev pub IsPlain : spec.Position → Type 0
IsPlain (entering s) = ⊥
IsPlain p = Unit {0}

pub owns_is : (p : spec.Position) (l : terminals.Terminal) → texts.PositionHolds p → IsPlain p → definitions.own (position_of p) (class_of l) (open_of p) ≡ option_map definitions_of (spec.own p l)
owns_is (between ds) l h plain = refl
owns_is (syntax_name ds w) l h plain = same_when _ _ _ _ (low_is l) refl
owns_is (var_name ds w) l h plain = same_when _ _ _ _ (var_is l) refl
owns_is (var_colon ds w x) l h plain = same_when _ _ _ _ (signed_is is_colon l) refl
owns_is (relation_name ds w) l h plain = same_when _ _ _ _ (relation_is l) refl
owns_is (rule_name ds w) l h plain = same_when _ _ _ _ (relation_is l) refl
owns_is (rule_colon ds w r) l h plain =
    same_if _ _ (at (position.RuleId true) []) (spec.at (rule_id ds w r (l ∷ []) true)) (definitions.colon_step (class_of l) []) (spec.colon_step ds w r [] l) (signed_is is_slash l) refl (colon_is ds w r [] l)
owns_is (fun_name ds w) l h plain = same_when _ _ _ _ (fun_is l) refl
owns_is (fun_named ds w f) l h plain =
    same_if _ _ (at (position.Entering (slot.Argument true true)) []) (spec.at (entering (arg_slot ds w f l none []))) (definitions.result_step true (class_of l) []) (spec.result_step ds w f def.no_args true l)
    (ap (λ b. b && touches l) (open_is l)) refl (result_is ds w f def.no_args true l)
owns_is (argued ds w f o none) l h plain = absurd h
owns_is (argued ds w f o (more ts q t)) l h plain =
    same_if _ _ (definitions.start_of (slot.Argument false (reads_types (more ts q t))) []) (spec.begun (arg_slot ds w f o (more ts q t) (l ∷ []))) (definitions.when (definitions.closes_round (class_of l)) (at (position.ArgumentsClosed (reads_types (more ts q t))) []))
    (spec.when (def.closes_round l) (spec.at (args_closed ds w f o (more ts q t) l))) (signed_is is_comma l) refl (same_when _ _ _ _ (close_is l) refl)
owns_is (args_closed ds w f o ts c) l h plain = result_is ds w f (def.args o ts c) (reads_types ts) l
owns_is (syntax_id ds w x [] d) l h plain = absurd h.3
owns_is (syntax_id ds w x (s ∷ ls) d) l h plain =
    ap (λ q. definitions.id_goes q d (λ e. at (position.SyntaxId e) []) (definitions.hint_or (keyword l) host.Syntax false (class_of l) [])) (id_is d l)
    ∙ id_goes_is (def.id_step d l) d (λ e. at (position.SyntaxId e) []) (λ e. spec.at (syntax_id ds w x ((s ∷ ls) ++ l ∷ []) e)) _ _ (λ e. refl) (hint_or_is (keyword l) (of_syntax ds w x (s ∷ ls)) no_hints l)
owns_is (rule_id ds w r ls d) l h plain =
    ap (λ q. definitions.id_goes q d (λ e. at (position.RuleId e) []) (definitions.colon_step (class_of l) [])) (id_is d l)
    ∙ id_goes_is (def.id_step d l) d (λ e. at (position.RuleId e) []) (λ e. spec.at (rule_id ds w r (ls ++ l ∷ []) e)) _ _ (λ e. refl) (colon_is ds w r ls l)
owns_is (hinted k hs) l h plain = hint_or_is (keyword l) k hs l
owns_is (hint_open k hs w) l h plain = same_when _ _ _ _ (open_is l) refl
owns_is (hint_name k hs w o) l h plain = same_when _ _ _ _ (name_is l) refl
owns_is (hint_words k hs w o n ws ks) l h plain = ap (definitions.hint_step (host_of k) ks (class_of l)) (balance_is ks l) ∙ hint_step_is k hs w o n ws ks l (def.balance_step ks l)
owns_is (entering s) l h plain = absurd plain
owns_is (dotted k d) l h plain = same_when _ _ _ _ (bar_is l) refl
owns_is (field_name k o ms pre) l h plain = field_step_is k o ms pre l
owns_is (premised r t ps) l h plain = next_premise_is (keyword l) r t ps l
owns_is (premise_open r t ps d os) l h plain = premise_word_is (keyword l) r t ps d os l
owns_is (goal_colon r t ps d os n) l h plain = same_when _ _ _ _ (signed_is is_colon l) refl
owns_is (iterated r t ps d os ls u i) l h plain = iterate_is r t ps d os ls u i l h.enough

-- behind whole definitions a next one begins
pub turn_is : (p : spec.Position) (l : terminals.Terminal) → texts.PositionHolds p
    → (if definitions.whole (position_of p) (open_of p) then definitions.begin_def (keyword l) (open_of p) else None) ≡ option_map definitions_of (option_and_then (λ ds. spec.begin_def ds l (keyword l)) (spec.whole p))
turn_is (between ds) l h = begin_def_is ds l (keyword l)
turn_is (hinted (of_syntax ds w x ls) hs) l h = refl
turn_is (hinted (of_field k o ms pre t) hs) l h = refl
turn_is (hinted (of_case k ms pre t) hs) l h = begin_def_is (spec.syntax_whole k (def.cases (member ms pre t hs) [])) l (keyword l)
turn_is (hinted (of_var ds w x c t) hs) l h = begin_def_is (def.more_defs ds (def.var_def w x c t hs)) l (keyword l)
turn_is (hinted (of_relation ds w r) hs) l h = refl
turn_is (hinted (of_notation ds w r hs c t) ks) l h = begin_def_is (def.more_defs ds (def.relation_def w r hs c t ks)) l (keyword l)
turn_is (hinted (of_fun ds w f a c t) hs) l h = begin_def_is (def.more_defs ds (def.fun_def w f a c t hs)) l (keyword l)
turn_is (premised r t ps) l h = begin_def_is (spec.rule_whole r t ps) l (keyword l)
turn_is (iterated r t ps d os ls u i) l h = ap (λ b. if b then definitions.begin_def (keyword l) (rounds (length os - closings i)) else None) (whole_is os i h.enough) ∙ go (spec.is_whole os i) refl
  where
    go : (b : Bool) → spec.is_whole os i ≡ b → (if b then definitions.begin_def (keyword l) (rounds (length os - closings i)) else None)
        ≡ option_map definitions_of (option_and_then (λ ds. spec.begin_def ds l (keyword l)) (if b then Some (spec.rule_whole r t (more_premises ps (given d os ls u i))) else None))
    go true e = ap (definitions.begin_def (keyword l)) (all_closed os i e) ∙ begin_def_is (spec.rule_whole r t (more_premises ps (given d os ls u i))) l (keyword l)
    go false e = refl
turn_is (syntax_name ds w) l h = refl
turn_is (var_name ds w) l h = refl
turn_is (var_colon ds w x) l h = refl
turn_is (relation_name ds w) l h = refl
turn_is (rule_name ds w) l h = refl
turn_is (rule_colon ds w r) l h = refl
turn_is (fun_name ds w) l h = refl
turn_is (fun_named ds w f) l h = refl
turn_is (argued ds w f o ts) l h = refl
turn_is (args_closed ds w f o ts c) l h = refl
turn_is (syntax_id ds w x ls d) l h = refl
turn_is (rule_id ds w r ls d) l h = refl
turn_is (hint_open k hs w) l h = refl
turn_is (hint_name k hs w o) l h = refl
turn_is (hint_words k hs w o n ws ks) l h = refl
turn_is (entering s) l h = refl
turn_is (dotted k d) l h = refl
turn_is (field_name k o ms pre) l h = refl
turn_is (premise_open r t ps d os) l h = refl
turn_is (goal_colon r t ps d os n) l h = refl

pub position_is : (p : spec.Position) (l : terminals.Terminal) → texts.PositionHolds p → IsPlain p → definitions.position_step (position_of p) (class_of l) (open_of p) ≡ option_map definitions_of (spec.position_step p l)
position_is p l h n =
    ap (λ o. definitions.first_of_two o (if definitions.whole (position_of p) (open_of p) then definitions.begin_def (keyword l) (open_of p) else None)) (owns_is p l h n) ∙ go (spec.own p l)
  where
    go : (o : Option spec.State) → definitions.first_of_two (option_map definitions_of o) (if definitions.whole (position_of p) (open_of p) then definitions.begin_def (keyword l) (open_of p) else None)
        ≡ option_map definitions_of (spec.first_of_two o (option_and_then (λ ds. spec.begin_def ds l (keyword l)) (spec.whole p)))
    go (Some st) = refl
    go None = turn_is p l h

-- ---- parts

pub filled_is : (s : spec.Slot) (t : Tree) → definitions.filled (slot_of s) (part_of t) ≡ position_of (spec.filled s t)
filled_is (field_slot h o ms pre) t = refl
filled_is (case_slot h ms pre) t = refl
filled_is (var_slot ds w x c) t = refl
filled_is (notation_slot ds w r hs c) t = refl
filled_is (fun_slot ds w f a c) t = refl
filled_is (arg_slot ds w f o ts pre) t = ap (λ b. position.Argued (reads_types ts && b)) (part_reads t)
filled_is (rule_slot r) t = refl
filled_is (cond_slot r t ps d os ls) u = refl
filled_is (count_slot r t ps d os ls u i l) c = refl

pub filled_open : (s : spec.Slot) (t : Tree) → slot_open s ≡ open_of (spec.filled s t)
filled_open (field_slot h o ms pre) t = refl
filled_open (case_slot h ms pre) t = refl
filled_open (var_slot ds w x c) t = refl
filled_open (notation_slot ds w r hs c) t = refl
filled_open (fun_slot ds w f a c) t = refl
filled_open (arg_slot ds w f o ts pre) t = refl
filled_open (rule_slot r) t = refl
filled_open (cond_slot r t ps d os ls) u = ap rounds (omega arith)
filled_open (count_slot r t ps d os ls u i l) c = refl

pub filled_plain : (s : spec.Slot) (t : Tree) → IsPlain (spec.filled s t)
filled_plain (field_slot h o ms pre) t = tt
filled_plain (case_slot h ms pre) t = tt
filled_plain (var_slot ds w x c) t = tt
filled_plain (notation_slot ds w r hs c) t = tt
filled_plain (fun_slot ds w f a c) t = tt
filled_plain (arg_slot ds w f o ts pre) t = tt
filled_plain (rule_slot r) t = tt
filled_plain (cond_slot r t ps d os ls) u = tt
filled_plain (count_slot r t ps d os ls u i l) c = tt

-- ---- steps

-- where a token leads that may stand there
abbrev pub led : Option definitions.Taken → Option definitions.State
led o = option_map (λ (t : definitions.Taken). t.1) o

pub stands_leads : (a : Advance) (e : parts.Emits) (o : Option definitions.State) → led (definitions.stands a e o) ≡ o
stands_leads a e None = refl
stands_leads a e (Some next) = refl

-- a part takes the token, or else the token leads where that of the trees does
pub taken_leads : (x : Token) (acts : List Action) (s : spec.Slot) (o : Option parts.Move) (q : Option part.State) (r : Option definitions.Taken) (k : Option spec.State) → simulation.Agree x acts o q → led r ≡ option_map definitions_of k
    → led (definitions.taken (slot_of s) (slot_open s) o r) ≡ option_map definitions_of (spec.enter s q k)
taken_leads x acts s None None r k a e = e
taken_leads x acts s None (Some next) r k a e = absurd a
taken_leads x acts s (Some m) None r k a e = absurd a
taken_leads x acts s (Some m) (Some next) r k a e = ap (λ st. Some (inside (slot_of s) st (slot_open s))) a.0

pub enters_is : (s : spec.Slot) (l : terminals.Terminal) → definitions.step (at (position.Entering (slot_of s)) (slot_open s)) (class_of l) ≡ option_map definitions_of (spec.enter s (part.step (part.start (spec.slot_sort s)) l) (spec.enter_other s l))
enters_is s l =
    taken_leads (def.token_in l) _ s (parts.step (definitions.slot_sort (slot_of s)) (view.state_of (part.start (spec.slot_sort s))) (shape l)) (part.step (part.start (spec.slot_sort s)) l)
    (definitions.stands (advance_case.At (position.Entering (slot_of s))) parts.adds_nothing (definitions.position_step (position.Entering (slot_of s)) (class_of l) (slot_open s))) (spec.enter_other s l)
    (part_moves_are s (part.start (spec.slot_sort s)) l (tt, tt) refl)
    (stands_leads (advance_case.At (position.Entering (slot_of s))) parts.adds_nothing (definitions.position_step (position.Entering (slot_of s)) (class_of l) (slot_open s))
    ∙ alone (definitions.enter_other (slot_of s) (class_of l) (slot_open s)) ∙ other_enters s l)
  where
    alone : (o : Option definitions.State) → definitions.first_of_two o None ≡ o
    alone None = refl
    alone (Some st) = refl

pub first_alone : (o : Option spec.State) → spec.first_of_two o None ≡ o
first_alone None = refl
first_alone (Some st) = refl

pub stands_is : (p : spec.Position) (l : terminals.Terminal) → texts.PositionHolds p → IsPlain p → definitions.entering (position_of p) ≡ None → definitions.step (at (position_of p) (open_of p)) (class_of l) ≡ option_map definitions_of (spec.position_step p l)
stands_is p l h n e =
    ap (λ q. led (definitions.at_position q (position_of p) (class_of l) (open_of p))) e
    ∙ stands_leads (advance_case.At (position_of p)) parts.adds_nothing (definitions.position_step (position_of p) (class_of l) (open_of p))
    ∙ position_is p l h n

pub at_is : (p : spec.Position) (l : terminals.Terminal) → texts.PositionHolds p → definitions.step (at (position_of p) (open_of p)) (class_of l) ≡ option_map definitions_of (spec.position_step p l)
at_is (entering s) l h = enters_is s l ∙ ap (option_map definitions_of) (sym (first_alone (spec.enter s (part.step (part.start (spec.slot_sort s)) l) (spec.enter_other s l))))
at_is (between ds) l h = stands_is (between ds) l h tt refl
at_is (syntax_name ds w) l h = stands_is (syntax_name ds w) l h tt refl
at_is (var_name ds w) l h = stands_is (var_name ds w) l h tt refl
at_is (var_colon ds w x) l h = stands_is (var_colon ds w x) l h tt refl
at_is (relation_name ds w) l h = stands_is (relation_name ds w) l h tt refl
at_is (rule_name ds w) l h = stands_is (rule_name ds w) l h tt refl
at_is (rule_colon ds w r) l h = stands_is (rule_colon ds w r) l h tt refl
at_is (fun_name ds w) l h = stands_is (fun_name ds w) l h tt refl
at_is (fun_named ds w f) l h = stands_is (fun_named ds w f) l h tt refl
at_is (argued ds w f o ts) l h = stands_is (argued ds w f o ts) l h tt refl
at_is (args_closed ds w f o ts c) l h = stands_is (args_closed ds w f o ts c) l h tt refl
at_is (syntax_id ds w x ls d) l h = stands_is (syntax_id ds w x ls d) l h tt refl
at_is (rule_id ds w r ls d) l h = stands_is (rule_id ds w r ls d) l h tt refl
at_is (hinted k hs) l h = stands_is (hinted k hs) l h tt refl
at_is (hint_open k hs w) l h = stands_is (hint_open k hs w) l h tt refl
at_is (hint_name k hs w o) l h = stands_is (hint_name k hs w o) l h tt refl
at_is (hint_words k hs w o n ws ks) l h = stands_is (hint_words k hs w o n ws ks) l h tt refl
at_is (dotted k d) l h = stands_is (dotted k d) l h tt refl
at_is (field_name k o ms pre) l h = stands_is (field_name k o ms pre) l h tt refl
at_is (premised r t ps) l h = stands_is (premised r t ps) l h tt refl
at_is (premise_open r t ps d os) l h = stands_is (premise_open r t ps d os) l h tt refl
at_is (goal_colon r t ps d os n) l h = stands_is (goal_colon r t ps d os n) l h tt refl
at_is (iterated r t ps d os ls u i) l h = stands_is (iterated r t ps d os ls u i) l h tt refl

-- what stands behind a part
pub behind_is : (s : spec.Slot) (st : part.State) (l : terminals.Terminal) → texts.Holds (spec.inside s st) → (q : Option Tree) → part.finish st ≡ q
    → led (definitions.behind_part (slot_of s) (class_of l) (slot_open s) (parts.finishing (view.state_of st)) (option_map part_of q)) ≡ option_map definitions_of (option_and_then (λ t. spec.position_step (spec.filled s t) l) q)
behind_is s st l h None e = refl
behind_is s st l h (Some t) e =
    stands_leads _ _ (definitions.position_step (definitions.filled (slot_of s) (part_of t)) (class_of l) (slot_open s))
    ∙ ap (λ p. definitions.position_step p (class_of l) (slot_open s)) (filled_is s t)
    ∙ ap (definitions.position_step (position_of (spec.filled s t)) (class_of l)) (filled_open s t)
    ∙ position_is (spec.filled s t) l (filled_reached s st t h e).holds (filled_plain s t)

-- The automaton takes each step of the reading.
pub step_is : (st : spec.State) (l : terminals.Terminal) → texts.Holds st → definitions.step (definitions_of st) (class_of l) ≡ option_map definitions_of (spec.step st l)
step_is (spec.at p) l h = at_is p l h
step_is (spec.inside s st) l h =
    taken_leads (def.token_in l) _ s (parts.step (definitions.slot_sort (slot_of s)) (view.state_of st) (shape l)) (part.step st l)
    (definitions.behind_part (slot_of s) (class_of l) (slot_open s) (parts.finishing (view.state_of st)) (parts.finish (view.state_of st))) (option_and_then (λ t. spec.position_step (spec.filled s t) l) (part.finish st))
    (part_moves_are s st l h.1 h.2)
    (ap (λ q. led (definitions.behind_part (slot_of s) (class_of l) (slot_open s) (parts.finishing (view.state_of st)) q)) (simulation.finish_is st h.1) ∙ behind_is s st l h (part.finish st) refl)
    ∙ ap (option_map definitions_of) (same (part.step st l))
  where
    same : (o : Option part.State) → spec.enter s o (option_and_then (λ t. spec.position_step (spec.filled s t) l) (part.finish st)) ≡ spec.taken s st l o
    same (Some next) = refl
    same None = refl

abbrev pub is_some : {T : Type 0} → Option T → Bool
is_some None = false
is_some (Some t) = true

pub ends_is : (p : spec.Position) → texts.PositionHolds p → definitions.whole (position_of p) (open_of p) ≡ is_some (spec.whole p)
ends_is (between ds) h = refl
ends_is (hinted (of_syntax ds w x ls) hs) h = refl
ends_is (hinted (of_field k o ms pre t) hs) h = refl
ends_is (hinted (of_case k ms pre t) hs) h = refl
ends_is (hinted (of_var ds w x c t) hs) h = refl
ends_is (hinted (of_relation ds w r) hs) h = refl
ends_is (hinted (of_notation ds w r hs c t) ks) h = refl
ends_is (hinted (of_fun ds w f a c t) hs) h = refl
ends_is (premised r t ps) h = refl
ends_is (iterated r t ps d os ls u i) h = whole_is os i h.enough ∙ go (spec.is_whole os i)
  where
    go : (b : Bool) → b ≡ is_some (if b then Some (spec.rule_whole r t (more_premises ps (given d os ls u i))) else None)
    go true = refl
    go false = refl
ends_is (syntax_name ds w) h = refl
ends_is (var_name ds w) h = refl
ends_is (var_colon ds w x) h = refl
ends_is (relation_name ds w) h = refl
ends_is (rule_name ds w) h = refl
ends_is (rule_colon ds w r) h = refl
ends_is (fun_name ds w) h = refl
ends_is (fun_named ds w f) h = refl
ends_is (argued ds w f o ts) h = refl
ends_is (args_closed ds w f o ts c) h = refl
ends_is (syntax_id ds w x ls d) h = refl
ends_is (rule_id ds w r ls d) h = refl
ends_is (hint_open k hs w) h = refl
ends_is (hint_name k hs w o) h = refl
ends_is (hint_words k hs w o n ws ks) h = refl
ends_is (entering s) h = refl
ends_is (dotted k d) h = refl
ends_is (field_name k o ms pre) h = refl
ends_is (premise_open r t ps d os) h = refl
ends_is (goal_colon r t ps d os n) h = refl

pub may_end_is : (st : spec.State) → texts.Holds st → definitions.may_end (definitions_of st) ≡ is_some (spec.finish st)
may_end_is (spec.at p) h = ends_is p h
may_end_is (spec.inside s st) h = ap (definitions.part_ends (slot_of s) (slot_open s)) (simulation.finish_is st h.1) ∙ go (part.finish st) refl
  where
    go : (q : Option Tree) → part.finish st ≡ q → definitions.part_ends (slot_of s) (slot_open s) (option_map part_of q) ≡ is_some (option_and_then (λ t. spec.whole (spec.filled s t)) q)
    go None e = refl
    go (Some t) e =
        ap (λ p. definitions.whole p (slot_open s)) (filled_is s t)
        ∙ ap (definitions.whole (position_of (spec.filled s t))) (filled_open s t)
        ∙ ends_is (spec.filled s t) (filled_reached s st t h e).holds
