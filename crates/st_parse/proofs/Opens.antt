-- The variables of what stands open are those of the draft and of the part that is read.
use Rattle.std.proofs.Common.{◌≡◌, [], ◌++◌, flat_map, Option, Some, None, option_map, option_and_then, refl, sym, ap, subst, ◌∙◌, append-nil}
use Rattle.st_grammar.specs.Trees.{Tree}
use Rattle.st_grammar.specs.Reading as part
use Rattle.st_grammar.specs.Definitions.{Hints, Defs}
use Rattle.st_grammar.specs.Positions.{Head, syntax_head, Rule, rule_head, clause_head, Host, of_syntax, of_field, of_case, of_var, of_relation, of_notation, of_fun, Slot, field_slot, case_slot, var_slot, notation_slot, fun_slot, arg_slot, rule_slot, cond_slot, count_slot, Position, between, syntax_name, var_name, var_colon, relation_name, rule_name, rule_colon, fun_name, fun_named, argued, args_closed, syntax_id, rule_id, hinted, hint_open, hint_name, hint_words, entering, dotted, field_name, premised, premise_open, goal_colon, iterated, State, at, inside, filled, whole, finish}
use Rattle.st_grammar.proofs.PositionTexts.{Holds}
use Rattle.st_grammar.proofs.PositionReading.{filled_reached}
use Rattle.st_parse_automaton.proofs.View as view
use Rattle.st_parse_automaton.proofs.View.{part_of}
use Rattle.st_parse_automaton.proofs.Simulation as simulation
use Rattle.st_parse_automaton.proofs.DefinitionView.{position_of, slot_of, slot_open, definitions_of}
use Rattle.st_el.specs.declared.expression.Exp.{Exp}
use Rattle.st_parse_builder.specs.Meaning.{meaning}
use Rattle.st_parse_builder.specs.Definitions.{patterns, defs_meaning}
use Rattle.st_parse_builder.specs.inner.Building.{Stack}
use Rattle.st_parse_builder.specs.Variables.{variables, prem_variables}
use Rattle.st_parse_builder.specs.inner.PieceVariables.{stack_variables}
use Rattle.st_parse.specs.declared.draft.Members.{Members as Body}
use Rattle.st_parse.specs.declared.draft.Premises.{Premises as Prems}
use Rattle.st_parse.specs.Before.{slot_before, position_before}
use Rattle.st_parse.specs.inner.Changes.{ending_of}
use Rattle.st_parse.specs.inner.Drafts.{premises_so_far}
use Rattle.st_parse.specs.inner.Ready.{in_some, told, asked}
use Rattle.st_parse.proofs.DraftOf.{host_draft, head_draft, rule_draft, slot_draft, position_draft}
use Rattle.st_parse.proofs.WorkSteps.{state_work}
use Rattle.st_parse.proofs.WorkEnds.{part_ends}
use Rattle.st_parse.proofs.WorkPositions.{slot_awaits, closes}
use Rattle.st_parse.proofs.BeforeLemmas.{stands_before, ended_is}
use Rattle.st_parse.specs.Limits.{variable_past, first_that}
use Rattle.st_parse.specs.Open.{head_variables, slot_variables, position_variables, cut_variables, inside_variables, open_variables, part_variables, first_past}
use Rattle.st_parse.specs.inner.Cuts.{cut, of_open, Parted, Opens, past_in}
use Rattle.st_parse.proofs.Notes.{some_is, past_ended}
use Rattle.st_parse.proofs.Cut.{part_adds}

-- ---- drafts

head_has : (h : Head) (b : Body) → of_open (head_draft h b) ≡ []
head_has (syntax_head ds w x ls hs e) b = refl

host_has : (h : Host) (hs : Hints) → of_open (host_draft h hs) ≡ []
host_has (of_syntax ds w x ls) hs = refl
host_has (of_field h o ms pre t) hs = head_has h _
host_has (of_case h ms pre t) hs = head_has h _
host_has (of_var ds w x c t) hs = refl
host_has (of_relation ds w r) hs = refl
host_has (of_notation ds w r js c t) hs = refl
host_has (of_fun ds w f a c t) hs = refl

result_has : (r : Rule) → of_open (rule_draft r None (premises_so_far [])) ≡ head_variables r
result_has (rule_head ds w r ls c) = refl
result_has (clause_head ds w f a e) = append-nil (flat_map variables (patterns a) ++ []) ∙ append-nil (flat_map variables (patterns a))

rule_told : (r : Rule) (e : Exp) (p : Prems) → told (rule_draft r (Some e) p) ≡ head_variables r ++ (variables e ++ flat_map prem_variables p.whole)
rule_told (rule_head ds w r ls c) e p = refl
rule_told (clause_head ds w f a c) e p = refl

rule_asked : (r : Rule) (e : Exp) (p : Prems) → asked (rule_draft r (Some e) p) ≡ in_some prem_variables p.prem
rule_asked (rule_head ds w r ls c) e p = refl
rule_asked (clause_head ds w f a c) e p = refl

rule_has : (r : Rule) (e : Exp) (p : Prems) → of_open (rule_draft r (Some e) p) ≡ (head_variables r ++ (variables e ++ flat_map prem_variables p.whole)) ++ in_some prem_variables p.prem
rule_has r e p =
    ap (λ vs. told (rule_draft r (Some e) p) ++ vs) (rule_asked r e p) ∙ ap (λ vs. vs ++ in_some prem_variables p.prem) (rule_told r e p)

-- no premise is open
so_far : (r : Rule) (e : Exp) (p : Prems) → p.prem ≡ None → of_open (rule_draft r (Some e) p) ≡ head_variables r ++ (variables e ++ flat_map prem_variables p.whole)
so_far r e p n =
    let given = head_variables r ++ (variables e ++ flat_map prem_variables p.whole) in
    rule_has r e p ∙ ap (λ o. given ++ in_some prem_variables o) n ∙ append-nil given

slot_has : (s : Slot) → of_open (slot_draft s) ≡ slot_variables s
slot_has (field_slot h o ms pre) = head_has h _
slot_has (case_slot h ms pre) = head_has h _
slot_has (var_slot ds w x c) = refl
slot_has (notation_slot ds w r hs c) = refl
slot_has (fun_slot ds w f a c) = refl
slot_has (arg_slot ds w f o ts pre) = refl
slot_has (rule_slot r) = result_has r
slot_has (cond_slot r t ps d os ls) = so_far r (meaning t) _ refl
slot_has (count_slot r t ps d os ls u i l) = rule_has r (meaning t) _

position_has : (p : Position) → of_open (position_draft p) ≡ position_variables p
position_has (between ds) = refl
position_has (syntax_name ds w) = refl
position_has (var_name ds w) = refl
position_has (var_colon ds w x) = refl
position_has (relation_name ds w) = refl
position_has (rule_name ds w) = refl
position_has (rule_colon ds w r) = refl
position_has (fun_name ds w) = refl
position_has (fun_named ds w f) = refl
position_has (argued ds w f o ts) = refl
position_has (args_closed ds w f o ts c) = refl
position_has (syntax_id ds w x ls d) = refl
position_has (rule_id ds w r ls d) = refl
position_has (hinted h hs) = host_has h hs
position_has (hint_open h hs w) = host_has h hs
position_has (hint_name h hs w o) = host_has h hs
position_has (hint_words h hs w o n ws cs) = host_has h hs
position_has (entering s) = slot_has s
position_has (dotted h d) = head_has h _
position_has (field_name h o ms pre) = head_has h _
position_has (premised r t ps) = so_far r (meaning t) _ refl
position_has (premise_open r t ps d os) = so_far r (meaning t) _ refl
position_has (goal_colon r t ps d os n) = so_far r (meaning t) _ refl
position_has (iterated r t ps d os ls u i) = rule_has r (meaning t) _

-- ---- what is cut off

cut_is : (s : Slot) (u : Stack) → cut (slot_of s) u ≡ cut_variables s (stack_variables u)
cut_is (field_slot h o ms pre) u = refl
cut_is (case_slot h ms pre) u = refl
cut_is (var_slot ds w x c) u = refl
cut_is (notation_slot ds w r hs c) u = refl
cut_is (fun_slot ds w f a c) u = refl
cut_is (arg_slot ds w f o ts pre) u = refl
cut_is (rule_slot r) u = refl
cut_is (cond_slot r t ps d os ls) u = refl
cut_is (count_slot r t ps d os ls v i l) u = refl

-- the same definitions stand before the open one where a part is filled
filled_before : (s : Slot) (t : Tree) → position_before (filled s t) ≡ slot_before s
filled_before (field_slot h o ms pre) t = refl
filled_before (case_slot h ms pre) t = refl
filled_before (var_slot ds w x c) t = refl
filled_before (notation_slot ds w r hs c) t = refl
filled_before (fun_slot ds w f a c) t = refl
filled_before (arg_slot ds w f o ts pre) t = refl
filled_before (rule_slot r) t = refl
filled_before (cond_slot r u ps d os ls) t = refl
filled_before (count_slot r u ps d os ls v i l) t = refl

filled_defs : (s : Slot) (st : part.State) (t : Tree) → (position_draft (filled s t)).defs ≡ (slot_draft s).defs
filled_defs s st t = stands_before (at (filled s t)) ∙ ap defs_meaning (filled_before s t) ∙ sym (stands_before (inside s st))

parted : (s : Slot) (st : part.State) (q : Option Tree) → Holds (inside s st) → part.finish st ≡ q
    → Parted (slot_of s) (view.state_of st) (slot_open s) (state_work (inside s st)) (inside_variables s st q) (option_map part_of q)
parted s st None h e =
    let adds = part_adds st h.1 in (
      adds.0,
      adds.1,
      ap (λ vs. of_open (slot_draft s) ++ vs) (cut_is s adds.0 ∙ ap (cut_variables s) adds.2) ∙ ap (λ vs. vs ++ cut_variables s (part_variables st)) (slot_has s),
    )
parted s st (Some t) h e = (slot_awaits s, (state_work (at (filled s t)), part_ends s st t h e, filled_defs s st t, position_has (filled s t)))

-- the open definition has the variables that stand open
pub opens : (st : State) → Holds st → Opens (definitions_of st) (state_work st) (open_variables st)
opens (at p) h = position_has p
opens (inside s st) h =
    subst (Parted (slot_of s) (view.state_of st) (slot_open s) (state_work (inside s st)) (inside_variables s st (part.finish st)))
    (sym (simulation.finish_is st h.1)) (parted s st (part.finish st) h refl)

-- ---- what is whole

past_at : (p : Position) (ds : Defs) → Holds (at p) → finish (at p) ≡ Some ds → first_past (at p) ≡ first_that variable_past (defs_meaning ds)
past_at p ds h e =
    let d = position_draft p in
    ap (λ defs. past_in defs (position_variables p)) (sym (stands_before (at p)))
    ∙ ap (past_in d.defs) (sym (position_has p))
    ∙ past_ended (ending_of (position_of p)) d (closes (at p) ds h e)
    ∙ ap (first_that variable_past) (some_is (ended_is (at p) ds h e))

-- Where the open definition is whole, what is cut off is nothing but that.
pub past_whole : (st : State) (ds : Defs) → Holds st → finish st ≡ Some ds → first_past st ≡ first_that variable_past (defs_meaning ds)
past_whole (at p) ds h e = past_at p ds h e
past_whole (inside s st) ds h e = go (part.finish st) refl e
  where
    go : (q : Option Tree) → part.finish st ≡ q → option_and_then (λ t. whole (filled s t)) q ≡ Some ds → past_in (defs_meaning (slot_before s)) (inside_variables s st q) ≡ first_that variable_past (defs_meaning ds)
    go None i f = absurd (cc)
    go (Some t) i f =
        ap (λ defs. past_in (defs_meaning defs) (position_variables (filled s t))) (sym (filled_before s t))
        ∙ past_at (filled s t) ds (filled_reached s st t h i).holds f
