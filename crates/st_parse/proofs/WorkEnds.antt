-- What the end of a part makes of the work.
use Rattle.std.proofs.Common.{◌≡◌, ◌-◌, List, [], ◌∷◌, ◌++◌, length, map, false, Some, None, option_map, if◌then◌else◌, refl, sym, ap, ◌∙◌}
use Rattle.st_num.specs.declared.token.Token.{Token}
use Rattle.st_grammar.specs.declared.sort.Sort.TheVariants.{Expression as expression, Count as count}
use Rattle.st_grammar.specs.declared.sort.Bracket.TheVariants as bracket_of
use Rattle.st_grammar.specs.Terminals.{leaf, dot, sign, opening, closing, other}
use Rattle.st_grammar.specs.Trees.{Tree, operand, post, times, bracket, led, left, ahead, items, plain, length as bars, arguments, index, segment, update, below, Path, head, field, part as path_part, text}
use Rattle.st_grammar.specs.Grammar.{Fits, PathFits}
use Rattle.st_grammar.specs.Reading as part
use Rattle.st_grammar.specs.Definitions.{closings}
use Rattle.st_grammar.specs.Positions.{Slot, field_slot, case_slot, var_slot, notation_slot, fun_slot, arg_slot, rule_slot, cond_slot, count_slot, slot_sort, at, inside, filled}
use Rattle.st_grammar.proofs.Sound as sound
use Rattle.st_grammar.proofs.PositionTexts.{Holds}
use Rattle.st_grammar.proofs.PositionReading.{inner_finish}
use Rattle.st_parse_automaton.specs.declared.position.Slot.TheVariants as slot
use Rattle.st_parse_automaton.specs.declared.position.TokenClass.{TokenClass}
use Rattle.st_parse_automaton.specs.inner.DefinitionAutomaton.{opens_round}
use Rattle.st_parse_automaton.specs.inner.Shapes.{class_of}
use Rattle.st_parse_automaton.proofs.View as view
use Rattle.st_parse_automaton.proofs.DefinitionView.{rounds, slot_of, slot_open}
use Rattle.st_el.specs.declared.expression.Exp.{Exp}
use Rattle.st_grammar.specs.declared.action.Action.{Action}
use Rattle.st_parse_builder.specs.Names.{name_of}
use Rattle.st_parse_builder.specs.Meaning.{meaning, count_of}
use Rattle.st_grammar.specs.inner.Actions.{acts}
use Rattle.st_grammar.specs.inner.Emission.{state_acts}
use Rattle.st_grammar.proofs.Emission.{finish_emits}
use Rattle.st_parse_automaton.specs.inner.PartAutomaton.{finishing}
use Rattle.st_parse_automaton.proofs.Simulation.{finishing_is}
use Rattle.st_parse.specs.declared.draft.Draft.{Draft}
use Rattle.st_parse.specs.inner.Drafts.{typ_filled, notation_filled, condition_filled, exp_filled, count_filled}
use Rattle.st_parse.specs.inner.Parts.{index_in, count_with, refilled}
use Rattle.st_parse.specs.inner.Work.{Work, arguments_with, filled_work}
use Rattle.st_parse.proofs.DraftOf.{position_draft, slot_draft, arguments_acts, args_acts, position_args, slot_args}
use Rattle.st_parse.proofs.DraftFills.{field_fills, case_fills, var_fills, notation_fills, fun_fills, rule_fills, cond_fills, count_fills}
use Rattle.st_parse.proofs.Built.{exp_is, typ_is, notation_is}
use Rattle.st_parse.proofs.WorkSteps.{word, slot_words, state_work}

-- ---- the index of a count

no_index : (o : TokenClass) (x : Token) (words : List (TokenClass × Token)) → opens_round o ≡ false → index_in ((o, x) ∷ words) ≡ None
no_index o x [] e = refl
no_index o x ((l, i) ∷ words) e = ap (λ b. if b then Some (name_of i.kind) else None) e

no_path : (p : Path) → PathFits count p → ⊥
no_path (head t o) f = absurd (cc)
no_path (field p x) f = no_path p f
no_path (path_part p o ts c) f = no_path p f.0

pub index_is : (c : Tree) (e : Exp) → Fits count c → count_of c e ≡ count_with (index_in (map word (text c))) e
index_is (operand k x) e f = refl
index_is (post t (dot x)) e f = absurd (cc)
index_is (post t (sign m x)) e f = absurd (cc)
index_is (post t (leaf k x)) e f = absurd (cc)
index_is (post t (opening k x)) e f = absurd (cc)
index_is (post t (closing k x)) e f = absurd (cc)
index_is (post t (other x)) e f = absurd (cc)
index_is (times t m x c) e f = absurd (cc)
index_is (bracket (plain bracket_of.Dollar o) ts c) e f = ap (λ i. count_with i e) (sym (no_index (class_of (opening bracket_of.Dollar o)) o _ refl))
index_is (bracket (plain bracket_of.Round o) ts c) e f = absurd (cc)
index_is (bracket (plain bracket_of.Square o) ts c) e f = absurd (cc)
index_is (bracket (plain bracket_of.Brace o) ts c) e f = absurd (cc)
index_is (bracket (plain bracket_of.TickRound o) ts c) e f = absurd (cc)
index_is (bracket (plain bracket_of.TickSquare o) ts c) e f = absurd (cc)
index_is (bracket (plain bracket_of.TickBrace o) ts c) e f = absurd (cc)
index_is (bracket (bars o) ts c) e f = absurd (cc)
index_is (bracket (arguments k o) ts c) e f = absurd (cc)
index_is (bracket (index t o) ts c) e f = absurd (cc)
index_is (bracket (segment p o) ts c) e f = absurd (cc)
index_is (bracket (update p m x) ts c) e f = absurd (no_path p f.1.0)
index_is (bracket (below o i m x) ts c) e f = refl
index_is (led (left l m x) t) e f = absurd (cc)
index_is (led (ahead m x) t) e f = absurd (cc)
index_is (led (items ts) t) e f = absurd (cc)

-- ---- a part that ends

refills : (s : Slot) (t : Tree) → Fits (slot_sort s) t → refilled (slot_of s) (length (slot_open s)) (acts t) (slot_words s (text t)) (slot_draft s) ≡ Some (position_draft (filled s t))
refills (field_slot h o ms pre) t f = ap (option_map (λ u. typ_filled slot.Field u (slot_draft (field_slot h o ms pre)))) (typ_is t f) ∙ ap (λ d. Some d) (sym (field_fills h o ms pre t))
refills (case_slot h ms pre) t f = ap (option_map (λ n. notation_filled n (slot_draft (case_slot h ms pre)))) (notation_is t f) ∙ ap (λ d. Some d) (sym (case_fills h ms pre t))
refills (var_slot ds w x c) t f = ap (option_map (λ u. typ_filled slot.Var u (slot_draft (var_slot ds w x c)))) (typ_is t f) ∙ ap (λ d. Some d) (sym (var_fills ds w x c t))
refills (notation_slot ds w r hs c) t f =
    ap (option_map (λ n. notation_filled n (slot_draft (notation_slot ds w r hs c)))) (notation_is t f) ∙ ap (λ d. Some d) (sym (notation_fills ds w r hs c t))
refills (fun_slot ds w k a c) t f = ap (option_map (λ u. typ_filled slot.Fun u (slot_draft (fun_slot ds w k a c)))) (typ_is t f) ∙ ap (λ d. Some d) (sym (fun_fills ds w k a c t))
refills (arg_slot ds w k o ts pre) t f = refl
refills (rule_slot r) t f = ap (option_map (λ e. exp_filled e (slot_draft (rule_slot r)))) (exp_is (expression false) t f) ∙ ap (λ d. Some d) (sym (rule_fills r t))
refills (cond_slot r u ps d os ls) t f =
    ap (option_map (λ e. condition_filled e (slot_draft (cond_slot r u ps d os ls)))) (exp_is (expression false) t f) ∙ ap (λ k. Some k) (sym (cond_fills r u ps d os ls t))
refills (count_slot r u ps d os ls v i l) t f =
    ap (option_map (λ e. count_filled (length (rounds (length os - closings i))) (count_with (index_in (map word (text t))) e) (slot_draft (count_slot r u ps d os ls v i l)))) (exp_is count t f)
    ∙ ap (λ c. Some (count_filled (length (rounds (length os - closings i))) c (slot_draft (count_slot r u ps d os ls v i l)))) (sym (index_is t (meaning t) f))
    ∙ ap (λ k. Some k) (sym (count_fills r u ps d os ls v i l t))

argues : (s : Slot) (t : Tree) → arguments_with (slot_of s) (acts t) (arguments_acts (slot_args s)) ≡ args_acts (position_args (filled s t))
argues (field_slot h o ms pre) t = refl
argues (case_slot h ms pre) t = refl
argues (var_slot ds w x c) t = refl
argues (notation_slot ds w r hs c) t = refl
argues (fun_slot ds w k a c) t = refl
argues (arg_slot ds w k o ts pre) t = refl
argues (rule_slot r) t = refl
argues (cond_slot r u ps d os ls) t = refl
argues (count_slot r u ps d os ls v i l) t = refl

abbrev ended_work : List (List Action) → Draft → Work
ended_work given d = record { draft = d; arguments = given; actions = []; words = [] }

pub part_ends : (s : Slot) (st : part.State) (t : Tree) → Holds (inside s st) → part.finish st ≡ Some t
    → filled_work (slot_of s) (length (slot_open s)) (view.state_of st) (state_work (inside s st)) ≡ Some (state_work (at (filled s t)))
part_ends s st t h e =
    let parsed = inner_finish s st t h e in
    let acted : state_acts st ++ finishing (view.state_of st) ≡ acts t = ap (λ a. state_acts st ++ a) (finishing_is st) ∙ sym (finish_emits st t e) in
    ap (λ a. option_map (ended_work (arguments_with (slot_of s) a (arguments_acts (slot_args s)))) (refilled (slot_of s) (length (slot_open s)) a (slot_words s (sound.seen st)) (slot_draft s))) acted
    ∙ ap (λ us. option_map (ended_work (arguments_with (slot_of s) (acts t) (arguments_acts (slot_args s)))) (refilled (slot_of s) (length (slot_open s)) (acts t) (slot_words s us) (slot_draft s))) parsed.spelled
    ∙ ap (option_map (ended_work (arguments_with (slot_of s) (acts t) (arguments_acts (slot_args s))))) (refills s t parsed.fits)
    ∙ ap (λ ys. Some (ended_work ys (position_draft (filled s t)))) (argues s t)
