-- What each token makes of the work.
use Rattle.std.proofs.Common.{◌≡◌, List, [], ◌∷◌, ◌++◌, map, Option, Some, refl, sym, ap, subst, ◌∙◌}
use Rattle.std.proofs.lemmas.List.{map-append}
use Rattle.st_num.specs.declared.token.Token.{Token}
use Rattle.st_grammar.specs.Terminals as terminals
use Rattle.st_grammar.specs.Reading as part
use Rattle.st_grammar.specs.Definitions.{token_in}
use Rattle.st_grammar.specs.Positions.{Slot, field_slot, case_slot, var_slot, notation_slot, fun_slot, arg_slot, rule_slot, cond_slot, count_slot, State, at, inside}
use Rattle.st_grammar.proofs.Sound as sound
use Rattle.st_grammar.proofs.Steps as inner
use Rattle.st_grammar.proofs.PositionTexts.{Holds}
use Rattle.st_parse_automaton.specs.declared.position.TokenClass.{TokenClass}
use Rattle.st_parse_automaton.specs.inner.Shapes.{class_of}
use Rattle.st_parse_automaton.proofs.DefinitionView.{slot_of}
use Rattle.st_grammar.specs.declared.action.Action.{Action}
use Rattle.st_grammar.specs.inner.Emission.{state_acts, emitted}
use Rattle.st_grammar.proofs.Emission.{emits_next}
use Rattle.st_parse.specs.inner.Work.{Work, words_after, worded_work, added_work}
use Rattle.st_parse.proofs.DraftOf.{position_draft, slot_draft, arguments_acts, args_acts, position_args, slot_args}

abbrev pub word : terminals.Terminal → TokenClass × Token
word l = (class_of l, token_in l)

-- the tokens of a count so far
abbrev pub slot_words : Slot → List terminals.Terminal → List (TokenClass × Token)
slot_words (count_slot r t ps d os ls u i l) us = map word us
slot_words s us = []

-- what is kept in a state
abbrev pub state_work : State → Work
state_work (at p) = record { draft = position_draft p; arguments = args_acts (position_args p); actions = []; words = [] }
state_work (inside s st) = record {
  draft = slot_draft s;
  arguments = arguments_acts (slot_args s);
  actions = state_acts st;
  words = slot_words s (sound.seen st);
}

-- ---- a part goes on

abbrev pub slot_work : Slot → List Action → List (TokenClass × Token) → Work
slot_work s actions words = record {
  draft = slot_draft s;
  arguments = arguments_acts (slot_args s);
  actions = actions;
  words = words;
}

words_more : (s : Slot) (us : List terminals.Terminal) (l : terminals.Terminal) → slot_words s (us ++ l ∷ []) ≡ words_after (slot_of s) (class_of l) (token_in l) (slot_words s us)
words_more (field_slot h o ms pre) us l = refl
words_more (case_slot h ms pre) us l = refl
words_more (var_slot ds w x c) us l = refl
words_more (notation_slot ds w r hs c) us l = refl
words_more (fun_slot ds w f a c) us l = refl
words_more (arg_slot ds w f o ts pre) us l = refl
words_more (rule_slot r) us l = refl
words_more (cond_slot r t ps d os ls) us l = refl
words_more (count_slot r t ps d os ls u i k) us l = map-append word us (l ∷ [])

reached : (o : Option part.State) (us : List terminals.Terminal) (σ : _) (next : part.State) → o ≡ Some next → sound.ReachedBy σ us o → sound.seen next ≡ us
reached o us σ next e r = (subst (sound.ReachedBy σ us) e r).spelled

pub goes_on : (s : Slot) (st : part.State) (l : terminals.Terminal) (next : part.State) (acts : List Action) → Holds (inside s st) → part.step st l ≡ Some next → acts ≡ emitted st l
    → worded_work (slot_of s) (class_of l) (token_in l) (added_work acts (state_work (inside s st))) ≡ state_work (inside s next)
goes_on s st l next acts h e i =
    let acted : state_acts st ++ acts ≡ state_acts next = ap (λ a. state_acts st ++ a) i ∙ sym (emits_next st l next e) in
    let worded : words_after (slot_of s) (class_of l) (token_in l) (slot_words s (sound.seen st)) ≡ slot_words s (sound.seen next) =
    sym (words_more s (sound.seen st) l) ∙ ap (slot_words s) (sym (reached (part.step st l) _ _ next e (inner.steps st l h.1))) in
    ap (λ a. slot_work s a (words_after (slot_of s) (class_of l) (token_in l) (slot_words s (sound.seen st)))) acted
    ∙ ap (λ w. slot_work s (state_acts next) w) worded
