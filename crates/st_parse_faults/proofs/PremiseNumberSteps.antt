-- Premises add the entries of their tokens.
use Rattle.std.proofs.Common.{◌≡◌, ◌+◌, ◌-◌, List, [], ◌∷◌, ◌++◌, length, true, false, ◌&&◌, None, refl, sym, ap, ◌∙◌, append_assoc, append-nil, length-append, arith}
use Rattle.st_grammar.specs.declared.keyword.Keyword.{Keyword}
use Rattle.st_grammar.specs.declared.keyword.Keyword.TheVariants as key
use Rattle.st_grammar.specs.declared.sort.Sort.TheVariants.{Expression as expression}
use Rattle.st_grammar.specs.Terminals.{Terminal}
use Rattle.st_grammar.specs.Levels.{is_iteration_sign, is_caret}
use Rattle.st_grammar.specs.Trees.{Tree}
use Rattle.st_grammar.specs.Definitions.{keyword, signed, opens_round, closes_round, names_relation, Iterations, closed, marked, closings, has_closed, default, given, Premises, more_premises}
use Rattle.st_grammar.specs.Positions.{Rule, cond_slot, count_slot, premised, premise_open, goal_colon, iterated, at, is_whole, begun, when, premise_step, premise_word, next_premise, may_close, iterate}
use Rattle.st_grammar.proofs.PositionSteps.{is_same}
use Rattle.st_grammar.proofs.Sound.{and_left}
use Rattle.st_parse_faults.specs.declared.counts.Event.TheVariants.{Premise, Iteration, Closed, Nothing}
use Rattle.st_parse_faults.specs.inner.Counts.{event}
use Rattle.st_parse_faults.specs.Number.{Number}
use Rattle.st_parse_faults.specs.Numbers.{no_entries, open_entry, numbers}
use Rattle.st_parse_faults.specs.DefinitionNumbers.{alone, paren_numbers, iteration_begins, iteration_numbers, premise_begins}
use Rattle.st_parse_faults.specs.inner.PositionNumbers.{ruled_numbers, slot_numbers}
use Rattle.st_parse_faults.proofs.PositionNumberFacts.{still_nests, is_word, signed_still, relation_still, word_still, round_opens, round_closes, parens_more, given_numbers}
use Rattle.st_parse_faults.proofs.NumberedSteps.{Front, front_of, Step, StepTo, step_if, step_both, step_when, same_step, flat, quiet, opener}

premise_opens : (r : Rule) (t : Tree) (ps : Premises) (d : Terminal) (os : List Terminal) (l : Terminal) → opens_round l ≡ true → event false (at (premise_open r t ps d (os ++ l ∷ []))) ≡ Nothing
    → Step (front_of (at (premise_open r t ps d os))) l (at (premise_open r t ps d (os ++ l ∷ [])))
premise_opens r t ps d os l e i =
    opener (front_of (at (premise_open r t ps d os))) l (at (premise_open r t ps d (os ++ l ∷ []))) (length os) (round_opens l e) refl
    (ap (λ v. ruled_numbers r t ps ++ (premise_begins ps ∷ v)) (parens_more 0 os l (length os + 1) (omega arith)) ∙ sym (append_assoc (ruled_numbers r t ps) (premise_begins ps ∷ paren_numbers 0 os) (open_entry [] (length os + 1) ∷ [])))
    i refl (λ q. refl) (omega (arith, length-append {A = Terminal} os (l ∷ []))) refl tt

premise_steps : (r : Rule) (t : Tree) (ps : Premises) (d : Terminal) (os : List Terminal) (l : Terminal) → StepTo (front_of (at (premise_open r t ps d os))) l (premise_step r t ps d os l)
premise_steps r t ps d os l =
    step_if (front_of (at (premise_open r t ps d os))) l (opens_round l) (at (premise_open r t ps d (os ++ l ∷ []))) (when (names_relation l) (at (goal_colon r t ps d os l))) (λ e. premise_opens r t ps d os l e (nothing os))
    (λ e. step_when (front_of (at (premise_open r t ps d os))) l (names_relation l) (at (goal_colon r t ps d os l))
    (λ i. quiet (front_of (at (premise_open r t ps d os))) l (at (goal_colon r t ps d os l)) (relation_still l i) (simp append_assoc) refl refl (λ q. refl) refl refl tt))
  where
    nothing : (qs : List Terminal) → event false (at (premise_open r t ps d (qs ++ l ∷ []))) ≡ Nothing
    nothing [] = refl
    nothing (q ∷ qs) = refl

pub premise_words : (r : Rule) (t : Tree) (ps : Premises) (d : Terminal) (os : List Terminal) (l : Terminal) (w : Keyword) → keyword l ≡ w → StepTo (front_of (at (premise_open r t ps d os))) l (premise_word w r t ps d os l)
premise_words r t ps d os l key.IfWord e =
    quiet (front_of (at (premise_open r t ps d os))) l (begun (cond_slot r t ps d os (l ∷ []))) (word_still l (ap is_word e)) (simp (append_assoc, append-nil)) refl refl (λ q. refl) (omega arith) refl tt
premise_words r t ps d [] l key.OtherwiseWord e =
    quiet (front_of (at (premise_open r t ps d []))) l (at (premised r t (more_premises ps (default d l)))) (word_still l (ap is_word e)) (simp append_assoc) refl refl (λ q. refl) refl refl tt
premise_words r t ps d (o ∷ os) l key.OtherwiseWord e = premise_steps r t ps d (o ∷ os) l
premise_words r t ps d os l key.HintWord e = premise_steps r t ps d os l
premise_words r t ps d os l key.SyntaxWord e = premise_steps r t ps d os l
premise_words r t ps d os l key.RelationWord e = premise_steps r t ps d os l
premise_words r t ps d os l key.RuleWord e = premise_steps r t ps d os l
premise_words r t ps d os l key.VarWord e = premise_steps r t ps d os l
premise_words r t ps d os l key.DefWord e = premise_steps r t ps d os l
premise_words r t ps d os l key.Dashes e = premise_steps r t ps d os l
premise_words r t ps d os l key.NoWord e = premise_steps r t ps d os l

pub next_steps : (r : Rule) (t : Tree) (ps : Premises) (l : Terminal) (w : Keyword) → keyword l ≡ w → StepTo (front_of (at (premised r t ps))) l (next_premise w r t ps l)
next_steps r t ps l key.Dashes e =
    flat (front_of (at (premised r t ps))) l (at (premise_open r t ps l [])) (premise_begins ps) Premise refl refl refl refl refl (λ q. refl) (sym (still_nests l 0 (word_still l (ap is_word e)))) (omega arith) refl tt
next_steps r t ps l key.HintWord e = tt
next_steps r t ps l key.SyntaxWord e = tt
next_steps r t ps l key.RelationWord e = tt
next_steps r t ps l key.RuleWord e = tt
next_steps r t ps l key.VarWord e = tt
next_steps r t ps l key.DefWord e = tt
next_steps r t ps l key.IfWord e = tt
next_steps r t ps l key.OtherwiseWord e = tt
next_steps r t ps l key.NoWord e = tt

iteration_more : (a : List (List Number)) (p : List Number) (q n u i : List (List Number)) (e : List Number) → a ++ (p ∷ (q ++ (n ++ (u ++ (i ++ e ∷ []))))) ≡ (a ++ (p ∷ (q ++ (n ++ (u ++ i))))) ++ e ∷ []
iteration_more a p q n u i e = simp append_assoc

pub iterate_steps : (r : Rule) (t : Tree) (ps : Premises) (d : Terminal) (os ls : List Terminal) (u : Tree) (i : Iterations) (l : Terminal) → StepTo (front_of (at (iterated r t ps d os ls u i))) l (iterate r t ps d os ls u i l)
iterate_steps r t ps d os ls u i l =
    step_if f l (closes_round l && may_close os i) (at (iterated r t ps d os ls u (closed i l))) _
    (λ e. flat f l (at (iterated r t ps d os ls u (closed i l))) [] Closed (one_more []) refl refl refl refl (λ q. refl) (omega (arith, round_closes l (length os - closings i) (and_left _ _ e))) (omega arith) refl tt)
    (λ e. step_if f l (signed is_iteration_sign l && has_closed i) (at (iterated r t ps d os ls u (marked i l))) _
    (λ j. flat f l (at (iterated r t ps d os ls u (marked i l))) (iteration_begins i) Iteration (one_more (iteration_begins i)) refl refl refl refl (λ q. refl)
    (sym (still_nests l (length os - closings i) (signed_still is_iteration_sign l (and_left _ _ j)))) (omega arith) refl tt)
    (λ j. step_if f l (signed is_caret l && has_closed i) (begun (count_slot r t ps d os ls u i l)) _
    (λ k. flat f l (begun (count_slot r t ps d os ls u i l)) (iteration_begins i) Iteration (append-nil (slot_numbers (count_slot r t ps d os ls u i l)) ∙ one_more (iteration_begins i)) refl refl refl refl (λ q. refl)
    (omega (arith, still_nests l (length os - closings i) (signed_still is_caret l (and_left _ _ k)))) (omega arith) refl tt)
    (λ k. step_both f l (is_whole os i) (next_premise (keyword l) r t qs l) None
    (λ e. same_step f (front_of (at (premised r t qs))) l (next_premise (keyword l) r t qs l) (given_numbers r t ps d os ls u i) (omega (arith, is_same (closings i) (length os) (and_left _ _ e))) refl refl refl (λ q. refl) (next_steps r t qs l (keyword l) refl))
    (λ e. tt))))
  where
    f : Front
    f = front_of (at (iterated r t ps d os ls u i))

    qs : Premises
    qs = more_premises ps (given d os ls u i)

    one_more : (e : List Number)
        → ruled_numbers r t ps ++ (premise_begins ps ∷ (paren_numbers 0 os ++ (no_entries ls ++ (numbers (alone (expression false) (length os) []) u ++ (iteration_numbers (length os) i ++ e ∷ []))))) ≡ f.entries ++ e ∷ []
    one_more e = iteration_more (ruled_numbers r t ps) (premise_begins ps) (paren_numbers 0 os) (no_entries ls) (numbers (alone (expression false) (length os) []) u) (iteration_numbers (length os) i) e
