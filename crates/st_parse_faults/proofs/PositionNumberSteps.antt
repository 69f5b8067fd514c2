-- Each token of definitions adds its entry of numbers, which passes a limit where the counts and
-- tallies behind it do.
use Rattle.std.proofs.Common.{◌≡◌, ℕ, ◌+◌, ◌-◌, [], ◌∷◌, ◌++◌, true, false, ◌&&◌, ◌||◌, Option, Some, None, option_and_then, nat_lt, refl, sym, ap, subst, ◌∙◌, append_assoc, append-nil, arith}
use Rattle.std.specs.List.{list_any}
use Rattle.st_num.specs.declared.limit.TheConstants.{MOST_SIGNS}
use Rattle.st_grammar.specs.Terminals.{Terminal}
use Rattle.st_grammar.specs.Levels.{is_comma, is_colon}
use Rattle.st_grammar.specs.Trees.{Tree, none, more}
use Rattle.st_grammar.specs.Grammar.{is_label}
use Rattle.st_grammar.specs.Definitions.{keyword, touches, signed, is_slash, is_bar, opens_round, closes_round, is_low, is_fun, names_relation, is_name, id_step, no_hints, no_members, no_args, args, Defs}
use Rattle.st_grammar.specs.Reading as part
use Rattle.st_grammar.specs.Positions.{of_syntax, of_relation, Slot, field_slot, case_slot, var_slot, notation_slot, fun_slot, arg_slot, rule_slot, cond_slot, count_slot, slot_sort, Position, between, syntax_name, var_name, var_colon, relation_name, rule_name, rule_colon, fun_name, fun_named, argued, args_closed, syntax_id, rule_id, hinted, hint_open, hint_name, hint_words, entering, dotted, field_name, premised, premise_open, goal_colon, iterated, State, at, inside, whole, begin_def, begun, when, hint_or, colon_step, reads_types, result_step, own, first_of_two, position_step, filled, taken, step, finish}
use Rattle.st_grammar.proofs.PositionTexts.{PositionHolds, Holds}
use Rattle.st_grammar.proofs.PositionReading.{filled_reached}
use Rattle.st_grammar.proofs.Sound.{and_left, state_base}
use Rattle.st_parse_faults.specs.Numbers.{context, numbers}
use Rattle.st_parse_faults.specs.DefinitionNumbers.{defs_numbers}
use Rattle.st_parse_faults.specs.inner.Bars.{frame_bars, part_bars}
use Rattle.st_parse_faults.specs.Signs.{signs, all_signs}
use Rattle.st_parse_faults.specs.inner.Limits.{signs_in, fresh, part_tallies, signs_before, tally_passes, part_passes}
use Rattle.st_parse_faults.specs.inner.Numbering.{frame_brackets, part_brackets}
use Rattle.st_parse_faults.specs.inner.PositionNumbers.{host_depth, host_numbers, slot_numbers, slot_depth, slot_begins, slot_context, position_numbers, read_numbers}
use Rattle.st_parse_faults.proofs.NumberFacts.{or_false, no_test}
use Rattle.st_parse_faults.proofs.NumberBegins as inner
use Rattle.st_parse_faults.proofs.NumberSteps.{got_low, lowers, part_steps, part_ends}
use Rattle.st_parse_faults.proofs.PositionNumberFacts.{signed_still, low_still, var_still, fun_still, relation_still, name_still, bar_still, id_still, round_opens, round_closes, no_more, WholeAs, wholes, filled_numbers, filled_brackets, filled_counts, filled_due, slot_shallow}
use Rattle.st_parse_faults.proofs.NumberedSteps.{front_of, Ready, StepTo, step_if, step_when, same_step, quiet, shuts, opener}
use Rattle.st_parse_faults.proofs.DefinitionNumberSteps.{defs_steps, field_steps, hints_steps, words_steps, colon_steps, result_steps, id_steps}
use Rattle.st_parse_faults.proofs.PremiseNumberSteps.{premise_words, next_steps, iterate_steps}
use Rattle.st_parse_faults.proofs.PartNumberSteps.{Started, inner_is, nothing_due, inner_step, enter_steps}

-- ---- positions

own_steps : (p : Position) (l : Terminal) → PositionHolds p → Ready (at p) → StepTo (front_of (at p)) l (own p l)
own_steps (between ds) l h r = tt
own_steps (syntax_name ds w) l h r =
    step_when (front_of (at (syntax_name ds w))) l (is_low l) (at (hinted (of_syntax ds w l []) no_hints)) (λ e. quiet (front_of (at (syntax_name ds w))) l (at (hinted (of_syntax ds w l []) no_hints)) (low_still l e) (simp (append_assoc, append-nil)) refl refl (λ q. refl) refl refl tt)
own_steps (var_name ds w) l h r =
    step_when (front_of (at (var_name ds w))) l (is_low l || is_label l) (at (var_colon ds w l)) (λ e. quiet (front_of (at (var_name ds w))) l (at (var_colon ds w l)) (var_still l e) (simp append_assoc) refl refl (λ q. refl) refl refl tt)
own_steps (var_colon ds w x) l h r =
    step_when (front_of (at (var_colon ds w x))) l (signed is_colon l) (begun (var_slot ds w x l)) (λ e. quiet (front_of (at (var_colon ds w x))) l (begun (var_slot ds w x l)) (signed_still is_colon l e) (simp (append_assoc, append-nil)) refl refl (λ q. refl) refl refl tt)
own_steps (relation_name ds w) l h r =
    step_when (front_of (at (relation_name ds w))) l (names_relation l) (at (hinted (of_relation ds w l) no_hints))
    (λ e. quiet (front_of (at (relation_name ds w))) l (at (hinted (of_relation ds w l) no_hints)) (relation_still l e) (simp (append_assoc, append-nil)) refl refl (λ q. refl) refl refl tt)
own_steps (rule_name ds w) l h r =
    step_when (front_of (at (rule_name ds w))) l (names_relation l) (at (rule_colon ds w l)) (λ e. quiet (front_of (at (rule_name ds w))) l (at (rule_colon ds w l)) (relation_still l e) (simp append_assoc) refl refl (λ q. refl) refl refl tt)
own_steps (rule_colon ds w x) l h r =
    step_if (front_of (at (rule_colon ds w x))) l (signed is_slash l) (at (rule_id ds w x (l ∷ []) true)) (colon_step ds w x [] l)
    (λ e. quiet (front_of (at (rule_colon ds w x))) l (at (rule_id ds w x (l ∷ []) true)) (signed_still is_slash l e) (simp append_assoc) refl refl (λ q. refl) refl refl tt)
    (λ e. colon_steps ds w x [] true l)
own_steps (fun_name ds w) l h r =
    step_when (front_of (at (fun_name ds w))) l (is_fun l) (at (fun_named ds w l)) (λ e. quiet (front_of (at (fun_name ds w))) l (at (fun_named ds w l)) (fun_still l e) (simp append_assoc) refl refl (λ q. refl) refl refl tt)
own_steps (fun_named ds w f) l h r =
    step_if (front_of (at (fun_named ds w f))) l (opens_round l && touches l) (at (entering (arg_slot ds w f l none []))) (result_step ds w f no_args true l)
    (λ e. opener (front_of (at (fun_named ds w f))) l (at (entering (arg_slot ds w f l none []))) 0 (round_opens l (and_left _ _ e)) refl (simp append_assoc) refl refl (λ q. refl) refl refl tt)
    (λ e. result_steps ds w f no_args true l)
own_steps (argued ds w f o ts) l h r =
    step_if (front_of (at (argued ds w f o ts))) l (signed is_comma l) (begun (arg_slot ds w f o ts (l ∷ []))) (when (closes_round l) (at (args_closed ds w f o ts l)))
    (λ e. quiet (front_of (at (argued ds w f o ts))) l (begun (arg_slot ds w f o ts (l ∷ []))) (signed_still is_comma l e) (simp (append_assoc, append-nil)) refl refl (λ q. q) refl refl tt)
    (λ e. step_when (front_of (at (argued ds w f o ts))) l (closes_round l) (at (args_closed ds w f o ts l))
    (λ i. shuts (front_of (at (argued ds w f o ts))) l (at (args_closed ds w f o ts l)) (simp append_assoc) refl refl (λ q. refl) (round_closes l 1 i) refl refl tt))
own_steps (args_closed ds w f o ts c) l h r = result_steps ds w f (args o ts c) (reads_types ts) l
own_steps (syntax_id ds w x ls d) l h r =
    id_steps (front_of (at (syntax_id ds w x ls d))) l (id_step d l) d (λ e. at (syntax_id ds w x (ls ++ l ∷ []) e)) (hint_or (keyword l) (of_syntax ds w x ls) no_hints l)
    (λ b e. quiet (front_of (at (syntax_id ds w x ls d))) l (at (syntax_id ds w x (ls ++ l ∷ []) b)) (id_still d l b e) (simp (append_assoc, no_more)) refl refl (λ q. refl) refl refl tt)
    (same_step (front_of (at (syntax_id ds w x ls d))) (front_of (at (hinted (of_syntax ds w x ls) no_hints))) l (hint_or (keyword l) (of_syntax ds w x ls) no_hints l) (sym (append-nil (host_numbers (of_syntax ds w x ls)))) refl refl refl refl (λ q. refl)
    (hints_steps (of_syntax ds w x ls) no_hints l (keyword l) refl))
own_steps (rule_id ds w x ls d) l h r =
    id_steps (front_of (at (rule_id ds w x ls d))) l (id_step d l) d (λ e. at (rule_id ds w x (ls ++ l ∷ []) e)) (colon_step ds w x ls l)
    (λ b e. quiet (front_of (at (rule_id ds w x ls d))) l (at (rule_id ds w x (ls ++ l ∷ []) b)) (id_still d l b e) (simp (append_assoc, no_more)) refl refl (λ q. refl) refl refl tt)
    (colon_steps ds w x ls d l)
own_steps (hinted k hs) l h r = hints_steps k hs l (keyword l) refl
own_steps (hint_open k hs w) l h r =
    step_when (front_of (at (hint_open k hs w))) l (opens_round l) (at (hint_name k hs w l)) (λ e. opener (front_of (at (hint_open k hs w))) l (at (hint_name k hs w l)) (host_depth k) (round_opens l e) refl (simp append_assoc) refl refl (λ q. refl) refl refl tt)
own_steps (hint_name k hs w o) l h r =
    step_when (front_of (at (hint_name k hs w o))) l (is_name l) (at (hint_words k hs w o l [] [])) (λ e. quiet (front_of (at (hint_name k hs w o))) l (at (hint_words k hs w o l [] [])) (name_still l e) (simp append_assoc) refl refl (λ q. refl) refl refl tt)
own_steps (hint_words k hs w o n ws cs) l h r = words_steps k hs w o n ws cs l h.5
own_steps (entering s) l h r = enter_steps s l r
own_steps (dotted k d) l h r =
    step_when (front_of (at (dotted k d))) l (is_bar l) (at (entering (case_slot k no_members (d ∷ l ∷ [])))) (λ e. quiet (front_of (at (dotted k d))) l (at (entering (case_slot k no_members (d ∷ l ∷ [])))) (bar_still l e) (simp append_assoc) refl refl (λ q. refl) refl refl tt)
own_steps (field_name k o ms pre) l h r = field_steps k o ms pre l h
own_steps (premised q t ps) l h r = next_steps q t ps l (keyword l) refl
own_steps (premise_open q t ps d os) l h r = premise_words q t ps d os l (keyword l) refl
own_steps (goal_colon q t ps d os n) l h r =
    step_when (front_of (at (goal_colon q t ps d os n))) l (signed is_colon l) (begun (cond_slot q t ps d os (n ∷ l ∷ [])))
    (λ e. quiet (front_of (at (goal_colon q t ps d os n))) l (begun (cond_slot q t ps d os (n ∷ l ∷ []))) (signed_still is_colon l e) (simp (append_assoc, append-nil)) refl refl (λ q. refl) (omega arith) refl tt)
own_steps (iterated q t ps d os ls u i) l h r = iterate_steps q t ps d os ls u i l

position_steps : (p : Position) (l : Terminal) → PositionHolds p → Ready (at p) → StepTo (front_of (at p)) l (position_step p l)
position_steps p l h r = go (own p l) (own_steps p l h r)
  where
    turn : (o : Option Defs) → WholeAs p o → StepTo (front_of (at p)) l (option_and_then (λ ds. begin_def ds l (keyword l)) o)
    turn None q = tt
    turn (Some ds) q = defs_steps (front_of (at p)) ds l q.entries q.closed q.counted (keyword l) refl

    go : (o : Option State) → StepTo (front_of (at p)) l o → StepTo (front_of (at p)) l (first_of_two o (option_and_then (λ ds. begin_def ds l (keyword l)) (whole p)))
    go (Some st) s = s
    go None s = turn (whole p) (wholes p)

-- ---- behind a part

-- a part that ends here
pub record Ended (s : Slot) (st : part.State) (t : Tree) : Type 0 where
  pub read : Started st
  pub brackets : part_brackets st ≡ 0
  pub bars : part_bars st ≡ 0
  pub low : list_any tally_passes (part_tallies (signs_before s) st) ≡ false → nat_lt MOST_SIGNS (signs_before s + signs t) ≡ false

-- the frames and the tree where a part ends
ended_tree : (n : ℕ) (p : Tree × part.Frames) (t : Tree) → part.ended p ≡ Some t → (frame_brackets p.1 ≡ 0) × (frame_bars p.1 ≡ 0) × (signs p.0 + signs_in n p.1 ≡ signs t + n)
ended_tree n (u, part.bottom σ) t e = let is : u ≡ t = cc in (refl, refl, ap (λ v. signs v + n) is)
ended_tree n (u, part.within h ts pre fs) t e = absurd (cc)
ended_tree n (u, part.over g fs) t e = absurd (cc)
ended_tree n (u, part.timing v m x fs) t e = absurd (cc)

got_ends : (s : Slot) (u : Tree) (fs : part.Frames) (t : Tree) → part.ended (part.lower 0 u fs) ≡ Some t → (list_any tally_passes (part_tallies (signs_before s) (part.got u fs)) ≡ false → nat_lt MOST_SIGNS (signs u + signs_in (signs_before s) fs) ≡ false)
    → Ended s (part.got u fs) t
got_ends s u fs t e f =
    let r = lowers (slot_context s) 0 u fs in
    let d = ended_tree (signs_before s) (part.lower 0 u fs) t e in
    record {
      read = tt;
      brackets = sym r.brackets ∙ d.0;
      bars = sym r.bars ∙ d.1;
      low = λ h. ap (nat_lt MOST_SIGNS) (omega (arith, r.sign, d.2)) ∙ f h;
    }

ends : (s : Slot) (st : part.State) (t : Tree) → part.finish st ≡ Some t → Ended s st t
ends s (part.want fs) t e = absurd (cc)
ends s (part.naming h ts pre fs) t e = absurd (cc)
ends s (part.pathed p fs) t e = absurd (cc)
ends s (part.indexing o fs) t e = absurd (cc)
ends s (part.comparing o i fs) t e = absurd (cc)
ends s (part.got u (part.bottom σ)) t e = got_ends s u (part.bottom σ) t e (λ h. (got_low (signs_before s) u (part.bottom σ) tt h).sign)
ends s (part.got u (part.within h ts pre fs)) t e = let no : None ≡ Some t = e in absurd (cc)
ends s (part.got u (part.over g fs)) t e = got_ends s u (part.over g fs) t e (λ h. (got_low (signs_before s) u (part.over g fs) tt h).sign)
ends s (part.got u (part.timing v m x fs)) t e = let no : None ≡ Some t = e in absurd (cc)

filled_ready : (s : Slot) (t : Tree) → Ready (at (filled s t))
filled_ready (field_slot h o ms pre) t = tt
filled_ready (case_slot h ms pre) t = tt
filled_ready (var_slot ds w x c) t = tt
filled_ready (notation_slot ds w r hs c) t = tt
filled_ready (fun_slot ds w k a c) t = tt
filled_ready (arg_slot ds w k o ts pre) t = tt
filled_ready (rule_slot r) t = tt
filled_ready (cond_slot r t ps d os ls) u = tt
filled_ready (count_slot r t ps d os ls u i l) c = tt

filled_passes : (s : Slot) (t : Tree) → nat_lt MOST_SIGNS (signs_before s + signs t) ≡ false → part_passes (at (filled s t)) ≡ false
filled_passes (field_slot h o ms pre) t e = refl
filled_passes (case_slot h ms pre) t e = refl
filled_passes (var_slot ds w x c) t e = refl
filled_passes (notation_slot ds w r hs c) t e = refl
filled_passes (fun_slot ds w k a c) t e = refl
filled_passes (arg_slot ds w k o ts pre) t e = or_false (tally_passes (fresh (all_signs (more ts pre t)))) ∙ no_test _ _ _ _ refl refl e refl
filled_passes (rule_slot r) t e = refl
filled_passes (cond_slot r t ps d os ls) u e = refl
filled_passes (count_slot r t ps d os ls u i l) c e = refl

-- the entries up to the end of the part
pub ended_entries : (s : Slot) (st : part.State) (t : Tree) → state_base st ≡ slot_sort s → part.finish st ≡ Some t → read_numbers (inside s st) ≡ position_numbers (filled s t)
ended_entries s st t b e =
    ap (λ v. slot_numbers s ++ v) (part_ends (slot_context s) st t e ∙ ap (λ σ. numbers (context σ (signs_before s) 0 (slot_depth s) (slot_begins s)) t) b)
    ∙ sym (filled_numbers s t)

behind_part : (s : Slot) (st : part.State) (t : Tree) (l : Terminal) (o : Option State) → state_base st ≡ slot_sort s → part.finish st ≡ Some t → StepTo (front_of (at (filled s t))) l o → StepTo (front_of (inside s st)) l o
behind_part s st t l o b e r =
    let d = ends s st t e in
    same_step (front_of (inside s st)) (front_of (at (filled s t))) l o (ended_entries s st t b e) (omega (arith, d.brackets, filled_brackets s t)) d.bars (inner_is s st d.read ∙ filled_counts s t) (nothing_due s st d.read ∙ sym (filled_due s t))
    (λ h. filled_passes s t (d.low h)) r

-- ---- a token of definitions

pub steps : (st : State) (l : Terminal) → Holds st → Ready st → StepTo (front_of st) l (step st l)
steps (at p) l h r = position_steps p l h r
steps (inside s st) l h r = go (part.step st l) (part_steps (slot_context s) (slot_shallow s) st l h.1)
  where
    behind : (o : Option Tree) → part.finish st ≡ o → StepTo (front_of (inside s st)) l (option_and_then (λ t. position_step (filled s t) l) o)
    behind None e = tt
    behind (Some t) e = behind_part s st t l (position_step (filled s t) l) h.2 e (position_steps (filled s t) l (filled_reached s st t h e).holds (filled_ready s t))

    go : (o : Option part.State) → inner.StepTo (slot_context s) (inner.front_of (slot_context s) st) l o → StepTo (front_of (inside s st)) l (taken s st l o)
    go None q = behind (part.finish st) refl
    go (Some next) q = inner_step s st l next r q

-- ---- the end

whole_entries : (p : Position) (ds : Defs) → whole p ≡ Some ds → position_numbers p ≡ defs_numbers ds
whole_entries p ds e = (subst (WholeAs p) e (wholes p)).entries

pub finishes : (st : State) (ds : Defs) → Holds st → finish st ≡ Some ds → read_numbers st ≡ defs_numbers ds
finishes (at p) ds h e = whole_entries p ds e
finishes (inside s st) ds h e = go (part.finish st) refl e
  where
    go : (o : Option Tree) → part.finish st ≡ o → option_and_then (λ t. whole (filled s t)) o ≡ Some ds → read_numbers (inside s st) ≡ defs_numbers ds
    go None f g = absurd (cc)
    go (Some t) f g = ended_entries s st t h.2 f ∙ whole_entries (filled s t) ds g
