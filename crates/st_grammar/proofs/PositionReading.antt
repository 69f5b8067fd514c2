-- What is read of definitions is in the grammar.
use Rattle.std.proofs.Common.{◌≡◌, List, [], ◌∷◌, ◌++◌, Bool, true, false, ◌&&◌, ◌||◌, Option, Some, None, option_and_then, refl, sym, ap, subst, ◌∙◌, append_assoc, append-nil}
use Rattle.st_grammar.specs.declared.keyword.Keyword.{Keyword}
use Rattle.st_grammar.specs.declared.keyword.Keyword.TheVariants.{SyntaxWord as syntax_word, RelationWord as relation_word, RuleWord as rule_word, VarWord as var_word, DefWord as def_word, HintWord as hint_word, IfWord as if_word, OtherwiseWord as otherwise_word, Dashes as dashes, NoWord as no_word}
use Rattle.st_grammar.specs.Terminals.{Terminal}
use Rattle.st_grammar.specs.Levels.{is_colon, is_comma}
use Rattle.st_grammar.specs.Trees.{Tree, none, more}
use Rattle.st_grammar.specs.Grammar.{is_label, Parse}
use Rattle.st_grammar.specs.Reading as part
use Rattle.st_grammar.specs.Definitions.{keyword, touches, signed, is_slash, is_bar, opens_round, closes_round, is_low, is_fun, names_relation, is_name, id_step, no_hints, no_members, no_args, args, Defs, defs_text, ParseDefs}
use Rattle.st_grammar.specs.Positions.{of_syntax, of_relation, Slot, case_slot, var_slot, arg_slot, cond_slot, slot_sort, Position, between, syntax_name, var_name, var_colon, relation_name, rule_name, rule_colon, fun_name, fun_named, argued, args_closed, syntax_id, rule_id, hinted, hint_open, hint_name, hint_words, entering, dotted, field_name, premised, premise_open, goal_colon, iterated, State, at, inside, whole, begin_def, begun, when, hint_or, id_goes, colon_step, reads_types, result_step, own, first_of_two, position_step, filled, taken, step, finish, reading, start}
use Rattle.st_grammar.proofs.Sound as sound
use Rattle.st_grammar.proofs.Sound.{and_left, and_right}
use Rattle.st_grammar.proofs.Steps as inner
use Rattle.st_grammar.proofs.PositionTexts.{host_text, slot_text, position_text, seen, InId, PositionHolds, Holds, Reached, ReachedBy, filled_holds, filled_text}
use Rattle.st_grammar.proofs.PositionSteps.{tested, when_tested, reach, begins, ParsedAs, wholes, types_fit, comma_sets_off, in_id_more, id_whole, colons, results, hint_ors, hint_steps, enters, field_steps, premise_words, next_premises, iterates}

-- ---- steps

pub owns : (p : Position) (l : Terminal) → PositionHolds p → ReachedBy (position_text p ++ l ∷ []) (own p l)
owns (between ds) l h = tt
owns (syntax_name ds w) l h = when_tested (is_low l) _ _ (λ e. reach (hinted (of_syntax ds w l []) no_hints) _ ((h.0, h.1, e, tt), tt) (simp (append_assoc, append-nil)))
owns (var_name ds w) l h = when_tested (is_low l || is_label l) _ _ (λ e. reach (var_colon ds w l) _ (h.0, h.1, e) (simp append_assoc))
owns (var_colon ds w x) l h = when_tested (signed is_colon l) _ _ (λ e. begins (var_slot ds w x l) _ (h.0, h.1, h.2, e) (simp append_assoc))
owns (relation_name ds w) l h = when_tested (names_relation l) _ _ (λ e. reach (hinted (of_relation ds w l) no_hints) _ ((h.0, h.1, e), tt) (simp (append_assoc, append-nil)))
owns (rule_name ds w) l h = when_tested (names_relation l) _ _ (λ e. reach (rule_colon ds w l) _ (h.0, h.1, e) (simp append_assoc))
owns (rule_colon ds w r) l h =
    tested (signed is_slash l) _ (at (rule_id ds w r (l ∷ []) true)) (colon_step ds w r [] l)
    (λ e. reach (rule_id ds w r (l ∷ []) true) _ (h.0, h.1, h.2, (e, refl)) (simp append_assoc))
    (colons ds w r [] l h.0 h.1 h.2 tt)
owns (fun_name ds w) l h = when_tested (is_fun l) _ _ (λ e. reach (fun_named ds w l) _ (h.0, h.1, e) (simp append_assoc))
owns (fun_named ds w f) l h =
    tested (opens_round l && touches l) _ (at (entering (arg_slot ds w f l none []))) (result_step ds w f no_args true l)
    (λ e. reach (entering (arg_slot ds w f l none [])) _ (h.0, h.1, h.2, and_left _ _ e, and_right _ _ e, tt, refl) (simp append_assoc))
    (results ds w f no_args true l (defs_text ds ++ w ∷ f ∷ []) h.0 h.1 h.2 tt (λ e. tt) refl)
owns (argued ds w f o none) l h = absurd h
owns (argued ds w f o (more ts pre t)) l h =
    tested (signed is_comma l) _ (begun (arg_slot ds w f o (more ts pre t) (l ∷ []))) (when (closes_round l) (at (args_closed ds w f o (more ts pre t) l)))
    (λ e. begins (arg_slot ds w f o (more ts pre t) (l ∷ [])) _ (h.0, h.1, h.2, h.3, h.4, h.5, comma_sets_off ts pre t l e) (simp append_assoc))
    (when_tested (closes_round l) _ _ (λ e. reach (args_closed ds w f o (more ts pre t) l) _ (h.0, h.1, h.2, (h.3, h.4, h.5, e)) (simp append_assoc)))
owns (args_closed ds w f o ts c) l h =
    results ds w f (args o ts c) (reads_types ts) l (position_text (args_closed ds w f o ts c)) h.0 h.1 h.2 h.3 (λ e. (h.3.0, h.3.1, types_fit ts h.3.2 e, h.3.3)) refl
owns (syntax_id ds w x ls d) l h = go (id_step d l) refl d refl
  where
    leaves : d ≡ false → ReachedBy ((defs_text ds ++ (w ∷ x ∷ ls)) ++ l ∷ []) (hint_or (keyword l) (of_syntax ds w x ls) no_hints l)
    leaves e =
        subst (λ u. ReachedBy (u ++ l ∷ []) (hint_or (keyword l) (of_syntax ds w x ls) no_hints l)) (append-nil (host_text (of_syntax ds w x ls)))
        (hint_ors (of_syntax ds w x ls) no_hints l (h.0, h.1, h.2, id_whole ls (subst (InId ls) e h.3)) tt)

    go : (q : Option Bool) → id_step d l ≡ q → (b : Bool) → d ≡ b
        → ReachedBy ((defs_text ds ++ (w ∷ x ∷ ls)) ++ l ∷ []) (id_goes q b (λ e. at (syntax_id ds w x (ls ++ l ∷ []) e)) (hint_or (keyword l) (of_syntax ds w x ls) no_hints l))
    go (Some e) k b i = reach (syntax_id ds w x (ls ++ l ∷ []) e) _ (h.0, h.1, h.2, in_id_more ls d e l h.3 k) (simp append_assoc)
    go None k true i = tt
    go None k false i = leaves i
owns (rule_id ds w r ls d) l h = go (id_step d l) refl d refl
  where
    go : (q : Option Bool) → id_step d l ≡ q → (b : Bool) → d ≡ b
        → ReachedBy ((defs_text ds ++ (w ∷ r ∷ ls)) ++ l ∷ []) (id_goes q b (λ e. at (rule_id ds w r (ls ++ l ∷ []) e)) (colon_step ds w r ls l))
    go (Some e) k b i = reach (rule_id ds w r (ls ++ l ∷ []) e) _ (h.0, h.1, h.2, in_id_more ls d e l h.3 k) (simp append_assoc)
    go None k true i = tt
    go None k false i = colons ds w r ls l h.0 h.1 h.2 (id_whole ls (subst (InId ls) i h.3))
owns (hinted k hs) l h = hint_ors k hs l h.0 h.1
owns (hint_open k hs w) l h = when_tested (opens_round l) _ _ (λ e. reach (hint_name k hs w l) _ (h.0, h.1, h.2, e) (simp append_assoc))
owns (hint_name k hs w o) l h = when_tested (is_name l) _ _ (λ e. reach (hint_words k hs w o l [] []) _ (h.0, h.1, h.2, h.3, e, refl) (simp append_assoc))
owns (hint_words k hs w o n ws cs) l h = hint_steps k hs w o n ws cs l h
owns (entering s) l h = enters s l h
owns (dotted k d) l h = when_tested (is_bar l) _ _ (λ e. reach (entering (case_slot k no_members (d ∷ l ∷ []))) _ (h.0, tt, (h.1, e)) (simp append_assoc))
owns (field_name k o ms pre) l h = field_steps k o ms pre l h
owns (premised r t ps) l h = next_premises r t ps l h
owns (premise_open r t ps d os) l h = premise_words r t ps d os l h
owns (goal_colon r t ps d os n) l h = when_tested (signed is_colon l) _ _ (λ e. begins (cond_slot r t ps d os (n ∷ l ∷ [])) _ (h.0, (h.1, e)) (simp append_assoc))
owns (iterated r t ps d os ls u i) l h = iterates r t ps d os ls u i l h

pub defs_begin : (ds : Defs) (us : List Terminal) (l : Terminal) → ParseDefs us ds → ReachedBy (us ++ l ∷ []) (begin_def ds l (keyword l))
defs_begin ds us l p = go (keyword l) refl
  where
    spelled : defs_text ds ++ l ∷ [] ≡ us ++ l ∷ []
    spelled = ap (λ u. u ++ l ∷ []) (sym p.spelled)

    go : (k : Keyword) → keyword l ≡ k → ReachedBy (us ++ l ∷ []) (begin_def ds l k)
    go syntax_word e = reach (syntax_name ds l) (us ++ l ∷ []) (p.fits, e) spelled
    go relation_word e = reach (relation_name ds l) (us ++ l ∷ []) (p.fits, e) spelled
    go rule_word e = reach (rule_name ds l) (us ++ l ∷ []) (p.fits, e) spelled
    go var_word e = reach (var_name ds l) (us ++ l ∷ []) (p.fits, e) spelled
    go def_word e = reach (fun_name ds l) (us ++ l ∷ []) (p.fits, e) spelled
    go hint_word e = tt
    go if_word e = tt
    go otherwise_word e = tt
    go dashes e = tt
    go no_word e = tt

pub position_steps : (p : Position) (l : Terminal) → PositionHolds p → ReachedBy (position_text p ++ l ∷ []) (position_step p l)
position_steps p l h = go (own p l) (owns p l h)
  where
    turn : (o : Option Defs) → ParsedAs (position_text p) o → ReachedBy (position_text p ++ l ∷ []) (option_and_then (λ ds. begin_def ds l (keyword l)) o)
    turn (Some ds) q = defs_begin ds (position_text p) l q
    turn None q = tt

    go : (o : Option State) → ReachedBy (position_text p ++ l ∷ []) o → ReachedBy (position_text p ++ l ∷ []) (first_of_two o (option_and_then (λ ds. begin_def ds l (keyword l)) (whole p)))
    go (Some st) r = r
    go None r = turn (whole p) (wholes p h)

pub inner_finish : (s : Slot) (st : part.State) (t : Tree) → Holds (inside s st) → part.finish st ≡ Some t → Parse (slot_sort s) (sound.seen st) t
inner_finish s st t h e = inner.finishes (slot_sort s) (sound.seen st) st t (record { holds = h.1; spelled = refl; based = h.2 }) e

-- the position behind a part that ends here
pub filled_reached : (s : Slot) (st : part.State) (t : Tree) → Holds (inside s st) → part.finish st ≡ Some t → Reached (slot_text s ++ sound.seen st) (at (filled s t))
filled_reached s st t h e =
    let q = inner_finish s st t h e in
    record { holds = filled_holds s t h.0 q.fits; spelled = filled_text s t ∙ ap (λ u. slot_text s ++ u) (sym q.spelled) }

pub steps : (st : State) (l : Terminal) → Holds st → ReachedBy (seen st ++ l ∷ []) (step st l)
steps (at p) l h = position_steps p l h
steps (inside s st) l h = go (part.step st l) (inner.steps st l h.1)
  where
    behind : (o : Option Tree) → part.finish st ≡ o → ReachedBy ((slot_text s ++ sound.seen st) ++ l ∷ []) (option_and_then (λ t. position_step (filled s t) l) o)
    behind None e = tt
    behind (Some t) e = let r = filled_reached s st t h e in subst (λ u. ReachedBy (u ++ l ∷ []) (position_step (filled s t) l)) r.spelled (position_steps (filled s t) l r.holds)

    go : (o : Option part.State) → sound.ReachedBy (sound.state_base st) (sound.seen st ++ l ∷ []) o → ReachedBy ((slot_text s ++ sound.seen st) ++ l ∷ []) (taken s st l o)
    go (Some next) r = record { holds = (h.0, r.holds, r.based ∙ h.2); spelled = ap (λ u. slot_text s ++ u) r.spelled ∙ sym (append_assoc (slot_text s) (sound.seen st) (l ∷ [])) }
    go None r = behind (part.finish st) refl

pub read_on : (w : List Terminal) (st : State) (us : List Terminal) → Reached us st → ReachedBy (us ++ w) (reading st w)
read_on [] st us r = record { holds = r.holds; spelled = r.spelled ∙ sym (append-nil us) }
read_on (l ∷ w) st us r = go (step st l) (subst (λ u. ReachedBy (u ++ l ∷ []) (step st l)) r.spelled (steps st l r.holds)) (λ next h. read_on w next (us ++ l ∷ []) h)
  where
    go : (o : Option State) → ReachedBy (us ++ l ∷ []) o → ((next : State) → Reached (us ++ l ∷ []) next → ReachedBy ((us ++ l ∷ []) ++ w) (reading next w)) → ReachedBy (us ++ l ∷ w) (option_and_then (λ next. reading next w) o)
    go None h rest = tt
    go (Some next) h rest = subst (λ u. ReachedBy u (reading next w)) (append_assoc us (l ∷ []) w) (rest next h)

pub reached_by : (us : List Terminal) (st : State) → reading start us ≡ Some st → Reached us st
reached_by us st e = subst (ReachedBy us) e (read_on us start [] (record { holds = tt; spelled = refl }))

-- ---- the end

pub finishes : (us : List Terminal) (st : State) (ds : Defs) → Reached us st → finish st ≡ Some ds → ParseDefs us ds
finishes us (at p) ds r e = subst (λ u. ParseDefs u ds) r.spelled (subst (ParsedAs (position_text p)) e (wholes p r.holds))
finishes us (inside s st) ds r e = go (part.finish st) refl e
  where
    go : (o : Option Tree) → part.finish st ≡ o → option_and_then (λ t. whole (filled s t)) o ≡ Some ds → ParseDefs us ds
    go None f k = absurd (cc)
    go (Some t) f k =
        let q = filled_reached s st t r.holds f in
        subst (λ u. ParseDefs u ds) (q.spelled ∙ r.spelled) (subst (ParsedAs (position_text (filled s t))) k (wholes (filled s t) q.holds))

pub sound_defs : (us : List Terminal) (st : State) (ds : Defs) → reading start us ≡ Some st → finish st ≡ Some ds → ParseDefs us ds
sound_defs us st ds e f = finishes us st ds (reached_by us st e) f
