-- Words, bodies, hints and heads of definitions add the entries of their tokens.
use Rattle.std.proofs.Common.{◌≡◌, ℕ, ◌+◌, ◌-◌, ◌≤◌, List, [], ◌∷◌, ◌++◌, map, Bool, true, false, ◌&&◌, Option, Some, None, nat_lt, if◌then◌else◌, refl, sym, ap, ◌∙◌, append_assoc, append-nil, arith}
use Rattle.std.specs.List.{list_any}
use Rattle.std.proofs.lemmas.List.{map-append}
use Rattle.st_num.specs.declared.mark.Mark.{Mark}
use Rattle.st_num.specs.declared.limit.TheConstants.{HIGHEST_TREE}
use Rattle.st_grammar.specs.declared.keyword.Keyword.{Keyword}
use Rattle.st_grammar.specs.declared.keyword.Keyword.TheVariants as key
use Rattle.st_grammar.specs.declared.sort.Bracket.{Bracket}
use Rattle.st_grammar.specs.declared.sort.Closing.TheVariants as closings_of
use Rattle.st_grammar.specs.declared.sort.Sort.TheVariants.{Typ as typ}
use Rattle.st_grammar.specs.Terminals.{Terminal, leaf, dot, sign, opening, closing, other}
use Rattle.st_grammar.specs.Levels.{is_comma, is_colon}
use Rattle.st_grammar.specs.Trees.{none, more}
use Rattle.st_grammar.specs.Grammar.{is_label}
use Rattle.st_grammar.specs.Definitions.{keyword, signed, is_slash, is_equal, is_dots, is_bar, closes_round, opens_brace, closes_brace, scan, balance_step, hint, Hints, no_hints, more_hints, Members, no_members, member, fields, cases, Args, Defs}
use Rattle.st_grammar.specs.Positions.{Head, syntax_head, rule_head, clause_head, Host, of_syntax, of_field, of_case, of_var, of_relation, of_notation, of_fun, Slot, field_slot, case_slot, var_slot, notation_slot, fun_slot, arg_slot, rule_slot, cond_slot, count_slot, between, syntax_name, var_name, relation_name, rule_name, fun_name, args_closed, syntax_id, rule_id, hinted, hint_open, hint_words, entering, dotted, field_name, State, at, syntax_whole, begin_def, begun, when, enter_case, enter_other, field_step, host_step, hint_or, hint_step, id_goes, colon_step, result_step}
use Rattle.st_grammar.proofs.PositionTexts.{PositionHolds}
use Rattle.st_grammar.proofs.Sound.{and_left}
use Rattle.st_parse_faults.specs.declared.counts.Counts.{Counts}
use Rattle.st_parse_faults.specs.declared.counts.Event.TheVariants.{Definition, Member, Nothing}
use Rattle.st_parse_faults.specs.inner.Counts.{event}
use Rattle.st_parse_faults.specs.Number as number
use Rattle.st_parse_faults.specs.Number.{Number, too_deep, too_many}
use Rattle.st_parse_faults.specs.Numbers.{label_entry, open_entry, numbers}
use Rattle.st_parse_faults.specs.DefinitionNumbers.{members_size, defs_size, word_entry, word_numbers, hints_numbers, alone, member_begins, field_numbers, case_numbers, args_numbers, def_begins, defs_numbers}
use Rattle.st_parse_faults.specs.Nesting.{nesting_after, brackets_behind}
use Rattle.st_parse_faults.specs.inner.Bars.{bars, may_open}
use Rattle.st_parse_faults.specs.inner.Limits.{part_passes}
use Rattle.st_parse_faults.specs.inner.PositionNumbers.{head_numbers, host_depth, host_numbers, read_numbers, brackets, counts, args_size, defs_counts, counts_in}
use Rattle.st_parse_faults.proofs.NumberFacts.{or_false}
use Rattle.st_parse_faults.proofs.NumberSteps.{not_above}
use Rattle.st_parse_faults.proofs.PositionNumberFacts.{no_way, still_nests, is_word, signed_still, label_still, bar_still, word_still, brace_opens, round_closes, brace_closes, words_more, behind_more, balanced, event_entry, syntax_numbers, fields_counts, cases_counts, def_number}
use Rattle.st_parse_faults.proofs.NumberedSteps.{Front, front_of, Ready, Step, StepTo, step_if, step_when, step_by, flat, quiet, shuts, opener}

-- ---- definitions begin

one_def : (f : Front) (ds : Defs) (l : Terminal) (next : State) → f.entries ≡ defs_numbers ds → f.nest ≡ 0 → f.count ≡ defs_counts ds → is_word (keyword l) ≡ true
    → read_numbers next ≡ defs_numbers ds ++ def_begins ds ∷ [] → event f.due next ≡ Definition → counts_in next ≡ counts (defs_size ds + 1) 0 0 0 → part_passes next ≡ false → brackets next ≡ 0 → bars next ≡ 0 → Ready next
    → Step f l next
one_def f ds l next i n c t g d k p b z r =
    let same : f.count.definitions ≡ defs_size ds = ap (λ (v : Counts). v.definitions) c ∙ def_number ds in
    flat f l next (def_begins ds) Definition (g ∙ ap (λ v. v ++ def_begins ds ∷ []) (sym i)) d (k ∙ ap (λ v. counts (v + 1) 0 0 0) (sym same)) (ap (λ v. list_any too_many (event_entry Definition v)) (sym k)) refl (λ h. p)
    (b ∙ sym n ∙ sym (still_nests l f.nest (word_still l t))) (omega (arith, b)) z r

pub defs_steps : (f : Front) (ds : Defs) (l : Terminal) → f.entries ≡ defs_numbers ds → f.nest ≡ 0 → f.count ≡ defs_counts ds → (k : Keyword) → keyword l ≡ k → StepTo f l (begin_def ds l k)
defs_steps f ds l i n c key.SyntaxWord e = one_def f ds l (at (syntax_name ds l)) i n c (ap is_word e) refl refl refl refl refl refl tt
defs_steps f ds l i n c key.RelationWord e = one_def f ds l (at (relation_name ds l)) i n c (ap is_word e) refl refl refl refl refl refl tt
defs_steps f ds l i n c key.RuleWord e = one_def f ds l (at (rule_name ds l)) i n c (ap is_word e) refl refl refl refl refl refl tt
defs_steps f ds l i n c key.VarWord e = one_def f ds l (at (var_name ds l)) i n c (ap is_word e) refl refl refl refl refl refl tt
defs_steps f ds l i n c key.DefWord e = one_def f ds l (at (fun_name ds l)) i n c (ap is_word e) refl refl refl refl refl refl tt
defs_steps f ds l i n c key.HintWord e = tt
defs_steps f ds l i n c key.IfWord e = tt
defs_steps f ds l i n c key.OtherwiseWord e = tt
defs_steps f ds l i n c key.Dashes e = tt
defs_steps f ds l i n c key.NoWord e = tt

-- ---- bodies

two_more : (a b : List (List Number)) → a ++ (b ++ ([] ∷ [] ∷ [])) ≡ (a ++ (b ++ [] ∷ [])) ++ [] ∷ []
two_more a b = simp append_assoc

case_steps : (h : Head) (ms : Members) (pre : List Terminal) (l : Terminal) → StepTo (front_of (at (entering (case_slot h ms pre)))) l (enter_case h ms pre l)
case_steps h no_members [] l =
    step_if f l (opens_brace l) (at (field_name h l no_members [])) _
    (λ e. opener f l (at (field_name h l no_members [])) 0 (brace_opens l e) refl (ap (λ v. v ++ open_entry [] 1 ∷ []) (sym (append-nil (head_numbers h)))) refl refl (λ q. refl) refl refl tt)
    (λ e. step_if f l (signed is_dots l) (at (dotted h l)) _
    (λ i. quiet f l (at (dotted h l)) (signed_still is_dots l i) none_before refl refl (λ q. refl) refl refl tt)
    (λ i. step_when f l (is_bar l) (at (entering (case_slot h no_members (l ∷ [])))) (λ j. quiet f l (at (entering (case_slot h no_members (l ∷ [])))) (bar_still l j) none_before refl refl (λ q. refl) refl refl tt)))
  where
    f : Front
    f = front_of (at (entering (case_slot h no_members [])))

    none_before : head_numbers h ++ [] ∷ [] ≡ (head_numbers h ++ []) ++ [] ∷ []
    none_before = ap (λ v. v ++ [] ∷ []) (sym (append-nil (head_numbers h)))
case_steps h no_members (b ∷ ls) l = tt
case_steps h (member ms q t hs) [] l = tt
case_steps h (member ms q t hs) (b ∷ []) l =
    let x = at (between (syntax_whole h (cases (member ms q t hs) (b ∷ l ∷ [])))) in
    let f = front_of (at (entering (case_slot h (member ms q t hs) (b ∷ [])))) in
    step_when f l (signed is_dots l) x
    (λ e. quiet f l x (signed_still is_dots l e) (syntax_numbers h (cases (member ms q t hs) (b ∷ l ∷ [])) ∙ two_more (head_numbers h) (case_numbers (member ms q t hs))) refl (cases_counts h (member ms q t hs) (b ∷ l ∷ [])) (λ q. refl) refl refl tt)
case_steps h (member ms q t hs) (b ∷ c ∷ ls) l = tt

pub other_steps : (s : Slot) (l : Terminal) → StepTo (front_of (at (entering s))) l (enter_other s l)
other_steps (field_slot h o ms pre) l = tt
other_steps (case_slot h ms pre) l = case_steps h ms pre l
other_steps (var_slot ds w x c) l = tt
other_steps (notation_slot ds w r hs c) l = tt
other_steps (fun_slot ds w f a c) l = tt
other_steps (arg_slot ds w f o none []) l =
    let x = at (args_closed ds w f o none l) in
    let g = front_of (at (entering (arg_slot ds w f o none []))) in
    step_when g l (closes_round l) x (λ e. shuts g l x (simp append_assoc) refl refl (λ q. refl) (round_closes l 1 e) refl refl tt)
other_steps (arg_slot ds w f o none (p ∷ pre)) l = tt
other_steps (arg_slot ds w f o (more ts q t) pre) l = tt
other_steps (rule_slot r) l = tt
other_steps (cond_slot r t ps d os ls) l = tt
other_steps (count_slot r t ps d os ls u i m) l = tt

label_deep : (b : Bool) (n : ℕ) → list_any too_deep (if b then number.member n ∷ [] else []) ≡ false
label_deep true n = refl
label_deep false n = refl

label_numbers : (a f p : List (List Number)) (o e : List Number) → (a ++ (o ∷ (f ++ (p ++ e ∷ [])))) ++ [] ≡ (a ++ (o ∷ (f ++ p))) ++ e ∷ []
label_numbers a f p o e = simp (append_assoc, append-nil)

label_begins : (h : Head) (o : Terminal) (ms : Members) (pre : List Terminal) (l : Terminal) → is_label l ≡ true → Step (front_of (at (field_name h o ms pre))) l (begun (field_slot h o ms (pre ++ l ∷ [])))
label_begins h o ms pre l e =
    flat (front_of (at (field_name h o ms pre))) l (begun (field_slot h o ms (pre ++ l ∷ []))) (label_entry (member_begins ms) l) Member
    (ap (λ v. (head_numbers h ++ (open_entry [] 1 ∷ (field_numbers ms ++ v))) ++ []) (map-append (label_entry (member_begins ms)) pre (l ∷ []))
    ∙ label_numbers (head_numbers h) (field_numbers ms) (map (label_entry (member_begins ms)) pre) (open_entry [] 1) (label_entry (member_begins ms) l))
    refl refl (ap (λ b. list_any too_many (if b then member_begins ms else [])) e) (label_deep (is_label l) (members_size ms + 1)) (λ q. refl) (sym (still_nests l 1 (label_still l e))) (omega arith) refl tt

fields_more : (a f : List (List Number)) (o : List Number) → a ++ (o ∷ (f ++ [] ∷ [])) ≡ (a ++ (o ∷ (f ++ []))) ++ [] ∷ []
fields_more a f o = simp (append_assoc, append-nil)

pub field_steps : (h : Head) (o : Terminal) (ms : Members) (pre : List Terminal) (l : Terminal) → PositionHolds (field_name h o ms pre) → StepTo (front_of (at (field_name h o ms pre))) l (field_step h o ms pre l)
field_steps h o no_members [] l k =
    let f = front_of (at (field_name h o no_members [])) in
    let x = at (between (syntax_whole h (fields o no_members l))) in
    step_if f l (is_label l) (begun (field_slot h o no_members (l ∷ []))) (when (closes_brace l) x) (λ e. label_begins h o no_members [] l e)
    (λ e. step_when f l (closes_brace l) x (λ i. shuts f l x (syntax_numbers h (fields o no_members l) ∙ fields_more (head_numbers h) [] (open_entry [] 1)) refl (fields_counts h o no_members l) (λ q. refl) (brace_closes l 1 i) refl refl tt))
field_steps h o no_members (p ∷ pre) l k = absurd k.3
field_steps h o (member ms q t hs) pre l k = step_when (front_of (at (field_name h o (member ms q t hs) pre))) l (is_label l) (begun (field_slot h o (member ms q t hs) (pre ++ l ∷ []))) (λ e. label_begins h o (member ms q t hs) pre l e)

-- ---- hints

no_label : (p : Mark → Bool) (l : Terminal) (b : List Number) → signed p l ≡ true → label_entry b l ≡ []
no_label p (leaf k x) b e = absurd (no_way e)
no_label p (dot x) b e = refl
no_label p (sign m x) b e = refl
no_label p (opening k x) b e = refl
no_label p (closing c x) b e = refl
no_label p (other x) b e = refl

field_more : (a f m t s : List (List Number)) (o : List Number) → a ++ (o ∷ ((f ++ (m ++ (t ++ s))) ++ [] ∷ [])) ≡ ((a ++ (o ∷ (f ++ (m ++ t)))) ++ s) ++ [] ∷ []
field_more a f m t s o = simp append_assoc

equal_step : (ds : Defs) (w x : Terminal) (ls : List Terminal) (hs : Hints) (l : Terminal) → StepTo (front_of (at (hinted (of_syntax ds w x ls) hs))) l (when (signed is_equal l) (at (entering (case_slot (syntax_head ds w x ls hs l) no_members []))))
equal_step ds w x ls hs l =
    let f = front_of (at (hinted (of_syntax ds w x ls) hs)) in
    step_when f l (signed is_equal l) (at (entering (case_slot (syntax_head ds w x ls hs l) no_members [])))
    (λ e. quiet f l (at (entering (case_slot (syntax_head ds w x ls hs l) no_members []))) (signed_still is_equal l e) (simp (append_assoc, append-nil)) refl refl (λ q. refl) refl refl tt)

host_steps : (h : Host) (hs : Hints) (l : Terminal) → StepTo (front_of (at (hinted h hs))) l (host_step h hs l)
host_steps (of_syntax ds w x []) no_hints l =
    let f = front_of (at (hinted (of_syntax ds w x []) no_hints)) in
    step_if f l (signed is_slash l) (at (syntax_id ds w x (l ∷ []) true)) _
    (λ e. quiet f l (at (syntax_id ds w x (l ∷ []) true)) (signed_still is_slash l e) (simp (append_assoc, append-nil)) refl refl (λ q. refl) refl refl tt)
    (λ e. equal_step ds w x [] no_hints l)
host_steps (of_syntax ds w x []) (more_hints hs j) l = equal_step ds w x [] (more_hints hs j) l
host_steps (of_syntax ds w x (p ∷ ls)) hs l = equal_step ds w x (p ∷ ls) hs l
host_steps (of_field h o ms pre t) hs l =
    let f = front_of (at (hinted (of_field h o ms pre t) hs)) in
    let ns = member ms pre t hs in
    let x = at (between (syntax_whole h (fields o ns l))) in
    let same = field_more (head_numbers h) (field_numbers ms) (map (label_entry (member_begins ms)) pre) (numbers (alone typ 1 []) t) (hints_numbers 1 hs) (open_entry [] 1) in
    step_if f l (signed is_comma l) (at (field_name h o ns (l ∷ []))) (when (closes_brace l) x)
    (λ e. quiet f l (at (field_name h o ns (l ∷ []))) (signed_still is_comma l e) (ap (λ v. head_numbers h ++ (open_entry [] 1 ∷ (field_numbers ns ++ v ∷ []))) (no_label is_comma l (member_begins ns) e) ∙ same) refl refl (λ q. refl) refl refl tt)
    (λ e. step_when f l (closes_brace l) x (λ i. shuts f l x (syntax_numbers h (fields o ns l) ∙ same) refl (fields_counts h o ns l) (λ q. refl) (brace_closes l 1 i) refl refl tt))
host_steps (of_case h ms pre t) hs l =
    let f = front_of (at (hinted (of_case h ms pre t) hs)) in
    let x = at (entering (case_slot h (member ms pre t hs) (l ∷ []))) in
    step_when f l (is_bar l) x (λ e. quiet f l x (bar_still l e) (simp append_assoc) refl refl (λ q. refl) refl refl tt)
host_steps (of_var ds w x c t) hs l = tt
host_steps (of_relation ds w r) hs l =
    let f = front_of (at (hinted (of_relation ds w r) hs)) in
    step_when f l (signed is_colon l) (begun (notation_slot ds w r hs l)) (λ e. quiet f l (begun (notation_slot ds w r hs l)) (signed_still is_colon l e) (simp (append_assoc, append-nil)) refl refl (λ q. refl) refl refl tt)
host_steps (of_notation ds w r hs c t) js l = tt
host_steps (of_fun ds w f a c t) hs l = tt

pub hints_steps : (h : Host) (hs : Hints) (l : Terminal) (w : Keyword) → keyword l ≡ w → StepTo (front_of (at (hinted h hs))) l (hint_or w h hs l)
hints_steps h hs l key.HintWord e =
    quiet (front_of (at (hinted h hs))) l (at (hint_open h hs l)) (word_still l (ap is_word e)) (sym (append_assoc (host_numbers h) (hints_numbers (host_depth h) hs) ([] ∷ []))) refl refl (λ q. refl) refl refl tt
hints_steps h hs l key.SyntaxWord e = host_steps h hs l
hints_steps h hs l key.RelationWord e = host_steps h hs l
hints_steps h hs l key.RuleWord e = host_steps h hs l
hints_steps h hs l key.VarWord e = host_steps h hs l
hints_steps h hs l key.DefWord e = host_steps h hs l
hints_steps h hs l key.IfWord e = host_steps h hs l
hints_steps h hs l key.OtherwiseWord e = host_steps h hs l
hints_steps h hs l key.Dashes e = host_steps h hs l
hints_steps h hs l key.NoWord e = host_steps h hs l

word_many : (k : ℕ) (l : Terminal) → list_any too_many (word_entry k l) ≡ false
word_many k (leaf j x) = refl
word_many k (dot x) = refl
word_many k (sign m x) = refl
word_many k (opening b x) = refl
word_many k (closing c x) = refl
word_many k (other x) = refl

word_deep : (k : ℕ) (l : Terminal) → k ≤ HIGHEST_TREE → (may_open l && nat_lt HIGHEST_TREE (nesting_after k l)) ≡ list_any too_deep (word_entry k l)
word_deep k (leaf j x) h = refl
word_deep k (dot x) h = refl
word_deep k (sign m x) h = refl
word_deep k (opening b x) h = sym (or_false (nat_lt HIGHEST_TREE (k + 1)))
word_deep k (closing closings_of.ByBar x) h = not_above HIGHEST_TREE k h
word_deep k (closing closings_of.ByRound x) h = refl
word_deep k (closing closings_of.BySquare x) h = refl
word_deep k (closing closings_of.ByBrace x) h = refl
word_deep k (other x) h = refl

word_stays : (k : ℕ) (l : Terminal) → may_open l ≡ false → nesting_after k l ≤ k
word_stays k (leaf j x) e = omega arith
word_stays k (dot x) e = omega arith
word_stays k (sign m x) e = omega arith
word_stays k (opening b x) e = let no : true ≡ false = e in absurd (cc)
word_stays k (closing closings_of.ByBar x) e = let no : true ≡ false = e in absurd (cc)
word_stays k (closing closings_of.ByRound x) e = omega arith
word_stays k (closing closings_of.BySquare x) e = omega arith
word_stays k (closing closings_of.ByBrace x) e = omega arith
word_stays k (other x) e = omega arith

hint_more : (a s : List (List Number)) (w o : List Number) (ws : List (List Number)) (e : List Number) → a ++ (s ++ (w ∷ o ∷ [] ∷ (ws ++ e ∷ []))) ≡ (a ++ (s ++ (w ∷ o ∷ [] ∷ ws))) ++ e ∷ []
hint_more a s w o ws e = simp append_assoc

pub words_steps : (h : Host) (hs : Hints) (w o n : Terminal) (ws : List Terminal) (cs : List Bracket) (l : Terminal) → scan balance_step [] ws ≡ Some cs → StepTo (front_of (at (hint_words h hs w o n ws cs))) l (hint_step h hs w o n ws cs l (balance_step cs l))
words_steps h hs w o n ws cs l k = go cs k (balance_step cs l)
  where
    d : ℕ
    d = host_depth h + 1

    on : (bs ds : List Bracket) → Step (front_of (at (hint_words h hs w o n ws bs))) l (at (hint_words h hs w o n (ws ++ l ∷ []) ds))
    on bs ds =
        step_by (front_of (at (hint_words h hs w o n ws bs))) l (at (hint_words h hs w o n (ws ++ l ∷ []) ds)) (word_entry (brackets_behind d ws) l) Nothing
        (ap (λ v. host_numbers h ++ (hints_numbers (host_depth h) hs ++ ([] ∷ open_entry [] d ∷ [] ∷ v))) (words_more d ws l)
        ∙ hint_more (host_numbers h) (hints_numbers (host_depth h) hs) [] (open_entry [] d) (word_numbers d ws) (word_entry (brackets_behind d ws) l))
        refl refl (word_many (brackets_behind d ws) l) (λ q. refl) (behind_more d ws l)
        (λ b.
        ap (λ v. may_open l && nat_lt HIGHEST_TREE v) (omega (arith, behind_more d ws l))
        ∙ word_deep (brackets_behind d ws) l (omega (arith, b)))
        (λ b. omega (arith, behind_more d ws l, word_stays (brackets_behind d ws) l b)) tt

    go : (bs : List Bracket) → scan balance_step [] ws ≡ Some bs → (b : Option (List Bracket)) → StepTo (front_of (at (hint_words h hs w o n ws bs))) l (hint_step h hs w o n ws bs l b)
    go bs e (Some ds) = on bs ds
    go [] e None =
        let same : brackets_behind d ws ≡ d = ap (λ v. brackets_behind v ws) (omega arith) ∙ balanced d ws [] [] e ∙ omega arith in
        step_when (front_of (at (hint_words h hs w o n ws []))) l (closes_round l) (at (hinted h (more_hints hs (hint w o n ws l))))
        (λ i. shuts (front_of (at (hint_words h hs w o n ws []))) l (at (hinted h (more_hints hs (hint w o n ws l))))
        (hint_more (host_numbers h) (hints_numbers (host_depth h) hs) [] (open_entry [] d) (word_numbers d ws) []) refl refl (λ q. refl) (round_closes l (brackets_behind d ws) i) (omega (arith, same)) refl tt)
    go (c ∷ bs) e None = tt

-- ---- heads of rules and clauses

pub colon_steps : (ds : Defs) (w r : Terminal) (ls : List Terminal) (d : Bool) (l : Terminal) → StepTo (front_of (at (rule_id ds w r ls d))) l (colon_step ds w r ls l)
colon_steps ds w r ls d l =
    step_when (front_of (at (rule_id ds w r ls d))) l (signed is_colon l) (begun (rule_slot (rule_head ds w r ls l)))
    (λ e. quiet (front_of (at (rule_id ds w r ls d))) l (begun (rule_slot (rule_head ds w r ls l))) (signed_still is_colon l e) (simp (append_assoc, append-nil)) refl refl (λ q. refl) refl refl tt)

-- what stands before the result of a function
abbrev pub named_front : Defs → Args → Front
named_front ds a = record {
  entries = defs_numbers ds ++ (def_begins ds ∷ [] ∷ args_numbers a);
  nest = 0;
  bar = 0;
  count = counts (defs_size ds + 1) 0 (args_size a) 0;
  due = false;
  passes = false;
}

pub result_steps : (ds : Defs) (w f : Terminal) (a : Args) (b : Bool) (l : Terminal) → StepTo (named_front ds a) l (result_step ds w f a b l)
result_steps ds w f a b l =
    step_if (named_front ds a) l (signed is_colon l && b) (begun (fun_slot ds w f a l)) (when (signed is_equal l) (begun (rule_slot (clause_head ds w f a l))))
    (λ e. quiet (named_front ds a) l (begun (fun_slot ds w f a l)) (signed_still is_colon l (and_left _ _ e)) (simp (append_assoc, append-nil)) refl refl (λ q. refl) refl refl tt)
    (λ e. step_when (named_front ds a) l (signed is_equal l) (begun (rule_slot (clause_head ds w f a l)))
    (λ i. quiet (named_front ds a) l (begun (rule_slot (clause_head ds w f a l))) (signed_still is_equal l i) (simp (append_assoc, append-nil)) refl refl (λ q. refl) refl refl tt))

pub id_steps : (f : Front) (l : Terminal) (e : Option Bool) (d : Bool) (next : Bool → State) (o : Option State) → ((b : Bool) → e ≡ Some b → Step f l (next b)) → StepTo f l o → StepTo f l (id_goes e d next o)
id_steps f l (Some b) d next o g h = g b refl
id_steps f l None true next o g h = tt
id_steps f l None false next o g h = h
