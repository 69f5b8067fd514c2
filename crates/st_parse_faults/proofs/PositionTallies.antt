-- Each token of definitions changes the tallies as the parser counts them.
use Rattle.std.proofs.Common.{◌≡◌, ℕ, ◌+◌, List, [], ◌∷◌, ◌++◌, Bool, true, false, ◌&&◌, ◌||◌, Option, Some, None, option_and_then, if◌then◌else◌, refl, sym, ap, subst, ◌∙◌, arith}
use Rattle.st_grammar.specs.declared.keyword.Keyword.{Keyword}
use Rattle.st_grammar.specs.declared.keyword.Keyword.TheVariants as key
use Rattle.st_grammar.specs.declared.sort.Bracket.{Bracket}
use Rattle.st_grammar.specs.Terminals.{Terminal}
use Rattle.st_grammar.specs.Levels.{is_iteration_sign, is_caret, is_comma, is_colon}
use Rattle.st_grammar.specs.Trees.{Tree, none, more}
use Rattle.st_grammar.specs.Definitions.{Defs, Hints, no_hints, more_hints, hint, Members, no_members, member, fields, cases, Iterations, closed, marked, Premises, more_premises, given, Args, args, no_args, keyword, touches, signed, is_slash, is_equal, is_dots, is_bar, opens_round, closes_round, opens_brace, closes_brace, is_low, is_fun, names_relation, is_name, id_step, balance_step, has_closed}
use Rattle.st_grammar.specs.Grammar.{is_label}
use Rattle.st_grammar.specs.Reading as part
use Rattle.st_grammar.specs.Positions.{Head, syntax_head, Rule, rule_head, clause_head, Host, of_syntax, of_field, of_case, of_var, of_relation, of_notation, of_fun, Slot, field_slot, case_slot, var_slot, notation_slot, fun_slot, arg_slot, rule_slot, cond_slot, count_slot, Position, between, syntax_name, var_name, var_colon, relation_name, rule_name, rule_colon, fun_name, fun_named, argued, args_closed, syntax_id, rule_id, hinted, hint_open, hint_name, hint_words, entering, dotted, field_name, premised, premise_open, goal_colon, iterated, State, at, inside, slot_sort, syntax_whole, is_whole, whole, begin_def, begun, when, enter, enter_case, enter_other, field_step, host_step, hint_or, hint_step, id_goes, colon_step, reads_types, result_step, premise_step, premise_word, next_premise, may_close, iterate, own, first_of_two, position_step, filled, taken, step}
use Rattle.st_grammar.proofs.PositionTexts as texts
use Rattle.st_parse_automaton.specs.inner.DefinitionAutomaton as definitions
use Rattle.st_parse_automaton.specs.inner.Shapes.{shape}
use Rattle.st_parse_automaton.proofs.View.{state_of}
use Rattle.st_parse_automaton.proofs.DefinitionView.{definitions_of, slot_of, slot_sort_is}
use Rattle.st_parse_faults.specs.declared.role.Attachment.{Attachment}
use Rattle.st_parse_faults.specs.declared.role.Attachment.TheVariants as attachment
use Rattle.st_parse_faults.specs.declared.tally.Tally.{Tally}
use Rattle.st_parse_faults.specs.Signs.{signs, all_signs}
use Rattle.st_parse_faults.specs.inner.Limits.{signs_in, fresh, part_tallies, signs_before, position_signs, tallies}
use Rattle.st_parse_faults.specs.inner.Roles.{part_attachment, attachment_of, signs_here, moved, part_begins, begun_or, tallies_after}
use Rattle.st_parse_faults.proofs.Tallies.{To}
use Rattle.st_parse_faults.proofs.TallyMoves.{lowers, part_moves}

abbrev pub After : Attachment → Terminal → List Tally → Option State → Type 0
After k l ys None = Unit {0}
After k l ys (Some next) = tallies next ≡ tallies_after k (shape l) (definitions_of next) ys

pub after_if : (k : Attachment) (l : Terminal) (ys : List Tally) (b : Bool) (x : State) (o : Option State) → After k l ys (Some x) → After k l ys o → After k l ys (if b then Some x else o)
after_if k l ys true x o f g = f
after_if k l ys false x o f g = g

pub after_both : (k : Attachment) (l : Terminal) (ys : List Tally) (b : Bool) (p o : Option State) → After k l ys p → After k l ys o → After k l ys (if b then p else o)
after_both k l ys true p o f g = f
after_both k l ys false p o f g = g

pub after_when : (k : Attachment) (l : Terminal) (ys : List Tally) (b : Bool) (x : State) → After k l ys (Some x) → After k l ys (when b x)
after_when k l ys true x f = f
after_when k l ys false x f = tt

-- ---- between parts

pub defs_after : (k : Attachment) (l : Terminal) (ys : List Tally) (ds : Defs) (w : Keyword) → After k l ys (begin_def ds l w)
defs_after k l ys ds key.SyntaxWord = refl
defs_after k l ys ds key.RelationWord = refl
defs_after k l ys ds key.RuleWord = refl
defs_after k l ys ds key.VarWord = refl
defs_after k l ys ds key.DefWord = refl
defs_after k l ys ds key.HintWord = tt
defs_after k l ys ds key.IfWord = tt
defs_after k l ys ds key.OtherwiseWord = tt
defs_after k l ys ds key.Dashes = tt
defs_after k l ys ds key.NoWord = tt

pub case_after : (k : Attachment) (ys : List Tally) (h : Head) (ms : Members) (pre : List Terminal) (l : Terminal) → After k l ys (enter_case h ms pre l)
case_after k ys h no_members [] l =
    after_if k l ys (opens_brace l) (at (field_name h l no_members [])) (if signed is_dots l then Some (at (dotted h l)) else when (is_bar l) (at (entering (case_slot h no_members (l ∷ []))))) refl
    (after_if k l ys (signed is_dots l) (at (dotted h l)) (when (is_bar l) (at (entering (case_slot h no_members (l ∷ []))))) refl (after_when k l ys (is_bar l) (at (entering (case_slot h no_members (l ∷ [])))) refl))
case_after k ys h no_members (b ∷ ls) l = tt
case_after k ys h (member ms q t hs) [] l = tt
case_after k ys h (member ms q t hs) (b ∷ []) l = after_when k l ys (signed is_dots l) (at (between (syntax_whole h (cases (member ms q t hs) (b ∷ l ∷ []))))) refl
case_after k ys h (member ms q t hs) (b ∷ c ∷ ls) l = tt

pub other_after : (k : Attachment) (ys : List Tally) (s : Slot) (l : Terminal) → After k l ys (enter_other s l)
other_after k ys (field_slot h o ms pre) l = tt
other_after k ys (case_slot h ms pre) l = case_after k ys h ms pre l
other_after k ys (var_slot ds w x c) l = tt
other_after k ys (notation_slot ds w r hs c) l = tt
other_after k ys (fun_slot ds w f a c) l = tt
other_after k ys (arg_slot ds w f o none []) l = after_when k l ys (closes_round l) (at (args_closed ds w f o none l)) refl
other_after k ys (arg_slot ds w f o none (p ∷ pre)) l = tt
other_after k ys (arg_slot ds w f o (more ts q t) pre) l = tt
other_after k ys (rule_slot r) l = tt
other_after k ys (cond_slot r t ps d os ls) l = tt
other_after k ys (count_slot r t ps d os ls u i m) l = tt

pub field_after : (k : Attachment) (ys : List Tally) (h : Head) (o : Terminal) (ms : Members) (pre : List Terminal) (l : Terminal) → After k l ys (field_step h o ms pre l)
field_after k ys h o no_members pre l =
    after_if k l ys (is_label l) (begun (field_slot h o no_members (pre ++ l ∷ []))) (when (closes_brace l) (at (between (syntax_whole h (fields o no_members l))))) refl
    (after_when k l ys (closes_brace l) (at (between (syntax_whole h (fields o no_members l)))) refl)
field_after k ys h o (member ms q t hs) pre l = after_when k l ys (is_label l) (begun (field_slot h o (member ms q t hs) (pre ++ l ∷ []))) refl

pub equal_after : (k : Attachment) (ys : List Tally) (ds : Defs) (w x : Terminal) (ls : List Terminal) (hs : Hints) (l : Terminal)
    → After k l ys (when (signed is_equal l) (at (entering (case_slot (syntax_head ds w x ls hs l) no_members []))))
equal_after k ys ds w x ls hs l = after_when k l ys (signed is_equal l) (at (entering (case_slot (syntax_head ds w x ls hs l) no_members []))) refl

pub host_after : (k : Attachment) (ys : List Tally) (h : Host) (hs : Hints) (l : Terminal) → After k l ys (host_step h hs l)
host_after k ys (of_syntax ds w x []) no_hints l =
    after_if k l ys (signed is_slash l) (at (syntax_id ds w x (l ∷ []) true)) (when (signed is_equal l) (at (entering (case_slot (syntax_head ds w x [] no_hints l) no_members [])))) refl
    (equal_after k ys ds w x [] no_hints l)
host_after k ys (of_syntax ds w x []) (more_hints hs j) l = equal_after k ys ds w x [] (more_hints hs j) l
host_after k ys (of_syntax ds w x (p ∷ ls)) hs l = equal_after k ys ds w x (p ∷ ls) hs l
host_after k ys (of_field h o ms pre t) hs l =
    after_if k l ys (signed is_comma l) (at (field_name h o (member ms pre t hs) (l ∷ []))) (when (closes_brace l) (at (between (syntax_whole h (fields o (member ms pre t hs) l))))) refl
    (after_when k l ys (closes_brace l) (at (between (syntax_whole h (fields o (member ms pre t hs) l)))) refl)
host_after k ys (of_case h ms pre t) hs l = after_when k l ys (is_bar l) (at (entering (case_slot h (member ms pre t hs) (l ∷ [])))) refl
host_after k ys (of_var ds w x c t) hs l = tt
host_after k ys (of_relation ds w r) hs l = after_when k l ys (signed is_colon l) (begun (notation_slot ds w r hs l)) refl
host_after k ys (of_notation ds w r hs c t) js l = tt
host_after k ys (of_fun ds w f a c t) hs l = tt

pub hints_after : (k : Attachment) (ys : List Tally) (h : Host) (hs : Hints) (l : Terminal) (w : Keyword) → After k l ys (hint_or w h hs l)
hints_after k ys h hs l key.HintWord = refl
hints_after k ys h hs l key.SyntaxWord = host_after k ys h hs l
hints_after k ys h hs l key.RelationWord = host_after k ys h hs l
hints_after k ys h hs l key.RuleWord = host_after k ys h hs l
hints_after k ys h hs l key.VarWord = host_after k ys h hs l
hints_after k ys h hs l key.DefWord = host_after k ys h hs l
hints_after k ys h hs l key.IfWord = host_after k ys h hs l
hints_after k ys h hs l key.OtherwiseWord = host_after k ys h hs l
hints_after k ys h hs l key.Dashes = host_after k ys h hs l
hints_after k ys h hs l key.NoWord = host_after k ys h hs l

pub words_after : (k : Attachment) (ys : List Tally) (h : Host) (hs : Hints) (w o n : Terminal) (ws : List Terminal) (cs : List Bracket) (l : Terminal) (b : Option (List Bracket)) → After k l ys (hint_step h hs w o n ws cs l b)
words_after k ys h hs w o n ws cs l (Some ds) = refl
words_after k ys h hs w o n ws [] l None = after_when k l ys (closes_round l) (at (hinted h (more_hints hs (hint w o n ws l)))) refl
words_after k ys h hs w o n ws (c ∷ cs) l None = tt

pub colon_after : (k : Attachment) (ys : List Tally) (ds : Defs) (w r : Terminal) (ls : List Terminal) (l : Terminal) → After k l ys (colon_step ds w r ls l)
colon_after k ys ds w r ls l = after_when k l ys (signed is_colon l) (begun (rule_slot (rule_head ds w r ls l))) refl

pub result_after : (k : Attachment) (ys : List Tally) (ds : Defs) (w f : Terminal) (a : Args) (b : Bool) (l : Terminal) → After k l ys (result_step ds w f a b l)
result_after k ys ds w f a b l =
    after_if k l ys (signed is_colon l && b) (begun (fun_slot ds w f a l)) (when (signed is_equal l) (begun (rule_slot (clause_head ds w f a l)))) refl
    (after_when k l ys (signed is_equal l) (begun (rule_slot (clause_head ds w f a l))) refl)

pub id_after : (k : Attachment) (ys : List Tally) (l : Terminal) (e : Option Bool) (d : Bool) (next : Bool → State) (o : Option State) → ((b : Bool) → After k l ys (Some (next b))) → After k l ys o → After k l ys (id_goes e d next o)
id_after k ys l (Some e) d next o f g = f e
id_after k ys l None true next o f g = tt
id_after k ys l None false next o f g = g

pub open_after : (k : Attachment) (ys : List Tally) (r : Rule) (t : Tree) (ps : Premises) (d : Terminal) (os : List Terminal) (l : Terminal) → After k l ys (premise_step r t ps d os l)
open_after k ys r t ps d os l =
    after_if k l ys (opens_round l) (at (premise_open r t ps d (os ++ l ∷ []))) (when (names_relation l) (at (goal_colon r t ps d os l))) refl
    (after_when k l ys (names_relation l) (at (goal_colon r t ps d os l)) refl)

pub premise_after : (k : Attachment) (ys : List Tally) (r : Rule) (t : Tree) (ps : Premises) (d : Terminal) (os : List Terminal) (l : Terminal) (w : Keyword) → After k l ys (premise_word w r t ps d os l)
premise_after k ys r t ps d os l key.IfWord = refl
premise_after k ys r t ps d [] l key.OtherwiseWord = refl
premise_after k ys r t ps d (o ∷ os) l key.OtherwiseWord = open_after k ys r t ps d (o ∷ os) l
premise_after k ys r t ps d os l key.HintWord = open_after k ys r t ps d os l
premise_after k ys r t ps d os l key.SyntaxWord = open_after k ys r t ps d os l
premise_after k ys r t ps d os l key.RelationWord = open_after k ys r t ps d os l
premise_after k ys r t ps d os l key.RuleWord = open_after k ys r t ps d os l
premise_after k ys r t ps d os l key.VarWord = open_after k ys r t ps d os l
premise_after k ys r t ps d os l key.DefWord = open_after k ys r t ps d os l
premise_after k ys r t ps d os l key.Dashes = open_after k ys r t ps d os l
premise_after k ys r t ps d os l key.NoWord = open_after k ys r t ps d os l

pub next_after : (k : Attachment) (ys : List Tally) (r : Rule) (t : Tree) (ps : Premises) (l : Terminal) (w : Keyword) → After k l ys (next_premise w r t ps l)
next_after k ys r t ps l key.Dashes = refl
next_after k ys r t ps l key.HintWord = tt
next_after k ys r t ps l key.SyntaxWord = tt
next_after k ys r t ps l key.RelationWord = tt
next_after k ys r t ps l key.RuleWord = tt
next_after k ys r t ps l key.VarWord = tt
next_after k ys r t ps l key.DefWord = tt
next_after k ys r t ps l key.IfWord = tt
next_after k ys r t ps l key.OtherwiseWord = tt
next_after k ys r t ps l key.NoWord = tt

pub iterate_after : (k : Attachment) (ys : List Tally) (r : Rule) (t : Tree) (ps : Premises) (d : Terminal) (os ls : List Terminal) (u : Tree) (i : Iterations) (l : Terminal) → After k l ys (iterate r t ps d os ls u i l)
iterate_after k ys r t ps d os ls u i l =
    after_if k l ys (closes_round l && may_close os i) (at (iterated r t ps d os ls u (closed i l))) _ refl
    (after_if k l ys (signed is_iteration_sign l && has_closed i) (at (iterated r t ps d os ls u (marked i l))) _ refl
    (after_if k l ys (signed is_caret l && has_closed i) (begun (count_slot r t ps d os ls u i l)) _ refl
    (after_both k l ys (is_whole os i) (next_premise (keyword l) r t (more_premises ps (given d os ls u i)) l) None (next_after k ys r t (more_premises ps (given d os ls u i)) l (keyword l)) tt)))

-- where a part may begin, none is read before; arguments are counted together
abbrev pub MayEnter : Position → Attachment → List Tally → Type 0
MayEnter (entering s) k ys = (k ≡ attachment.Begins) × (ys ≡ fresh (signs_before s) ∷ [])
MayEnter (argued ds w f o ts) k ys = signs_here ys ≡ all_signs ts
MayEnter p k ys = Unit {0}

pub begins_part : (s : Slot) (l : Terminal) (o : Option part.State) → To (signs_before s) attachment.Begins l (fresh (signs_before s) ∷ []) o → (q : Option State) → After attachment.Begins l (fresh (signs_before s) ∷ []) q
    → After attachment.Begins l (fresh (signs_before s) ∷ []) (enter s o q)
begins_part s l None t q f = f
begins_part s l (Some st) t q f =
    t.0 ∙ sym (ap (λ b. begun_or b (part_begins (slot_of s) (signs_before s)) (moved attachment.Begins (shape l) (state_of st) (fresh (signs_before s) ∷ []))) t.1)

pub enter_after : (s : Slot) (l : Terminal) → After attachment.Begins l (fresh (signs_before s) ∷ []) (enter s (part.step (part.start (slot_sort s)) l) (enter_other s l))
enter_after s l =
    begins_part s l (part.step (part.start (slot_sort s)) l) (part_moves (signs_before s) (part.start (slot_sort s)) l (tt, tt)) (enter_other s l)
    (other_after attachment.Begins (fresh (signs_before s) ∷ []) s l)

pub own_after : (k : Attachment) (ys : List Tally) (p : Position) (l : Terminal) → MayEnter p k ys → After k l ys (own p l)
own_after k ys (between ds) l m = tt
own_after k ys (syntax_name ds w) l m = after_when k l ys (is_low l) (at (hinted (of_syntax ds w l []) no_hints)) refl
own_after k ys (var_name ds w) l m = after_when k l ys (is_low l || is_label l) (at (var_colon ds w l)) refl
own_after k ys (var_colon ds w x) l m = after_when k l ys (signed is_colon l) (begun (var_slot ds w x l)) refl
own_after k ys (relation_name ds w) l m = after_when k l ys (names_relation l) (at (hinted (of_relation ds w l) no_hints)) refl
own_after k ys (rule_name ds w) l m = after_when k l ys (names_relation l) (at (rule_colon ds w l)) refl
own_after k ys (rule_colon ds w r) l m = after_if k l ys (signed is_slash l) (at (rule_id ds w r (l ∷ []) true)) (colon_step ds w r [] l) refl (colon_after k ys ds w r [] l)
own_after k ys (fun_name ds w) l m = after_when k l ys (is_fun l) (at (fun_named ds w l)) refl
own_after k ys (fun_named ds w f) l m =
    after_if k l ys (opens_round l && touches l) (at (entering (arg_slot ds w f l none []))) (result_step ds w f no_args true l) refl (result_after k ys ds w f no_args true l)
own_after k ys (argued ds w f o ts) l m =
    after_if k l ys (signed is_comma l) (begun (arg_slot ds w f o ts (l ∷ []))) (when (closes_round l) (at (args_closed ds w f o ts l))) (ap (λ v. fresh v ∷ []) (sym m))
    (after_when k l ys (closes_round l) (at (args_closed ds w f o ts l)) refl)
own_after k ys (args_closed ds w f o ts c) l m = result_after k ys ds w f (args o ts c) (reads_types ts) l
own_after k ys (syntax_id ds w x ls d) l m =
    id_after k ys l (id_step d l) d (λ b. at (syntax_id ds w x (ls ++ l ∷ []) b)) (hint_or (keyword l) (of_syntax ds w x ls) no_hints l) (λ b. refl) (hints_after k ys (of_syntax ds w x ls) no_hints l (keyword l))
own_after k ys (rule_id ds w r ls d) l m =
    id_after k ys l (id_step d l) d (λ b. at (rule_id ds w r (ls ++ l ∷ []) b)) (colon_step ds w r ls l) (λ b. refl) (colon_after k ys ds w r ls l)
own_after k ys (hinted h hs) l m = hints_after k ys h hs l (keyword l)
own_after k ys (hint_open h hs w) l m = after_when k l ys (opens_round l) (at (hint_name h hs w l)) refl
own_after k ys (hint_name h hs w o) l m = after_when k l ys (is_name l) (at (hint_words h hs w o l [] [])) refl
own_after k ys (hint_words h hs w o n ws cs) l m = words_after k ys h hs w o n ws cs l (balance_step cs l)
own_after k ys (entering s) l m =
    subst (λ j. After j l ys (own (entering s) l)) (sym m.0) (subst (λ zs. After attachment.Begins l zs (own (entering s) l)) (sym m.1) (enter_after s l))
own_after k ys (dotted h d) l m = after_when k l ys (is_bar l) (at (entering (case_slot h no_members (d ∷ l ∷ [])))) refl
own_after k ys (field_name h o ms pre) l m = field_after k ys h o ms pre l
own_after k ys (premised r t ps) l m = next_after k ys r t ps l (keyword l)
own_after k ys (premise_open r t ps d os) l m = premise_after k ys r t ps d os l (keyword l)
own_after k ys (goal_colon r t ps d os n) l m = after_when k l ys (signed is_colon l) (begun (cond_slot r t ps d os (n ∷ l ∷ []))) refl
own_after k ys (iterated r t ps d os ls u i) l m = iterate_after k ys r t ps d os ls u i l

pub position_after : (k : Attachment) (ys : List Tally) (p : Position) (l : Terminal) → MayEnter p k ys → After k l ys (position_step p l)
position_after k ys p l m = go (own p l) (own_after k ys p l m)
  where
    defs : (q : Option Defs) → After k l ys (option_and_then (λ ds. begin_def ds l (keyword l)) q)
    defs None = tt
    defs (Some ds) = defs_after k l ys ds (keyword l)

    go : (o : Option State) → After k l ys o → After k l ys (first_of_two o (option_and_then (λ ds. begin_def ds l (keyword l)) (whole p)))
    go (Some st) f = f
    go None f = defs (whole p)

-- ---- behind a part

pub signs_kept : (n : ℕ) (st : part.State) (t : Tree) → part.finish st ≡ Some t → signs_here (part_tallies n st) ≡ signs t + n
signs_kept n (part.want fs) t e = absurd (cc)
signs_kept n (part.naming h ts pre fs) t e = absurd (cc)
signs_kept n (part.pathed p fs) t e = absurd (cc)
signs_kept n (part.indexing o fs) t e = absurd (cc)
signs_kept n (part.comparing o i fs) t e = absurd (cc)
signs_kept n (part.got u (part.timing v m x fs)) t e = let no : None ≡ Some t = e in absurd (cc)
signs_kept n (part.got u (part.bottom σ)) t e = go (part.lower 0 u (part.bottom σ)) e (lowers n 0 u (part.bottom σ)).sign
  where
    go : (p : Tree × part.Frames) → part.ended p ≡ Some t → signs p.0 + signs_in n p.1 ≡ signs u + n → signs u + n ≡ signs t + n
    go (v, part.bottom τ) f g = let is : v ≡ t = cc in sym g ∙ ap (λ w. signs w + n) is
    go (v, part.within h ts pre fs) f g = let no : None ≡ Some t = f in absurd (cc)
    go (v, part.over h fs) f g = let no : None ≡ Some t = f in absurd (cc)
    go (v, part.timing w m x fs) f g = let no : None ≡ Some t = f in absurd (cc)
signs_kept n (part.got u (part.within h ts pre fs)) t e = let no : None ≡ Some t = e in absurd (cc)
signs_kept n (part.got u (part.over g fs)) t e = go (part.lower 0 u (part.over g fs)) e (lowers n 0 u (part.over g fs)).sign
  where
    go : (p : Tree × part.Frames) → part.ended p ≡ Some t → signs p.0 + signs_in n p.1 ≡ signs u + signs_in n (part.over g fs) → signs u + signs_in n (part.over g fs) ≡ signs t + n
    go (v, part.bottom τ) f h = let is : v ≡ t = cc in sym h ∙ ap (λ w. signs w + n) is
    go (v, part.within k ts pre fs) f h = let no : None ≡ Some t = f in absurd (cc)
    go (v, part.over k fs) f h = let no : None ≡ Some t = f in absurd (cc)
    go (v, part.timing w m x fs) f h = let no : None ≡ Some t = f in absurd (cc)

pub may_enter : (s : Slot) (k : Attachment) (st : part.State) (t : Tree) → part.finish st ≡ Some t → MayEnter (filled s t) k (part_tallies (signs_before s) st)
may_enter (field_slot h o ms pre) k st t e = tt
may_enter (case_slot h ms pre) k st t e = tt
may_enter (var_slot ds w x c) k st t e = tt
may_enter (notation_slot ds w r hs c) k st t e = tt
may_enter (fun_slot ds w f a c) k st t e = tt
may_enter (arg_slot ds w f o ts pre) k st t e = omega (arith, signs_kept (all_signs ts) st t e)
may_enter (rule_slot r) k st t e = tt
may_enter (cond_slot r t ps d os ls) k st u e = tt
may_enter (count_slot r t ps d os ls u i l) k st v e = tt

pub enters_at : (p : Position) → MayEnter p attachment.Begins (fresh (position_signs p) ∷ [])
enters_at (between ds) = tt
enters_at (syntax_name ds w) = tt
enters_at (var_name ds w) = tt
enters_at (var_colon ds w x) = tt
enters_at (relation_name ds w) = tt
enters_at (rule_name ds w) = tt
enters_at (rule_colon ds w r) = tt
enters_at (fun_name ds w) = tt
enters_at (fun_named ds w f) = tt
enters_at (argued ds w f o ts) = refl
enters_at (args_closed ds w f o ts c) = tt
enters_at (syntax_id ds w x ls d) = tt
enters_at (rule_id ds w r ls d) = tt
enters_at (hinted h hs) = tt
enters_at (hint_open h hs w) = tt
enters_at (hint_name h hs w o) = tt
enters_at (hint_words h hs w o n ws cs) = tt
enters_at (entering s) = (refl, refl)
enters_at (dotted h d) = tt
enters_at (field_name h o ms pre) = tt
enters_at (premised r t ps) = tt
enters_at (premise_open r t ps d os) = tt
enters_at (goal_colon r t ps d os n) = tt
enters_at (iterated r t ps d os ls u i) = tt

-- The tallies behind each token are those that the parser counts.
pub tallies_are : (st : State) (l : Terminal) → texts.Holds st → After (attachment_of (definitions_of st) (shape l)) l (tallies st) (step st l)
tallies_are (at p) l h = position_after attachment.Begins (fresh (position_signs p) ∷ []) p l (enters_at p)
tallies_are (inside s st) l h = go (part.step st l) moves
  where
    k : Attachment
    k = part_attachment (definitions.slot_sort (slot_of s)) (state_of st) (shape l)

    ys : List Tally
    ys = part_tallies (signs_before s) st

    moves : To (signs_before s) k l ys (part.step st l)
    moves =
        subst (λ σ. To (signs_before s) (part_attachment σ (state_of st) (shape l)) l ys (part.step st l)) (sym (slot_sort_is s ∙ sym h.2))
        (part_moves (signs_before s) st l h.1)

    behind : (q : Option Tree) → part.finish st ≡ q → After k l ys (option_and_then (λ t. position_step (filled s t) l) q)
    behind None e = tt
    behind (Some t) e = position_after k ys (filled s t) l (may_enter s k st t e)

    go : (o : Option part.State) → To (signs_before s) k l ys o → After k l ys (taken s st l o)
    go None m = behind (part.finish st) refl
    go (Some next) m = m.0 ∙ sym (ap (λ b. begun_or b (part_begins (slot_of s) (signs_here ys)) (moved k (shape l) (state_of next) ys)) m.1)
