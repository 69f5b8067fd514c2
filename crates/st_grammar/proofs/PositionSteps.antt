-- Each step of the reading of definitions goes from a position in order to one in order.
use Rattle.std.proofs.Common.{◌≡◌, ℕ, ◌+◌, ◌≤◌, List, [], ◌∷◌, ◌++◌, length, Bool, true, false, not, ◌&&◌, ◌==◌, Option, Some, None, option_and_then, if◌then◌else◌, refl, sym, ap, subst, ◌∙◌, append_assoc, append-nil, arith}
use Rattle.std.specs.List.{AllByRecursion}
use Rattle.st_num.specs.declared.mark.Mark.{Mark}
use Rattle.st_num.specs.declared.token.Token.{Token}
use Rattle.st_grammar.specs.declared.sort.Style.TheVariants.{Parts as parts}
use Rattle.st_grammar.specs.declared.keyword.Keyword.{Keyword}
use Rattle.st_grammar.specs.declared.keyword.Keyword.TheVariants.{SyntaxWord as syntax_word, RelationWord as relation_word, RuleWord as rule_word, VarWord as var_word, DefWord as def_word, HintWord as hint_word, IfWord as if_word, OtherwiseWord as otherwise_word, Dashes as dashes, NoWord as no_word}
use Rattle.st_grammar.specs.declared.sort.Leaf.TheVariants.{Low as low, Basic as basic, Variable as variable, Atom as atom, Number as number, Literal as literal, Function as function}
use Rattle.st_grammar.specs.declared.sort.Bracket.{Bracket}
use Rattle.st_grammar.specs.declared.sort.Bracket.TheVariants.{Round as round, Square as square, Brace as brace, TickRound as tick_round, TickSquare as tick_square, TickBrace as tick_brace, Dollar as dollar}
use Rattle.st_grammar.specs.declared.sort.Sort.TheVariants.{Expression as expression, Typ as typ}
use Rattle.st_grammar.specs.Terminals.{Terminal, leaf, dot, sign, opening, closing, other}
use Rattle.st_grammar.specs.Levels.{is_iteration_sign, is_type_iteration_sign, is_caret, is_colon, is_comma}
use Rattle.st_grammar.specs.Trees.{Tree, operand, post, times, bracket, led, Trees, none, more, plain, length as bars, arguments, index, segment, update, below, text}
use Rattle.st_grammar.specs.Grammar.{is_label, SetsOff, Fits, EachFits}
use Rattle.st_grammar.specs.Reading as part
use Rattle.st_grammar.specs.Definitions.{keyword, signed, is_slash, is_equal, is_dots, is_bar, opens_round, closes_round, opens_brace, closes_brace, is_fun, names_relation, scan, id_step, FragmentFits, balance_step, hint, Hints, no_hints, more_hints, hints_text, HintsFit, Members, no_members, member, members_text, FieldsFit, Body, fields, cases, body_text, BodyFits, Iterations, closed, marked, closings, has_closed, wants_iteration, Premise, default, given, premise_text, OpensRound, Premises, more_premises, premises_text, PremisesFit, Args, args_text, ArgsFit, syntax_def, rule_def, clause_def, Defs, more_defs, defs_text, DefsFit, ParseDefs}
use Rattle.st_grammar.specs.Positions.{Head, syntax_head, Rule, rule_head, clause_head, Host, of_syntax, of_field, of_case, of_var, of_relation, of_notation, of_fun, Slot, field_slot, case_slot, var_slot, notation_slot, fun_slot, arg_slot, rule_slot, cond_slot, count_slot, slot_sort, Position, between, syntax_name, var_name, var_colon, relation_name, rule_name, rule_colon, fun_name, fun_named, argued, args_closed, syntax_id, rule_id, hinted, hint_open, hint_name, hint_words, entering, dotted, field_name, premised, premise_open, goal_colon, iterated, State, at, inside, syntax_whole, rule_whole, host_whole, is_whole, whole, begun, when, enter, enter_case, enter_other, field_step, host_step, hint_or, hint_step, colon_step, reads_type, reads_types, result_step, premise_step, premise_word, next_premise, may_close, iterate}
use Rattle.st_grammar.proofs.Sound as sound
use Rattle.st_grammar.proofs.Sound.{and_left, and_right}
use Rattle.st_grammar.proofs.Steps as inner
use Rattle.st_grammar.proofs.PositionTexts.{head_text, ruled_text, host_text, slot_text, position_text, HeadFits, RuleFits, HostFits, CondHolds, Iterated, SlotFits, InId, PositionHolds, Reached, ReachedBy}

-- ---- tests

-- A test is passed and what follows is reached, or the rest is.
pub tested : (b : Bool) (us : List Terminal) (st : State) (o : Option State) → (b ≡ true → Reached us st) → ReachedBy us o → ReachedBy us (if b then Some st else o)
tested true us st o h k = h refl
tested false us st o h k = k

pub when_tested : (b : Bool) (us : List Terminal) (st : State) → (b ≡ true → Reached us st) → ReachedBy us (when b st)
when_tested b us st h = tested b us st None h tt

-- a position that holds, by its text
pub reach : (p : Position) (us : List Terminal) → PositionHolds p → position_text p ≡ us → Reached us (at p)
reach p us h e = record { holds = h; spelled = e }

-- a part that begins
pub begins : (s : Slot) (us : List Terminal) → SlotFits s → slot_text s ≡ us → Reached us (begun s)
begins s us f e = record { holds = (f, (tt, tt), refl); spelled = append-nil (slot_text s) ∙ e }

-- ---- what is whole

pub parsed : (ds : Defs) (us : List Terminal) → DefsFit ds → defs_text ds ≡ us → ParseDefs us ds
parsed ds us f e = record { fits = f; spelled = sym e }

abbrev pub ParsedAs : List Terminal → Option Defs → Type 0
ParsedAs us None = Unit {0}
ParsedAs us (Some ds) = ParseDefs us ds

pub syntax_parsed : (h : Head) (b : Body) (us : List Terminal) → HeadFits h → BodyFits b → head_text h ++ body_text b ≡ us → ParseDefs us (syntax_whole h b)
syntax_parsed (syntax_head ds w x ls hs e) b us f g t =
    parsed (more_defs ds (syntax_def w x ls hs e b)) us (f.0, (f.1, f.2, f.3, f.4, f.5, g)) (spelled ∙ t)
  where
    spelled : defs_text ds ++ (w ∷ x ∷ (ls ++ (hints_text hs ++ (e ∷ body_text b)))) ≡ (defs_text ds ++ (w ∷ x ∷ (ls ++ (hints_text hs ++ e ∷ [])))) ++ body_text b
    spelled = simp append_assoc

pub rule_parsed : (r : Rule) (t : Tree) (ps : Premises) (us : List Terminal) → RuleFits r → Fits (expression false) t → PremisesFit ps → ruled_text r t ps ≡ us → ParseDefs us (rule_whole r t ps)
rule_parsed (rule_head ds w r ls c) t ps us f g k e =
    parsed (more_defs ds (rule_def w r ls c t ps)) us (f.0, (f.1, f.2, f.3, f.4, g, k)) (spelled ∙ e)
  where
    spelled : defs_text ds ++ (w ∷ r ∷ (ls ++ (c ∷ (text t ++ premises_text ps)))) ≡ (defs_text ds ++ (w ∷ r ∷ (ls ++ c ∷ []))) ++ (text t ++ premises_text ps)
    spelled = simp append_assoc
rule_parsed (clause_head ds w r a c) t ps us f g k e =
    parsed (more_defs ds (clause_def w r a c t ps)) us (f.0, (f.1, f.2, f.3, f.4, g, k)) (spelled ∙ e)
  where
    spelled : defs_text ds ++ (w ∷ r ∷ (args_text a ++ (c ∷ (text t ++ premises_text ps)))) ≡ (defs_text ds ++ (w ∷ r ∷ (args_text a ++ c ∷ []))) ++ (text t ++ premises_text ps)
    spelled = simp append_assoc

pub host_readingd : (h : Host) (hs : Hints) → HostFits h → HintsFit hs → ParsedAs (host_text h ++ hints_text hs) (host_whole h hs)
host_readingd (of_syntax ds w x ls) hs f g = tt
host_readingd (of_field h o ms pre t) hs f g = tt
host_readingd (of_case h ms pre t) hs f g =
    syntax_parsed h (cases (member ms pre t hs) []) (host_text (of_case h ms pre t) ++ hints_text hs) f.0 ((f.1, f.2, f.3, g), refl, tt) (simp (append_assoc, append-nil))
host_readingd (of_var ds w x c t) hs f g = parsed _ _ (f.0, (f.1, f.2, f.3, f.4, g)) (simp append_assoc)
host_readingd (of_relation ds w r) hs f g = tt
host_readingd (of_notation ds w r hs c t) ks f g = parsed _ _ (f.0, (f.1, f.2, f.3, f.4, f.5, g)) (simp append_assoc)
host_readingd (of_fun ds w k a c t) hs f g = parsed _ _ (f.0, (f.1, f.2, f.3, f.4, f.5, g)) (simp append_assoc)

pub is_same : (a b : ℕ) → a == b ≡ true → a ≡ b
is_same a b e = grind arith

pub not_true : (b : Bool) → not b ≡ true → b ≡ false
not_true true e = absurd (cc)
not_true false e = refl

pub is_not_same : (a b : ℕ) → a ≤ b → not (a == b) ≡ true → a + 1 ≤ b
is_not_same a b h e = go (a == b) refl e
  where
    go : (c : Bool) → a == b ≡ c → not c ≡ true → a + 1 ≤ b
    go true i k = absurd (cc)
    go false i k = grind arith

pub premise_fits : (r : Rule) (t : Tree) (ps : Premises) (d : Terminal) (os ls : List Terminal) (u : Tree) (i : Iterations) → Iterated r t ps d os ls u i → is_whole os i ≡ true
    → PremisesFit (more_premises ps (given d os ls u i))
premise_fits r t ps d os ls u i f e =
    (f.cond.2, (f.cond.3, f.cond.4, f.begins, f.fits, f.iterations, is_same (closings i) (length os) (and_left _ _ e), not_true (wants_iteration i) (and_right _ _ e)))

pub premise_spelled : (r : Rule) (t : Tree) (ps : Premises) (p : Premise) → ruled_text r t (more_premises ps p) ≡ ruled_text r t ps ++ premise_text p
premise_spelled r t ps p = simp append_assoc

pub wholes : (p : Position) → PositionHolds p → ParsedAs (position_text p) (whole p)
wholes (between ds) h = parsed ds (defs_text ds) h refl
wholes (hinted k hs) h = host_readingd k hs h.0 h.1
wholes (premised r t ps) h = rule_parsed r t ps (ruled_text r t ps) h.0 h.1 h.2 refl
wholes (iterated r t ps d os ls u i) f = go (is_whole os i) refl
  where
    go : (b : Bool) → is_whole os i ≡ b → ParsedAs (position_text (iterated r t ps d os ls u i)) (if b then Some (rule_whole r t (more_premises ps (given d os ls u i))) else None)
    go true e =
        rule_parsed r t (more_premises ps (given d os ls u i)) (position_text (iterated r t ps d os ls u i)) f.cond.0 f.cond.1 (premise_fits r t ps d os ls u i f e)
        (premise_spelled r t ps (given d os ls u i))
    go false e = tt
wholes (syntax_name ds w) h = tt
wholes (var_name ds w) h = tt
wholes (var_colon ds w x) h = tt
wholes (relation_name ds w) h = tt
wholes (rule_name ds w) h = tt
wholes (rule_colon ds w r) h = tt
wholes (fun_name ds w) h = tt
wholes (fun_named ds w f) h = tt
wholes (argued ds w f o ts) h = tt
wholes (args_closed ds w f o ts c) h = tt
wholes (syntax_id ds w x ls d) h = tt
wholes (rule_id ds w r ls d) h = tt
wholes (hint_open k hs w) h = tt
wholes (hint_name k hs w o) h = tt
wholes (hint_words k hs w o n ws cs) h = tt
wholes (entering s) h = tt
wholes (dotted k d) h = tt
wholes (field_name k o ms pre) h = tt
wholes (premise_open r t ps d os) h = tt
wholes (goal_colon r t ps d os n) h = tt

pub reach_whole : (us : List Terminal) (ds : Defs) → ParseDefs us ds → Reached us (at (between ds))
reach_whole us ds p = record { holds = p.fits; spelled = sym p.spelled }

-- ---- types read as expressions

mutual
  pub type_fits : (t : Tree) (b : Bool) → Fits (expression b) t → reads_type t ≡ true → Fits typ t
  type_fits (operand low x) b f e = refl
  type_fits (operand basic x) b f e = refl
  type_fits (operand variable x) b f e = absurd (cc)
  type_fits (operand atom x) b f e = absurd (cc)
  type_fits (operand number x) b f e = absurd (cc)
  type_fits (operand literal x) b f e = absurd (cc)
  type_fits (operand function x) b f e = absurd (cc)
  type_fits (post t (sign m x)) b f e = (and_left (is_type_iteration_sign m) (reads_type t) e, type_fits t b f.1 (and_right (is_type_iteration_sign m) (reads_type t) e), f.2)
  type_fits (post t (leaf k x)) b f e = absurd (cc)
  type_fits (post t (dot x)) b f e = absurd (cc)
  type_fits (post t (opening k x)) b f e = absurd (cc)
  type_fits (post t (closing c x)) b f e = absurd (cc)
  type_fits (post t (other x)) b f e = absurd (cc)
  type_fits (times t m x c) b f e = absurd (cc)
  type_fits (bracket (plain round o) ts c) b f e = (refl, refl, types_fit ts f.2 e, f.3)
  type_fits (bracket (plain square o) ts c) b f e = absurd (cc)
  type_fits (bracket (plain brace o) ts c) b f e = absurd (cc)
  type_fits (bracket (plain tick_round o) ts c) b f e = absurd (cc)
  type_fits (bracket (plain tick_square o) ts c) b f e = absurd (cc)
  type_fits (bracket (plain tick_brace o) ts c) b f e = absurd (cc)
  type_fits (bracket (plain dollar o) ts c) b f e = absurd (cc)
  type_fits (bracket (bars o) ts c) b f e = absurd (cc)
  type_fits (bracket (arguments g o) ts c) b f e = absurd (cc)
  type_fits (bracket (index t o) ts c) b f e = absurd (cc)
  type_fits (bracket (segment p o) ts c) b f e = absurd (cc)
  type_fits (bracket (update p m x) ts c) b f e = absurd (cc)
  type_fits (bracket (below o i m x) ts c) b f e = absurd (cc)
  type_fits (led g t) b f e = absurd (cc)

  pub types_fit : (ts : Trees) → EachFits (expression false) parts 1 ts → reads_types ts ≡ true → EachFits typ parts 1 ts
  types_fit none f e = tt
  types_fit (more ts pre t) f e = (types_fit ts f.0 (and_left (reads_types ts) (reads_type t) e), f.1, type_fits t false f.2 (and_right (reads_types ts) (reads_type t) e), f.3, tt)

-- ---- small facts

pub signed_is : (p : Mark → Bool) (l : Terminal) → signed p l ≡ true → (m : Mark) × (x : Token) × (l ≡ sign m x) × (p m ≡ true)
signed_is p (leaf k x) e = absurd (cc)
signed_is p (dot x) e = absurd (cc)
signed_is p (sign m x) e = (m, x, refl, e)
signed_is p (opening k x) e = absurd (cc)
signed_is p (closing c x) e = absurd (cc)
signed_is p (other x) e = absurd (cc)

pub comma_sets_off : (ts : Trees) (pre : List Terminal) (t : Tree) (l : Terminal) → signed is_comma l ≡ true → SetsOff parts (more ts pre t) (l ∷ [])
comma_sets_off ts pre t l e = let s = signed_is is_comma l e in (s.0, s.1, ap (λ k. k ∷ []) s.2, s.3)

pub scan_more : {S : Type 0} (one : S → Terminal → Option S) (s r : S) (o : Option S) (ls : List Terminal) (l : Terminal) → scan one s ls ≡ Some r → one r l ≡ o → scan one s (ls ++ l ∷ []) ≡ o
scan_more one s r o [] l e f =
    let same : s ≡ r = cc in
    last (one s l) (ap (λ q. one q l) same ∙ f)
  where
    last : (q : Option _) → q ≡ o → option_and_then (λ v. scan one v []) q ≡ o
    last None g = g
    last (Some v) g = g
scan_more one s r o (k ∷ ls) l e f = go (one s k) e (λ v h. scan_more one v r o ls l h f)
  where
    go : (q : Option _) → option_and_then (λ v. scan one v ls) q ≡ Some r → ((v : _) → scan one v ls ≡ Some r → scan one v (ls ++ l ∷ []) ≡ o) → option_and_then (λ v. scan one v (ls ++ l ∷ [])) q ≡ o
    go None h k2 = absurd (cc)
    go (Some v) h k2 = k2 v h

pub in_id_more : (ls : List Terminal) (d e : Bool) (l : Terminal) → InId ls d → id_step d l ≡ Some e → InId (ls ++ l ∷ []) e
in_id_more [] d e l h k = absurd h
in_id_more (s ∷ ls) d e l h k = (h.0, scan_more id_step true d (Some e) ls l h.1 k)

pub id_whole : (ls : List Terminal) → InId ls false → FragmentFits ls
id_whole [] h = absurd h
id_whole (s ∷ ls) h = h

pub opens_more : (os : List Terminal) (l : Terminal) → AllByRecursion OpensRound os → opens_round l ≡ true → AllByRecursion OpensRound (os ++ l ∷ [])
opens_more [] l h e = (e, tt)
opens_more (o ∷ os) l h e = (h.0, opens_more os l h.1 e)

-- ---- steps of positions

pub colons : (ds : Defs) (w r : Terminal) (ls : List Terminal) (l : Terminal) → DefsFit ds → keyword w ≡ rule_word → names_relation r ≡ true → FragmentFits ls
    → ReachedBy ((defs_text ds ++ (w ∷ r ∷ ls)) ++ l ∷ []) (colon_step ds w r ls l)
colons ds w r ls l f k n g = when_tested (signed is_colon l) _ _ (λ e. begins (rule_slot (rule_head ds w r ls l)) _ (f, k, n, g, e) (simp append_assoc))

pub results : (ds : Defs) (w f : Terminal) (a : Args) (b : Bool) (l : Terminal) (us : List Terminal) → DefsFit ds → keyword w ≡ def_word → is_fun f ≡ true → ArgsFit (expression false) a → (b ≡ true → ArgsFit typ a)
    → defs_text ds ++ (w ∷ f ∷ args_text a) ≡ us → ReachedBy (us ++ l ∷ []) (result_step ds w f a b l)
results ds w f a b l us h k n g t e =
    tested (signed is_colon l && b) (us ++ l ∷ []) (begun (fun_slot ds w f a l)) (when (signed is_equal l) (begun (rule_slot (clause_head ds w f a l))))
    (λ c. begins (fun_slot ds w f a l) (us ++ l ∷ []) (h, k, n, t (and_right _ _ c), and_left _ _ c) (spelled ∙ ap (λ u. u ++ l ∷ []) e))
    (when_tested (signed is_equal l) (us ++ l ∷ []) (begun (rule_slot (clause_head ds w f a l))) (λ c. begins (rule_slot (clause_head ds w f a l)) (us ++ l ∷ []) (h, k, n, g, c) (spelled ∙ ap (λ u. u ++ l ∷ []) e)))
  where
    spelled : defs_text ds ++ (w ∷ f ∷ (args_text a ++ l ∷ [])) ≡ (defs_text ds ++ (w ∷ f ∷ args_text a)) ++ l ∷ []
    spelled = simp append_assoc

pub fields_end : (h : Head) (o : Terminal) (ms : Members) (l : Terminal) (us : List Terminal) → HeadFits h → opens_brace o ≡ true → FieldsFit ms → head_text h ++ (o ∷ members_text ms) ≡ us
    → ReachedBy (us ++ l ∷ []) (when (closes_brace l) (at (between (syntax_whole h (fields o ms l)))))
fields_end h o ms l us f g k e =
    when_tested (closes_brace l) (us ++ l ∷ []) (at (between (syntax_whole h (fields o ms l))))
    (λ c. reach_whole (us ++ l ∷ []) (syntax_whole h (fields o ms l)) (syntax_parsed h (fields o ms l) (us ++ l ∷ []) f (g, k, c) (spelled ∙ ap (λ u. u ++ l ∷ []) e)))
  where
    spelled : head_text h ++ (o ∷ (members_text ms ++ l ∷ [])) ≡ (head_text h ++ (o ∷ members_text ms)) ++ l ∷ []
    spelled = simp append_assoc

pub body_enters : (ds : Defs) (w x : Terminal) (ls : List Terminal) (hs : Hints) (l : Terminal) → HostFits (of_syntax ds w x ls) → HintsFit hs
    → ReachedBy ((host_text (of_syntax ds w x ls) ++ hints_text hs) ++ l ∷ []) (when (signed is_equal l) (at (entering (case_slot (syntax_head ds w x ls hs l) no_members []))))
body_enters ds w x ls hs l f g =
    when_tested (signed is_equal l) _ _ (λ e. reach (entering (case_slot (syntax_head ds w x ls hs l) no_members [])) _ ((f.0, f.1, f.2, f.3, g, e), tt, tt) (simp (append_assoc, append-nil)))

pub host_steps : (h : Host) (hs : Hints) (l : Terminal) → HostFits h → HintsFit hs → ReachedBy ((host_text h ++ hints_text hs) ++ l ∷ []) (host_step h hs l)
host_steps (of_syntax ds w x []) no_hints l f g =
    tested (signed is_slash l) _ (at (syntax_id ds w x (l ∷ []) true)) (when (signed is_equal l) (at (entering (case_slot (syntax_head ds w x [] no_hints l) no_members []))))
    (λ e. reach (syntax_id ds w x (l ∷ []) true) _ (f.0, f.1, f.2, (e, refl)) (simp (append_assoc, append-nil)))
    (body_enters ds w x [] no_hints l f g)
host_steps (of_syntax ds w x []) (more_hints hs k) l f g = body_enters ds w x [] (more_hints hs k) l f g
host_steps (of_syntax ds w x (s ∷ ls)) no_hints l f g = body_enters ds w x (s ∷ ls) no_hints l f g
host_steps (of_syntax ds w x (s ∷ ls)) (more_hints hs k) l f g = body_enters ds w x (s ∷ ls) (more_hints hs k) l f g
host_steps (of_field h o ms pre t) hs l f g =
    tested (signed is_comma l) _ (at (field_name h o (member ms pre t hs) (l ∷ []))) (when (closes_brace l) (at (between (syntax_whole h (fields o (member ms pre t hs) l)))))
    (λ e. reach (field_name h o (member ms pre t hs) (l ∷ [])) _ (f.0, f.1, (f.2, f.3, f.4, g), e) (simp append_assoc))
    (fields_end h o (member ms pre t hs) l (host_text (of_field h o ms pre t) ++ hints_text hs) f.0 f.1 (f.2, f.3, f.4, g) (simp append_assoc))
host_steps (of_case h ms pre t) hs l f g =
    when_tested (is_bar l) _ _ (λ e. reach (entering (case_slot h (member ms pre t hs) (l ∷ []))) _ (f.0, (f.1, f.2, f.3, g), e) (simp append_assoc))
host_steps (of_var ds w x c t) hs l f g = tt
host_steps (of_relation ds w r) hs l f g =
    when_tested (signed is_colon l) _ _ (λ e. begins (notation_slot ds w r hs l) _ (f.0, f.1, f.2, g, e) (simp append_assoc))
host_steps (of_notation ds w r hs c t) ks l f g = tt
host_steps (of_fun ds w k a c t) hs l f g = tt

pub hint_ors : (h : Host) (hs : Hints) (l : Terminal) → HostFits h → HintsFit hs → ReachedBy ((host_text h ++ hints_text hs) ++ l ∷ []) (hint_or (keyword l) h hs l)
hint_ors h hs l f g = go (keyword l) refl
  where
    go : (k : Keyword) → keyword l ≡ k → ReachedBy ((host_text h ++ hints_text hs) ++ l ∷ []) (hint_or k h hs l)
    go hint_word e = reach (hint_open h hs l) _ (f, g, e) (sym (append_assoc (host_text h) (hints_text hs) (l ∷ [])))
    go syntax_word e = host_steps h hs l f g
    go relation_word e = host_steps h hs l f g
    go rule_word e = host_steps h hs l f g
    go var_word e = host_steps h hs l f g
    go def_word e = host_steps h hs l f g
    go if_word e = host_steps h hs l f g
    go otherwise_word e = host_steps h hs l f g
    go dashes e = host_steps h hs l f g
    go no_word e = host_steps h hs l f g

pub hint_steps : (h : Host) (hs : Hints) (w o n : Terminal) (ws : List Terminal) (cs : List Bracket) (l : Terminal) → PositionHolds (hint_words h hs w o n ws cs)
    → ReachedBy (position_text (hint_words h hs w o n ws cs) ++ l ∷ []) (hint_step h hs w o n ws cs l (balance_step cs l))
hint_steps h hs w o n ws cs l f = go (balance_step cs l) refl
  where
    ends : (es : List Bracket) → cs ≡ es → ReachedBy (position_text (hint_words h hs w o n ws cs) ++ l ∷ []) (hint_step h hs w o n ws es l None)
    ends [] e =
        when_tested (closes_round l) _ _ (λ c. reach (hinted h (more_hints hs (hint w o n ws l))) _ (f.0, (f.1, (f.2, f.3, f.4, f.5 ∙ ap (λ v. Some v) e, c))) (simp append_assoc))
    ends (d ∷ es) e = tt

    go : (q : Option (List Bracket)) → balance_step cs l ≡ q → ReachedBy (position_text (hint_words h hs w o n ws cs) ++ l ∷ []) (hint_step h hs w o n ws cs l q)
    go (Some ds) e = reach (hint_words h hs w o n (ws ++ l ∷ []) ds) _ (f.0, f.1, f.2, f.3, f.4, scan_more balance_step [] cs (Some ds) ws l f.5 e) (simp append_assoc)
    go None e = ends cs refl

pub case_enters : (h : Head) (ms : Members) (pre : List Terminal) (l : Terminal) → SlotFits (case_slot h ms pre) → ReachedBy (slot_text (case_slot h ms pre) ++ l ∷ []) (enter_case h ms pre l)
case_enters h no_members [] l f =
    tested (opens_brace l) _ (at (field_name h l no_members [])) (if signed is_dots l then Some (at (dotted h l)) else when (is_bar l) (at (entering (case_slot h no_members (l ∷ [])))))
    (λ e. reach (field_name h l no_members []) _ (f.0, e, tt, tt) (simp (append_assoc, append-nil)))
    (tested (signed is_dots l) _ (at (dotted h l)) (when (is_bar l) (at (entering (case_slot h no_members (l ∷ [])))))
    (λ e. reach (dotted h l) _ (f.0, e) (simp (append_assoc, append-nil)))
    (when_tested (is_bar l) _ _ (λ e. reach (entering (case_slot h no_members (l ∷ []))) _ (f.0, tt, e) (simp (append_assoc, append-nil)))))
case_enters h no_members (b ∷ ls) l f = tt
case_enters h (member ms q t hs) [] l f = tt
case_enters h (member ms q t hs) (b ∷ c ∷ ls) l f = tt
case_enters h (member ms q t hs) (b ∷ []) l f =
    when_tested (signed is_dots l) _ _ (λ e. reach_whole _ (syntax_whole h (cases (member ms q t hs) (b ∷ l ∷ []))) (syntax_parsed h (cases (member ms q t hs) (b ∷ l ∷ [])) _ f.0 (f.1, refl, (f.2, e)) (simp append_assoc)))

pub other_enters : (s : Slot) (l : Terminal) → SlotFits s → ReachedBy (slot_text s ++ l ∷ []) (enter_other s l)
other_enters (field_slot h o ms pre) l f = tt
other_enters (case_slot h ms pre) l f = case_enters h ms pre l f
other_enters (var_slot ds w x c) l f = tt
other_enters (notation_slot ds w r hs c) l f = tt
other_enters (fun_slot ds w k a c) l f = tt
other_enters (arg_slot ds w k o none []) l f =
    when_tested (closes_round l) _ _ (λ e. reach (args_closed ds w k o none l) _ (f.0, f.1, f.2, (f.3, f.4, f.5, e)) (simp append_assoc))
other_enters (arg_slot ds w k o none (c ∷ pre)) l f = tt
other_enters (arg_slot ds w k o (more ts q t) pre) l f = tt
other_enters (rule_slot r) l f = tt
other_enters (cond_slot r t ps d os ls) l f = tt
other_enters (count_slot r t ps d os ls u i k) l f = tt

pub inside_reached : (s : Slot) (us ws : List Terminal) (st : part.State) → SlotFits s → sound.Reached (slot_sort s) us st → slot_text s ++ us ≡ ws → Reached ws (inside s st)
inside_reached s us ws st f r e = record { holds = (f, r.holds, r.based); spelled = ap (λ u. slot_text s ++ u) r.spelled ∙ e }

pub enters : (s : Slot) (l : Terminal) → SlotFits s → ReachedBy (slot_text s ++ l ∷ []) (enter s (part.step (part.start (slot_sort s)) l) (enter_other s l))
enters s l f = go (part.step (part.start (slot_sort s)) l) (inner.steps (part.start (slot_sort s)) l (tt, tt))
  where
    go : (o : Option part.State) → sound.ReachedBy (slot_sort s) (l ∷ []) o → ReachedBy (slot_text s ++ l ∷ []) (enter s o (enter_other s l))
    go (Some st) r = inside_reached s (l ∷ []) (slot_text s ++ l ∷ []) st f r refl
    go None r = other_enters s l f

pub field_steps : (h : Head) (o : Terminal) (ms : Members) (pre : List Terminal) (l : Terminal) → PositionHolds (field_name h o ms pre) → ReachedBy (position_text (field_name h o ms pre) ++ l ∷ []) (field_step h o ms pre l)
field_steps h o no_members [] l f =
    tested (is_label l) _ (begun (field_slot h o no_members (l ∷ []))) (when (closes_brace l) (at (between (syntax_whole h (fields o no_members l)))))
    (λ e. begins (field_slot h o no_members (l ∷ [])) _ (f.0, f.1, f.2, e) (simp append_assoc))
    (fields_end h o no_members l (head_text h ++ (o ∷ [])) f.0 f.1 tt refl)
field_steps h o no_members (k ∷ pre) l f = absurd f.3
field_steps h o (member ms q t hs) [] l f = absurd f.3
field_steps h o (member ms q t hs) (k ∷ []) l f =
    when_tested (is_label l) _ _ (λ e. begins (field_slot h o (member ms q t hs) (k ∷ l ∷ [])) _ (f.0, f.1, f.2, (f.3, e)) (simp append_assoc))
field_steps h o (member ms q t hs) (k ∷ j ∷ pre) l f = absurd f.3

pub premise_steps : (r : Rule) (t : Tree) (ps : Premises) (d : Terminal) (os : List Terminal) (l : Terminal) → CondHolds r t ps d os
    → ReachedBy (position_text (premise_open r t ps d os) ++ l ∷ []) (premise_step r t ps d os l)
premise_steps r t ps d os l f =
    tested (opens_round l) _ (at (premise_open r t ps d (os ++ l ∷ []))) (when (names_relation l) (at (goal_colon r t ps d os l)))
    (λ e. reach (premise_open r t ps d (os ++ l ∷ [])) _ (f.0, f.1, f.2, f.3, opens_more os l f.4 e) (simp append_assoc))
    (when_tested (names_relation l) _ _ (λ e. reach (goal_colon r t ps d os l) _ (f, e) (simp append_assoc)))

pub premise_words : (r : Rule) (t : Tree) (ps : Premises) (d : Terminal) (os : List Terminal) (l : Terminal) → CondHolds r t ps d os
    → ReachedBy (position_text (premise_open r t ps d os) ++ l ∷ []) (premise_word (keyword l) r t ps d os l)
premise_words r t ps d os l f = go (keyword l) refl
  where
    default_read : (ns : List Terminal) → os ≡ ns → keyword l ≡ otherwise_word → ReachedBy (position_text (premise_open r t ps d ns) ++ l ∷ []) (premise_word otherwise_word r t ps d ns l)
    default_read [] e k = reach (premised r t (more_premises ps (default d l))) _ (f.0, f.1, (f.2, (f.3, k))) (simp append_assoc)
    default_read (n ∷ ns) e k = premise_steps r t ps d (n ∷ ns) l (f.0, f.1, f.2, f.3, subst (AllByRecursion OpensRound) e f.4)

    go : (k : Keyword) → keyword l ≡ k → ReachedBy (position_text (premise_open r t ps d os) ++ l ∷ []) (premise_word k r t ps d os l)
    go if_word e = begins (cond_slot r t ps d os (l ∷ [])) _ (f, e) (simp append_assoc)
    go otherwise_word e = default_read os refl e
    go syntax_word e = premise_steps r t ps d os l f
    go relation_word e = premise_steps r t ps d os l f
    go rule_word e = premise_steps r t ps d os l f
    go var_word e = premise_steps r t ps d os l f
    go def_word e = premise_steps r t ps d os l f
    go hint_word e = premise_steps r t ps d os l f
    go dashes e = premise_steps r t ps d os l f
    go no_word e = premise_steps r t ps d os l f

pub next_premises : (r : Rule) (t : Tree) (ps : Premises) (l : Terminal) → PositionHolds (premised r t ps) → ReachedBy (position_text (premised r t ps) ++ l ∷ []) (next_premise (keyword l) r t ps l)
next_premises r t ps l f = go (keyword l) refl
  where
    go : (k : Keyword) → keyword l ≡ k → ReachedBy (position_text (premised r t ps) ++ l ∷ []) (next_premise k r t ps l)
    go dashes e = reach (premise_open r t ps l []) _ (f.0, f.1, f.2, e, tt) refl
    go syntax_word e = tt
    go relation_word e = tt
    go rule_word e = tt
    go var_word e = tt
    go def_word e = tt
    go hint_word e = tt
    go if_word e = tt
    go otherwise_word e = tt
    go no_word e = tt

pub iterates : (r : Rule) (t : Tree) (ps : Premises) (d : Terminal) (os ls : List Terminal) (u : Tree) (i : Iterations) (l : Terminal) → Iterated r t ps d os ls u i
    → ReachedBy (position_text (iterated r t ps d os ls u i) ++ l ∷ []) (iterate r t ps d os ls u i l)
iterates r t ps d os ls u i l f =
    tested (closes_round l && may_close os i) us (at (iterated r t ps d os ls u (closed i l)))
    (if signed is_iteration_sign l && has_closed i then Some (at (iterated r t ps d os ls u (marked i l))) else rest)
    (λ e. reach (iterated r t ps d os ls u (closed i l)) us (record {
      cond = f.cond;
      begins = f.begins;
      fits = f.fits;
      iterations = (f.iterations, not_true (wants_iteration i) (and_right _ _ (and_right _ _ e)), and_left _ _ e);
      enough = is_not_same (closings i) (length os) f.enough (and_left _ _ (and_right _ _ e));
    }) (simp append_assoc))
    (tested (signed is_iteration_sign l && has_closed i) us (at (iterated r t ps d os ls u (marked i l))) rest
    (λ e. reach (iterated r t ps d os ls u (marked i l)) us (record {
      cond = f.cond;
      begins = f.begins;
      fits = f.fits;
      iterations = (f.iterations, and_right _ _ e, and_left _ _ e);
      enough = f.enough;
    }) (simp append_assoc))
    (tested (signed is_caret l && has_closed i) us (begun (count_slot r t ps d os ls u i l)) last
    (λ e. begins (count_slot r t ps d os ls u i l) us (f, and_right _ _ e, and_left _ _ e) (simp append_assoc))
    (go (is_whole os i) refl)))
  where
    us : List Terminal
    us = position_text (iterated r t ps d os ls u i) ++ l ∷ []

    last : Option State
    last = if is_whole os i then next_premise (keyword l) r t (more_premises ps (given d os ls u i)) l else None

    rest : Option State
    rest = if signed is_caret l && has_closed i then Some (begun (count_slot r t ps d os ls u i l)) else last

    go : (b : Bool) → is_whole os i ≡ b → ReachedBy us (if b then next_premise (keyword l) r t (more_premises ps (given d os ls u i)) l else None)
    go true e =
        subst (λ v. ReachedBy (v ++ l ∷ []) (next_premise (keyword l) r t (more_premises ps (given d os ls u i)) l)) (premise_spelled r t ps (given d os ls u i))
        (next_premises r t (more_premises ps (given d os ls u i)) l (f.cond.0, f.cond.1, premise_fits r t ps d os ls u i f e))
    go false e = tt
