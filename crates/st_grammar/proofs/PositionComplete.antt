-- Definitions that the grammar allows are read as themselves.
use Rattle.std.proofs.Common.{◌≡◌, ℕ, List, [], ◌∷◌, ◌++◌, map, Bool, true, false, ◌&&◌, ◌||◌, Option, Some, None, option_and_then, if◌then◌else◌, refl, sym, ap, subst, ◌∙◌, append_assoc, append-nil}
use Rattle.st_num.specs.declared.mark.Mark.{Mark}
use Rattle.st_num.specs.declared.token.Token.{Token}
use Rattle.st_grammar.specs.declared.sort.Style.TheVariants.{Parts as parts}
use Rattle.st_grammar.specs.declared.keyword.Keyword.{Keyword}
use Rattle.st_grammar.specs.declared.keyword.Keyword.TheVariants.{SyntaxWord as syntax_word, RelationWord as relation_word, RuleWord as rule_word, VarWord as var_word, DefWord as def_word, HintWord as hint_word}
use Rattle.st_grammar.specs.declared.sort.Leaf.TheVariants.{Low as low, Basic as basic, Variable as variable, Atom as atom, Number as number, Literal as literal, Function as function}
use Rattle.st_grammar.specs.declared.sort.Bracket.TheVariants.{Round as round, Square as square, Brace as brace, TickRound as tick_round, TickSquare as tick_square, TickBrace as tick_brace, Dollar as dollar}
use Rattle.st_grammar.specs.declared.sort.Sort.{Sort}
use Rattle.st_grammar.specs.declared.sort.Sort.TheVariants.{Expression as expression, Notation as notation, Typ as typ}
use Rattle.st_grammar.specs.Terminals.{Terminal, leaf, dot, sign, opening, closing, other}
use Rattle.st_grammar.specs.Levels.{is_iteration_sign, is_type_iteration_sign, is_colon, is_comma}
use Rattle.st_grammar.specs.Trees.{Tree, operand, post, times, bracket, led, Trees, none, more, plain, length as bars, arguments, index, segment, update, below, text, texts}
use Rattle.st_grammar.specs.Grammar.{is_label, SetsOff, Fits, EachFits}
use Rattle.st_grammar.specs.Definitions.{keyword, signed, is_equal, is_bar, closes_round, closes_brace, is_low, is_fun, names_relation, scan, id_step, FragmentFits, Hint, hint, hint_text, Hints, no_hints, more_hints, hints_text, HintsFit, Members, no_members, member, members_text, SetsOffField, SetsOffCase, FieldsFit, CasesFit, has_member, Body, fields, cases, body_text, BodyFits, premises_text, Args, no_args, args, args_text, ArgsFit, Def, syntax_def, var_def, relation_def, rule_def, fun_def, clause_def, def_text, DefFits, Defs, no_defs, more_defs, defs_text, DefsFit, ParseDefs}
use Rattle.st_grammar.specs.Positions.{Head, syntax_head, rule_head, clause_head, of_syntax, of_field, of_case, of_var, of_relation, of_notation, of_fun, field_slot, case_slot, var_slot, notation_slot, fun_slot, arg_slot, rule_slot, Position, between, syntax_name, var_name, var_colon, relation_name, rule_name, rule_colon, fun_name, fun_named, argued, args_closed, syntax_id, rule_id, hinted, entering, dotted, field_name, State, at, syntax_whole, begin_def, begun, when, hint_or, id_goes, colon_step, reads_type, reads_types, result_step, own, first_of_two, step, finish, reading, reads, start}
use Rattle.std.proofs.Common.{◌⊎◌, inl, inr}
use Rattle.st_num.specs.declared.mark.Mark.TheVariants as mark
use Rattle.st_num.specs.declared.token.TokenKind.{TokenKind}
use Rattle.st_num.specs.declared.token.TokenKind.TheVariants as kind
use Rattle.st_grammar.specs.Terminals.{terminal}
use Rattle.st_grammar.specs.Trees.{left, ahead, items, Path, head, field, part as path_part}
use Rattle.st_grammar.specs.Grammar.{PathFits}
use Rattle.st_grammar.specs.Definitions.{kind_keyword, is_minus, is_dot_kind, HintFits, EndsCases, ViableDefs}
use Rattle.st_grammar.proofs.Complete.{grip, comma_grip}
use Rattle.st_grammar.proofs.PositionSteps.{signed_is}
use Rattle.st_grammar.proofs.PositionEnds.{both_true}
use Rattle.st_grammar.proofs.PositionParts.{at_comma, at_colon, at_equal, at_slash, at_dots, at_close, at_close_brace, at_bar, at_open_brace, at_word, is_reserved, own_step, when_step, Stops, slot_read, enter_read}
use Rattle.st_grammar.proofs.PositionPremises.{hints_read, hinted_read, is_def_word, Turns, turns_stop, turn_read, hinted_leaves, rule_read}

-- ---- types as expressions

pub no_path : (p : Path) → PathFits typ p → ⊥
no_path (head t o) f = let never = f.0 in absurd (cc)
no_path (field p x) f = no_path p f
no_path (path_part p o ts c) f = no_path p f.0

pub type_mark : (m : Mark) → is_type_iteration_sign m ≡ true → is_iteration_sign m ≡ true
type_mark mark.Turnstile e = absurd (cc)
type_mark mark.ReverseTurnstile e = absurd (cc)
type_mark mark.SquigglyArrowStar e = absurd (cc)
type_mark mark.SquigglyArrow e = absurd (cc)
type_mark mark.Colon e = absurd (cc)
type_mark mark.Subtype e = absurd (cc)
type_mark mark.Supertype e = absurd (cc)
type_mark mark.Approximately e = absurd (cc)
type_mark mark.Define e = absurd (cc)
type_mark mark.Semicolon e = absurd (cc)
type_mark mark.Arrow e = absurd (cc)
type_mark mark.DotDot e = absurd (cc)
type_mark mark.Ellipsis e = absurd (cc)
type_mark mark.PlusPlus e = absurd (cc)
type_mark mark.ExtendBy e = absurd (cc)
type_mark mark.Equal e = absurd (cc)
type_mark mark.NotEqual e = absurd (cc)
type_mark mark.Less e = absurd (cc)
type_mark mark.Greater e = absurd (cc)
type_mark mark.LessOrEqual e = absurd (cc)
type_mark mark.GreaterOrEqual e = absurd (cc)
type_mark mark.ElementOf e = absurd (cc)
type_mark mark.Tilde e = absurd (cc)
type_mark mark.And e = absurd (cc)
type_mark mark.Or e = absurd (cc)
type_mark mark.Implies e = absurd (cc)
type_mark mark.Equivalent e = absurd (cc)
type_mark mark.Plus e = absurd (cc)
type_mark mark.Minus e = absurd (cc)
type_mark mark.Star e = refl
type_mark mark.Slash e = absurd (cc)
type_mark mark.Backslash e = absurd (cc)
type_mark mark.Caret e = absurd (cc)
type_mark mark.Question e = refl
type_mark mark.Bar e = absurd (cc)
type_mark mark.Comma e = absurd (cc)
type_mark mark.DashDash e = absurd (cc)
type_mark mark.OpenParen e = absurd (cc)
type_mark mark.CloseParen e = absurd (cc)
type_mark mark.OpenBracket e = absurd (cc)
type_mark mark.CloseBracket e = absurd (cc)
type_mark mark.OpenBrace e = absurd (cc)
type_mark mark.CloseBrace e = absurd (cc)
type_mark mark.OpenArith e = absurd (cc)
type_mark mark.TickParen e = absurd (cc)
type_mark mark.TickBracket e = absurd (cc)
type_mark mark.TickBrace e = absurd (cc)

-- ---- fields and alternatives

-- where these fields lead to
abbrev pub fields_position : Head → Terminal → Members → Position
fields_position h o no_members = field_name h o no_members []
fields_position h o (member ms pre t hs) = hinted (of_field h o ms pre t) hs

pub field_read : (h : Head) (o : Terminal) (ms : Members) (pre v : List Terminal) → SetsOffField ms pre
    → reads (at (fields_position h o ms)) (pre ++ v) ≡ reads (begun (field_slot h o ms pre)) v
field_read h o no_members [] v f = absurd f
field_read h o no_members (n ∷ []) v f =
    own_step (field_name h o no_members []) n (begun (field_slot h o no_members (n ∷ []))) v
    (ap (λ b. if b then Some (begun (field_slot h o no_members (n ∷ []))) else when (closes_brace n) (at (between (syntax_whole h (fields o no_members n))))) f)
field_read h o no_members (n ∷ k ∷ ls) v f = absurd f
field_read h o (member ms q t hs) [] v f = absurd f
field_read h o (member ms q t hs) (k ∷ []) v f = absurd f
field_read h o (member ms q t hs) (k ∷ n ∷ []) v f =
    let c = at_comma k f.0 in
    own_step (hinted (of_field h o ms q t) hs) k (at (field_name h o (member ms q t hs) (k ∷ []))) (n ∷ v)
    (subst (λ l. own (hinted (of_field h o ms q t) hs) l ≡ Some (at (field_name h o (member ms q t hs) (l ∷ [])))) (sym c.1) refl)
    ∙ when_step (field_name h o (member ms q t hs) (k ∷ [])) n (is_label n) (begun (field_slot h o (member ms q t hs) (k ∷ n ∷ []))) v refl f.1
field_read h o (member ms q t hs) (k ∷ n ∷ l ∷ ls) v f = absurd f

pub field_stops : (σ : Sort) (ms : Members) (pre v : List Terminal) (q : List Terminal) (t : Tree) (hs : Hints) → SetsOffField (member ms q t hs) pre → Stops σ (pre ++ v)
field_stops σ ms [] v q t hs f = absurd f
field_stops σ ms (k ∷ []) v q t hs f = absurd f
field_stops σ ms (k ∷ n ∷ []) v q t hs f = let s = signed_is is_comma k f.0 in subst (λ l. grip σ l ≡ 0) (sym s.2) (comma_grip σ s.0 s.1 s.3)
field_stops σ ms (k ∷ n ∷ l ∷ ls) v q t hs f = absurd f

abbrev pub StopsAfter : Sort → Members → List Terminal → Type 0
StopsAfter σ no_members v = Unit {0}
StopsAfter σ (member ms pre t hs) v = Stops σ v

pub field_stops_after : (ms : Members) (pre v : List Terminal) → SetsOffField ms pre → StopsAfter typ ms (pre ++ v)
field_stops_after no_members pre v f = tt
field_stops_after (member ms q t hs) pre v f = field_stops typ ms pre v q t hs f

pub fields_read : (h : Head) (o : Terminal) (ms : Members) (v : List Terminal) → FieldsFit ms → StopsAfter typ ms v
    → reads (at (field_name h o no_members [])) (members_text ms ++ v) ≡ reads (at (fields_position h o ms)) v
fields_read h o no_members v f s = refl
fields_read h o (member ms pre t hs) v f s =
    ap (reads (at (field_name h o no_members []))) (append_assoc (members_text ms) (pre ++ (text t ++ hints_text hs)) v ∙ ap (λ u. members_text ms ++ u) (append_assoc pre (text t ++ hints_text hs) v))
    ∙ fields_read h o ms (pre ++ ((text t ++ hints_text hs) ++ v)) f.0 (field_stops_after ms pre ((text t ++ hints_text hs) ++ v) f.1)
    ∙ field_read h o ms pre ((text t ++ hints_text hs) ++ v) f.1
    ∙ ap (reads (begun (field_slot h o ms pre))) (append_assoc (text t) (hints_text hs) v)
    ∙ hinted_read (field_slot h o ms pre) (of_field h o ms pre t) t hs v (λ u e. ap (λ x. hinted (of_field h o ms pre x) no_hints) e) f.2 f.3 s

pub fields_close : (h : Head) (o : Terminal) (ms : Members) (c : Terminal) (v : List Terminal) → closes_brace c ≡ true
    → reads (at (fields_position h o ms)) (c ∷ v) ≡ reads (at (between (syntax_whole h (fields o ms c)))) v
fields_close h o no_members c v e =
    own_step (field_name h o no_members []) c (at (between (syntax_whole h (fields o no_members c)))) v
    (subst (λ l. own (field_name h o no_members []) l ≡ Some (at (between (syntax_whole h (fields o no_members l))))) (sym (at_close_brace c e).1) refl)
fields_close h o (member ms pre t hs) c v e =
    own_step (hinted (of_field h o ms pre t) hs) c (at (between (syntax_whole h (fields o (member ms pre t hs) c)))) v
    (subst (λ l. own (hinted (of_field h o ms pre t) hs) l ≡ Some (at (between (syntax_whole h (fields o (member ms pre t hs) l))))) (sym (at_close_brace c e).1) refl)

pub brace_stops : (ms : Members) (c : Terminal) (v : List Terminal) → closes_brace c ≡ true → StopsAfter typ ms (c ∷ v)
brace_stops no_members c v e = tt
brace_stops (member ms pre t hs) c v e = subst (λ l. grip typ l ≡ 0) (sym (at_close_brace c e).1) refl

-- where these alternatives lead to
abbrev pub cases_position : Head → Members → Position
cases_position h no_members = entering (case_slot h no_members [])
cases_position h (member ms pre t hs) = hinted (of_case h ms pre t) hs

pub bar_step : (h : Head) (ms : Members) (pre : List Terminal) (t : Tree) (hs : Hints) (b : Terminal) (v : List Terminal) → is_bar b ≡ true
    → reads (at (hinted (of_case h ms pre t) hs)) (b ∷ v) ≡ reads (at (entering (case_slot h (member ms pre t hs) (b ∷ [])))) v
bar_step h ms pre t hs b v e =
    own_step (hinted (of_case h ms pre t) hs) b (at (entering (case_slot h (member ms pre t hs) (b ∷ [])))) v
    (subst (λ l. own (hinted (of_case h ms pre t) hs) l ≡ Some (at (entering (case_slot h (member ms pre t hs) (l ∷ []))))) (sym (at_bar b e).1) refl)

pub case_read : (h : Head) (ms : Members) (pre v : List Terminal) → SetsOffCase ms pre → reads (at (cases_position h ms)) (pre ++ v) ≡ reads (at (entering (case_slot h ms pre))) v
case_read h no_members [] v f = refl
case_read h no_members (b ∷ []) v f =
    own_step (entering (case_slot h no_members [])) b (at (entering (case_slot h no_members (b ∷ [])))) v
    (subst (λ l. own (entering (case_slot h no_members [])) l ≡ Some (at (entering (case_slot h no_members (l ∷ []))))) (sym (at_bar b f).1) refl)
case_read h no_members (d ∷ b ∷ []) v f =
    own_step (entering (case_slot h no_members [])) d (at (dotted h d)) (b ∷ v)
    (subst (λ l. own (entering (case_slot h no_members [])) l ≡ Some (at (dotted h l))) (sym (at_dots d f.0).1) refl)
    ∙ when_step (dotted h d) b (is_bar b) (at (entering (case_slot h no_members (d ∷ b ∷ [])))) v refl f.1
case_read h no_members (d ∷ b ∷ l ∷ ls) v f = absurd f
case_read h (member ms q t hs) [] v f = absurd f
case_read h (member ms q t hs) (b ∷ []) v f = bar_step h ms q t hs b v f
case_read h (member ms q t hs) (b ∷ c ∷ ls) v f = absurd f

pub case_stops_after : (ms : Members) (pre v : List Terminal) → SetsOffCase ms pre → StopsAfter notation ms (pre ++ v)
case_stops_after no_members pre v f = tt
case_stops_after (member ms q t hs) [] v f = absurd f
case_stops_after (member ms q t hs) (b ∷ []) v f = subst (λ l. grip notation l ≡ 0) (sym (at_bar b f).1) refl
case_stops_after (member ms q t hs) (b ∷ c ∷ ls) v f = absurd f

pub cases_read : (h : Head) (ms : Members) (v : List Terminal) → CasesFit ms → StopsAfter notation ms v
    → reads (at (entering (case_slot h no_members []))) (members_text ms ++ v) ≡ reads (at (cases_position h ms)) v
cases_read h no_members v f s = refl
cases_read h (member ms pre t hs) v f s =
    ap (reads (at (entering (case_slot h no_members [])))) (append_assoc (members_text ms) (pre ++ (text t ++ hints_text hs)) v ∙ ap (λ u. members_text ms ++ u) (append_assoc pre (text t ++ hints_text hs) v))
    ∙ cases_read h ms (pre ++ ((text t ++ hints_text hs) ++ v)) f.0 (case_stops_after ms pre ((text t ++ hints_text hs) ++ v) f.1)
    ∙ case_read h ms pre ((text t ++ hints_text hs) ++ v) f.1
    ∙ ap (reads (at (entering (case_slot h ms pre)))) (append_assoc (text t) (hints_text hs) v)
    ∙ enter_read (case_slot h ms pre) t (hints_text hs ++ v) f.2
    ∙ hinted_read (case_slot h ms pre) (of_case h ms pre t) t hs v (λ u e. ap (λ x. hinted (of_case h ms pre x) no_hints) e) f.2 f.3 s

pub cases_end : (h : Head) (ms : Members) (ls v : List Terminal) → has_member ms ≡ true → EndsCases ls → Turns v
    → reads (at (cases_position h ms)) (ls ++ v) ≡ reads (at (between (syntax_whole h (cases ms ls)))) v
cases_end h no_members ls v m f n = absurd (cc)
cases_end h (member ms pre t hs) [] v m f n =
    turn_read (hinted (of_case h ms pre t) hs) (syntax_whole h (cases (member ms pre t hs) [])) v refl (hinted_leaves (of_case h ms pre t) hs (λ x. refl)) n
cases_end h (member ms pre t hs) (b ∷ []) v m f n = absurd f
cases_end h (member ms pre t hs) (b ∷ d ∷ []) v m f n =
    bar_step h ms pre t hs b (d ∷ v) f.0
    ∙ own_step (entering (case_slot h (member ms pre t hs) (b ∷ []))) d (at (between (syntax_whole h (cases (member ms pre t hs) (b ∷ d ∷ []))))) v
    (subst (λ l. own (entering (case_slot h (member ms pre t hs) (b ∷ []))) l ≡ Some (at (between (syntax_whole h (cases (member ms pre t hs) (b ∷ l ∷ [])))))) (sym (at_dots d f.1).1) refl)
cases_end h (member ms pre t hs) (b ∷ d ∷ l ∷ ls) v m f n = absurd f

pub ends_stop : (ms : Members) (ls v : List Terminal) → EndsCases ls → Turns v → StopsAfter notation ms (ls ++ v)
ends_stop no_members ls v f n = tt
ends_stop (member ms pre t hs) [] v f n = turns_stop notation v n
ends_stop (member ms pre t hs) (b ∷ []) v f n = absurd f
ends_stop (member ms pre t hs) (b ∷ d ∷ []) v f n = subst (λ l. grip notation l ≡ 0) (sym (at_bar b f.0).1) refl
ends_stop (member ms pre t hs) (b ∷ d ∷ l ∷ ls) v f n = absurd f

pub body_read : (h : Head) (b : Body) (v : List Terminal) → BodyFits b → Turns v → reads (at (entering (case_slot h no_members []))) (body_text b ++ v) ≡ reads (at (between (syntax_whole h b))) v
body_read h (fields o ms c) v f n =
    own_step (entering (case_slot h no_members [])) o (at (field_name h o no_members [])) ((members_text ms ++ c ∷ []) ++ v)
    (subst (λ l. own (entering (case_slot h no_members [])) l ≡ Some (at (field_name h l no_members []))) (sym (at_open_brace o f.0).1) refl)
    ∙ ap (reads (at (field_name h o no_members []))) (append_assoc (members_text ms) (c ∷ []) v)
    ∙ fields_read h o ms (c ∷ v) f.1 (brace_stops ms c v f.2)
    ∙ fields_close h o ms c v f.2
body_read h (cases ms ls) v f n =
    ap (reads (at (entering (case_slot h no_members [])))) (append_assoc (members_text ms) ls v)
    ∙ cases_read h ms (ls ++ v) f.0 (ends_stop ms ls v f.2 n)
    ∙ cases_end h ms ls v f.1 f.2 n

-- ---- arguments

mutual
  pub as_expression : (t : Tree) → Fits typ t → Fits (expression false) t × (reads_type t ≡ true)
  as_expression (operand low x) f = (refl, refl)
  as_expression (operand basic x) f = (refl, refl)
  as_expression (operand variable x) f = absurd (cc)
  as_expression (operand atom x) f = absurd (cc)
  as_expression (operand number x) f = absurd (cc)
  as_expression (operand literal x) f = absurd (cc)
  as_expression (operand function x) f = absurd (cc)
  as_expression (post t (sign m x)) f = let r = as_expression t f.1 in ((type_mark m f.0, r.0, f.2), both_true _ _ f.0 r.1)
  as_expression (post t (leaf k x)) f = let never = f.0 in absurd (cc)
  as_expression (post t (dot x)) f = let never = f.0 in absurd (cc)
  as_expression (post t (opening k x)) f = let never = f.0 in absurd (cc)
  as_expression (post t (closing c x)) f = let never = f.0 in absurd (cc)
  as_expression (post t (other x)) f = let never = f.0 in absurd (cc)
  as_expression (times t m x c) f = let never = f.1 in absurd (cc)
  as_expression (bracket (plain round o) ts c) f = let r = as_expressions ts f.2 in ((refl, refl, r.0, f.3), r.1)
  as_expression (bracket (plain square o) ts c) f = let never = f.1 in absurd (cc)
  as_expression (bracket (plain brace o) ts c) f = let never = f.1 in absurd (cc)
  as_expression (bracket (plain tick_round o) ts c) f = let never = f.1 in absurd (cc)
  as_expression (bracket (plain tick_square o) ts c) f = let never = f.1 in absurd (cc)
  as_expression (bracket (plain tick_brace o) ts c) f = let never = f.1 in absurd (cc)
  as_expression (bracket (plain dollar o) ts c) f = let never = f.1 in absurd (cc)
  as_expression (bracket (bars o) ts c) f = let never = f.1 in absurd (cc)
  as_expression (bracket (arguments g o) ts c) f = let never = f.1.0 in absurd (cc)
  as_expression (bracket (index t o) ts c) f = let never = f.1.0 in absurd (cc)
  as_expression (bracket (segment p o) ts c) f = let never = f.0 in absurd (cc)
  as_expression (bracket (update p m x) ts c) f = absurd (no_path p f.1.0)
  as_expression (bracket (below o i m x) ts c) f = let never = f.1.0 in absurd (cc)
  as_expression (led (left l m x) t) f = let never = f.0.0 in absurd (cc)
  as_expression (led (ahead m x) t) f = let never = f.0 in absurd (cc)
  as_expression (led (items ts) t) f = let never = f.0.0 in absurd (cc)

  pub as_expressions : (ts : Trees) → EachFits typ parts 1 ts → EachFits (expression false) parts 1 ts × (reads_types ts ≡ true)
  as_expressions none f = (tt, refl)
  as_expressions (more ts pre t) f = let r = as_expressions ts f.0 in let q = as_expression t f.2 in ((r.0, f.1, q.0, f.3, tt), both_true _ _ r.1 q.1)

-- where these arguments lead to
abbrev pub args_position : Defs → Terminal → Terminal → Terminal → Trees → Position
args_position ds w f o none = entering (arg_slot ds w f o none [])
args_position ds w f o (more ts pre t) = argued ds w f o (more ts pre t)

abbrev pub StopsArgs : Trees → List Terminal → Type 0
StopsArgs none v = Unit {0}
StopsArgs (more ts pre t) v = Stops (expression false) v

pub arg_read : (ds : Defs) (w f o : Terminal) (ts : Trees) (pre : List Terminal) (t : Tree) (v : List Terminal) → SetsOff parts ts pre → Fits (expression false) t → Stops (expression false) v
    → reads (at (args_position ds w f o ts)) (pre ++ (text t ++ v)) ≡ reads (at (argued ds w f o (more ts pre t))) v
arg_read ds w f o none pre t v s g n =
    subst (λ q. reads (at (entering (arg_slot ds w f o none []))) (q ++ (text t ++ v)) ≡ reads (at (argued ds w f o (more none q t))) v) (sym s)
    (enter_read (arg_slot ds w f o none []) t v g ∙ slot_read (arg_slot ds w f o none []) t v g n)
arg_read ds w f o (more ts q u) pre t v s g n =
    subst (λ p. reads (at (argued ds w f o (more ts q u))) (p ++ (text t ++ v)) ≡ reads (at (argued ds w f o (more (more ts q u) p t))) v) (sym s.2)
    (own_step (argued ds w f o (more ts q u)) (sign s.0 s.1) (begun (arg_slot ds w f o (more ts q u) (sign s.0 s.1 ∷ []))) (text t ++ v)
    (ap (λ b. if b then Some (begun (arg_slot ds w f o (more ts q u) (sign s.0 s.1 ∷ []))) else None) s.3)
    ∙ slot_read (arg_slot ds w f o (more ts q u) (sign s.0 s.1 ∷ [])) t v g n)

pub set_off_stops : (ts : Trees) (pre v : List Terminal) → SetsOff parts ts pre → StopsArgs ts (pre ++ v)
set_off_stops none pre v s = tt
set_off_stops (more ts q u) pre v s = subst (λ p. Stops (expression false) (p ++ v)) (sym s.2) (comma_grip (expression false) s.0 s.1 s.3)

pub args_read : (ds : Defs) (w f o : Terminal) (ts : Trees) (v : List Terminal) → EachFits (expression false) parts 1 ts → StopsArgs ts v
    → reads (at (entering (arg_slot ds w f o none []))) (texts ts ++ v) ≡ reads (at (args_position ds w f o ts)) v
args_read ds w f o none v g n = refl
args_read ds w f o (more ts pre t) v g n =
    ap (reads (at (entering (arg_slot ds w f o none [])))) (append_assoc (texts ts) (pre ++ text t) v ∙ ap (λ u. texts ts ++ u) (append_assoc pre (text t) v))
    ∙ args_read ds w f o ts (pre ++ (text t ++ v)) g.0 (set_off_stops ts pre (text t ++ v) g.1)
    ∙ arg_read ds w f o ts pre t v g.1 g.2 n

pub args_close : (ds : Defs) (w f o : Terminal) (ts : Trees) (c : Terminal) (v : List Terminal) → closes_round c ≡ true
    → reads (at (args_position ds w f o ts)) (c ∷ v) ≡ reads (at (args_closed ds w f o ts c)) v
args_close ds w f o none c v e =
    own_step (entering (arg_slot ds w f o none [])) c (at (args_closed ds w f o none c)) v
    (subst (λ l. own (entering (arg_slot ds w f o none [])) l ≡ Some (at (args_closed ds w f o none l))) (sym (at_close c e).1) refl)
args_close ds w f o (more ts pre t) c v e =
    own_step (argued ds w f o (more ts pre t)) c (at (args_closed ds w f o (more ts pre t) c)) v
    (subst (λ l. own (argued ds w f o (more ts pre t)) l ≡ Some (at (args_closed ds w f o (more ts pre t) l))) (sym (at_close c e).1) refl)

pub close_stops : (ts : Trees) (c : Terminal) (v : List Terminal) → closes_round c ≡ true → StopsArgs ts (c ∷ v)
close_stops none c v e = tt
close_stops (more ts pre t) c v e = subst (λ l. grip (expression false) l ≡ 0) (sym (at_close c e).1) refl

-- behind these arguments
abbrev pub behind_args : Defs → Terminal → Terminal → Args → Position
behind_args ds w f no_args = fun_named ds w f
behind_args ds w f (args o ts c) = args_closed ds w f o ts c

pub all_args_read : (ds : Defs) (w f : Terminal) (a : Args) (v : List Terminal) → ArgsFit (expression false) a → reads (at (fun_named ds w f)) (args_text a ++ v) ≡ reads (at (behind_args ds w f a)) v
all_args_read ds w f no_args v g = refl
all_args_read ds w f (args o ts c) v g =
    own_step (fun_named ds w f) o (at (entering (arg_slot ds w f o none []))) ((texts ts ++ c ∷ []) ++ v)
    (ap (λ b. if b then Some (at (entering (arg_slot ds w f o none []))) else result_step ds w f no_args true o) (both_true _ _ g.0 g.1))
    ∙ ap (reads (at (entering (arg_slot ds w f o none [])))) (append_assoc (texts ts) (c ∷ []) v)
    ∙ args_read ds w f o ts (c ∷ v) g.2 (close_stops ts c v g.3)
    ∙ args_close ds w f o ts c v g.3

pub args_as_expressions : (a : Args) → ArgsFit typ a → ArgsFit (expression false) a
args_as_expressions no_args g = tt
args_as_expressions (args o ts c) g = (g.0, g.1, (as_expressions ts g.2).0, g.3)

pub result_read : (ds : Defs) (w f : Terminal) (a : Args) (c : Terminal) (v : List Terminal) → ArgsFit typ a → signed is_colon c ≡ true
    → reads (at (behind_args ds w f a)) (c ∷ v) ≡ reads (begun (fun_slot ds w f a c)) v
result_read ds w f no_args c v g e =
    own_step (fun_named ds w f) c (begun (fun_slot ds w f no_args c)) v
    (subst (λ l. own (fun_named ds w f) l ≡ Some (begun (fun_slot ds w f no_args l))) (sym (at_colon c e).1) refl)
result_read ds w f (args o ts d) c v g e =
    own_step (args_closed ds w f o ts d) c (begun (fun_slot ds w f (args o ts d) c)) v
    (subst (λ l. own (args_closed ds w f o ts d) l ≡ Some (begun (fun_slot ds w f (args o ts d) l))) (sym (at_colon c e).1)
    (ap (λ b. if b then Some (begun (fun_slot ds w f (args o ts d) (sign mark.Colon (at_colon c e).0))) else None) (as_expressions ts g.2).1))

pub clause_read : (ds : Defs) (w f : Terminal) (a : Args) (c : Terminal) (v : List Terminal) → signed is_equal c ≡ true
    → reads (at (behind_args ds w f a)) (c ∷ v) ≡ reads (begun (rule_slot (clause_head ds w f a c))) v
clause_read ds w f no_args c v e =
    own_step (fun_named ds w f) c (begun (rule_slot (clause_head ds w f no_args c))) v
    (subst (λ l. own (fun_named ds w f) l ≡ Some (begun (rule_slot (clause_head ds w f no_args l)))) (sym (at_equal c e).1) refl)
clause_read ds w f (args o ts d) c v e =
    own_step (args_closed ds w f o ts d) c (begun (rule_slot (clause_head ds w f (args o ts d) c))) v
    (subst (λ l. own (args_closed ds w f o ts d) l ≡ Some (begun (rule_slot (clause_head ds w f (args o ts d) l)))) (sym (at_equal c e).1) refl)

-- ---- names of rules and fragments

pub syntax_id_read : (ds : Defs) (w x : Terminal) (ls us : List Terminal) (d e : Bool) (v : List Terminal) → scan id_step d ls ≡ Some e
    → reads (at (syntax_id ds w x us d)) (ls ++ v) ≡ reads (at (syntax_id ds w x (us ++ ls) e)) v
syntax_id_read ds w x [] us d e v h =
    let same : d ≡ e = cc in
    ap (λ q. reads (at (syntax_id ds w x us q)) v) same ∙ ap (λ q. reads (at (syntax_id ds w x q e)) v) (sym (append-nil us))
syntax_id_read ds w x (l ∷ ls) us d e v h = go (id_step d l) refl h (λ b k. syntax_id_read ds w x ls (us ++ l ∷ []) b e v k)
  where
    go : (q : Option Bool) → id_step d l ≡ q → option_and_then (λ r. scan id_step r ls) q ≡ Some e
        → ((b : Bool) → scan id_step b ls ≡ Some e → reads (at (syntax_id ds w x (us ++ l ∷ []) b)) (ls ++ v) ≡ reads (at (syntax_id ds w x ((us ++ l ∷ []) ++ ls) e)) v)
        → reads (at (syntax_id ds w x us d)) (l ∷ (ls ++ v)) ≡ reads (at (syntax_id ds w x (us ++ l ∷ ls) e)) v
    go None i k rest = absurd (cc)
    go (Some b) i k rest =
        own_step (syntax_id ds w x us d) l (at (syntax_id ds w x (us ++ l ∷ []) b)) (ls ++ v)
        (ap (λ q. id_goes q d (λ c. at (syntax_id ds w x (us ++ l ∷ []) c)) (hint_or (keyword l) (of_syntax ds w x us) no_hints l)) i)
        ∙ rest b k
        ∙ ap (λ q. reads (at (syntax_id ds w x q e)) v) (append_assoc us (l ∷ []) ls)

pub rule_id_read : (ds : Defs) (w x : Terminal) (ls us : List Terminal) (d e : Bool) (v : List Terminal) → scan id_step d ls ≡ Some e
    → reads (at (rule_id ds w x us d)) (ls ++ v) ≡ reads (at (rule_id ds w x (us ++ ls) e)) v
rule_id_read ds w x [] us d e v h =
    let same : d ≡ e = cc in
    ap (λ q. reads (at (rule_id ds w x us q)) v) same ∙ ap (λ q. reads (at (rule_id ds w x q e)) v) (sym (append-nil us))
rule_id_read ds w x (l ∷ ls) us d e v h = go (id_step d l) refl h (λ b k. rule_id_read ds w x ls (us ++ l ∷ []) b e v k)
  where
    go : (q : Option Bool) → id_step d l ≡ q → option_and_then (λ r. scan id_step r ls) q ≡ Some e
        → ((b : Bool) → scan id_step b ls ≡ Some e → reads (at (rule_id ds w x (us ++ l ∷ []) b)) (ls ++ v) ≡ reads (at (rule_id ds w x ((us ++ l ∷ []) ++ ls) e)) v)
        → reads (at (rule_id ds w x us d)) (l ∷ (ls ++ v)) ≡ reads (at (rule_id ds w x (us ++ l ∷ ls) e)) v
    go None i k rest = absurd (cc)
    go (Some b) i k rest =
        own_step (rule_id ds w x us d) l (at (rule_id ds w x (us ++ l ∷ []) b)) (ls ++ v)
        (ap (λ q. id_goes q d (λ c. at (rule_id ds w x (us ++ l ∷ []) c)) (colon_step ds w x us l)) i)
        ∙ rest b k
        ∙ ap (λ q. reads (at (rule_id ds w x q e)) v) (append_assoc us (l ∷ []) ls)

pub no_id_sign : (m : Mark) (x : Token) → is_minus m ≡ false → id_step false (sign m x) ≡ None
no_id_sign m x e = go x.touching
  where
    go : (b : Bool) → (if b && is_minus m then Some true else if b && false then Some false else None) ≡ None
    go true = ap (λ c. if c then Some true else None) e
    go false = refl

pub no_id_word : (x : Token) (k : Keyword) → keyword (other x) ≡ k → is_reserved k ≡ true → id_step false (other x) ≡ None
no_id_word x k e r = go x.touching (kinds x.kind (subst (λ j. is_reserved j ≡ true) (sym e) r))
  where
    kinds : (q : TokenKind) → is_reserved (kind_keyword q) ≡ true → is_dot_kind q ≡ false
    kinds (kind.Low n) h = refl
    kinds (kind.Up n) h = refl
    kinds (kind.Mix n) h = refl
    kinds (kind.Reserved v) h = refl
    kinds (kind.Number n) h = refl
    kinds (kind.Text n) h = refl
    kinds (kind.Dot n) h = absurd (cc)
    kinds (kind.Fun n) h = refl
    kinds (kind.Sign m) h = refl

    go : (b : Bool) → is_dot_kind x.kind ≡ false → (if b && false then Some true else if b && is_dot_kind x.kind then Some false else None) ≡ None
    go true d = ap (λ c. if c then Some false else None) d
    go false d = refl

pub colon_read : (ds : Defs) (w r : Terminal) (ls : List Terminal) (c : Terminal) (v : List Terminal) → FragmentFits ls → signed is_colon c ≡ true
    → reads (at (rule_colon ds w r)) (ls ++ c ∷ v) ≡ reads (begun (rule_slot (rule_head ds w r ls c))) v
colon_read ds w r [] c v f e =
    own_step (rule_colon ds w r) c (begun (rule_slot (rule_head ds w r [] c))) v
    (subst (λ l. own (rule_colon ds w r) l ≡ Some (begun (rule_slot (rule_head ds w r [] l)))) (sym (at_colon c e).1) refl)
colon_read ds w r (s ∷ ls) c v f e =
    own_step (rule_colon ds w r) s (at (rule_id ds w r (s ∷ []) true)) (ls ++ c ∷ v)
    (ap (λ b. if b then Some (at (rule_id ds w r (s ∷ []) true)) else colon_step ds w r [] s) f.0)
    ∙ rule_id_read ds w r ls (s ∷ []) true false (c ∷ v) f.1
    ∙ own_step (rule_id ds w r (s ∷ ls) false) c (begun (rule_slot (rule_head ds w r (s ∷ ls) c))) v
    (subst (λ l. own (rule_id ds w r (s ∷ ls) false) l ≡ Some (begun (rule_slot (rule_head ds w r (s ∷ ls) l)))) (sym (at_colon c e).1)
    (ap (λ q. id_goes q false (λ b. at (rule_id ds w r ((s ∷ ls) ++ sign mark.Colon (at_colon c e).0 ∷ []) b)) (Some (begun (rule_slot (rule_head ds w r (s ∷ ls) (sign mark.Colon (at_colon c e).0)))))) (no_id_sign mark.Colon (at_colon c e).0 refl)))

-- what may stand behind the name of a syntax with its fragment: a hint or `=`
abbrev pub GoesOn : List Terminal → Type 0
GoesOn [] = ⊥
GoesOn (l ∷ v) = (keyword l ≡ hint_word) ⊎ (signed is_equal l ≡ true)

pub id_ends : (l : Terminal) → ((keyword l ≡ hint_word) ⊎ (signed is_equal l ≡ true)) → id_step false l ≡ None
id_ends l (inl h) =
    let k = at_word l (ap is_reserved h) in
    subst (λ j. id_step false j ≡ None) (sym k.1) (no_id_word k.0 hint_word (subst (λ j. keyword j ≡ hint_word) k.1 h) refl)
id_ends l (inr e) = let k = at_equal l e in subst (λ j. id_step false j ≡ None) (sym k.1) (no_id_sign mark.Equal k.0 refl)

pub fragment_read : (ds : Defs) (w x : Terminal) (ls v : List Terminal) → FragmentFits ls → GoesOn v
    → reads (at (hinted (of_syntax ds w x []) no_hints)) (ls ++ v) ≡ reads (at (hinted (of_syntax ds w x ls) no_hints)) v
fragment_read ds w x [] v f g = refl
fragment_read ds w x (s ∷ ls) [] f g = absurd g
fragment_read ds w x (s ∷ ls) (l ∷ v) f g =
    own_step (hinted (of_syntax ds w x []) no_hints) s (at (syntax_id ds w x (s ∷ []) true)) (ls ++ l ∷ v)
    (subst (λ j. own (hinted (of_syntax ds w x []) no_hints) j ≡ Some (at (syntax_id ds w x (j ∷ []) true))) (sym (at_slash s f.0).1) refl)
    ∙ syntax_id_read ds w x ls (s ∷ []) true false (l ∷ v) f.1
    ∙ ap (λ q. option_and_then finish (option_and_then (λ next. reading next v) (first_of_two (id_goes q false (λ b. at (syntax_id ds w x ((s ∷ ls) ++ l ∷ []) b)) (hint_or (keyword l) (of_syntax ds w x (s ∷ ls)) no_hints l)) None))) (id_ends l g)

-- ---- definitions

pub hints_go_on : (hs : Hints) (e : Terminal) (v : List Terminal) → HintsFit hs → signed is_equal e ≡ true → GoesOn (hints_text hs ++ e ∷ v)
hints_go_on no_hints e v f g = inr g
hints_go_on (more_hints hs k) e v f g = subst GoesOn (sym (append_assoc (hints_text hs) (hint_text k) (e ∷ v))) (hint_first hs k (e ∷ v) f.0 f.1)
  where
    one_hint : (k : Hint) (u : List Terminal) → HintFits k → GoesOn (hint_text k ++ u)
    one_hint (hint w o n ws c) u h = inl h.0

    hint_first : (js : Hints) (k : Hint) (u : List Terminal) → HintsFit js → HintFits k → GoesOn (hints_text js ++ (hint_text k ++ u))
    hint_first no_hints k u p q = one_hint k u q
    hint_first (more_hints js j) k u p q = subst GoesOn (sym (append_assoc (hints_text js) (hint_text j) (hint_text k ++ u))) (hint_first js j (hint_text k ++ u) p.0 p.1)

pub equal_read : (ds : Defs) (w x : Terminal) (ls : List Terminal) (hs : Hints) (e : Terminal) (v : List Terminal) → signed is_equal e ≡ true
    → reads (at (hinted (of_syntax ds w x ls) hs)) (e ∷ v) ≡ reads (at (entering (case_slot (syntax_head ds w x ls hs e) no_members []))) v
equal_read ds w x ls hs e v g =
    own_step (hinted (of_syntax ds w x ls) hs) e (at (entering (case_slot (syntax_head ds w x ls hs e) no_members []))) v
    (subst (λ l. own (hinted (of_syntax ds w x ls) hs) l ≡ Some (at (entering (case_slot (syntax_head ds w x ls hs l) no_members [])))) (sym (at_equal e g).1) (equals ls hs))
  where
    equals : (ks : List Terminal) (js : Hints) → own (hinted (of_syntax ds w x ks) js) (sign mark.Equal (at_equal e g).0) ≡ Some (at (entering (case_slot (syntax_head ds w x ks js (sign mark.Equal (at_equal e g).0)) no_members [])))
    equals [] no_hints = refl
    equals [] (more_hints js k) = refl
    equals (s ∷ ks) no_hints = refl
    equals (s ∷ ks) (more_hints js k) = refl

-- the word of a definition
pub word_step : (ds : Defs) (l : Terminal) (k : Keyword) (st : State) (v : List Terminal) → keyword l ≡ k → begin_def ds l k ≡ Some st → reads (at (between ds)) (l ∷ v) ≡ reads st v
word_step ds l k st v e f = ap (λ o. option_and_then finish (option_and_then (λ next. reading next v) o)) (ap (begin_def ds l) e ∙ f)

pub syntax_read : (ds : Defs) (w x : Terminal) (ls : List Terminal) (hs : Hints) (e : Terminal) (b : Body) (v : List Terminal) → DefFits (syntax_def w x ls hs e b) → Turns v
    → reads (at (between ds)) (def_text (syntax_def w x ls hs e b) ++ v) ≡ reads (at (between (more_defs ds (syntax_def w x ls hs e b)))) v
syntax_read ds w x ls hs e b v f n =
    word_step ds w syntax_word (at (syntax_name ds w)) (x ∷ ((ls ++ (hints_text hs ++ (e ∷ body_text b))) ++ v)) f.0 refl
    ∙ when_step (syntax_name ds w) x (is_low x) (at (hinted (of_syntax ds w x []) no_hints)) ((ls ++ (hints_text hs ++ (e ∷ body_text b))) ++ v) refl f.1
    ∙ ap (reads (at (hinted (of_syntax ds w x []) no_hints))) (append_assoc ls (hints_text hs ++ (e ∷ body_text b)) v ∙ ap (λ u. ls ++ u) (append_assoc (hints_text hs) (e ∷ body_text b) v))
    ∙ fragment_read ds w x ls (hints_text hs ++ (e ∷ (body_text b ++ v))) f.2 (hints_go_on hs e (body_text b ++ v) f.3 f.4)
    ∙ hints_read (of_syntax ds w x ls) hs (e ∷ (body_text b ++ v)) f.3
    ∙ equal_read ds w x ls hs e (body_text b ++ v) f.4
    ∙ body_read (syntax_head ds w x ls hs e) b v f.5 n

pub var_read : (ds : Defs) (w x c : Terminal) (t : Tree) (hs : Hints) (v : List Terminal) → DefFits (var_def w x c t hs) → Turns v
    → reads (at (between ds)) (def_text (var_def w x c t hs) ++ v) ≡ reads (at (between (more_defs ds (var_def w x c t hs)))) v
var_read ds w x c t hs v f n =
    word_step ds w var_word (at (var_name ds w)) (x ∷ c ∷ ((text t ++ hints_text hs) ++ v)) f.0 refl
    ∙ when_step (var_name ds w) x (is_low x || is_label x) (at (var_colon ds w x)) (c ∷ ((text t ++ hints_text hs) ++ v)) refl f.1
    ∙ when_step (var_colon ds w x) c (signed is_colon c) (begun (var_slot ds w x c)) ((text t ++ hints_text hs) ++ v) refl f.2
    ∙ ap (reads (begun (var_slot ds w x c))) (append_assoc (text t) (hints_text hs) v)
    ∙ hinted_read (var_slot ds w x c) (of_var ds w x c t) t hs v (λ u e. ap (λ y. hinted (of_var ds w x c y) no_hints) e) f.3 f.4 (turns_stop typ v n)
    ∙ turn_read (hinted (of_var ds w x c t) hs) (more_defs ds (var_def w x c t hs)) v refl (hinted_leaves (of_var ds w x c t) hs (λ y. refl)) n

pub relation_read : (ds : Defs) (w r : Terminal) (hs : Hints) (c : Terminal) (t : Tree) (ks : Hints) (v : List Terminal) → DefFits (relation_def w r hs c t ks) → Turns v
    → reads (at (between ds)) (def_text (relation_def w r hs c t ks) ++ v) ≡ reads (at (between (more_defs ds (relation_def w r hs c t ks)))) v
relation_read ds w r hs c t ks v f n =
    word_step ds w relation_word (at (relation_name ds w)) (r ∷ ((hints_text hs ++ (c ∷ (text t ++ hints_text ks))) ++ v)) f.0 refl
    ∙ when_step (relation_name ds w) r (names_relation r) (at (hinted (of_relation ds w r) no_hints)) ((hints_text hs ++ (c ∷ (text t ++ hints_text ks))) ++ v) refl f.1
    ∙ ap (reads (at (hinted (of_relation ds w r) no_hints))) (append_assoc (hints_text hs) (c ∷ (text t ++ hints_text ks)) v)
    ∙ hints_read (of_relation ds w r) hs (c ∷ ((text t ++ hints_text ks) ++ v)) f.2
    ∙ own_step (hinted (of_relation ds w r) hs) c (begun (notation_slot ds w r hs c)) ((text t ++ hints_text ks) ++ v)
    (subst (λ l. own (hinted (of_relation ds w r) hs) l ≡ Some (begun (notation_slot ds w r hs l))) (sym (at_colon c f.3).1) refl)
    ∙ ap (reads (begun (notation_slot ds w r hs c))) (append_assoc (text t) (hints_text ks) v)
    ∙ hinted_read (notation_slot ds w r hs c) (of_notation ds w r hs c t) t ks v (λ u e. ap (λ y. hinted (of_notation ds w r hs c y) no_hints) e) f.4 f.5 (turns_stop notation v n)
    ∙ turn_read (hinted (of_notation ds w r hs c t) ks) (more_defs ds (relation_def w r hs c t ks)) v refl (hinted_leaves (of_notation ds w r hs c t) ks (λ y. refl)) n

pub def_read : (ds : Defs) (d : Def) (v : List Terminal) → DefFits d → Turns v → reads (at (between ds)) (def_text d ++ v) ≡ reads (at (between (more_defs ds d))) v
def_read ds (syntax_def w x ls hs e b) v f n = syntax_read ds w x ls hs e b v f n
def_read ds (var_def w x c t hs) v f n = var_read ds w x c t hs v f n
def_read ds (relation_def w r hs c t ks) v f n = relation_read ds w r hs c t ks v f n
def_read ds (rule_def w r ls c t ps) v f n =
    word_step ds w rule_word (at (rule_name ds w)) (r ∷ ((ls ++ (c ∷ (text t ++ premises_text ps))) ++ v)) f.0 refl
    ∙ when_step (rule_name ds w) r (names_relation r) (at (rule_colon ds w r)) ((ls ++ (c ∷ (text t ++ premises_text ps))) ++ v) refl f.1
    ∙ ap (reads (at (rule_colon ds w r))) (append_assoc ls (c ∷ (text t ++ premises_text ps)) v)
    ∙ colon_read ds w r ls c ((text t ++ premises_text ps) ++ v) f.2 f.3
    ∙ rule_read (rule_head ds w r ls c) t ps v f.4 f.5 n
def_read ds (fun_def w k a c t hs) v f n =
    word_step ds w def_word (at (fun_name ds w)) (k ∷ ((args_text a ++ (c ∷ (text t ++ hints_text hs))) ++ v)) f.0 refl
    ∙ when_step (fun_name ds w) k (is_fun k) (at (fun_named ds w k)) ((args_text a ++ (c ∷ (text t ++ hints_text hs))) ++ v) refl f.1
    ∙ ap (reads (at (fun_named ds w k))) (append_assoc (args_text a) (c ∷ (text t ++ hints_text hs)) v)
    ∙ all_args_read ds w k a (c ∷ ((text t ++ hints_text hs) ++ v)) (args_as_expressions a f.2)
    ∙ result_read ds w k a c ((text t ++ hints_text hs) ++ v) f.2 f.3
    ∙ ap (reads (begun (fun_slot ds w k a c))) (append_assoc (text t) (hints_text hs) v)
    ∙ hinted_read (fun_slot ds w k a c) (of_fun ds w k a c t) t hs v (λ u e. ap (λ y. hinted (of_fun ds w k a c y) no_hints) e) f.4 f.5 (turns_stop typ v n)
    ∙ turn_read (hinted (of_fun ds w k a c t) hs) (more_defs ds (fun_def w k a c t hs)) v refl (hinted_leaves (of_fun ds w k a c t) hs (λ y. refl)) n
def_read ds (clause_def w k a c t ps) v f n =
    word_step ds w def_word (at (fun_name ds w)) (k ∷ ((args_text a ++ (c ∷ (text t ++ premises_text ps))) ++ v)) f.0 refl
    ∙ when_step (fun_name ds w) k (is_fun k) (at (fun_named ds w k)) ((args_text a ++ (c ∷ (text t ++ premises_text ps))) ++ v) refl f.1
    ∙ ap (reads (at (fun_named ds w k))) (append_assoc (args_text a) (c ∷ (text t ++ premises_text ps)) v)
    ∙ all_args_read ds w k a (c ∷ ((text t ++ premises_text ps) ++ v)) f.2
    ∙ clause_read ds w k a c ((text t ++ premises_text ps) ++ v) f.3
    ∙ rule_read (clause_head ds w k a c) t ps v f.4 f.5 n

pub def_turns : (d : Def) (v : List Terminal) → DefFits d → Turns (def_text d ++ v)
def_turns (syntax_def w x ls hs e b) v f = ap is_def_word f.0
def_turns (var_def w x c t hs) v f = ap is_def_word f.0
def_turns (relation_def w r hs c t ks) v f = ap is_def_word f.0
def_turns (rule_def w r ls c t ps) v f = ap is_def_word f.0
def_turns (fun_def w k a c t hs) v f = ap is_def_word f.0
def_turns (clause_def w k a c t ps) v f = ap is_def_word f.0

pub defs_read : (ds : Defs) (v : List Terminal) → DefsFit ds → Turns v → reads start (defs_text ds ++ v) ≡ reads (at (between ds)) v
defs_read no_defs v f n = refl
defs_read (more_defs ds d) v f n =
    ap (reads start) (append_assoc (defs_text ds) (def_text d) v)
    ∙ defs_read ds (def_text d ++ v) f.0 (def_turns d v f.1)
    ∙ def_read ds d v f.1 n

-- ---- what the reading says of the grammar

pub complete_defs : (us : List Terminal) (ds : Defs) → ParseDefs us ds → reads start us ≡ Some ds
complete_defs us ds p = ap (reads start) (p.spelled ∙ sym (append-nil (defs_text ds))) ∙ defs_read ds [] p.fits tt

pub reading_append : (st : State) (us vs : List Terminal) → reading st (us ++ vs) ≡ option_and_then (λ next. reading next vs) (reading st us)
reading_append st [] vs = refl
reading_append st (l ∷ us) vs = go (step st l) (λ next. reading_append next us vs)
  where
    go : (o : Option State) → ((next : State) → reading next (us ++ vs) ≡ option_and_then (λ last. reading last vs) (reading next us))
        → option_and_then (λ next. reading next (us ++ vs)) o ≡ option_and_then (λ last. reading last vs) (option_and_then (λ next. reading next us) o)
    go None h = refl
    go (Some next) h = h next

pub dead_defs : (ns : List (List ℕ)) (us : List Terminal) → reading start us ≡ None → ViableDefs ns us → ⊥
dead_defs ns us e v =
    let vs = map (terminal ns) v.0 in
    let done = complete_defs (us ++ vs) v.1 v.2 in
    let split = reading_append start us vs in
    let nothing : reads start (us ++ vs) ≡ None = ap (option_and_then finish) (split ∙ ap (option_and_then (λ next. reading next vs)) e) in
    absurd (cc)

pub one_list_of_defs : (us : List Terminal) (a b : Defs) → ParseDefs us a → ParseDefs us b → a ≡ b
one_list_of_defs us a b p q = let e = complete_defs us a p in let f = complete_defs us b q in cc
