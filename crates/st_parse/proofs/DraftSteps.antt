-- What each token between parts changes of the draft.
use Rattle.std.proofs.Common.{◌≡◌, ℕ, zero, suc, ◌-◌, List, [], ◌∷◌, ◌++◌, map, drop, length, flat_map, Bool, true, false, ◌&&◌, Option, Some, None, slice_get, if◌then◌else◌, refl, sym, ap, ◌∙◌, append_assoc, append-nil}
use Rattle.std.proofs.lemmas.List.{map-append}
use Rattle.std.proofs.lemmas.Grind.{flat_map-append}
use Rattle.st_grammar.specs.declared.sort.Bracket.{Bracket}
use Rattle.st_grammar.specs.declared.keyword.Keyword.{Keyword}
use Rattle.st_grammar.specs.declared.keyword.Keyword.TheVariants as key
use Rattle.st_grammar.specs.Levels.{is_iteration_sign, is_caret, is_comma, is_colon}
use Rattle.st_grammar.specs.Terminals.{Terminal, leaf, dot, sign, opening, closing, other}
use Rattle.st_grammar.specs.Trees.{Tree, Trees, none, more}
use Rattle.st_grammar.specs.Reading as part
use Rattle.st_grammar.specs.Definitions.{token_in, keyword, touches, signed, is_slash, is_equal, is_dots, is_bar, opens_round, closes_round, opens_brace, closes_brace, names_relation, id_step, balance_step, hint, Hints, no_hints, more_hints, Members, no_members, member, fields, cases, Iterations, closed, marked, closings, has_closed, default, given, Premises, more_premises, Args, no_args, args, ArgsFit, Defs}
use Rattle.st_grammar.specs.Grammar.{is_label}
use Rattle.st_grammar.specs.Positions.{Head, syntax_head, Rule, rule_head, clause_head, Host, of_syntax, of_field, of_case, of_var, of_relation, of_notation, of_fun, Slot, field_slot, case_slot, var_slot, notation_slot, fun_slot, arg_slot, rule_slot, cond_slot, count_slot, slot_sort, Position, between, syntax_name, var_name, var_colon, relation_name, rule_name, rule_colon, fun_name, fun_named, argued, args_closed, syntax_id, rule_id, hinted, hint_open, hint_name, hint_words, entering, dotted, field_name, premised, premise_open, goal_colon, iterated, State, at, inside, syntax_whole, is_whole, begun, when, enter, enter_case, enter_other, field_step, host_step, hint_or, hint_step, id_goes, colon_step, reads_types, result_step, premise_step, premise_word, next_premise, may_close, iterate, own}
use Rattle.st_grammar.specs.declared.sort.Sort.TheVariants.{Expression as expression, Typ as typ}
use Rattle.st_grammar.proofs.Sound.{and_right}
use Rattle.st_grammar.proofs.PositionTexts.{InId, PositionHolds}
use Rattle.st_grammar.proofs.PositionSteps.{types_fit}
use Rattle.st_parse.specs.declared.change.Change.{Change}
use Rattle.st_parse.specs.declared.change.Change.TheVariants as change
use Rattle.st_el.specs.declared.definition.PremNode.TheVariants as prem
use Rattle.st_el.specs.declared.definition.DefNode.TheVariants as def
use Rattle.st_parse_builder.specs.Definitions as meant
use Rattle.st_parse_automaton.proofs.DefinitionView.{rounds, definitions_of}
use Rattle.st_parse_automaton.proofs.DefinitionView as view
use Rattle.st_parse_automaton.specs.inner.Shapes.{shape}
use Rattle.st_el.specs.declared.notation.Notation.{Notation}
use Rattle.st_el.specs.declared.definition.Body.TheVariants as body
use Rattle.st_el.specs.Plain.{nowhere}
use Rattle.st_parse_builder.specs.Meaning.{meaning, label}
use Rattle.st_parse_builder.specs.Notations.{typ_meaning, notation_meaning}
use Rattle.st_parse_builder.specs.Definitions.{name_in, place_in, fragment_name, piece_text, hint_meaning, hints_meaning, fields_meaning, opened_at, sign_count, condition, premises_meaning, prem_at, params, patterns, has_dots_before, cases_meaning, body_meaning, def_at, defs_meaning}
use Rattle.st_parse.specs.inner.Changes.{change_of}
use Rattle.st_parse.specs.inner.Ready.{Ready}
use Rattle.st_parse.specs.declared.draft.Draft.{Draft}
use Rattle.st_parse.specs.inner.Drafts.{no_hint, no_members as no_body, no_sides, premises_so_far, begun as begun_draft, with_hints, id_with, span_or, shape_count, body_of, applied, arguments_after}
use Rattle.st_grammar.specs.declared.action.Action.{Action}
use Rattle.st_parse.proofs.DraftOf.{place_of, drafted, fields_body, cases_body, head_draft, rule_draft, has_dots, host_draft, premise_at, slot_draft, position_draft, arguments_acts, args_acts, position_args, slot_args}
use Rattle.st_parse.proofs.Endings.{fields_end, cases_end}

abbrev pub state_draft : State → Draft
state_draft (at p) = position_draft p
state_draft (inside s st) = slot_draft s

-- the arguments that are read, as actions
abbrev pub state_arguments : State → List (List Action)
state_arguments (at p) = args_acts (position_args p)
state_arguments (inside s st) = arguments_acts (slot_args s)

-- A part has not begun, but where something other may stand instead.
abbrev pub Fresh : State → Position → Type 0
Fresh (at q) p = Unit {0}
Fresh (inside s st) (entering r) = Unit {0}
Fresh (inside s st) p = st ≡ part.start (slot_sort s)

-- Arguments are allowed as what they are built as.
abbrev pub FitsAs : Change → Args → Type 0
FitsAs change.Params a = ArgsFit typ a
FitsAs change.Args a = ArgsFit (expression false) a
FitsAs c a = Unit {0}

-- The token leads from this position there, and changes the draft and the arguments as it does.
pub record Changes (p : Position) (l : Terminal) (next : State) : Type 0 where
  pub draft : state_draft next ≡ applied (change_of (view.position_of p) (definitions_of next)) (shape l) (token_in l) (params (position_args p)) (patterns (position_args p)) (position_draft p)
  pub arguments : state_arguments next ≡ arguments_after (change_of (view.position_of p) (definitions_of next)) (args_acts (position_args p))
  pub fresh : Fresh next p
  pub fits : FitsAs (change_of (view.position_of p) (definitions_of next)) (position_args p)
  pub ready : Ready (change_of (view.position_of p) (definitions_of next)) (position_draft p)

abbrev pub Changed : Position → Terminal → Option State → Type 0
Changed p l None = Unit {0}
Changed p l (Some next) = Changes p l next

changed_if : (p : Position) (l : Terminal) (b : Bool) (st : State) (o : Option State) → (b ≡ true → Changes p l st) → Changed p l o → Changed p l (if b then Some st else o)
changed_if p l true st o h k = h refl
changed_if p l false st o h k = k

changed_when : (p : Position) (l : Terminal) (b : Bool) (st : State) → (b ≡ true → Changes p l st) → Changed p l (when b st)
changed_when p l b st h = changed_if p l b st None h tt

-- ---- names

pub id_more : (ls : List Terminal) (l : Terminal) → fragment_name (ls ++ l ∷ []) ≡ Some (id_with (fragment_name ls) (token_in l).kind)
id_more [] l = refl
id_more (s ∷ ls) l =
    ap (λ t. Some t)
    (flat_map-append (λ k. piece_text (token_in k).kind) ls (l ∷ []) ∙ ap (λ t. flat_map (λ k. piece_text (token_in k).kind) ls ++ t) (append-nil (piece_text (token_in l).kind)))

pub label_more : (pre : List Terminal) (l : Terminal) → label (pre ++ l ∷ []) ≡ name_in l
label_more [] l = refl
label_more (k ∷ []) l = refl
label_more (k ∷ j ∷ pre) l = label_more (j ∷ pre) l

colon_changes : (p : Position) (ds : Defs) (w r : Terminal) (ls : List Terminal) (l : Terminal) → Changes p l (begun (rule_slot (rule_head ds w r ls l))) → Changed p l (colon_step ds w r ls l)
colon_changes p ds w r ls l h = changed_when p l _ _ (λ _. h)

-- ---- hints

hint_ends : (h : Host) (hs : Hints) (w o n : Terminal) (ws : List Terminal) (l : Terminal) → Changes (hint_words h hs w o n ws []) l (at (hinted h (more_hints hs (hint w o n ws l))))
hint_ends (of_syntax ds w x ls) hs v o n ws l = (record { draft = refl; arguments = refl; fresh = tt; fits = tt; ready = tt })
hint_ends (of_field (syntax_head ds w x ls js e) o ms pre t) hs v q n ws l = (record { draft = refl; arguments = refl; fresh = tt; fits = tt; ready = tt })
hint_ends (of_case (syntax_head ds w x ls js e) ms pre t) hs v q n ws l = (record { draft = refl; arguments = refl; fresh = tt; fits = tt; ready = tt })
hint_ends (of_var ds w x c t) hs v q n ws l = (record { draft = refl; arguments = refl; fresh = tt; fits = tt; ready = tt })
hint_ends (of_relation ds w r) hs v q n ws l = (record { draft = refl; arguments = refl; fresh = tt; fits = tt; ready = tt })
hint_ends (of_notation ds w r hs c t) ks v q n ws l =
    record { draft = ap (λ js. with_hints js no_hint (host_draft (of_notation ds w r hs c t) ks)) (sym (append_assoc (hints_meaning hs) (hints_meaning ks) (hint_meaning (hint v q n ws l) ∷ []))); arguments = refl; fresh = tt; fits = tt; ready = tt }
hint_ends (of_fun ds w f a c t) hs v q n ws l = (record { draft = refl; arguments = refl; fresh = tt; fits = tt; ready = tt })

hint_changes : (h : Host) (hs : Hints) (w o n : Terminal) (ws : List Terminal) (cs : List Bracket) (l : Terminal) (q : Option (List Bracket)) → Changed (hint_words h hs w o n ws cs) l (hint_step h hs w o n ws cs l q)
hint_changes h hs w o n ws cs l (Some js) =
    record { draft = ap (λ ts. with_hints (host_draft h hs).hints (record { name = name_in n; words = ts }) (host_draft h hs)) (map-append token_in ws (l ∷ [])); arguments = refl; fresh = tt; fits = tt; ready = tt }
hint_changes h hs w o n ws [] l None = changed_when _ l _ _ (λ _. hint_ends h hs w o n ws l)
hint_changes h hs w o n ws (k ∷ cs) l None = tt

-- ---- bodies

pub dots_same : (ms : Members) (pre : List Terminal) (t : Tree) (hs : Hints) → has_dots_before (member ms pre t hs) ≡ has_dots ms pre
dots_same no_members [] t hs = refl
dots_same no_members (b ∷ []) t hs = refl
dots_same no_members (d ∷ b ∷ []) t hs = refl
dots_same no_members (d ∷ b ∷ c ∷ ls) t hs = refl
dots_same (member ms q u js) [] t hs = refl
dots_same (member ms q u js) (b ∷ []) t hs = refl
dots_same (member ms q u js) (d ∷ b ∷ []) t hs = refl
dots_same (member ms q u js) (d ∷ b ∷ c ∷ ls) t hs = refl

pub body_after : (b : Bool) (ns : List Notation) → body_of b ns true ≡ body.Cases b ns true
body_after true ns = refl
body_after false [] = refl
body_after false (n ∷ []) = refl
body_after false (n ∷ m ∷ ns) = refl

pub dots_end : (ms : Members) (b l : Terminal) → body_meaning (cases ms (b ∷ l ∷ [])) ≡ body_of (has_dots_before ms) (cases_meaning ms) true
dots_end ms b l = go ms ∙ sym (body_after (has_dots_before ms) (cases_meaning ms))
  where
    go : (ks : Members) → body_meaning (cases ks (b ∷ l ∷ [])) ≡ body.Cases (has_dots_before ks) (cases_meaning ks) true
    go no_members = refl
    go (member no_members [] t hs) = refl
    go (member no_members (c ∷ []) t hs) = refl
    go (member no_members (d ∷ c ∷ []) t hs) = refl
    go (member no_members (d ∷ c ∷ e ∷ ls) t hs) = refl
    go (member (member ks q u js) [] t hs) = refl
    go (member (member ks q u js) (c ∷ []) t hs) = refl
    go (member (member ks q u js) (d ∷ c ∷ []) t hs) = refl
    go (member (member ks q u js) (d ∷ c ∷ e ∷ ls) t hs) = refl

host_changes : (h : Host) (hs : Hints) (l : Terminal) → Changed (hinted h hs) l (host_step h hs l)
host_changes (of_syntax ds w x []) no_hints l = changed_if _ l (signed is_slash l) (at (syntax_id ds w x (l ∷ []) true)) (when (signed is_equal l) (at (entering (case_slot (syntax_head ds w x [] no_hints l) no_members [])))) (λ _. (record { draft = refl; arguments = refl; fresh = tt; fits = tt; ready = tt })) (changed_when _ l _ _ (λ _. (record { draft = refl; arguments = refl; fresh = tt; fits = tt; ready = tt })))
host_changes (of_syntax ds w x []) (more_hints hs k) l = changed_when _ l _ _ (λ _. (record { draft = refl; arguments = refl; fresh = tt; fits = tt; ready = tt }))
host_changes (of_syntax ds w x (s ∷ ls)) no_hints l = changed_when _ l _ _ (λ _. (record { draft = refl; arguments = refl; fresh = tt; fits = tt; ready = tt }))
host_changes (of_syntax ds w x (s ∷ ls)) (more_hints hs k) l = changed_when _ l _ _ (λ _. (record { draft = refl; arguments = refl; fresh = tt; fits = tt; ready = tt }))
host_changes (of_field h o ms pre t) hs l = changed_if _ l (signed is_comma l) (at (field_name h o (member ms pre t hs) (l ∷ []))) (when (closes_brace l) (at (between (syntax_whole h (fields o (member ms pre t hs) l))))) (λ _. (record { draft = refl; arguments = refl; fresh = tt; fits = tt; ready = tt })) (changed_when _ l _ _ (λ _. field_ends h))
  where
    field_ends : (k : Head) → Changes (hinted (of_field k o ms pre t) hs) l (at (between (syntax_whole k (fields o (member ms pre t hs) l))))
    field_ends (syntax_head ds w x ls js e) = record { draft = refl; arguments = refl; fresh = tt; fits = tt; ready = fields_end ds w x (fragment_name ls) (hints_meaning js) [] (fields_meaning ms ++ (label pre, typ_meaning t) ∷ []) }
host_changes (of_case h ms pre t) hs l = changed_when _ l _ _ (λ _. record { draft = ap (λ b. head_draft h (cases_body b (cases_meaning ms ++ notation_meaning t ∷ []))) (dots_same ms pre t hs); arguments = refl; fresh = tt; fits = tt; ready = tt })
host_changes (of_var ds w x c t) hs l = tt
host_changes (of_relation ds w r) hs l = changed_when _ l _ _ (λ _. (record { draft = refl; arguments = refl; fresh = refl; fits = tt; ready = tt }))
host_changes (of_notation ds w r hs c t) ks l = tt
host_changes (of_fun ds w f a c t) hs l = tt

hint_or_changes : (k : Keyword) (h : Host) (hs : Hints) (l : Terminal) → Changed (hinted h hs) l (hint_or k h hs l)
hint_or_changes key.HintWord h hs l = (record { draft = refl; arguments = refl; fresh = tt; fits = tt; ready = tt })
hint_or_changes key.SyntaxWord h hs l = host_changes h hs l
hint_or_changes key.RelationWord h hs l = host_changes h hs l
hint_or_changes key.RuleWord h hs l = host_changes h hs l
hint_or_changes key.VarWord h hs l = host_changes h hs l
hint_or_changes key.DefWord h hs l = host_changes h hs l
hint_or_changes key.IfWord h hs l = host_changes h hs l
hint_or_changes key.OtherwiseWord h hs l = host_changes h hs l
hint_or_changes key.Dashes h hs l = host_changes h hs l
hint_or_changes key.NoWord h hs l = host_changes h hs l

-- behind the name of a fragment
id_host : (ds : Defs) (w x : Terminal) (s : Terminal) (ls : List Terminal) (d : Bool) (l : Terminal) (k : Keyword) → Changed (syntax_id ds w x (s ∷ ls) d) l (hint_or k (of_syntax ds w x (s ∷ ls)) no_hints l)
id_host ds w x s ls d l key.HintWord = (record { draft = refl; arguments = refl; fresh = tt; fits = tt; ready = tt })
id_host ds w x s ls d l key.SyntaxWord = changed_when _ l _ _ (λ _. (record { draft = refl; arguments = refl; fresh = tt; fits = tt; ready = tt }))
id_host ds w x s ls d l key.RelationWord = changed_when _ l _ _ (λ _. (record { draft = refl; arguments = refl; fresh = tt; fits = tt; ready = tt }))
id_host ds w x s ls d l key.RuleWord = changed_when _ l _ _ (λ _. (record { draft = refl; arguments = refl; fresh = tt; fits = tt; ready = tt }))
id_host ds w x s ls d l key.VarWord = changed_when _ l _ _ (λ _. (record { draft = refl; arguments = refl; fresh = tt; fits = tt; ready = tt }))
id_host ds w x s ls d l key.DefWord = changed_when _ l _ _ (λ _. (record { draft = refl; arguments = refl; fresh = tt; fits = tt; ready = tt }))
id_host ds w x s ls d l key.IfWord = changed_when _ l _ _ (λ _. (record { draft = refl; arguments = refl; fresh = tt; fits = tt; ready = tt }))
id_host ds w x s ls d l key.OtherwiseWord = changed_when _ l _ _ (λ _. (record { draft = refl; arguments = refl; fresh = tt; fits = tt; ready = tt }))
id_host ds w x s ls d l key.Dashes = changed_when _ l _ _ (λ _. (record { draft = refl; arguments = refl; fresh = tt; fits = tt; ready = tt }))
id_host ds w x s ls d l key.NoWord = changed_when _ l _ _ (λ _. (record { draft = refl; arguments = refl; fresh = tt; fits = tt; ready = tt }))

syntax_id_changes : (ds : Defs) (w x : Terminal) (ls : List Terminal) (d : Bool) (l : Terminal) (q : Option Bool) → InId ls d
    → Changed (syntax_id ds w x ls d) l (id_goes q d (λ e. at (syntax_id ds w x (ls ++ l ∷ []) e)) (hint_or (keyword l) (of_syntax ds w x ls) no_hints l))
syntax_id_changes ds w x ls d l (Some e) h = record { draft = ap (λ id. drafted ds w x id [] no_body no_sides (premises_so_far [])) (id_more ls l); arguments = refl; fresh = tt; fits = tt; ready = tt }
syntax_id_changes ds w x ls true l None h = tt
syntax_id_changes ds w x [] false l None h = absurd h
syntax_id_changes ds w x (s ∷ ls) false l None h = id_host ds w x s ls false l (keyword l)

rule_id_changes : (ds : Defs) (w r : Terminal) (ls : List Terminal) (d : Bool) (l : Terminal) (q : Option Bool)
    → Changed (rule_id ds w r ls d) l (id_goes q d (λ e. at (rule_id ds w r (ls ++ l ∷ []) e)) (colon_step ds w r ls l))
rule_id_changes ds w r ls d l (Some e) = record { draft = ap (λ id. drafted ds w r id [] no_body no_sides (premises_so_far [])) (id_more ls l); arguments = refl; fresh = tt; fits = tt; ready = tt }
rule_id_changes ds w r ls true l None = tt
rule_id_changes ds w r ls false l None = colon_changes _ ds w r ls l (record { draft = refl; arguments = refl; fresh = refl; fits = tt; ready = tt })

case_changes : (h : Head) (ms : Members) (pre : List Terminal) (l : Terminal) → Changed (entering (case_slot h ms pre)) l (enter_case h ms pre l)
case_changes h no_members [] l = changed_if _ l (opens_brace l) (at (field_name h l no_members [])) (if signed is_dots l then Some (at (dotted h l)) else when (is_bar l) (at (entering (case_slot h no_members (l ∷ []))))) (λ _. (record { draft = refl; arguments = refl; fresh = tt; fits = tt; ready = tt })) (changed_if _ l (signed is_dots l) (at (dotted h l)) (when (is_bar l) (at (entering (case_slot h no_members (l ∷ []))))) (λ _. dotted_is h) (changed_when _ l _ _ (λ _. (record { draft = refl; arguments = refl; fresh = tt; fits = tt; ready = tt }))))
  where
    dotted_is : (k : Head) → Changes (entering (case_slot k no_members [])) l (at (dotted k l))
    dotted_is (syntax_head ds w x ls js e) = (record { draft = refl; arguments = refl; fresh = tt; fits = tt; ready = tt })
case_changes h no_members (b ∷ ls) l = tt
case_changes h (member ms q t hs) [] l = tt
case_changes (syntax_head ds w x ls js e) (member ms q t hs) (b ∷ []) l =
    changed_when _ l _ _ (λ _. record { draft = ap (λ y. begun_draft (defs_meaning ds ++ def_at w (hints_meaning js) (def.Syntax (name_in x) (fragment_name ls) y) ∷ []) nowhere) (dots_end (member ms q t hs) b l); arguments = refl; fresh = tt; fits = tt; ready = cases_end ds w x (fragment_name ls) (hints_meaning js) (has_dots (member ms q t hs) (b ∷ [])) (cases_meaning (member ms q t hs)) true })
case_changes h (member ms q t hs) (b ∷ c ∷ ls) l = tt

other_changes : (s : Slot) (l : Terminal) → Changed (entering s) l (enter_other s l)
other_changes (field_slot h o ms pre) l = tt
other_changes (case_slot h ms pre) l = case_changes h ms pre l
other_changes (var_slot ds w x c) l = tt
other_changes (notation_slot ds w r hs c) l = tt
other_changes (fun_slot ds w f a c) l = tt
other_changes (arg_slot ds w f o none []) l = changed_when _ l _ _ (λ _. (record { draft = refl; arguments = refl; fresh = tt; fits = tt; ready = tt }))
other_changes (arg_slot ds w f o none (k ∷ pre)) l = tt
other_changes (arg_slot ds w f o (more ts q t) pre) l = tt
other_changes (rule_slot r) l = tt
other_changes (cond_slot r t ps d os ls) l = tt
other_changes (count_slot r t ps d os ls u i k) l = tt

-- Nothing stands before a part that may be entered, or its arguments are those of the part.
pub entered_arguments : (s : Slot) → arguments_acts (slot_args s) ≡ args_acts (position_args (entering s))
entered_arguments (field_slot h o ms pre) = refl
entered_arguments (case_slot h ms pre) = refl
entered_arguments (var_slot ds w x c) = refl
entered_arguments (notation_slot ds w r hs c) = refl
entered_arguments (fun_slot ds w f a c) = refl
entered_arguments (arg_slot ds w f o ts pre) = refl
entered_arguments (rule_slot r) = refl
entered_arguments (cond_slot r t ps d os ls) = refl
entered_arguments (count_slot r t ps d os ls u i k) = refl

enter_changes : (s : Slot) (l : Terminal) (q : Option part.State) → Changed (entering s) l (enter s q (enter_other s l))
enter_changes s l (Some st) = (record { draft = refl; arguments = entered_arguments s; fresh = tt; fits = tt; ready = tt })
enter_changes s l None = other_changes s l

field_changes : (h : Head) (o : Terminal) (ms : Members) (pre : List Terminal) (l : Terminal) → Changed (field_name h o ms pre) l (field_step h o ms pre l)
field_changes (syntax_head ds w x ls js e) o no_members pre l =
    changed_if _ l (is_label l) (begun (field_slot (syntax_head ds w x ls js e) o no_members (pre ++ l ∷ []))) (when (closes_brace l) (at (between (syntax_whole (syntax_head ds w x ls js e) (fields o no_members l))))) (λ _. record { draft = ap (λ name. drafted ds w x (fragment_name ls) (hints_meaning js) (fields_body name []) no_sides (premises_so_far [])) (label_more pre l); arguments = refl; fresh = refl; fits = tt; ready = tt }) (changed_when _ l _ _ (λ _. (record { draft = refl; arguments = refl; fresh = tt; fits = tt; ready = fields_end ds w x (fragment_name ls) (hints_meaning js) [] [] })))
field_changes (syntax_head ds w x ls js e) o (member ms q t hs) pre l =
    changed_when _ l _ _ (λ _. record { draft = ap (λ name. drafted ds w x (fragment_name ls) (hints_meaning js) (fields_body name (fields_meaning (member ms q t hs))) no_sides (premises_so_far [])) (label_more pre l); arguments = refl; fresh = refl; fits = tt; ready = tt })

-- ---- arguments

result_changes : (ds : Defs) (w f : Terminal) (b : Bool) (l : Terminal) → Changed (fun_named ds w f) l (result_step ds w f no_args b l)
result_changes ds w f b l = changed_if _ l (signed is_colon l && b) (begun (fun_slot ds w f no_args l)) (when (signed is_equal l) (begun (rule_slot (clause_head ds w f no_args l)))) (λ _. (record { draft = refl; arguments = refl; fresh = refl; fits = tt; ready = refl })) (changed_when _ l _ _ (λ _. (record { draft = refl; arguments = refl; fresh = refl; fits = tt; ready = (refl, refl, refl) })))

closed_changes : (ds : Defs) (w f o : Terminal) (ts : Trees) (c : Terminal) (b : Bool) (l : Terminal) → ArgsFit (expression false) (args o ts c) → (b ≡ true → ArgsFit typ (args o ts c))
    → Changed (args_closed ds w f o ts c) l (result_step ds w f (args o ts c) b l)
closed_changes ds w f o ts c b l g h =
    changed_if _ l (signed is_colon l && b) (begun (fun_slot ds w f (args o ts c) l)) (when (signed is_equal l) (begun (rule_slot (clause_head ds w f (args o ts c) l)))) (λ e. record { draft = refl; arguments = refl; fresh = refl; fits = h (and_right (signed is_colon l) b e); ready = refl }) (changed_when _ l _ _ (λ _. record { draft = refl; arguments = refl; fresh = refl; fits = g; ready = (refl, refl, refl) }))

-- ---- premises

opened_more : (r : Rule) (t : Tree) (ps : Premises) (d : Terminal) (os : List Terminal) (l : Terminal) → Changes (premise_open r t ps d os) l (at (premise_open r t ps d (os ++ l ∷ [])))
opened_more (rule_head ds w r ls c) t ps d os l = record { draft = ap (λ ks. rule_draft (rule_head ds w r ls c) (Some (meaning t)) (record { whole = premises_meaning ps; at = place_of d; opened = ks; start = nowhere; goal = None; prem = None })) (map-append place_of os (l ∷ [])); arguments = refl; fresh = tt; fits = tt; ready = tt }
opened_more (clause_head ds w f a c) t ps d os l = record { draft = ap (λ ks. rule_draft (clause_head ds w f a c) (Some (meaning t)) (record { whole = premises_meaning ps; at = place_of d; opened = ks; start = nowhere; goal = None; prem = None })) (map-append place_of os (l ∷ [])); arguments = refl; fresh = tt; fits = tt; ready = tt }

goal_named : (r : Rule) (t : Tree) (ps : Premises) (d : Terminal) (os : List Terminal) (l : Terminal) → Changes (premise_open r t ps d os) l (at (goal_colon r t ps d os l))
goal_named (rule_head ds w r ls c) t ps d os l = (record { draft = refl; arguments = refl; fresh = tt; fits = tt; ready = tt })
goal_named (clause_head ds w f a c) t ps d os l = (record { draft = refl; arguments = refl; fresh = tt; fits = tt; ready = tt })

if_begins : (r : Rule) (t : Tree) (ps : Premises) (d : Terminal) (os : List Terminal) (l : Terminal) → Changes (premise_open r t ps d os) l (begun (cond_slot r t ps d os (l ∷ [])))
if_begins (rule_head ds w r ls c) t ps d os l = (record { draft = refl; arguments = refl; fresh = refl; fits = tt; ready = tt })
if_begins (clause_head ds w f a c) t ps d os l = (record { draft = refl; arguments = refl; fresh = refl; fits = tt; ready = tt })

otherwise_ends : (r : Rule) (t : Tree) (ps : Premises) (d : Terminal) (l : Terminal) → Changes (premise_open r t ps d []) l (at (premised r t (more_premises ps (default d l))))
otherwise_ends (rule_head ds w r ls c) t ps d l = (record { draft = refl; arguments = refl; fresh = tt; fits = tt; ready = refl })
otherwise_ends (clause_head ds w f a c) t ps d l = (record { draft = refl; arguments = refl; fresh = tt; fits = tt; ready = refl })

open_changes : (r : Rule) (t : Tree) (ps : Premises) (d : Terminal) (os : List Terminal) (l : Terminal) → Changed (premise_open r t ps d os) l (premise_step r t ps d os l)
open_changes r t ps d os l = changed_if _ l (opens_round l) (at (premise_open r t ps d (os ++ l ∷ []))) (when (names_relation l) (at (goal_colon r t ps d os l))) (λ _. opened_more r t ps d os l) (changed_when _ l _ _ (λ _. goal_named r t ps d os l))

word_changes : (k : Keyword) (r : Rule) (t : Tree) (ps : Premises) (d : Terminal) (os : List Terminal) (l : Terminal) → Changed (premise_open r t ps d os) l (premise_word k r t ps d os l)
word_changes key.IfWord r t ps d os l = if_begins r t ps d os l
word_changes key.OtherwiseWord r t ps d [] l = otherwise_ends r t ps d l
word_changes key.OtherwiseWord r t ps d (o ∷ os) l = open_changes r t ps d (o ∷ os) l
word_changes key.SyntaxWord r t ps d os l = open_changes r t ps d os l
word_changes key.RelationWord r t ps d os l = open_changes r t ps d os l
word_changes key.RuleWord r t ps d os l = open_changes r t ps d os l
word_changes key.VarWord r t ps d os l = open_changes r t ps d os l
word_changes key.DefWord r t ps d os l = open_changes r t ps d os l
word_changes key.HintWord r t ps d os l = open_changes r t ps d os l
word_changes key.Dashes r t ps d os l = open_changes r t ps d os l
word_changes key.NoWord r t ps d os l = open_changes r t ps d os l

premised_changes : (k : Keyword) (r : Rule) (t : Tree) (ps : Premises) (l : Terminal) → Changed (premised r t ps) l (next_premise k r t ps l)
premised_changes key.Dashes (rule_head ds w r ls c) t ps l = (record { draft = refl; arguments = refl; fresh = tt; fits = tt; ready = refl })
premised_changes key.Dashes (clause_head ds w f a c) t ps l = (record { draft = refl; arguments = refl; fresh = tt; fits = tt; ready = refl })
premised_changes key.IfWord r t ps l = tt
premised_changes key.OtherwiseWord r t ps l = tt
premised_changes key.SyntaxWord r t ps l = tt
premised_changes key.RelationWord r t ps l = tt
premised_changes key.RuleWord r t ps l = tt
premised_changes key.VarWord r t ps l = tt
premised_changes key.DefWord r t ps l = tt
premised_changes key.HintWord r t ps l = tt
premised_changes key.NoWord r t ps l = tt

next_changes : (k : Keyword) (r : Rule) (t : Tree) (ps : Premises) (d : Terminal) (os ls : List Terminal) (u : Tree) (i : Iterations) (l : Terminal)
    → Changed (iterated r t ps d os ls u i) l (next_premise k r t (more_premises ps (given d os ls u i)) l)
next_changes key.Dashes (rule_head ds w r js c) t ps d os ls u i l = (record { draft = refl; arguments = refl; fresh = tt; fits = tt; ready = tt })
next_changes key.Dashes (clause_head ds w f a c) t ps d os ls u i l = (record { draft = refl; arguments = refl; fresh = tt; fits = tt; ready = tt })
next_changes key.IfWord r t ps d os ls u i l = tt
next_changes key.OtherwiseWord r t ps d os ls u i l = tt
next_changes key.SyntaxWord r t ps d os ls u i l = tt
next_changes key.RelationWord r t ps d os ls u i l = tt
next_changes key.RuleWord r t ps d os ls u i l = tt
next_changes key.VarWord r t ps d os ls u i l = tt
next_changes key.DefWord r t ps d os ls u i l = tt
next_changes key.HintWord r t ps d os ls u i l = tt
next_changes key.NoWord r t ps d os ls u i l = tt

pub rounds_length : (n : ℕ) → length (rounds n) ≡ n
rounds_length zero = refl
rounds_length (suc n) = ap suc (rounds_length n)

pub span_drop : (os : List Terminal) (n : ℕ) → span_or (slice_get (map place_of os) n) ≡ place_in (drop n os)
span_drop [] zero = refl
span_drop [] (suc n) = refl
span_drop (o ∷ os) zero = refl
span_drop (o ∷ os) (suc n) = span_drop os n

pub span_opened : (os : List Terminal) (n : ℕ) → span_or (slice_get (map place_of os) (length (rounds (length os - n)))) ≡ opened_at os n
span_opened os n = span_drop os (length (rounds (length os - n))) ∙ ap (λ k. place_in (drop k os)) (rounds_length (length os - n))

shape_count_is : (l : Terminal) → shape_count (shape l) ≡ sign_count l
shape_count_is (leaf k x) = refl
shape_count_is (dot x) = refl
shape_count_is (sign m x) = refl
shape_count_is (opening k x) = refl
shape_count_is (closing k x) = refl
shape_count_is (other x) = refl

mark_iterates : (r : Rule) (t : Tree) (ps : Premises) (d : Terminal) (os ls : List Terminal) (u : Tree) (i : Iterations) (l : Terminal)
    → Changes (iterated r t ps d os ls u i) l (at (iterated r t ps d os ls u (marked i l)))
mark_iterates (rule_head ds w r js c) t ps d os ls u i l =
    record {
      draft = ap (λ y. rule_draft (rule_head ds w r js c) (Some (meaning t)) (premise_at ps d os (place_in ls) None (Some (prem_at y (prem.Each (meant.iterated os (condition ls (meaning u)) i) (sign_count l)))))) (sym (span_opened os (closings i)))
          ∙ ap (λ y. rule_draft (rule_head ds w r js c) (Some (meaning t)) (premise_at ps d os (place_in ls) None (Some (prem_at (span_or (slice_get (map place_of os) (length (rounds (length os - closings i))))) (prem.Each (meant.iterated os (condition ls (meaning u)) i) y))))) (sym (shape_count_is l));
      arguments = refl;
      fresh = tt;
      fits = tt;
      ready = tt;
    }
mark_iterates (clause_head ds w f a c) t ps d os ls u i l =
    record {
      draft = ap (λ y. rule_draft (clause_head ds w f a c) (Some (meaning t)) (premise_at ps d os (place_in ls) None (Some (prem_at y (prem.Each (meant.iterated os (condition ls (meaning u)) i) (sign_count l)))))) (sym (span_opened os (closings i)))
          ∙ ap (λ y. rule_draft (clause_head ds w f a c) (Some (meaning t)) (premise_at ps d os (place_in ls) None (Some (prem_at (span_or (slice_get (map place_of os) (length (rounds (length os - closings i))))) (prem.Each (meant.iterated os (condition ls (meaning u)) i) y))))) (sym (shape_count_is l));
      arguments = refl;
      fresh = tt;
      fits = tt;
      ready = tt;
    }

iterate_changes : (r : Rule) (t : Tree) (ps : Premises) (d : Terminal) (os ls : List Terminal) (u : Tree) (i : Iterations) (l : Terminal)
    → Changed (iterated r t ps d os ls u i) l (iterate r t ps d os ls u i l)
iterate_changes r t ps d os ls u i l =
    changed_if _ l (closes_round l && may_close os i) (at (iterated r t ps d os ls u (closed i l))) (if signed is_iteration_sign l && has_closed i then Some (at (iterated r t ps d os ls u (marked i l))) else if signed is_caret l && has_closed i then Some (begun (count_slot r t ps d os ls u i l)) else if is_whole os i then next_premise (keyword l) r t (more_premises ps (given d os ls u i)) l else None) (λ _. (record { draft = refl; arguments = refl; fresh = tt; fits = tt; ready = tt }))
    (changed_if _ l (signed is_iteration_sign l && has_closed i) (at (iterated r t ps d os ls u (marked i l))) (if signed is_caret l && has_closed i then Some (begun (count_slot r t ps d os ls u i l)) else if is_whole os i then next_premise (keyword l) r t (more_premises ps (given d os ls u i)) l else None) (λ _. mark_iterates r t ps d os ls u i l)
    (changed_if _ l (signed is_caret l && has_closed i) (begun (count_slot r t ps d os ls u i l)) (if is_whole os i then next_premise (keyword l) r t (more_premises ps (given d os ls u i)) l else None) (λ _. (record { draft = refl; arguments = refl; fresh = refl; fits = tt; ready = tt })) (go (is_whole os i))))
  where
    go : (b : Bool) → Changed (iterated r t ps d os ls u i) l (if b then next_premise (keyword l) r t (more_premises ps (given d os ls u i)) l else None)
    go true = next_changes (keyword l) r t ps d os ls u i l
    go false = tt

-- ---- all positions

pub own_changes : (p : Position) (l : Terminal) → PositionHolds p → Changed p l (own p l)
own_changes (between ds) l h = tt
own_changes (syntax_name ds w) l h = changed_when _ l _ _ (λ _. (record { draft = refl; arguments = refl; fresh = tt; fits = tt; ready = tt }))
own_changes (var_name ds w) l h = changed_when _ l _ _ (λ _. (record { draft = refl; arguments = refl; fresh = tt; fits = tt; ready = tt }))
own_changes (var_colon ds w x) l h = changed_when _ l _ _ (λ _. (record { draft = refl; arguments = refl; fresh = refl; fits = tt; ready = tt }))
own_changes (relation_name ds w) l h = changed_when _ l _ _ (λ _. (record { draft = refl; arguments = refl; fresh = tt; fits = tt; ready = tt }))
own_changes (rule_name ds w) l h = changed_when _ l _ _ (λ _. (record { draft = refl; arguments = refl; fresh = tt; fits = tt; ready = tt }))
own_changes (rule_colon ds w r) l h = changed_if _ l (signed is_slash l) (at (rule_id ds w r (l ∷ []) true)) (colon_step ds w r [] l) (λ _. (record { draft = refl; arguments = refl; fresh = tt; fits = tt; ready = tt })) (colon_changes _ ds w r [] l (record { draft = refl; arguments = refl; fresh = refl; fits = tt; ready = tt }))
own_changes (fun_name ds w) l h = changed_when _ l _ _ (λ _. (record { draft = refl; arguments = refl; fresh = tt; fits = tt; ready = tt }))
own_changes (fun_named ds w f) l h = changed_if _ l (opens_round l && touches l) (at (entering (arg_slot ds w f l none []))) (result_step ds w f no_args true l) (λ _. (record { draft = refl; arguments = refl; fresh = tt; fits = tt; ready = tt })) (result_changes ds w f true l)
own_changes (argued ds w f o ts) l h = changed_if _ l (signed is_comma l) (begun (arg_slot ds w f o ts (l ∷ []))) (when (closes_round l) (at (args_closed ds w f o ts l))) (λ _. (record { draft = refl; arguments = refl; fresh = refl; fits = tt; ready = tt })) (changed_when _ l _ _ (λ _. (record { draft = refl; arguments = refl; fresh = tt; fits = tt; ready = tt })))
own_changes (args_closed ds w f o ts c) l h = closed_changes ds w f o ts c (reads_types ts) l h.3 (λ e. (h.3.0, h.3.1, types_fit ts h.3.2 e, h.3.3))
own_changes (syntax_id ds w x ls d) l h = syntax_id_changes ds w x ls d l (id_step d l) h.3
own_changes (rule_id ds w r ls d) l h = rule_id_changes ds w r ls d l (id_step d l)
own_changes (hinted k hs) l h = hint_or_changes (keyword l) k hs l
own_changes (hint_open k hs w) l h = changed_when _ l _ _ (λ _. (record { draft = refl; arguments = refl; fresh = tt; fits = tt; ready = tt }))
own_changes (hint_name k hs w o) l h = changed_when _ l _ _ (λ _. (record { draft = refl; arguments = refl; fresh = tt; fits = tt; ready = tt }))
own_changes (hint_words k hs w o n ws cs) l h = hint_changes k hs w o n ws cs l (balance_step cs l)
own_changes (entering s) l h = enter_changes s l (part.step (part.start (slot_sort s)) l)
own_changes (dotted k d) l h = changed_when _ l _ _ (λ _. (record { draft = refl; arguments = refl; fresh = tt; fits = tt; ready = tt }))
own_changes (field_name k o ms pre) l h = field_changes k o ms pre l
own_changes (premised r t ps) l h = premised_changes (keyword l) r t ps l
own_changes (premise_open r t ps d os) l h = word_changes (keyword l) r t ps d os l
own_changes (goal_colon r t ps d os n) l h = changed_when _ l _ _ (λ _. (record { draft = refl; arguments = refl; fresh = refl; fits = tt; ready = tt }))
own_changes (iterated r t ps d os ls u i) l h = iterate_changes r t ps d os ls u i l
