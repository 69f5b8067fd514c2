-- The definitions of a draft where they may end, and where a next one begins.
use Rattle.std.proofs.Common.{◌≡◌, ℕ, List, [], ◌∷◌, ◌++◌, Bool, true, false, Option, Some, None, option_and_then, if◌then◌else◌, refl, sym, ap, subst, ◌∙◌}
use Rattle.st_grammar.specs.declared.keyword.Keyword.{Keyword}
use Rattle.st_grammar.specs.declared.keyword.Keyword.TheVariants as key
use Rattle.st_grammar.specs.declared.sort.Leaf.TheVariants as leaves
use Rattle.st_grammar.specs.declared.sort.Bracket.TheVariants as bracket_of
use Rattle.st_grammar.specs.declared.sort.Sort.TheVariants.{Notation as notation}
use Rattle.st_grammar.specs.Terminals.{Terminal, leaf, dot, sign, opening, closing, other}
use Rattle.st_grammar.specs.Levels.{is_type_iteration_sign}
use Rattle.st_grammar.specs.Trees.{Tree, operand, post, times, bracket, led, left, ahead, items, plain, length, arguments, index, segment, update, below}
use Rattle.st_grammar.specs.Grammar.{is_type, is_atom, Fits}
use Rattle.st_grammar.specs.Definitions.{token_in, keyword, no_args, Hints, Members, no_members, member, cases, Iterations, Premises, more_premises, given, Defs}
use Rattle.st_grammar.specs.Positions.{Head, syntax_head, Rule, rule_head, clause_head, Host, of_syntax, of_field, of_case, of_var, of_relation, of_notation, of_fun, Position, between, syntax_name, var_name, var_colon, relation_name, rule_name, rule_colon, fun_name, fun_named, argued, args_closed, syntax_id, rule_id, hinted, hint_open, hint_name, hint_words, entering, dotted, field_name, premised, premise_open, goal_colon, iterated, State, at, whole, rule_whole, is_whole, begin_def, first_of_two, own, position_step}
use Rattle.st_grammar.proofs.Sound.{and_left, and_right}
use Rattle.st_grammar.proofs.PositionTexts.{PositionHolds}
use Rattle.st_parse_automaton.specs.declared.position.Position.TheVariants as position
use Rattle.st_parse_automaton.specs.inner.Shapes.{shape}
use Rattle.st_parse_automaton.proofs.DefinitionView as view
use Rattle.st_parse_automaton.proofs.DefinitionView.{definitions_of}
use Rattle.st_el.specs.declared.notation.Notation.{Notation, out-Notation}
use Rattle.st_el.specs.declared.notation.NotNode.{out-NotNode, roll-NotNode}
use Rattle.st_el.specs.declared.notation.NotNode.TheOpen.{NotNode-F}
use Rattle.st_el.specs.declared.definition.Body.TheVariants as body
use Rattle.st_el.specs.declared.definition.Def.{Def}
use Rattle.st_el.specs.declared.definition.DefNode.TheVariants as def
use Rattle.st_el.specs.Plain.{nowhere}
use Rattle.st_parse_builder.specs.Names.{name_of}
use Rattle.st_parse_builder.specs.Meaning.{meaning}
use Rattle.st_parse_builder.specs.Notations.{typ_meaning, notation_meaning, spelled_on}
use Rattle.st_parse_builder.specs.Definitions.{name_in, fragment_name, rule_name as name_of_rule, hints_meaning, cases_meaning, body_meaning, premises_meaning, def_at, defs_meaning, params, patterns}
use Rattle.st_parse.specs.declared.change.Change.TheVariants as change
use Rattle.st_parse.specs.declared.change.DefinitionEnd.TheVariants as ending
use Rattle.st_parse.specs.inner.Changes.{ending_of, change_at, change_of}
use Rattle.st_parse.specs.inner.Drafts.{alias_or, body_of, or_empty, begun, ended, applied, arguments_after}
use Rattle.st_parse.specs.inner.Ready.{MayEnd, Ready}
use Rattle.st_parse.proofs.DraftOf.{place_of, has_dots, iterated_at, position_draft, args_acts, position_args}
use Rattle.st_parse.proofs.DraftSteps.{FitsAs, Changes, Changed, own_changes, dots_same}
use Rattle.st_parse.proofs.Endings.{begun_clear, cases_end, var_end, relation_end, fun_end, rule_end, condition_end}

-- ---- bodies

-- An atom, also one of several names, is a node of its own.
atom_named : (t : Tree) → is_atom t ≡ true → (name : List ℕ) × (out-NotNode (out-Notation (notation_meaning t)).node ≡ NotNode-F.Atom name)
unfolding out-NotNode roll-NotNode denote.Hole.Carrier.out denote.Hole.Carrier.roll
atom_named (operand leaves.Atom x) h = (name_of x.kind, refl)
atom_named (operand leaves.Variable x) h = (name_of x.kind, refl)
atom_named (operand leaves.Low x) h = absurd (cc)
atom_named (operand leaves.Basic x) h = absurd (cc)
atom_named (operand leaves.Number x) h = absurd (cc)
atom_named (operand leaves.Literal x) h = absurd (cc)
atom_named (operand leaves.Function x) h = absurd (cc)
atom_named (post t (dot x)) h = let r = atom_named t h in (r.0 ++ 46 ∷ name_of x.kind, ap (λ k. out-NotNode (spelled_on k (name_of x.kind))) r.1)
atom_named (post t (sign m x)) h = absurd (cc)
atom_named (post t (leaf k x)) h = absurd (cc)
atom_named (post t (opening k x)) h = absurd (cc)
atom_named (post t (closing k x)) h = absurd (cc)
atom_named (post t (other x)) h = absurd (cc)
atom_named (times t m x c) h = absurd (cc)
atom_named (bracket k ts c) h = absurd (cc)
atom_named (led g t) h = absurd (cc)

-- A notation that is a hole is a type.
alias_is : (t : Tree) → Fits notation t
    → (if is_type t then body.Alias (typ_meaning t) else body.Cases false (notation_meaning t ∷ []) false) ≡ alias_or (out-NotNode (out-Notation (notation_meaning t)).node) (notation_meaning t)
unfolding out-NotNode denote.Hole.Carrier.out
alias_is (operand leaves.Low x) f = refl
alias_is (operand leaves.Basic x) f = refl
alias_is (operand leaves.Variable x) f = refl
alias_is (operand leaves.Atom x) f = refl
alias_is (operand leaves.Number x) f = refl
alias_is (operand leaves.Literal x) f = refl
alias_is (operand leaves.Function x) f = refl
alias_is (post t (sign m x)) f =
    ap (λ b. if b then body.Alias (typ_meaning (post t (sign m x))) else body.Cases false (notation_meaning (post t (sign m x)) ∷ []) false) (and_right (is_type_iteration_sign m) (is_type t) f.0)
alias_is (post t (dot x)) f = sym (ap (λ k. alias_or k (notation_meaning (post t (dot x)))) (atom_named (post t (dot x)) (and_left (is_atom t) x.touching f.0)).1)
alias_is (post t (leaf k x)) f = absurd (cc)
alias_is (post t (opening k x)) f = absurd (cc)
alias_is (post t (closing k x)) f = absurd (cc)
alias_is (post t (other x)) f = absurd (cc)
alias_is (times t m x c) f = absurd (cc)
alias_is (bracket (plain bracket_of.Round o) ts c) f = refl
alias_is (bracket (plain bracket_of.Square o) ts c) f = refl
alias_is (bracket (plain bracket_of.Brace o) ts c) f = refl
alias_is (bracket (plain bracket_of.TickRound o) ts c) f = refl
alias_is (bracket (plain bracket_of.TickSquare o) ts c) f = refl
alias_is (bracket (plain bracket_of.TickBrace o) ts c) f = refl
alias_is (bracket (plain bracket_of.Dollar o) ts c) f = refl
alias_is (bracket (length o) ts c) f = refl
alias_is (bracket (arguments k o) ts c) f = refl
alias_is (bracket (index t o) ts c) f = refl
alias_is (bracket (segment p o) ts c) f = refl
alias_is (bracket (update p m x) ts c) f = refl
alias_is (bracket (below o i m x) ts c) f = refl
alias_is (led (left l m x) t) f = refl
alias_is (led (ahead m x) t) f = refl
alias_is (led (items ts) t) f = refl

several : (b : Bool) (ns : List Notation) (m n : Notation) → body_of b ((ns ++ m ∷ []) ++ n ∷ []) false ≡ body.Cases b ((ns ++ m ∷ []) ++ n ∷ []) false
several true ns m n = refl
several false [] m n = refl
several false (k ∷ []) m n = refl
several false (k ∷ j ∷ ns) m n = refl

pub body_is : (ms : Members) (pre : List Terminal) (t : Tree) (hs : Hints) → Fits notation t
    → body_meaning (cases (member ms pre t hs) []) ≡ body_of (has_dots ms pre) (cases_meaning ms ++ notation_meaning t ∷ []) false
body_is no_members [] t hs f = alias_is t f
body_is no_members (b ∷ []) t hs f = alias_is t f
body_is no_members (d ∷ b ∷ []) t hs f = refl
body_is no_members (d ∷ b ∷ c ∷ ls) t hs f = alias_is t f
body_is (member ms q u js) pre t hs f =
    ap (λ b. body.Cases b ((cases_meaning ms ++ notation_meaning u ∷ []) ++ notation_meaning t ∷ []) false) (dots_same (member ms q u js) pre t hs)
    ∙ sym (several (has_dots (member ms q u js) pre) (cases_meaning ms) (notation_meaning u) (notation_meaning t))

-- ---- whole definitions

abbrev pub EndsAs : List Def → Option Defs → Type 0
EndsAs defs None = Unit {0}
EndsAs defs (Some ds) = defs_meaning ds ≡ defs

rule_named : (ls : List Terminal) → name_of_rule ls ≡ or_empty (fragment_name ls)
rule_named [] = refl
rule_named (s ∷ ls) = refl

abbrev pub PositionEnds : Position → Type 0
PositionEnds p = EndsAs (ended (ending_of (view.position_of p)) (position_draft p)) (whole p)

case_ends : (h : Head) (ms : Members) (pre : List Terminal) (t : Tree) (hs : Hints) → Fits notation t → PositionEnds (hinted (of_case h ms pre t) hs)
case_ends (syntax_head ds w x ls js e) ms pre t hs f =
    ap (λ b. defs_meaning ds ++ def_at w (hints_meaning js) (def.Syntax (name_in x) (fragment_name ls) b) ∷ []) (body_is ms pre t hs f)

host_ends : (h : Host) (hs : Hints) → PositionHolds (hinted h hs) → PositionEnds (hinted h hs)
host_ends (of_syntax ds w x ls) hs f = tt
host_ends (of_field h o ms pre t) hs f = tt
host_ends (of_case h ms pre t) hs f = case_ends h ms pre t hs f.0.3
host_ends (of_var ds w x c t) hs f = refl
host_ends (of_relation ds w r) hs f = tt
host_ends (of_notation ds w r hs c t) ks f = refl
host_ends (of_fun ds w k a c t) hs f = refl

premised_ends : (r : Rule) (t : Tree) (ps : Premises) → PositionEnds (premised r t ps)
premised_ends (rule_head ds w r ls c) t ps =
    ap (λ name. defs_meaning ds ++ def_at w [] (def.Rule (name_in r) name (meaning t) (premises_meaning ps)) ∷ []) (rule_named ls)
premised_ends (clause_head ds w f a c) t ps = refl

iterated_ends : (r : Rule) (t : Tree) (ps : Premises) (d : Terminal) (os ls : List Terminal) (u : Tree) (i : Iterations)
    → defs_meaning (rule_whole r t (more_premises ps (given d os ls u i))) ≡ ended ending.Condition (position_draft (iterated r t ps d os ls u i))
iterated_ends (rule_head ds w r js c) t ps d os ls u i =
    ap (λ name. defs_meaning ds ++ def_at w [] (def.Rule (name_in r) name (meaning t) (premises_meaning (more_premises ps (given d os ls u i)))) ∷ []) (rule_named js)
iterated_ends (clause_head ds w f a c) t ps d os ls u i = refl

pub position_ends : (p : Position) → PositionHolds p → PositionEnds p
position_ends (between ds) h = refl
position_ends (hinted k hs) h = host_ends k hs h
position_ends (premised r t ps) h = premised_ends r t ps
position_ends (iterated r t ps d os ls u i) h = go (is_whole os i)
  where
    go : (b : Bool) → EndsAs (ended ending.Condition (position_draft (iterated r t ps d os ls u i))) (if b then Some (rule_whole r t (more_premises ps (given d os ls u i))) else None)
    go true = iterated_ends r t ps d os ls u i
    go false = tt
position_ends (syntax_name ds w) h = tt
position_ends (var_name ds w) h = tt
position_ends (var_colon ds w x) h = tt
position_ends (relation_name ds w) h = tt
position_ends (rule_name ds w) h = tt
position_ends (rule_colon ds w r) h = tt
position_ends (fun_name ds w) h = tt
position_ends (fun_named ds w f) h = tt
position_ends (argued ds w f o ts) h = tt
position_ends (args_closed ds w f o ts c) h = tt
position_ends (syntax_id ds w x ls d) h = tt
position_ends (rule_id ds w r ls d) h = tt
position_ends (hint_open k hs w) h = tt
position_ends (hint_name k hs w o) h = tt
position_ends (hint_words k hs w o n ws cs) h = tt
position_ends (entering s) h = tt
position_ends (dotted k d) h = tt
position_ends (field_name k o ms pre) h = tt
position_ends (premise_open r t ps d os) h = tt
position_ends (goal_colon r t ps d os n) h = tt

-- ---- definitions that may end

-- The open definition is whole where it may end, or nothing is open.
abbrev pub WholeAs : Position → Option Defs → Type 0
WholeAs p None = Unit {0}
WholeAs p (Some ds) = MayEnd (ending_of (view.position_of p)) (position_draft p)

host_is_whole : (h : Host) (hs : Hints) → WholeAs (hinted h hs) (whole (hinted h hs))
host_is_whole (of_syntax ds w x ls) hs = tt
host_is_whole (of_field h o ms pre t) hs = tt
host_is_whole (of_case (syntax_head ds w x ls js e) ms pre t) hs =
    cases_end ds w x (fragment_name ls) (hints_meaning js) (has_dots ms pre) (cases_meaning ms ++ notation_meaning t ∷ []) false
host_is_whole (of_var ds w x c t) hs = var_end ds w x (hints_meaning hs) (typ_meaning t)
host_is_whole (of_relation ds w r) hs = tt
host_is_whole (of_notation ds w r hs c t) ks = relation_end ds w r (hints_meaning hs ++ hints_meaning ks) (notation_meaning t)
host_is_whole (of_fun ds w f a c t) hs = fun_end ds w f (hints_meaning hs) (params a) (typ_meaning t)

position_is_whole : (p : Position) → WholeAs p (whole p)
position_is_whole (between ds) = begun_clear (defs_meaning ds) nowhere
position_is_whole (hinted k hs) = host_is_whole k hs
position_is_whole (premised r t ps) = rule_end r (meaning t) (premises_meaning ps)
position_is_whole (iterated r t ps d os ls u i) = go (is_whole os i)
  where
    go : (b : Bool) → WholeAs (iterated r t ps d os ls u i) (if b then Some (rule_whole r t (more_premises ps (given d os ls u i))) else None)
    go true = condition_end r (meaning t) (iterated_at ps d os ls u i)
    go false = tt
position_is_whole (syntax_name ds w) = tt
position_is_whole (var_name ds w) = tt
position_is_whole (var_colon ds w x) = tt
position_is_whole (relation_name ds w) = tt
position_is_whole (rule_name ds w) = tt
position_is_whole (rule_colon ds w r) = tt
position_is_whole (fun_name ds w) = tt
position_is_whole (fun_named ds w f) = tt
position_is_whole (argued ds w f o ts) = tt
position_is_whole (args_closed ds w f o ts c) = tt
position_is_whole (syntax_id ds w x ls d) = tt
position_is_whole (rule_id ds w r ls d) = tt
position_is_whole (hint_open k hs w) = tt
position_is_whole (hint_name k hs w o) = tt
position_is_whole (hint_words k hs w o n ws cs) = tt
position_is_whole (entering s) = tt
position_is_whole (dotted k d) = tt
position_is_whole (field_name k o ms pre) = tt
position_is_whole (premise_open r t ps d os) = tt
position_is_whole (goal_colon r t ps d os n) = tt

pub may_end : (p : Position) (ds : Defs) → whole p ≡ Some ds → MayEnd (ending_of (view.position_of p)) (position_draft p)
may_end p ds e = subst (WholeAs p) e (position_is_whole p)

-- ---- a next definition

-- From this position each first word begins a definition.
abbrev pub BeginsNext : Position → Type 0
BeginsNext p =
    (change_at (view.position_of p) position.SyntaxName ≡ change.Begin (ending_of (view.position_of p)))
    × (change_at (view.position_of p) position.RelationName ≡ change.Begin (ending_of (view.position_of p)))
    × (change_at (view.position_of p) position.RuleName ≡ change.Begin (ending_of (view.position_of p)))
    × (change_at (view.position_of p) position.VarName ≡ change.Begin (ending_of (view.position_of p)))
    × (change_at (view.position_of p) position.FunName ≡ change.Begin (ending_of (view.position_of p)))
    × (position_args p ≡ no_args)

begins : (p q : Position) (l : Terminal) (ds : Defs) → change_of (view.position_of p) (definitions_of (at q)) ≡ change.Begin (ending_of (view.position_of p)) → position_args p ≡ no_args → position_args q ≡ no_args
    → position_draft q ≡ begun (defs_meaning ds) (place_of l) → defs_meaning ds ≡ ended (ending_of (view.position_of p)) (position_draft p)
    → MayEnd (ending_of (view.position_of p)) (position_draft p) → Changes p l (at q)
begins p q l ds e g k d f m = record {
  draft =
      d ∙ ap (λ defs. begun defs (place_of l)) f
      ∙ ap (λ a. applied a (shape l) (token_in l) (params (position_args p)) (patterns (position_args p)) (position_draft p)) (sym e);
  arguments = ap args_acts k ∙ ap args_acts (sym g) ∙ ap (λ a. arguments_after a (args_acts (position_args p))) (sym e);
  fresh = tt;
  fits = subst (λ y. FitsAs y (position_args p)) (sym e) tt;
  ready = subst (λ y. Ready y (position_draft p)) (sym e) m;
}

word_begins : (p : Position) (l : Terminal) (ds : Defs) (k : Keyword) → BeginsNext p → defs_meaning ds ≡ ended (ending_of (view.position_of p)) (position_draft p)
    → MayEnd (ending_of (view.position_of p)) (position_draft p) → Changed p l (begin_def ds l k)
word_begins p l ds key.SyntaxWord b e m = begins p (syntax_name ds l) l ds b.0 b.5 refl refl e m
word_begins p l ds key.RelationWord b e m = begins p (relation_name ds l) l ds b.1 b.5 refl refl e m
word_begins p l ds key.RuleWord b e m = begins p (rule_name ds l) l ds b.2 b.5 refl refl e m
word_begins p l ds key.VarWord b e m = begins p (var_name ds l) l ds b.3 b.5 refl refl e m
word_begins p l ds key.DefWord b e m = begins p (fun_name ds l) l ds b.4 b.5 refl refl e m
word_begins p l ds key.HintWord b e m = tt
word_begins p l ds key.IfWord b e m = tt
word_begins p l ds key.OtherwiseWord b e m = tt
word_begins p l ds key.Dashes b e m = tt
word_begins p l ds key.NoWord b e m = tt

-- A next definition begins where one may end, or does not begin.
abbrev pub MayBegin : Position → Option Defs → Type 0
MayBegin p None = Unit {0}
MayBegin p (Some ds) = BeginsNext p

host_begins : (h : Host) (hs : Hints) (o : Option Defs) → MayBegin (hinted h hs) o
host_begins h hs None = tt
host_begins h hs (Some ds) = (refl, refl, refl, refl, refl, refl)

may_begin : (p : Position) → MayBegin p (whole p)
may_begin (between ds) = (refl, refl, refl, refl, refl, refl)
may_begin (hinted k hs) = host_begins k hs (whole (hinted k hs))
may_begin (premised r t ps) = (refl, refl, refl, refl, refl, refl)
may_begin (iterated r t ps d os ls u i) = go (whole (iterated r t ps d os ls u i))
  where
    go : (o : Option Defs) → MayBegin (iterated r t ps d os ls u i) o
    go None = tt
    go (Some ds) = (refl, refl, refl, refl, refl, refl)
may_begin (syntax_name ds w) = tt
may_begin (var_name ds w) = tt
may_begin (var_colon ds w x) = tt
may_begin (relation_name ds w) = tt
may_begin (rule_name ds w) = tt
may_begin (rule_colon ds w r) = tt
may_begin (fun_name ds w) = tt
may_begin (fun_named ds w f) = tt
may_begin (argued ds w f o ts) = tt
may_begin (args_closed ds w f o ts c) = tt
may_begin (syntax_id ds w x ls d) = tt
may_begin (rule_id ds w r ls d) = tt
may_begin (hint_open k hs w) = tt
may_begin (hint_name k hs w o) = tt
may_begin (hint_words k hs w o n ws cs) = tt
may_begin (entering s) = tt
may_begin (dotted k d) = tt
may_begin (field_name k o ms pre) = tt
may_begin (premise_open r t ps d os) = tt
may_begin (goal_colon r t ps d os n) = tt

pub position_changes : (p : Position) (l : Terminal) → PositionHolds p → Changed p l (position_step p l)
position_changes p l h = go (own p l) (own_changes p l h)
  where
    next : (o : Option Defs) → MayBegin p o → EndsAs (ended (ending_of (view.position_of p)) (position_draft p)) o → WholeAs p o → Changed p l (option_and_then (λ ds. begin_def ds l (keyword l)) o)
    next None b f m = tt
    next (Some ds) b f m = word_begins p l ds (keyword l) b f m

    go : (o : Option State) → Changed p l o → Changed p l (first_of_two o (option_and_then (λ ds. begin_def ds l (keyword l)) (whole p)))
    go None c = next (whole p) (may_begin p) (position_ends p h) (position_is_whole p)
    go (Some st) c = c
