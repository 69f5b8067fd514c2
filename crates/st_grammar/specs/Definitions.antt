-- The grammar of definitions, over that of their parts: each form has its production in front.
use Rattle.std.specs.Prelude.{◌≡◌, ℕ, ◌+◌, List, [], ◌∷◌, ◌++◌, map, length, Bool, true, false, ◌&&◌, ◌||◌, Option, Some, None, option_and_then, if◌then◌else◌}
use Rattle.std.specs.List.{AllByRecursion}
use Rattle.st_num.specs.declared.mark.Mark.{Mark}
use Rattle.st_num.specs.declared.mark.Mark.TheVariants as mark
use Rattle.st_num.specs.declared.word.Word.TheVariants as word
use Rattle.st_num.specs.declared.token.Token.{Token}
use Rattle.st_num.specs.declared.token.TokenKind.{TokenKind}
use Rattle.st_num.specs.declared.token.TokenKind.TheVariants as kind
use Rattle.st_grammar.specs.declared.sort.Style.TheVariants.{Parts as parts}
use Rattle.st_grammar.specs.declared.keyword.Keyword.{Keyword}
use Rattle.st_grammar.specs.declared.keyword.Keyword.TheVariants.{SyntaxWord as syntax_word, RelationWord as relation_word, RuleWord as rule_word, VarWord as var_word, DefWord as def_word, HintWord as hint_word, IfWord as if_word, OtherwiseWord as otherwise_word, Dashes as dashes, NoWord as no_word}
use Rattle.st_grammar.specs.declared.sort.Leaf.TheVariants.{Low as low, Function as function}
use Rattle.st_grammar.specs.declared.sort.Bracket.{Bracket}
use Rattle.st_grammar.specs.declared.sort.Bracket.TheVariants.{Round as round, Brace as brace}
use Rattle.st_grammar.specs.declared.sort.Closing.TheVariants.{ByRound as by_round, ByBrace as by_brace, ByBar as by_bar}
use Rattle.st_grammar.specs.declared.sort.Sort.{Sort}
use Rattle.st_grammar.specs.declared.sort.Sort.TheVariants.{Expression as expression, Notation as notation, Typ as typ, Count as count}
use Rattle.st_grammar.specs.Terminals.{Terminal, leaf, dot, sign, opening, closing, other, terminal}
use Rattle.st_grammar.specs.Levels.{is_iteration_sign, is_caret, is_comma, is_colon}
use Rattle.st_grammar.specs.Trees.{Tree, Trees, closed_by, agree, text, texts}
use Rattle.st_grammar.specs.Grammar.{is_label, Fits, EachFits}

-- ---- tokens of definitions

-- what such a kind of token begins: a definition, a hint, a premise, or none of these
abbrev pub kind_keyword : TokenKind → Keyword
kind_keyword (kind.Reserved word.Syntax) = syntax_word
kind_keyword (kind.Reserved word.Relation) = relation_word
kind_keyword (kind.Reserved word.Rule) = rule_word
kind_keyword (kind.Reserved word.Var) = var_word
kind_keyword (kind.Reserved word.Def) = def_word
kind_keyword (kind.Reserved word.Hint) = hint_word
kind_keyword (kind.Reserved word.If) = if_word
kind_keyword (kind.Reserved word.Otherwise) = otherwise_word
kind_keyword k = no_word

-- what such a sign begins: `--` a premise, and others nothing
abbrev pub mark_keyword : Mark → Keyword
mark_keyword mark.DashDash = dashes
mark_keyword m = no_word

-- what the token begins: a definition, a hint, a premise, or none of these
abbrev pub keyword : Terminal → Keyword
keyword (other x) = kind_keyword x.kind
keyword (sign m x) = mark_keyword m
keyword l = no_word

-- the token alone
abbrev pub token_in : Terminal → Token
token_in (leaf k x) = x
token_in (dot x) = x
token_in (sign m x) = x
token_in (opening k x) = x
token_in (closing c x) = x
token_in (other x) = x

-- the token touches what stands before it, with no blank and no comment between
abbrev pub touches : Terminal → Bool
touches l = (token_in l).touching

-- the token is a sign of this kind
abbrev pub signed : (Mark → Bool) → Terminal → Bool
signed p (sign m x) = p m
signed p l = false

-- the sign `/`, which stands before the name of a rule or a fragment
abbrev pub is_slash : Mark → Bool
is_slash mark.Slash = true
is_slash m = false

-- the sign `-`, which stands between the pieces of the name of a rule or a fragment
abbrev pub is_minus : Mark → Bool
is_minus mark.Minus = true
is_minus m = false

-- the sign `=`, which stands before a body or a result
abbrev pub is_equal : Mark → Bool
is_equal mark.Equal = true
is_equal m = false

-- the sign `...`, which stands before the first alternative or behind the last
abbrev pub is_dots : Mark → Bool
is_dots mark.Ellipsis = true
is_dots m = false

-- the token is a bar, which stands before an alternative
abbrev pub is_bar : Terminal → Bool
is_bar (closing by_bar x) = true
is_bar l = false

-- the token is `(`
abbrev pub opens_round : Terminal → Bool
opens_round (opening round x) = true
opens_round l = false

-- the token is `)`
abbrev pub closes_round : Terminal → Bool
closes_round (closing by_round x) = true
closes_round l = false

-- the token is `{`
abbrev pub opens_brace : Terminal → Bool
opens_brace (opening brace x) = true
opens_brace l = false

-- the token is `}`
abbrev pub closes_brace : Terminal → Bool
closes_brace (closing by_brace x) = true
closes_brace l = false

-- the token is a name that begins with a lower-case letter
abbrev pub is_low : Terminal → Bool
is_low (leaf low x) = true
is_low l = false

-- the token is a name right behind a dollar sign
abbrev pub is_fun : Terminal → Bool
is_fun (leaf function x) = true
is_fun l = false

-- such a kind of token is a name that begins upper-case and has a lower-case letter
abbrev pub is_mix_kind : TokenKind → Bool
is_mix_kind (kind.Mix name) = true
is_mix_kind k = false

-- the token is the name of a relation
abbrev pub names_relation : Terminal → Bool
names_relation (other x) = is_mix_kind x.kind
names_relation l = is_label l

-- the token is a name of any kind
abbrev pub is_name : Terminal → Bool
is_name l = is_low l || names_relation l

-- such a kind of token is a name, a reserved word or a number
abbrev pub is_piece_kind : TokenKind → Bool
is_piece_kind (kind.Low name) = true
is_piece_kind (kind.Up name) = true
is_piece_kind (kind.Mix name) = true
is_piece_kind (kind.Reserved w) = true
is_piece_kind (kind.Number n) = true
is_piece_kind k = false

-- the token is a name, a reserved word or a number
abbrev pub is_piece : Terminal → Bool
is_piece (leaf k x) = is_piece_kind x.kind
is_piece (other x) = is_piece_kind x.kind
is_piece l = false

-- such a kind of token is a dot with a name
abbrev pub is_dot_kind : TokenKind → Bool
is_dot_kind (kind.Dot name) = true
is_dot_kind k = false

-- the token is a dot with a name
abbrev pub is_dot : Terminal → Bool
is_dot (dot x) = true
is_dot (other x) = is_dot_kind x.kind
is_dot l = false

-- ---- names of rules and fragments

-- what such tokens make of a state, one after another
abbrev pub scan : {S : Type 0} → (S → Terminal → Option S) → S → List Terminal → Option S
scan one s [] = Some s
scan one s (l ∷ ls) = option_and_then (λ r. scan one r ls) (one s l)

-- Whether a piece is due: a piece stands at the front and behind each `-`, a dot behind a piece,
-- and all touch.
abbrev pub id_step : Bool → Terminal → Option Bool
id_step true l = if touches l && is_piece l then Some false else None
id_step false l =
    if touches l && signed is_minus l then Some true
    else if touches l && is_dot l then Some false
    else None

-- the tokens are the name of a rule or a fragment
abbrev pub IsId : List Terminal → Type 0
IsId ls = scan id_step true ls ≡ Some false

-- the tokens are no name of a rule or a fragment, or `/` and one
abbrev pub FragmentFits : List Terminal → Type 0
FragmentFits [] = Unit {0}
FragmentFits (s ∷ ls) = (signed is_slash s ≡ true) × IsId ls

-- ---- hints

-- the brackets of a hint that are open behind the token, the innermost first
abbrev pub balance_step : List Bracket → Terminal → Option (List Bracket)
balance_step ks (opening k x) = Some (k ∷ ks)
balance_step ks (closing by_bar x) = Some ks
balance_step [] (closing c x) = None
balance_step (k ∷ ks) (closing c x) = if agree (closed_by k) c then Some ks else None
balance_step ks l = Some ks

-- a hint: a name, and tokens in which brackets are balanced
pub data Hint : Type 0 where
  -- hint ::= `hint` `(` name token* `)`
  hint : Terminal → Terminal → Terminal → List Terminal → Terminal → Hint

-- the tokens of a hint
abbrev pub hint_text : Hint → List Terminal
hint_text (hint w o n ws c) = w ∷ o ∷ n ∷ (ws ++ c ∷ [])

-- the grammar allows the hint
abbrev pub HintFits : Hint → Type 0
HintFits (hint w o n ws c) =
    (keyword w ≡ hint_word) × (opens_round o ≡ true) × (is_name n ≡ true)
    × (scan balance_step [] ws ≡ Some []) × (closes_round c ≡ true)

-- hints, in a row
pub data Hints : Type 0 where
  -- hints ::=
  no_hints : Hints
  -- hints ::= hints hint
  more_hints : Hints → Hint → Hints

-- the tokens of hints
abbrev pub hints_text : Hints → List Terminal
hints_text no_hints = []
hints_text (more_hints hs h) = hints_text hs ++ hint_text h

-- the grammar allows each hint
abbrev pub HintsFit : Hints → Type 0
HintsFit no_hints = Unit {0}
HintsFit (more_hints hs h) = HintsFit hs × HintFits h

-- ---- bodies

-- alternatives or fields: what stands before each, its tree and its hints
pub data Members : Type 0 where
  -- members ::=
  no_members : Members
  -- members ::= members token* tree hints
  member : Members → List Terminal → Tree → Hints → Members

-- the tokens of alternatives or fields
abbrev pub members_text : Members → List Terminal
members_text no_members = []
members_text (member ms pre t hs) = members_text ms ++ (pre ++ (text t ++ hints_text hs))

-- a field stands behind a name, and from the second one on behind a comma and a name
abbrev pub SetsOffField : Members → List Terminal → Type 0
SetsOffField no_members (n ∷ []) = is_label n ≡ true
SetsOffField (member ms q t hs) (k ∷ n ∷ []) = (signed is_comma k ≡ true) × (is_label n ≡ true)
SetsOffField ms pre = ⊥

-- An alternative stands behind a bar, and the first one behind nothing, a bar, or dots and a bar.
abbrev pub SetsOffCase : Members → List Terminal → Type 0
SetsOffCase no_members [] = Unit {0}
SetsOffCase ms (b ∷ []) = is_bar b ≡ true
SetsOffCase no_members (d ∷ b ∷ []) = (signed is_dots d ≡ true) × (is_bar b ≡ true)
SetsOffCase ms pre = ⊥

-- the grammar allows these fields
abbrev pub FieldsFit : Members → Type 0
FieldsFit no_members = Unit {0}
FieldsFit (member ms pre t hs) = FieldsFit ms × SetsOffField ms pre × Fits typ t × HintsFit hs

-- the grammar allows these alternatives
abbrev pub CasesFit : Members → Type 0
CasesFit no_members = Unit {0}
CasesFit (member ms pre t hs) = CasesFit ms × SetsOffCase ms pre × Fits notation t × HintsFit hs

-- there is an alternative or a field
abbrev pub has_member : Members → Bool
has_member no_members = false
has_member (member ms pre t hs) = true

-- behind the alternatives stands nothing, or a bar and dots
abbrev pub EndsCases : List Terminal → Type 0
EndsCases [] = Unit {0}
EndsCases (b ∷ d ∷ []) = (is_bar b ≡ true) × (signed is_dots d ≡ true)
EndsCases ls = ⊥

-- what a syntax is: fields in braces, or alternatives
pub data Body : Type 0 where
  -- body ::= `{` members `}`
  fields : Terminal → Members → Terminal → Body
  -- body ::= members [`|` `...`]
  cases : Members → List Terminal → Body

-- the tokens of a body
abbrev pub body_text : Body → List Terminal
body_text (fields o ms c) = o ∷ (members_text ms ++ c ∷ [])
body_text (cases ms ls) = members_text ms ++ ls

-- the grammar allows the body
abbrev pub BodyFits : Body → Type 0
BodyFits (fields o ms c) = (opens_brace o ≡ true) × FieldsFit ms × (closes_brace c ≡ true)
BodyFits (cases ms ls) = CasesFit ms × (has_member ms ≡ true) × EndsCases ls

-- ---- premises

-- behind a condition each `)` with its iterations
pub data Iterations : Type 0 where
  -- iterations ::=
  no_iterations : Iterations
  -- iterations ::= iterations `)`
  closed : Iterations → Terminal → Iterations
  -- iterations ::= iterations (`*` | `+` | `?`)
  marked : Iterations → Terminal → Iterations
  -- iterations ::= iterations `^` tree
  counted : Iterations → Terminal → Tree → Iterations

-- the tokens behind a condition
abbrev pub iterations_text : Iterations → List Terminal
iterations_text no_iterations = []
iterations_text (closed i l) = iterations_text i ++ l ∷ []
iterations_text (marked i l) = iterations_text i ++ l ∷ []
iterations_text (counted i l t) = iterations_text i ++ (l ∷ text t)

-- how many `)` stand behind a condition
abbrev pub closings : Iterations → ℕ
closings no_iterations = 0
closings (closed i l) = closings i + 1
closings (marked i l) = closings i
closings (counted i l t) = closings i

-- a `)` stands behind a condition, perhaps with iterations
abbrev pub has_closed : Iterations → Bool
has_closed no_iterations = false
has_closed i = true

-- A `)` stands last behind a condition, which wants an iteration.
abbrev pub wants_iteration : Iterations → Bool
wants_iteration (closed i l) = true
wants_iteration i = false

-- the grammar allows each `)` and each iteration behind a condition
abbrev pub IterationsFit : Iterations → Type 0
IterationsFit no_iterations = Unit {0}
IterationsFit (closed i l) = IterationsFit i × (wants_iteration i ≡ false) × (closes_round l ≡ true)
IterationsFit (marked i l) =
    IterationsFit i × (has_closed i ≡ true) × (signed is_iteration_sign l ≡ true)
IterationsFit (counted i l t) =
    IterationsFit i × (has_closed i ≡ true) × (signed is_caret l ≡ true) × Fits count t

-- a condition begins with `if`, or with the name of a relation and `:`
abbrev pub CondFits : List Terminal → Type 0
CondFits (l ∷ []) = keyword l ≡ if_word
CondFits (r ∷ c ∷ []) = (names_relation r ≡ true) × (signed is_colon c ≡ true)
CondFits ls = ⊥

-- what must hold where a rule or a clause is used
pub data Premise : Type 0 where
  -- premise ::= `--` `otherwise`
  default : Terminal → Terminal → Premise
  -- premise ::= `--` `(`* (`if` | relation `:`) tree iterations
  given : Terminal → List Terminal → List Terminal → Tree → Iterations → Premise

-- the tokens of a premise
abbrev pub premise_text : Premise → List Terminal
premise_text (default d o) = d ∷ o ∷ []
premise_text (given d os ls t i) = d ∷ (os ++ (ls ++ (text t ++ iterations_text i)))

-- the token is `(`
abbrev pub OpensRound : Terminal → Type 0
OpensRound l = opens_round l ≡ true

-- the grammar allows the premise
abbrev pub PremiseFits : Premise → Type 0
PremiseFits (default d o) = (keyword d ≡ dashes) × (keyword o ≡ otherwise_word)
PremiseFits (given d os ls t i) =
    (keyword d ≡ dashes) × AllByRecursion OpensRound os × CondFits ls × Fits (expression false) t
    × IterationsFit i × (closings i ≡ length os) × (wants_iteration i ≡ false)

-- premises, in a row
pub data Premises : Type 0 where
  -- premises ::=
  no_premises : Premises
  -- premises ::= premises premise
  more_premises : Premises → Premise → Premises

-- the tokens of premises
abbrev pub premises_text : Premises → List Terminal
premises_text no_premises = []
premises_text (more_premises ps p) = premises_text ps ++ premise_text p

-- the grammar allows each premise
abbrev pub PremisesFit : Premises → Type 0
PremisesFit no_premises = Unit {0}
PremisesFit (more_premises ps p) = PremisesFit ps × PremiseFits p

-- ---- definitions

-- what stands behind the name of a function: no arguments, or some in parentheses
pub data Args : Type 0 where
  -- args ::=
  no_args : Args
  -- args ::= `(` trees `)`
  args : Terminal → Trees → Terminal → Args

-- the tokens of arguments
abbrev pub args_text : Args → List Terminal
args_text no_args = []
args_text (args o ts c) = o ∷ (texts ts ++ c ∷ [])

-- the grammar allows the arguments, each of this sort
abbrev pub ArgsFit : Sort → Args → Type 0
ArgsFit σ no_args = Unit {0}
ArgsFit σ (args o ts c) =
    (opens_round o ≡ true) × (touches o ≡ true) × EachFits σ parts 1 ts × (closes_round c ≡ true)

-- a definition, with its words, names, signs and parts in their order
pub data Def : Type 0 where
  -- def ::= `syntax` name [`/` id] hints `=` body
  syntax_def : Terminal → Terminal → List Terminal → Hints → Terminal → Body → Def
  -- def ::= `var` name `:` tree hints
  var_def : Terminal → Terminal → Terminal → Tree → Hints → Def
  -- def ::= `relation` name hints `:` tree hints
  relation_def : Terminal → Terminal → Hints → Terminal → Tree → Hints → Def
  -- def ::= `rule` name [`/` id] `:` tree premises
  rule_def : Terminal → Terminal → List Terminal → Terminal → Tree → Premises → Def
  -- def ::= `def` function args `:` tree hints
  fun_def : Terminal → Terminal → Args → Terminal → Tree → Hints → Def
  -- def ::= `def` function args `=` tree premises
  clause_def : Terminal → Terminal → Args → Terminal → Tree → Premises → Def

-- the tokens of a definition
abbrev pub def_text : Def → List Terminal
def_text (syntax_def w x ls hs e b) = w ∷ x ∷ (ls ++ (hints_text hs ++ (e ∷ body_text b)))
def_text (var_def w x c t hs) = w ∷ x ∷ c ∷ (text t ++ hints_text hs)
def_text (relation_def w r hs c t ks) = w ∷ r ∷ (hints_text hs ++ (c ∷ (text t ++ hints_text ks)))
def_text (rule_def w r ls c t ps) = w ∷ r ∷ (ls ++ (c ∷ (text t ++ premises_text ps)))
def_text (fun_def w f a c t hs) = w ∷ f ∷ (args_text a ++ (c ∷ (text t ++ hints_text hs)))
def_text (clause_def w f a e t ps) = w ∷ f ∷ (args_text a ++ (e ∷ (text t ++ premises_text ps)))

-- the grammar allows the definition
abbrev pub DefFits : Def → Type 0
DefFits (syntax_def w x ls hs e b) =
    (keyword w ≡ syntax_word) × (is_low x ≡ true) × FragmentFits ls × HintsFit hs
    × (signed is_equal e ≡ true) × BodyFits b
DefFits (var_def w x c t hs) =
    (keyword w ≡ var_word) × (is_low x || is_label x ≡ true) × (signed is_colon c ≡ true)
    × Fits typ t × HintsFit hs
DefFits (relation_def w r hs c t ks) =
    (keyword w ≡ relation_word) × (names_relation r ≡ true) × HintsFit hs
    × (signed is_colon c ≡ true) × Fits notation t × HintsFit ks
DefFits (rule_def w r ls c t ps) =
    (keyword w ≡ rule_word) × (names_relation r ≡ true) × FragmentFits ls
    × (signed is_colon c ≡ true) × Fits (expression false) t × PremisesFit ps
DefFits (fun_def w f a c t hs) =
    (keyword w ≡ def_word) × (is_fun f ≡ true) × ArgsFit typ a × (signed is_colon c ≡ true)
    × Fits typ t × HintsFit hs
DefFits (clause_def w f a e t ps) =
    (keyword w ≡ def_word) × (is_fun f ≡ true) × ArgsFit (expression false) a
    × (signed is_equal e ≡ true)
    × Fits (expression false) t × PremisesFit ps

-- definitions, in a row
pub data Defs : Type 0 where
  -- defs ::=
  no_defs : Defs
  -- defs ::= defs def
  more_defs : Defs → Def → Defs

-- the tokens of definitions
abbrev pub defs_text : Defs → List Terminal
defs_text no_defs = []
defs_text (more_defs ds d) = defs_text ds ++ def_text d

-- the grammar allows each definition
abbrev pub DefsFit : Defs → Type 0
DefsFit no_defs = Unit {0}
DefsFit (more_defs ds d) = DefsFit ds × DefFits d

-- the tokens are those of these definitions
pub record ParseDefs (us : List Terminal) (ds : Defs) : Type 0 where
  pub fits : DefsFit ds
  pub spelled : us ≡ defs_text ds

-- some tokens behind these make definitions, where these names are declared by `var`
abbrev pub ViableDefs : List (List ℕ) → List Terminal → Type 0
ViableDefs names us =
    (rest : List Token) × (ds : Defs) × ParseDefs (us ++ map (terminal names) rest) ds
