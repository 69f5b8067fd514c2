-- The definitions that the tokens of a source mean.
use Rattle.std.specs.Prelude.{◌≡◌, ℕ, ◌-◌, List, [], ◌∷◌, ◌++◌, map, flat_map, drop, length, codes, Bool, true, false, Option, Some, None, if◌then◌else◌}
use Rattle.std.specs.Fmt.{decimal}
use Rattle.st_num.specs.declared.span.Span.{Span}
use Rattle.st_num.specs.declared.token.Token.{Token}
use Rattle.st_num.specs.declared.token.TokenKind.{TokenKind}
use Rattle.st_num.specs.declared.token.TokenKind.TheVariants as kind
use Rattle.st_num.specs.declared.mark.Mark.TheVariants as mark
use Rattle.st_grammar.specs.Terminals.{Terminal, sign, terminal}
use Rattle.st_grammar.specs.Grammar.{is_type}
use Rattle.st_grammar.specs.Definitions as grammar
use Rattle.st_grammar.specs.Definitions.{token_in, no_hints, more_hints, hint, Members, no_members, member, fields, cases, Iterations, no_iterations, closed, marked, counted, closings, Premise, default, given, Premises, no_premises, more_premises, Args, no_args, args, syntax_def, var_def, relation_def, rule_def, fun_def, clause_def, Defs, no_defs, more_defs, ParseDefs}
use Rattle.st_el.specs.declared.expression.Exp.{Exp}
use Rattle.st_el.specs.declared.expression.Count.{Count}
use Rattle.st_el.specs.declared.ty.Typ.{Typ}
use Rattle.st_el.specs.declared.notation.Notation.{Notation}
use Rattle.st_el.specs.declared.definition.Prem.{Prem, out-Prem, roll-Prem}
use Rattle.st_el.specs.declared.definition.PremNode.{PremNode}
use Rattle.st_el.specs.declared.definition.PremNode.TheVariants as prem
use Rattle.st_el.specs.declared.definition.Hint.{Hint}
use Rattle.st_el.specs.declared.definition.Body.{Body}
use Rattle.st_el.specs.declared.definition.Body.TheVariants as body
use Rattle.st_el.specs.declared.definition.Def.{Def}
use Rattle.st_el.specs.declared.definition.DefNode.{DefNode}
use Rattle.st_el.specs.declared.definition.DefNode.TheVariants as def
use Rattle.st_el.specs.Plain.{nowhere}
use Rattle.st_parse_builder.specs.Names.{name_of}
use Rattle.st_parse_builder.specs.Meaning.{meaning, meanings, label, mark_count, count_of}
use Rattle.st_parse_builder.specs.Notations.{typ_meaning, typ_meanings, notation_meaning}

-- the name that a token of the grammar spells, without a dot or a dollar sign before it
abbrev pub name_in : Terminal → List ℕ
name_in l = name_of (token_in l).kind

-- the place of the first of these tokens
abbrev pub place_in : List Terminal → Span
place_in [] = nowhere
place_in (l ∷ ls) = (token_in l).at

-- ---- names of rules and fragments

-- the text of one token of such a name: a piece, a dash, or a dot with a piece
abbrev pub piece_text : TokenKind → List ℕ
piece_text (kind.Number n) = decimal n
piece_text (kind.Sign mark.Minus) = codes "-"
piece_text (kind.Dot name) = codes "." ++ name
piece_text k = name_of k

-- the name of a rule or a fragment, joined from the texts of its tokens
abbrev pub id_text : List Terminal → List ℕ
id_text ls = flat_map (λ l. piece_text (token_in l).kind) ls

-- the name of a fragment, which stands behind `/`, where there is one
abbrev pub fragment_name : List Terminal → Option (List ℕ)
fragment_name [] = None
fragment_name (s ∷ ls) = Some (id_text ls)

-- the name of a rule, which stands behind `/`; a rule without a name has the empty one
abbrev pub rule_name : List Terminal → List ℕ
rule_name [] = []
rule_name (s ∷ ls) = id_text ls

-- ---- hints

-- A hint keeps its name and the tokens between its parentheses.
abbrev pub hint_meaning : grammar.Hint → Hint
hint_meaning (hint w o n ws c) = record { name = name_in n; words = map token_in ws }

-- hints in a row, in the order of the text
abbrev pub hints_meaning : grammar.Hints → List Hint
hints_meaning no_hints = []
hints_meaning (more_hints hs h) = hints_meaning hs ++ hint_meaning h ∷ []

-- ---- bodies

-- the fields of a record, each with its name and its type; their hints are passed over
abbrev pub fields_meaning : Members → List (List ℕ × Typ)
fields_meaning no_members = []
fields_meaning (member ms pre t hs) = fields_meaning ms ++ (label pre, typ_meaning t) ∷ []

-- the notations of the alternatives of a variant; their hints are passed over
abbrev pub cases_meaning : Members → List Notation
cases_meaning no_members = []
cases_meaning (member ms pre t hs) = cases_meaning ms ++ notation_meaning t ∷ []

-- Dots stand before the first alternative: they and a bar set it off.
abbrev pub has_dots_before : Members → Bool
has_dots_before (member no_members (d ∷ b ∷ []) t hs) = true
has_dots_before (member ms pre t hs) = has_dots_before ms
has_dots_before no_members = false

-- Dots stand behind the last alternative.
abbrev pub has_dots_behind : List Terminal → Bool
has_dots_behind [] = false
has_dots_behind (b ∷ ls) = true

-- a variant: its alternatives, and whether dots stand before the first and behind the last
abbrev pub variant : Members → List Terminal → Body
variant ms ls = body.Cases (has_dots_before ms) (cases_meaning ms) (has_dots_behind ls)

-- What a syntax is defined by. One alternative without dots that is a type is an alias, also with a
-- bar before it.
abbrev pub body_meaning : grammar.Body → Body
body_meaning (fields o ms c) = body.Fields (fields_meaning ms)
body_meaning (cases (member no_members (d ∷ b ∷ []) t hs) ls) =
    variant (member no_members (d ∷ b ∷ []) t hs) ls
body_meaning (cases (member no_members pre t hs) []) =
    if is_type t then body.Alias (typ_meaning t) else variant (member no_members pre t hs) []
body_meaning (cases ms ls) = variant ms ls

-- ---- premises

-- the premise with this content that begins there
abbrev pub prem_at : Span → PremNode → Prem
prem_at at n = roll-Prem (record { at = at; node = n })

-- what a condition asks: that an expression holds, or that a relation does whose name and colon
-- stand before it
abbrev pub condition_node : List Terminal → Exp → PremNode
condition_node (r ∷ c ∷ ls) e = prem.Goal (name_in r) e
condition_node ls e = prem.If e

-- what a premise asks, which begins with the first of these tokens
abbrev pub condition : List Terminal → Exp → Prem
condition ls e = prem_at (place_in ls) (condition_node ls e)

-- the place of the `(` that the n-th `)` closes
abbrev pub opened_at : List Terminal → ℕ → Span
opened_at os n = place_in (drop (length os - n) os)

-- how often an iteration sign in a premise repeats it; `?` for a token that is no sign
abbrev pub sign_count : Terminal → Count
sign_count (sign m x) = mark_count m
sign_count l = mark_count mark.Question

-- A sign behind a `)` iterates what stands in the parentheses, which begins with their `(`.
abbrev pub iterated : List Terminal → Prem → Iterations → Prem
iterated os p no_iterations = p
iterated os p (closed i l) = iterated os p i
iterated os p (marked i l) =
    prem_at (opened_at os (closings i)) (prem.Each (iterated os p i) (sign_count l))
iterated os p (counted i l t) =
    prem_at (opened_at os (closings i)) (prem.Each (iterated os p i) (count_of t (meaning t)))

-- the premise that a tree means, which begins with its `--`
abbrev pub premise_meaning : Premise → Prem
premise_meaning (default d o) = prem_at (token_in d).at prem.Otherwise
premise_meaning (given d os ls t i) =
    prem_at (token_in d).at (out-Prem (iterated os (condition ls (meaning t)) i)).node

-- the premises of a rule or a clause, in the order of the text
abbrev pub premises_meaning : Premises → List Prem
premises_meaning no_premises = []
premises_meaning (more_premises ps p) = premises_meaning ps ++ premise_meaning p ∷ []

-- ---- definitions

-- the types of the parameters that a function is declared with, none without parentheses
abbrev pub params : Args → List Typ
params no_args = []
params (args o ts c) = typ_meanings ts

-- the patterns in the parentheses of a clause, none without parentheses
abbrev pub patterns : Args → List Exp
patterns no_args = []
patterns (args o ts c) = meanings ts

-- the definition with these hints and this content, which begins with its word
abbrev pub def_at : Terminal → List Hint → DefNode → Def
def_at w hs n = record { at = (token_in w).at; hints = hs; node = n }

-- one definition of the source tree, of each kind of definition in the grammar
abbrev pub def_meaning : grammar.Def → Def
def_meaning (syntax_def w x ls hs e b) =
    def_at w (hints_meaning hs) (def.Syntax (name_in x) (fragment_name ls) (body_meaning b))
def_meaning (var_def w x c t hs) =
    def_at w (hints_meaning hs) (def.Var (name_in x) (typ_meaning t))
def_meaning (relation_def w r hs c t ks) =
    def_at w (hints_meaning hs ++ hints_meaning ks)
    (def.Relation (name_in r) (notation_meaning t))
def_meaning (rule_def w r ls c t ps) =
    def_at w [] (def.Rule (name_in r) (rule_name ls) (meaning t) (premises_meaning ps))
def_meaning (fun_def w f a c t hs) =
    def_at w (hints_meaning hs) (def.Fun (name_in f) (params a) (typ_meaning t))
def_meaning (clause_def w f a e t ps) =
    def_at w [] (def.Clause (name_in f) (patterns a) (meaning t) (premises_meaning ps))

-- all definitions of a source, in the order of the text
abbrev pub defs_meaning : Defs → List Def
defs_meaning no_defs = []
defs_meaning (more_defs ds d) = defs_meaning ds ++ def_meaning d ∷ []

-- Where these names are declared by `var`, the tokens are those of definitions of the grammar that
-- mean these definitions.
pub record Parse (names : List (List ℕ)) (tokens : List Token) (defs : List Def) : Type 0 where
  -- what the grammar reads the tokens as
  pub trees : Defs
  pub grammar : ParseDefs (map (terminal names) tokens) trees
  pub meant : defs_meaning trees ≡ defs
