-- What each change makes of a draft.
use Rattle.std.specs.Prelude.{ℕ, List, [], ◌∷◌, ◌++◌, Bool, true, false, Option, Some, None, slice_get, if◌then◌else◌}
use Rattle.st_num.specs.declared.span.Span.{Span}
use Rattle.st_num.specs.declared.token.Token.{Token}
use Rattle.st_num.specs.declared.token.TokenKind.{TokenKind}
use Rattle.st_num.specs.declared.mark.Mark.TheVariants as mark
use Rattle.st_parse_automaton.specs.declared.part_automaton.Shape.{Shape}
use Rattle.st_parse_automaton.specs.declared.part_automaton.Shape.TheVariants.{Sign}
use Rattle.st_parse_automaton.specs.declared.position.Slot.{Slot}
use Rattle.st_parse_automaton.specs.declared.position.Slot.TheVariants as slot
use Rattle.st_el.specs.declared.expression.Exp.{Exp}
use Rattle.st_el.specs.declared.expression.Count.{Count}
use Rattle.st_el.specs.declared.ty.Typ.{Typ}
use Rattle.st_el.specs.declared.notation.Notation.{Notation, out-Notation}
use Rattle.st_el.specs.declared.notation.NotNode.{NotNode, out-NotNode}
use Rattle.st_el.specs.declared.notation.NotNode.TheOpen.{NotNode-F}
use Rattle.st_el.specs.declared.definition.Prem.{Prem, out-Prem}
use Rattle.st_el.specs.declared.definition.PremNode.{PremNode}
use Rattle.st_el.specs.declared.definition.PremNode.TheVariants as prem
use Rattle.st_el.specs.declared.definition.Hint.{Hint}
use Rattle.st_el.specs.declared.definition.Body.{Body}
use Rattle.st_el.specs.declared.definition.Body.TheVariants as body
use Rattle.st_el.specs.declared.definition.Def.{Def}
use Rattle.st_el.specs.declared.definition.DefNode.{DefNode}
use Rattle.st_el.specs.declared.definition.DefNode.TheVariants as def
use Rattle.st_el.specs.Plain.{nowhere}
use Rattle.st_grammar.specs.declared.action.Action.{Action}
use Rattle.st_parse_builder.specs.Names.{name_of}
use Rattle.st_parse_builder.specs.Meaning.{mark_count}
use Rattle.st_parse_builder.specs.Definitions.{piece_text, prem_at}
use Rattle.st_parse.specs.declared.draft.Head.{Head}
use Rattle.st_parse.specs.declared.draft.Members.{Members}
use Rattle.st_parse.specs.declared.draft.Sides.{Sides}
use Rattle.st_parse.specs.declared.draft.Premises.{Premises}
use Rattle.st_parse.specs.declared.draft.Draft.{Draft}
use Rattle.st_parse.specs.declared.change.DefinitionEnd.{DefinitionEnd}
use Rattle.st_parse.specs.declared.change.DefinitionEnd.TheVariants as ending
use Rattle.st_parse.specs.declared.change.Change.{Change}
use Rattle.st_parse.specs.declared.change.Change.TheVariants as change

-- ---- nothing yet

-- a hint without a name and without a word
abbrev pub no_hint : Hint
no_hint = record { name = []; words = [] }

-- no fields and no alternatives
abbrev pub no_members : Members
no_members = record { label = []; fields = []; dots = false; notations = [] }

-- no parameters, no arguments, no type and no expression
abbrev pub no_sides : Sides
no_sides = record { clause = false; params = []; args = []; typ = None; exp = None }

-- These premises are whole, and none is open.
abbrev pub premises_so_far : List Prem → Premises
premises_so_far ps =
    record { whole = ps; at = nowhere; opened = []; start = nowhere; goal = None; prem = None }

-- a definition begins there
abbrev pub begun : List Def → Span → Draft
begun defs at =
    record {
      defs = defs;
      head = record { at = at; name = []; id = None };
      hints = [];
      hint = no_hint;
      members = no_members;
      sides = no_sides;
      premises = premises_so_far [];
    }

-- ---- drafts with another part

-- a draft with another head
abbrev pub with_head : Head → Draft → Draft
with_head h d =
    record {
      defs = d.defs;
      head = h;
      hints = d.hints;
      hint = d.hint;
      members = d.members;
      sides = d.sides;
      premises = d.premises;
    }

-- a draft with other hints, and another one that is read
abbrev pub with_hints : List Hint → Hint → Draft → Draft
with_hints hs h d =
    record {
      defs = d.defs;
      head = d.head;
      hints = hs;
      hint = h;
      members = d.members;
      sides = d.sides;
      premises = d.premises;
    }

-- a draft with other fields or alternatives
abbrev pub with_members : Members → Draft → Draft
with_members ms d =
    record {
      defs = d.defs;
      head = d.head;
      hints = d.hints;
      hint = d.hint;
      members = ms;
      sides = d.sides;
      premises = d.premises;
    }

-- a draft with other parameters, arguments, type or expression
abbrev pub with_sides : Sides → Draft → Draft
with_sides s d =
    record {
      defs = d.defs;
      head = d.head;
      hints = d.hints;
      hint = d.hint;
      members = d.members;
      sides = s;
      premises = d.premises;
    }

-- a draft with other premises
abbrev pub with_premises : Premises → Draft → Draft
with_premises p d =
    record {
      defs = d.defs;
      head = d.head;
      hints = d.hints;
      hint = d.hint;
      members = d.members;
      sides = d.sides;
      premises = p;
    }

-- ---- heads and hints

-- the head with this token as the name of the definition
abbrev pub named : Token → Head → Head
named x h = record { at = h.at; name = name_of x.kind; id = h.id }

-- The sign before the name stands for the empty name.
abbrev pub id_with : Option (List ℕ) → TokenKind → List ℕ
id_with None k = []
id_with (Some text) k = text ++ piece_text k

-- the head with one more token of the name of a fragment or rule
abbrev pub identified : Token → Head → Head
identified x h = record { at = h.at; name = h.name; id = Some (id_with h.id x.kind) }

-- a hint with this name, and no token behind it yet
abbrev pub hint_begun : Token → Hint
hint_begun x = record { name = name_of x.kind; words = [] }

-- a hint with one more token
abbrev pub hint_more : Token → Hint → Hint
hint_more x h = record { name = h.name; words = h.words ++ x ∷ [] }

-- hints, with one more where it is kept
abbrev pub hints_with : Bool → Hint → List Hint → List Hint
hints_with b h hs = if b then hs ++ h ∷ [] else hs

-- ---- members

-- Dots stand before the alternatives.
abbrev pub dotted : Members → Members
dotted ms = record { label = ms.label; fields = ms.fields; dots = true; notations = ms.notations }

-- The next field is named by this token.
abbrev pub labelled : Token → Members → Members
labelled x ms =
    record {
      label = name_of x.kind;
      fields = ms.fields;
      dots = ms.dots;
      notations = ms.notations;
    }

-- one more field, of this type and with the name that was read
abbrev pub field_put : Typ → Members → Members
field_put t ms =
    record {
      label = [];
      fields = ms.fields ++ (ms.label, t) ∷ [];
      dots = ms.dots;
      notations = ms.notations;
    }

-- one more alternative, or the notation of a relation
abbrev pub notation_put : Notation → Members → Members
notation_put n ms =
    record {
      label = ms.label;
      fields = ms.fields;
      dots = ms.dots;
      notations = ms.notations ++ n ∷ [];
    }

-- ---- sides

-- The arguments are the types of parameters.
abbrev pub params_put : List Typ → Sides → Sides
params_put ts s =
    record { clause = false; params = ts; args = s.args; typ = s.typ; exp = s.exp }

-- The arguments are the patterns of a clause.
abbrev pub args_put : List Exp → Sides → Sides
args_put es s = record { clause = true; params = s.params; args = es; typ = s.typ; exp = s.exp }

-- the type of a variable, or of the result of a function
abbrev pub typ_put : Typ → Sides → Sides
typ_put t s =
    record { clause = s.clause; params = s.params; args = s.args; typ = Some t; exp = s.exp }

-- the conclusion of a rule, or the result of a clause
abbrev pub exp_put : Exp → Sides → Sides
exp_put e s =
    record { clause = s.clause; params = s.params; args = s.args; typ = s.typ; exp = Some e }

-- ---- premises

-- the open premise, placed at its `--`, where there is one
abbrev pub whole_prem : Span → Option Prem → List Prem
whole_prem at None = []
whole_prem at (Some p) = prem_at at (out-Prem p).node ∷ []

-- the whole premises, also the open one where that is whole
abbrev pub prem_whole : Bool → Premises → List Prem
prem_whole b p = if b then p.whole ++ whole_prem p.at p.prem else p.whole

-- The next premise begins with this `--`, behind one that may be whole.
abbrev pub premise_begun : Bool → Token → Premises → Premises
premise_begun b x p =
    record {
      whole = prem_whole b p;
      at = x.at;
      opened = [];
      start = nowhere;
      goal = None;
      prem = None;
    }

-- one more `(` before the condition
abbrev pub premise_opened : Token → Premises → Premises
premise_opened x p =
    record {
      whole = p.whole;
      at = p.at;
      opened = p.opened ++ x.at ∷ [];
      start = p.start;
      goal = p.goal;
      prem = p.prem;
    }

-- A condition begins with this token, and may name a relation.
abbrev pub condition_begun : Token → Option (List ℕ) → Premises → Premises
condition_begun x goal p =
    record {
      whole = p.whole;
      at = p.at;
      opened = p.opened;
      start = x.at;
      goal = goal;
      prem = p.prem;
    }

-- The open premise is `otherwise`, and whole.
abbrev pub otherwise_put : Premises → Premises
otherwise_put p = premises_so_far (p.whole ++ prem_at p.at prem.Otherwise ∷ [])

-- what a condition asks: that an expression holds, or that the relation of this name does
abbrev pub condition_node : Option (List ℕ) → Exp → PremNode
condition_node None e = prem.If e
condition_node (Some name) e = prem.Goal name e

-- the condition that was read, as the open premise so far
abbrev pub condition_put : Exp → Premises → Premises
condition_put e p =
    record {
      whole = p.whole;
      at = p.at;
      opened = p.opened;
      start = p.start;
      goal = None;
      prem = Some (prem_at p.start (condition_node p.goal e));
    }

-- the place, and nowhere in the text where there is none
abbrev pub span_or : Option Span → Span
span_or None = nowhere
span_or (Some at) = at

-- what stands in parentheses is iterated
abbrev pub each_of : Span → Count → Option Prem → Option Prem
each_of at c None = None
each_of at c (Some p) = Some (prem_at at (prem.Each p c))

-- The open premise so far is iterated, with so many parentheses open round it.
abbrev pub each_put : ℕ → Count → Premises → Premises
each_put n c p =
    record {
      whole = p.whole;
      at = p.at;
      opened = p.opened;
      start = p.start;
      goal = p.goal;
      prem = each_of (span_or (slice_get p.opened n)) c p.prem;
    }

-- the count that an iteration sign stands for
abbrev pub shape_count : Shape → Count
shape_count (Sign m) = mark_count m
shape_count sh = mark_count mark.Question

-- ---- definitions

-- One alternative without dots that is a type is an alias.
abbrev pub alias_or : NotNode-F NotNode Notation → Notation → Body
alias_or (NotNode-F.Hole t) n = body.Alias t
alias_or k n = body.Cases false (n ∷ []) false

-- what a syntax is defined by, with dots before and behind the alternatives or without: an alias,
-- or a variant
abbrev pub body_of : Bool → List Notation → Bool → Body
body_of false (n ∷ []) false = alias_or (out-NotNode (out-Notation n).node) n
body_of b ns c = body.Cases b ns c

-- the name, and the empty one where there is none
abbrev pub or_empty : Option (List ℕ) → List ℕ
or_empty None = []
or_empty (Some text) = text

-- the declaration of a variable, where its type is known
abbrev pub var_of : List ℕ → Option Typ → Option DefNode
var_of name None = None
var_of name (Some t) = Some (def.Var name t)

-- the declaration of a relation, where its one notation is known
abbrev pub relation_of : List ℕ → List Notation → Option DefNode
relation_of name (n ∷ []) = Some (def.Relation name n)
relation_of name ns = None

-- the declaration of a function, where the type of its result is known
abbrev pub fun_of : List ℕ → List Typ → Option Typ → Option DefNode
fun_of name ts None = None
fun_of name ts (Some t) = Some (def.Fun name ts t)

-- a rule or a clause, where its conclusion or result is known
abbrev pub rule_of : Head → Sides → Option Exp → List Prem → Option DefNode
rule_of h s None ps = None
rule_of h s (Some e) ps =
    if s.clause then Some (def.Clause h.name s.args e ps)
    else Some (def.Rule h.name (or_empty h.id) e ps)

-- the open definition, where it ends so
abbrev pub node_of : DefinitionEnd → Head → Members → Sides → Premises → Option DefNode
node_of ending.Nothing h ms s p = None
node_of ending.Fields h ms s p = Some (def.Syntax h.name h.id (body.Fields ms.fields))
node_of (ending.Cases b) h ms s p = Some (def.Syntax h.name h.id (body_of ms.dots ms.notations b))
node_of ending.Var h ms s p = var_of h.name s.typ
node_of ending.Relation h ms s p = relation_of h.name ms.notations
node_of ending.Fun h ms s p = fun_of h.name s.params s.typ
node_of ending.Rule h ms s p = rule_of h s s.exp (prem_whole false p)
node_of ending.Condition h ms s p = rule_of h s s.exp (prem_whole true p)

-- the definitions, with one more where it is known
abbrev pub def_put : Draft → Option DefNode → List Def
def_put d None = d.defs
def_put d (Some n) = d.defs ++ record { at = d.head.at; hints = d.hints; node = n } ∷ []

-- all definitions, where the open one ends so
abbrev pub ended : DefinitionEnd → Draft → List Def
ended e d = def_put d (node_of e d.head d.members d.sides d.premises)

-- ---- changes

-- a draft behind a change, with these arguments as types and as expressions
abbrev pub applied : Change → Shape → Token → List Typ → List Exp → Draft → Draft
applied change.Nothing sh x ts es d = d
applied (change.Begin e) sh x ts es d = begun (ended e d) x.at
applied (change.End e) sh x ts es d = begun (ended e d) nowhere
applied change.Name sh x ts es d = with_head (named x d.head) d
applied change.Id sh x ts es d = with_head (identified x d.head) d
applied change.HintName sh x ts es d = with_hints d.hints (hint_begun x) d
applied change.HintWord sh x ts es d = with_hints d.hints (hint_more x d.hint) d
applied (change.HintEnd b) sh x ts es d = with_hints (hints_with b d.hint d.hints) no_hint d
applied change.Dots sh x ts es d = with_members (dotted d.members) d
applied change.Label sh x ts es d = with_members (labelled x d.members) d
applied change.Params sh x ts es d = with_sides (params_put ts d.sides) d
applied change.Args sh x ts es d = with_sides (args_put es d.sides) d
applied (change.Premise b) sh x ts es d = with_premises (premise_begun b x d.premises) d
applied change.Parenthesis sh x ts es d = with_premises (premise_opened x d.premises) d
applied change.If sh x ts es d = with_premises (condition_begun x None d.premises) d
applied change.Goal sh x ts es d =
    with_premises (condition_begun x (Some (name_of x.kind)) d.premises) d
applied change.Otherwise sh x ts es d = with_premises (otherwise_put d.premises) d
applied (change.Mark n) sh x ts es d = with_premises (each_put n (shape_count sh) d.premises) d

-- The arguments are built where they are known to be parameters or patterns.
abbrev pub arguments_after : Change → List (List Action) → List (List Action)
arguments_after change.Params acts = []
arguments_after change.Args acts = []
arguments_after c acts = acts

-- ---- parts that end

-- a draft behind a type: that of a field, of a variable or of a function's result
abbrev pub typ_filled : Slot → Typ → Draft → Draft
typ_filled slot.Field t d = with_members (field_put t d.members) d
typ_filled s t d = with_sides (typ_put t d.sides) d

-- a draft behind a notation: one more alternative, or that of a relation
abbrev pub notation_filled : Notation → Draft → Draft
notation_filled n d = with_members (notation_put n d.members) d

-- a draft behind the expression of a condition
abbrev pub condition_filled : Exp → Draft → Draft
condition_filled e d = with_premises (condition_put e d.premises) d

-- a draft behind a conclusion, or the result of a clause
abbrev pub exp_filled : Exp → Draft → Draft
exp_filled e d = with_sides (exp_put e d.sides) d

-- a count behind a premise in parentheses, with so many open round it
abbrev pub count_filled : ℕ → Count → Draft → Draft
count_filled n c d = with_premises (each_put n c d.premises) d
