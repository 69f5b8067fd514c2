-- The texts and names that stand in tokens and in what they mean, and which of them are as values
-- want them.
use Rattle.std.specs.Prelude.{ℕ, List, [], ◌∷◌, ◌++◌, All, flat_map, Option, Some, None}
use Rattle.st_num.specs.Texts.{IsText}
use Rattle.st_num.specs.declared.token.Token.{Token}
use Rattle.st_num.specs.declared.token.TokenKind.{TokenKind}
use Rattle.st_num.specs.declared.token.TokenKind.TheVariants as kind
use Rattle.st_scan.specs.Tokens.{IsInRange}
use Rattle.st_el.specs.declared.expression.Exp.{Exp, Exp-F, fold-Exp}
use Rattle.st_el.specs.declared.expression.Node.{Node, fold-Node}
use Rattle.st_el.specs.declared.expression.Count.{Count, fold-Count}
use Rattle.st_el.specs.declared.expression.Count.TheOpen.{Count-F, Node-F, Seg-F}
use Rattle.st_el.specs.declared.expression.Seg.{Seg, fold-Seg}
use Rattle.st_el.specs.declared.ty.Typ.{Typ, Typ-F, fold-Typ}
use Rattle.st_el.specs.declared.ty.TypNode.TheOpen.{TypNode-F}
use Rattle.st_el.specs.declared.notation.Notation.{Notation, Notation-F, fold-Notation}
use Rattle.st_el.specs.declared.notation.NotNode.TheOpen.{NotNode-F}
use Rattle.st_el.specs.declared.definition.Prem.{Prem, fold-Prem}
use Rattle.st_el.specs.declared.definition.PremNode.TheOpen.{PremNode-F}
use Rattle.st_el.specs.declared.definition.Hint.{Hint}
use Rattle.st_el.specs.declared.definition.Body.{Body}
use Rattle.st_el.specs.declared.definition.Body.TheVariants.{Alias, Cases, Fields}
use Rattle.st_el.specs.declared.definition.Def.{Def}
use Rattle.st_el.specs.declared.definition.DefNode.{DefNode}
use Rattle.st_el.specs.declared.definition.DefNode.TheVariants.{Syntax, Var, Relation, Rule, Fun, Clause}

-- Each is UTF-8 whose only characters below U+0020 are line feeds and tabs.
abbrev pub AreTexts : List (List ℕ) → Type 0
AreTexts texts = All IsText texts

-- ---- tokens

-- the name or the text of a token, and none for one that has neither
abbrev pub kind_texts : TokenKind → List (List ℕ)
kind_texts (kind.Low name) = name ∷ []
kind_texts (kind.Up name) = name ∷ []
kind_texts (kind.Mix name) = name ∷ []
kind_texts (kind.Text text) = text ∷ []
kind_texts (kind.Dot name) = name ∷ []
kind_texts (kind.Fun name) = name ∷ []
kind_texts (kind.Reserved word) = []
kind_texts (kind.Number n) = []
kind_texts (kind.Sign mark) = []

-- Its name or its text is as values want it, and its number is below 2 ^ 128.
abbrev pub IsProper : Token → Type 0
IsProper token = AreTexts (kind_texts token.kind) × IsInRange token.kind

-- each of the tokens is so
abbrev pub AreProper : List Token → Type 0
AreProper tokens = All IsProper tokens

-- ---- expressions

-- the texts and names that stand in a part, in the order of the text
abbrev pub Found : Type 0
Found = List (List ℕ)

-- those of several parts, one part behind the other
abbrev pub all_of : List Found → Found
all_of parts = flat_map (λ part. part) parts

-- those of a count: its index and what stands in its expression
abbrev pub count_texts_at : Count-F Found Found Found Found → Found
count_texts_at (Count-F.Times e) = e
count_texts_at (Count-F.Below index e) = index ∷ e
count_texts_at c = []

-- those of a step of a path
abbrev pub step_texts_at : Seg-F Found Found Found Found → Found
step_texts_at (Seg-F.Field name) = name ∷ []
step_texts_at (Seg-F.Seg::At e) = e
step_texts_at (Seg-F.Seg::Slice e f) = e ++ f

-- those of what an expression is: its own, and those of its parts
abbrev pub node_texts_at : Node-F Found Found Found Found → Found
node_texts_at (Node-F.Name name) = name ∷ []
node_texts_at (Node-F.Atom name) = name ∷ []
node_texts_at (Node-F.Bool b) = []
node_texts_at (Node-F.Number n) = []
node_texts_at (Node-F.Text text) = text ∷ []
node_texts_at Node-F.Eps = []
node_texts_at (Node-F.Seq es) = all_of es
node_texts_at (Node-F.Infix l m r) = l ++ r
node_texts_at (Node-F.Binary l m r) = l ++ r
node_texts_at (Node-F.Not e) = e
node_texts_at (Node-F.Neg e) = e
node_texts_at (Node-F.Arith e) = e
node_texts_at (Node-F.Paren e) = e
node_texts_at (Node-F.Bracket m e) = e
node_texts_at (Node-F.Tuple es) = all_of es
node_texts_at (Node-F.Fields fs) = flat_map (λ f. f.0 ∷ f.1) fs
node_texts_at (Node-F.Dot e name) = e ++ name ∷ []
node_texts_at (Node-F.Node::At e f) = e ++ f
node_texts_at (Node-F.Node::Slice e f g) = e ++ f ++ g
node_texts_at (Node-F.Update e path f) = e ++ all_of path ++ f
node_texts_at (Node-F.Extend e path f) = e ++ all_of path ++ f
node_texts_at (Node-F.Len e) = e
node_texts_at (Node-F.Call name es) = name ∷ all_of es
node_texts_at (Node-F.Iter e count) = e ++ count

-- Its place has none.
abbrev pub exp_texts_at : Exp-F Found Found Found Found → Found
exp_texts_at e = e.node

-- the texts and names that stand in an expression
abbrev pub exp_texts : Exp → Found
exp_texts = fold-Exp Found Found Found Found count_texts_at node_texts_at step_texts_at exp_texts_at

-- those in what an expression is
abbrev pub node_texts : Node → Found
node_texts =
    fold-Node Found Found Found Found count_texts_at node_texts_at step_texts_at exp_texts_at

-- those in a count
abbrev pub count_texts : Count → Found
count_texts =
    fold-Count Found Found Found Found count_texts_at node_texts_at step_texts_at exp_texts_at

-- those in a step of a path
abbrev pub step_texts : Seg → Found
step_texts = fold-Seg Found Found Found Found count_texts_at node_texts_at step_texts_at exp_texts_at

-- each text and name in the expression is as values want it
abbrev pub HasTexts : Exp → Type 0
HasTexts e = AreTexts (exp_texts e)

-- ---- types and notations

-- those of what a type is: its name, or those of its parts
abbrev pub typ_node_texts_at : TypNode-F Found Found → Found
typ_node_texts_at TypNode-F.Bool = []
typ_node_texts_at TypNode-F.Nat = []
typ_node_texts_at TypNode-F.Int = []
typ_node_texts_at TypNode-F.Text = []
typ_node_texts_at (TypNode-F.Name name) = name ∷ []
typ_node_texts_at (TypNode-F.Star t) = t
typ_node_texts_at (TypNode-F.Quest t) = t
typ_node_texts_at (TypNode-F.Tuple ts) = all_of ts

-- Its place has none.
abbrev pub typ_texts_at : Typ-F Found Found → Found
typ_texts_at t = t.node

-- the names that stand in a type
abbrev pub typ_texts : Typ → Found
typ_texts = fold-Typ Found Found typ_node_texts_at typ_texts_at

-- those of what a notation is: its own, and those of its parts
abbrev pub not_node_texts_at : NotNode-F Found Found → Found
not_node_texts_at (NotNode-F.Atom name) = name ∷ []
not_node_texts_at (NotNode-F.Hole t) = typ_texts t
not_node_texts_at (NotNode-F.Seq ns) = all_of ns
not_node_texts_at (NotNode-F.Infix l m r) = l ++ r
not_node_texts_at (NotNode-F.Bracket m n) = n

-- Its place has none.
abbrev pub notation_texts_at : Notation-F Found Found → Found
notation_texts_at n = n.node

-- the names that stand in a notation
abbrev pub notation_texts : Notation → Found
notation_texts = fold-Notation Found Found not_node_texts_at notation_texts_at

-- ---- definitions

-- those of what a premise asks: the name of a relation, and those of its parts
abbrev pub prem_node_texts_at : PremNode-F Found Found → Found
prem_node_texts_at (PremNode-F.If e) = exp_texts e
prem_node_texts_at (PremNode-F.Goal relation e) = relation ∷ exp_texts e
prem_node_texts_at PremNode-F.Otherwise = []
prem_node_texts_at (PremNode-F.Each held count) = held ++ count_texts count

-- the texts and names that stand in a premise
abbrev pub prem_texts : Prem → Found
prem_texts = fold-Prem Found Found prem_node_texts_at (λ p. p.node)

-- those of a hint: its name, and those of its tokens
abbrev pub hint_texts : Hint → Found
hint_texts hint = hint.name ∷ flat_map (λ token. kind_texts token.kind) hint.words

-- the name of a fragment, where there is one
abbrev pub fragment_texts : Option (List ℕ) → Found
fragment_texts None = []
fragment_texts (Some name) = name ∷ []

-- those of a field: its name, and those of its type
abbrev pub field_texts : List ℕ × Typ → Found
field_texts field = field.0 ∷ typ_texts field.1

-- those of the body of a syntax
abbrev pub body_texts : Body → Found
body_texts (Alias t) = typ_texts t
body_texts (Cases before cases after) = flat_map notation_texts cases
body_texts (Fields fields) = flat_map field_texts fields

-- those of what a definition is: its names, and those of its parts
abbrev pub def_node_texts : DefNode → Found
def_node_texts (Syntax name fragment body) = name ∷ (fragment_texts fragment ++ body_texts body)
def_node_texts (Var name t) = name ∷ typ_texts t
def_node_texts (Relation name notation) = name ∷ notation_texts notation
def_node_texts (Rule relation name conclusion premises) =
    relation ∷ name ∷ (exp_texts conclusion ++ flat_map prem_texts premises)
def_node_texts (Fun name params result) = name ∷ (flat_map typ_texts params ++ typ_texts result)
def_node_texts (Clause name args result premises) =
    name ∷ (flat_map exp_texts args ++ (exp_texts result ++ flat_map prem_texts premises))

-- the texts and names that stand in a definition and its hints
abbrev pub def_texts : Def → Found
def_texts def = flat_map hint_texts def.hints ++ def_node_texts def.node

-- each text and name in the definition is as values want it
abbrev pub DefHasTexts : Def → Type 0
DefHasTexts def = AreTexts (def_texts def)
