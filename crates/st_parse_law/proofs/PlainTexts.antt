-- A plain expression has the texts and names of the expression.
use Rattle.std.proofs.Common.{◌≡◌, ℕ, List, [], ◌∷◌, ◌++◌, map, flat_map, refl, sym, ap, ap₂, ◌∙◌, subst}
use Rattle.st_el.specs.declared.expression.Exp.{Exp, Exp-F, ind-Exp, out-Exp, roll-Exp, fold_out-Exp}
use Rattle.st_el.specs.declared.expression.Node.{Node, roll-Node, map-Node, fold_out-Node, out-roll-Node}
use Rattle.st_el.specs.declared.expression.Count.{Count, roll-Count, map-Count, fold_out-Count, out-roll-Count}
use Rattle.st_el.specs.declared.expression.Count.TheOpen.{Count-F, Node-F, Seg-F}
use Rattle.st_el.specs.declared.expression.Seg.{Seg, roll-Seg, map-Seg, fold_out-Seg, out-roll-Seg}
use Rattle.st_el.specs.Plain.{nowhere, plain_exp, plain_node, plain_count, plain_seg, plain_node_at}
use Rattle.st_parse_builder.specs.Meaning.{exp}
use Rattle.st_parse_law.specs.SourceTexts.{Found, all_of, count_texts_at, step_texts_at, node_texts_at, exp_texts_at, exp_texts, node_texts, count_texts, step_texts}
use Rattle.st_parse_law.proofs.Plains.{plain-exp, parts_plain, plain-node, plain-count, plain-step, node-of}
use Rattle.st_parse_law.proofs.TextLaw.{texts_in}

-- ---- the texts of one level

exp-node : (e : Exp) → exp_texts e ≡ node_texts (out-Exp e).node
exp-node e = fold_out-Exp Found Found Found Found count_texts_at node_texts_at step_texts_at exp_texts_at e

rolled_node : (l : Node-F Count Node Seg Exp) → node_texts (roll-Node l) ≡ node_texts_at (texts_in l)
rolled_node l =
    fold_out-Node Found Found Found Found count_texts_at node_texts_at step_texts_at exp_texts_at (roll-Node l)
    ∙ ap (λ k. node_texts_at (texts_in k)) (out-roll-Node l)

abbrev count_in : Count-F Count Node Seg Exp → Count-F Found Found Found Found
count_in = map-Count Count Node Seg Exp Found Found Found Found count_texts node_texts step_texts exp_texts

rolled_count : (c : Count-F Count Node Seg Exp) → count_texts (roll-Count c) ≡ count_texts_at (count_in c)
rolled_count c =
    fold_out-Count Found Found Found Found count_texts_at node_texts_at step_texts_at exp_texts_at (roll-Count c)
    ∙ ap (λ k. count_texts_at (count_in k)) (out-roll-Count c)

abbrev step_in : Seg-F Count Node Seg Exp → Seg-F Found Found Found Found
step_in = map-Seg Count Node Seg Exp Found Found Found Found count_texts node_texts step_texts exp_texts

rolled_step : (s : Seg-F Count Node Seg Exp) → step_texts (roll-Seg s) ≡ step_texts_at (step_in s)
rolled_step s =
    fold_out-Seg Found Found Found Found count_texts_at node_texts_at step_texts_at exp_texts_at (roll-Seg s)
    ∙ ap (λ k. step_texts_at (step_in k)) (out-roll-Seg s)

-- parentheses and `$( )` have those of what they hold
plain_level : (l : Node-F Count Node Seg Exp) → node_texts (plain_node_at l) ≡ node_texts_at (texts_in l)
plain_level (Node-F.Arith e) = sym (exp-node e)
plain_level (Node-F.Paren e) = sym (exp-node e)
plain_level l = rolled_node l

-- ---- parts that have the same texts where they are plain

abbrev ExpSame : Exp → Type 0
ExpSame e = exp_texts (plain_exp e) ≡ exp_texts e

abbrev NodeSame : Node → Type 0
NodeSame n = node_texts (plain_node n) ≡ node_texts n

abbrev CountSame : Count → Type 0
CountSame c = count_texts (plain_count c) ≡ count_texts c

abbrev StepSame : Seg → Type 0
StepSame s = step_texts (plain_seg s) ≡ step_texts s

abbrev OneExp : Type 0
OneExp = (e : Exp) × ExpSame e

abbrev OneNode : Type 0
OneNode = (n : Node) × NodeSame n

abbrev OneCount : Type 0
OneCount = (c : Count) × CountSame c

abbrev OneStep : Type 0
OneStep = (s : Seg) × StepSame s

all_same : (ys : List OneExp) → all_of (map exp_texts (map plain_exp (map (λ (y : OneExp). y.0) ys))) ≡ all_of (map exp_texts (map (λ (y : OneExp). y.0) ys))
all_same [] = refl
all_same (y ∷ ys) = ap₂ (λ a b. a ++ b) y.1 (all_same ys)

steps_same : (ys : List OneStep) → all_of (map step_texts (map plain_seg (map (λ (y : OneStep). y.0) ys))) ≡ all_of (map step_texts (map (λ (y : OneStep). y.0) ys))
steps_same [] = refl
steps_same (y ∷ ys) = ap₂ (λ a b. a ++ b) y.1 (steps_same ys)

abbrev first_field : List ℕ × OneExp → List ℕ × Exp
first_field f = (f.0, f.1.0)

abbrev plain_field : List ℕ × Exp → List ℕ × Exp
plain_field f = (f.0, plain_exp f.1)

abbrev field_found : List ℕ × Exp → List ℕ × Found
field_found f = (f.0, exp_texts f.1)

abbrev field_all : List ℕ × Found → Found
field_all f = f.0 ∷ f.1

fields_same : (fs : List (List ℕ × OneExp)) → flat_map field_all (map field_found (map plain_field (map first_field fs))) ≡ flat_map field_all (map field_found (map first_field fs))
fields_same [] = refl
fields_same (f ∷ fs) = ap₂ (λ a b. (f.0 ∷ a) ++ b) f.1.1 (fields_same fs)

-- ---- levels

abbrev node_firsts : Node-F OneCount OneNode OneStep OneExp → Node-F Count Node Seg Exp
node_firsts = map-Node OneCount OneNode OneStep OneExp Count Node Seg Exp (λ y. y.0) (λ y. y.0) (λ y. y.0) (λ y. y.0)

abbrev count_firsts : Count-F OneCount OneNode OneStep OneExp → Count-F Count Node Seg Exp
count_firsts = map-Count OneCount OneNode OneStep OneExp Count Node Seg Exp (λ y. y.0) (λ y. y.0) (λ y. y.0) (λ y. y.0)

abbrev step_firsts : Seg-F OneCount OneNode OneStep OneExp → Seg-F Count Node Seg Exp
step_firsts = map-Seg OneCount OneNode OneStep OneExp Count Node Seg Exp (λ y. y.0) (λ y. y.0) (λ y. y.0) (λ y. y.0)

node_same : (y : Node-F OneCount OneNode OneStep OneExp) → node_texts_at (texts_in (parts_plain (node_firsts y))) ≡ node_texts_at (texts_in (node_firsts y))
node_same (Node-F.Name name) = refl
node_same (Node-F.Atom name) = refl
node_same (Node-F.Bool b) = refl
node_same (Node-F.Number n) = refl
node_same (Node-F.Text content) = refl
node_same Node-F.Eps = refl
node_same (Node-F.Seq es) = all_same es
node_same (Node-F.Infix l m r) = ap₂ (λ a b. a ++ b) l.1 r.1
node_same (Node-F.Binary l m r) = ap₂ (λ a b. a ++ b) l.1 r.1
node_same (Node-F.Not e) = e.1
node_same (Node-F.Neg e) = e.1
node_same (Node-F.Arith e) = e.1
node_same (Node-F.Paren e) = e.1
node_same (Node-F.Bracket m e) = e.1
node_same (Node-F.Tuple es) = all_same es
node_same (Node-F.Fields fs) = fields_same fs
node_same (Node-F.Dot e name) = ap (λ a. a ++ name ∷ []) e.1
node_same (Node-F.Node::At e i) = ap₂ (λ a b. a ++ b) e.1 i.1
node_same (Node-F.Node::Slice e i j) = ap₂ (λ a b. a ++ b) (ap₂ (λ a b. a ++ b) e.1 i.1) j.1
node_same (Node-F.Update e ps f) = ap₂ (λ a b. a ++ b) (ap₂ (λ a b. a ++ b) e.1 (steps_same ps)) f.1
node_same (Node-F.Extend e ps f) = ap₂ (λ a b. a ++ b) (ap₂ (λ a b. a ++ b) e.1 (steps_same ps)) f.1
node_same (Node-F.Len e) = e.1
node_same (Node-F.Call name es) = ap (λ a. name ∷ a) (all_same es)
node_same (Node-F.Iter e c) = ap₂ (λ a b. a ++ b) e.1 c.1

node_level : (x : Node-F Count Node Seg Exp) (y : Node-F OneCount OneNode OneStep OneExp) → node_firsts y ≡ x → NodeSame (roll-Node x)
node_level x y e = subst (λ z. NodeSame (roll-Node z)) e go
  where
    go : NodeSame (roll-Node (node_firsts y))
    go =
        ap node_texts (plain-node (roll-Node (node_firsts y)) (node_firsts y) (out-roll-Node (node_firsts y)))
        ∙ plain_level (parts_plain (node_firsts y)) ∙ node_same y ∙ sym (rolled_node (node_firsts y))

abbrev plain_in_count : Count-F Count Node Seg Exp → Count-F Count Node Seg Exp
plain_in_count = map-Count Count Node Seg Exp Count Node Seg Exp plain_count plain_node plain_seg plain_exp

count_same : (y : Count-F OneCount OneNode OneStep OneExp) → count_texts_at (count_in (plain_in_count (count_firsts y))) ≡ count_texts_at (count_in (count_firsts y))
count_same Count-F.Star = refl
count_same Count-F.Plus = refl
count_same Count-F.Quest = refl
count_same (Count-F.Times e) = e.1
count_same (Count-F.Below name e) = ap (λ a. name ∷ a) e.1

count_level : (x : Count-F Count Node Seg Exp) (y : Count-F OneCount OneNode OneStep OneExp) → count_firsts y ≡ x → CountSame (roll-Count x)
count_level x y e = subst (λ z. CountSame (roll-Count z)) e go
  where
    go : CountSame (roll-Count (count_firsts y))
    go =
        ap count_texts (plain-count (roll-Count (count_firsts y)) (count_firsts y) (out-roll-Count (count_firsts y)))
        ∙ rolled_count (plain_in_count (count_firsts y)) ∙ count_same y ∙ sym (rolled_count (count_firsts y))

abbrev plain_in_step : Seg-F Count Node Seg Exp → Seg-F Count Node Seg Exp
plain_in_step = map-Seg Count Node Seg Exp Count Node Seg Exp plain_count plain_node plain_seg plain_exp

step_same : (y : Seg-F OneCount OneNode OneStep OneExp) → step_texts_at (step_in (plain_in_step (step_firsts y))) ≡ step_texts_at (step_in (step_firsts y))
step_same (Seg-F.Field name) = refl
step_same (Seg-F.Seg::At e) = e.1
step_same (Seg-F.Seg::Slice e f) = ap₂ (λ a b. a ++ b) e.1 f.1

step_level : (x : Seg-F Count Node Seg Exp) (y : Seg-F OneCount OneNode OneStep OneExp) → step_firsts y ≡ x → StepSame (roll-Seg x)
step_level x y e = subst (λ z. StepSame (roll-Seg z)) e go
  where
    go : StepSame (roll-Seg (step_firsts y))
    go =
        ap step_texts (plain-step (roll-Seg (step_firsts y)) (step_firsts y) (out-roll-Seg (step_firsts y)))
        ∙ rolled_step (plain_in_step (step_firsts y)) ∙ step_same y ∙ sym (rolled_step (step_firsts y))

-- an expression at a place, where what it is has the same texts
at_same : (x : Exp-F Count Node Seg Exp) → NodeSame x.node → ExpSame (roll-Exp x)
at_same x h =
    ap exp_texts (plain-exp x.at x.node) ∙ exp-node (exp nowhere (plain_node x.node)) ∙ ap node_texts (node-of nowhere (plain_node x.node))
    ∙ h ∙ sym (exp-node (roll-Exp x) ∙ ap node_texts (node-of x.at x.node))

pub plain_texts : (e : Exp) → exp_texts (plain_exp e) ≡ exp_texts e
plain_texts =
    ind-Exp CountSame NodeSame StepSame ExpSame count_level node_level step_level
    (λ x y e. at_same x (subst NodeSame (ap (λ z. z.node) e) y.node.1))
