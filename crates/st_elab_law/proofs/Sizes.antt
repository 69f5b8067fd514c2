-- The size of an expression, than which its parts are smaller.
use Rattle.std.proofs.Common.{◌≡◌, ◌∙◌, ap, ℕ, suc, ◌+◌, ◌<◌, ◌≤◌, List, [], ◌∷◌, map, arith}
use Rattle.std.specs.List.{AllByRecursion}
use Rattle.st_el.specs.declared.expression.Exp.{Exp, Exp-F, out-Exp, fold-Exp, fold_out-Exp}
use Rattle.st_el.specs.declared.expression.Node.{Node, fold-Node, map-Node, fold_out-Node}
use Rattle.st_el.specs.declared.expression.Count.{Count, out-Count, fold-Count, map-Count, fold_out-Count}
use Rattle.st_el.specs.declared.expression.Count.TheOpen.{Count-F, Node-F, Seg-F}
use Rattle.st_el.specs.declared.expression.Seg.{Seg, out-Seg, fold-Seg, map-Seg, fold_out-Seg}
use Rattle.st_notation.specs.Elements.{opened}
use Rattle.st_elab_table.specs.Questions.{Question}
use Rattle.st_elab_law.proofs.AsksOnly.{IsAskable, CountAskable, StepAskable, AllAskable, PathAskable, FieldsAskable, PartsAskable}

-- ---- sizes

abbrev pub total : List ℕ → ℕ
total [] = 0
total (n ∷ ns) = n + total ns

abbrev total_fields : List (List ℕ × ℕ) → ℕ
total_fields [] = 0
total_fields (f ∷ fs) = f.1 + total_fields fs

abbrev count_at : Count-F ℕ ℕ ℕ ℕ → ℕ
count_at Count-F.Star = 0
count_at Count-F.Plus = 0
count_at Count-F.Quest = 0
count_at (Count-F.Times n) = n
count_at (Count-F.Below i n) = n

abbrev node_at : Node-F ℕ ℕ ℕ ℕ → ℕ
node_at (Node-F.Name name) = 0
node_at (Node-F.Atom name) = 0
node_at (Node-F.Bool truth) = 0
node_at (Node-F.Number n) = 0
node_at (Node-F.Text text) = 0
node_at Node-F.Eps = 0
node_at (Node-F.Seq es) = total es
node_at (Node-F.Infix l sign r) = l + r
node_at (Node-F.Binary l sign r) = l + r
node_at (Node-F.Not e) = e
node_at (Node-F.Neg e) = e
node_at (Node-F.Arith e) = e
node_at (Node-F.Paren e) = e
node_at (Node-F.Bracket opening e) = e
node_at (Node-F.Tuple es) = total es
node_at (Node-F.Fields fs) = total_fields fs
node_at (Node-F.Dot e field) = e
node_at (Node-F.Node::At e i) = e + i
node_at (Node-F.Node::Slice e i n) = e + (i + n)
node_at (Node-F.Update e path x) = e + (total path + x)
node_at (Node-F.Extend e path x) = e + (total path + x)
node_at (Node-F.Len e) = e
node_at (Node-F.Call name es) = total es
node_at (Node-F.Iter b c) = b + c

abbrev step_at : Seg-F ℕ ℕ ℕ ℕ → ℕ
step_at (Seg-F.Field name) = 0
step_at (Seg-F.Seg::At i) = i
step_at (Seg-F.Seg::Slice i n) = i + n

abbrev exp_at : Exp-F ℕ ℕ ℕ ℕ → ℕ
exp_at e = suc e.node

-- one for each node of the expression
abbrev pub size : Exp → ℕ
size = fold-Exp ℕ ℕ ℕ ℕ count_at node_at step_at exp_at

abbrev count_size : Count → ℕ
count_size = fold-Count ℕ ℕ ℕ ℕ count_at node_at step_at exp_at

abbrev node_size : Node → ℕ
node_size = fold-Node ℕ ℕ ℕ ℕ count_at node_at step_at exp_at

abbrev step_size : Seg → ℕ
step_size = fold-Seg ℕ ℕ ℕ ℕ count_at node_at step_at exp_at

-- ---- levels

abbrev parts_at : Node-F Count Node Seg Exp → ℕ
parts_at y = node_at (map-Node Count Node Seg Exp ℕ ℕ ℕ ℕ count_size node_size step_size size y)

pub size-level : (e : Exp) (y : Node-F Count Node Seg Exp) → opened e ≡ y → size e ≡ suc (parts_at y)
size-level e y is =
    fold_out-Exp ℕ ℕ ℕ ℕ count_at node_at step_at exp_at e ∙ ap suc (fold_out-Node ℕ ℕ ℕ ℕ count_at node_at step_at exp_at (out-Exp e).node) ∙ ap (λ z. suc (parts_at z)) is

count-level : (c : Count) → count_size c ≡ count_at (map-Count Count Node Seg Exp ℕ ℕ ℕ ℕ count_size node_size step_size size (out-Count c))
count-level c = fold_out-Count ℕ ℕ ℕ ℕ count_at node_at step_at exp_at c

step-level : (s : Seg) → step_size s ≡ step_at (map-Seg Count Node Seg Exp ℕ ℕ ℕ ℕ count_size node_size step_size size (out-Seg s))
step-level s = fold_out-Seg ℕ ℕ ℕ ℕ count_at node_at step_at exp_at s

-- ---- elements

-- each of these is smaller than so much
abbrev pub AllBelow : ℕ → List Exp → Type 0
AllBelow n = AllByRecursion (λ (e : Exp). size e < n)

pub total-below : (es : List Exp) (n : ℕ) → total (map size es) < n → AllBelow n es
total-below [] n h = tt
total-below (e ∷ es) n h = (omega (arith, h), total-below es n (omega (arith, h)))

pub elements-below : (e : Exp) (es : List Exp) → opened e ≡ Node-F.Seq es → AllBelow (size e) es
elements-below e es is = let l : size e ≡ suc (total (map size es)) = size-level e (Node-F.Seq es) is in total-below es (size e) (omega (arith, l))

-- ---- what holds of all smaller expressions holds of the parts of one

module _ (P : Question → Type 0) (n : ℕ) (small : (x : Exp) → size x < n → IsAskable P x) where
  pub all-askable : (es : List Exp) → AllBelow n es → AllAskable P es
  all-askable [] h = tt
  all-askable (e ∷ es) h = (small e h.0, all-askable es h.1)

  fields-askable : (fs : List (List ℕ × Exp)) → total_fields (map (λ (f : List ℕ × Exp). (f.0, size f.1)) fs) < n → FieldsAskable P fs
  fields-askable [] h = tt
  fields-askable (f ∷ fs) h = (small f.1 (omega (arith, h)), fields-askable fs (omega (arith, h)))

  step-askable : (y : Seg-F Count Node Seg Exp) → step_at (map-Seg Count Node Seg Exp ℕ ℕ ℕ ℕ count_size node_size step_size size y) < n → StepAskable P y
  step-askable (Seg-F.Field name) h = tt
  step-askable (Seg-F.Seg::At i) h = small i h
  step-askable (Seg-F.Seg::Slice i m) h = (small i (omega (arith, h)), small m (omega (arith, h)))

  path-askable : (path : List Seg) → total (map step_size path) < n → PathAskable P path
  path-askable [] h = tt
  path-askable (s ∷ path) h =
      let l = step-level s in
      (step-askable (out-Seg s) (omega (arith, h, l)), path-askable path (omega (arith, h)))

  count-askable : (y : Count-F Count Node Seg Exp) → count_at (map-Count Count Node Seg Exp ℕ ℕ ℕ ℕ count_size node_size step_size size y) < n → CountAskable P y
  count-askable Count-F.Star h = tt
  count-askable Count-F.Plus h = tt
  count-askable Count-F.Quest h = tt
  count-askable (Count-F.Times m) h = small m h
  count-askable (Count-F.Below i m) h = small m h

  askable-at : (y : Node-F Count Node Seg Exp) → parts_at y < n → PartsAskable P y
  askable-at (Node-F.Name name) h = tt
  askable-at (Node-F.Atom name) h = tt
  askable-at (Node-F.Bool truth) h = tt
  askable-at (Node-F.Number m) h = tt
  askable-at (Node-F.Text text) h = tt
  askable-at Node-F.Eps h = tt
  askable-at (Node-F.Seq es) h = all-askable es (total-below es n h)
  askable-at (Node-F.Infix l sign r) h = (small l (omega (arith, h)), small r (omega (arith, h)))
  askable-at (Node-F.Binary l sign r) h = (small l (omega (arith, h)), small r (omega (arith, h)))
  askable-at (Node-F.Not e) h = small e h
  askable-at (Node-F.Neg e) h = small e h
  askable-at (Node-F.Arith e) h = small e h
  askable-at (Node-F.Paren e) h = small e h
  askable-at (Node-F.Bracket opening e) h = small e h
  askable-at (Node-F.Tuple es) h = all-askable es (total-below es n h)
  askable-at (Node-F.Fields fs) h = fields-askable fs h
  askable-at (Node-F.Dot e field) h = small e h
  askable-at (Node-F.Node::At e i) h = (small e (omega (arith, h)), small i (omega (arith, h)))
  askable-at (Node-F.Node::Slice e i m) h = (small e (omega (arith, h)), small i (omega (arith, h)), small m (omega (arith, h)))
  askable-at (Node-F.Update e path x) h = (small e (omega (arith, h)), path-askable path (omega (arith, h)), small x (omega (arith, h)))
  askable-at (Node-F.Extend e path x) h = (small e (omega (arith, h)), path-askable path (omega (arith, h)), small x (omega (arith, h)))
  askable-at (Node-F.Len e) h = small e h
  askable-at (Node-F.Call name es) h = all-askable es (total-below es n h)
  askable-at (Node-F.Iter b c) h =
      let l = count-level c in
      (small b (omega (arith, h)), count-askable (out-Count c) (omega (arith, h, l)))

  -- the parts of an expression that is no larger
  pub parts-askable : (e : Exp) (y : Node-F Count Node Seg Exp) → opened e ≡ y → size e ≤ n → PartsAskable P y
  parts-askable e y is h = let l = size-level e y is in askable-at y (omega (arith, h, l))
