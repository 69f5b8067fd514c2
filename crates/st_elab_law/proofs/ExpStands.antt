-- Expressions all of whose places are of some kind.
use Rattle.std.proofs.Common.{◌≡◌, sym, subst, ℕ, List, [], ◌∷◌, ◌++◌, Bool}
use Rattle.st_num.specs.declared.mark.Mark.{Mark}
use Rattle.st_num.specs.declared.span.Span.{Span}
use Rattle.st_el.specs.declared.expression.Exp.{Exp, Exp-F, roll-Exp, out-roll-Exp}
use Rattle.st_el.specs.declared.expression.Node.{Node, out-Node}
use Rattle.st_el.specs.declared.expression.Count.{Count, out-Count}
use Rattle.st_el.specs.declared.expression.Count.TheOpen.{Count-F, Node-F, Seg-F, Below as count_below}
use Rattle.st_el.specs.declared.expression.Seg.{Seg, out-Seg}
use Rattle.st_notation.specs.Elements.{opened}
use Rattle.st_elab_table.specs.Forms.{place}

mutual
  -- the expression begins at such a place, and so does each expression in it
  pub data ExpStands (P : Span → Type 0) : Exp → Type 0 where
    stands : {e : Exp} → P (place e) → NodeStands P (opened e) → ExpStands P e

  -- each expression in what an expression is begins at such a place
  pub data NodeStands (P : Span → Type 0) : Node-F Count Node Seg Exp → Type 0 where
    of_name : {x : List ℕ} → NodeStands P (Node-F.Name x)
    of_atom : {x : List ℕ} → NodeStands P (Node-F.Atom x)
    of_bool : {b : Bool} → NodeStands P (Node-F.Bool b)
    of_number : {n : ℕ} → NodeStands P (Node-F.Number n)
    of_text : {x : List ℕ} → NodeStands P (Node-F.Text x)
    of_eps : NodeStands P Node-F.Eps
    of_seq : {es : List Exp} → ExpsStand P es → NodeStands P (Node-F.Seq es)
    of_infix : {l r : Exp} {m : Mark} → ExpStands P l → ExpStands P r → NodeStands P (Node-F.Infix l m r)
    of_binary : {l r : Exp} {m : Mark} → ExpStands P l → ExpStands P r → NodeStands P (Node-F.Binary l m r)
    of_not : {e : Exp} → ExpStands P e → NodeStands P (Node-F.Not e)
    of_neg : {e : Exp} → ExpStands P e → NodeStands P (Node-F.Neg e)
    of_arith : {e : Exp} → ExpStands P e → NodeStands P (Node-F.Arith e)
    of_paren : {e : Exp} → ExpStands P e → NodeStands P (Node-F.Paren e)
    of_bracket : {m : Mark} {e : Exp} → ExpStands P e → NodeStands P (Node-F.Bracket m e)
    of_tuple : {es : List Exp} → ExpsStand P es → NodeStands P (Node-F.Tuple es)
    of_fields : {fs : List (List ℕ × Exp)} → FieldsStand P fs → NodeStands P (Node-F.Fields fs)
    of_dot : {e : Exp} {x : List ℕ} → ExpStands P e → NodeStands P (Node-F.Dot e x)
    of_at : {e i : Exp} → ExpStands P e → ExpStands P i → NodeStands P (Node-F.Node::At e i)
    of_slice : {e i n : Exp} → ExpStands P e → ExpStands P i → ExpStands P n → NodeStands P (Node-F.Node::Slice e i n)
    of_update : {e x : Exp} {path : List Seg} → ExpStands P e → SegsStand P path → ExpStands P x → NodeStands P (Node-F.Update e path x)
    of_extend : {e x : Exp} {path : List Seg} → ExpStands P e → SegsStand P path → ExpStands P x → NodeStands P (Node-F.Extend e path x)
    of_len : {e : Exp} → ExpStands P e → NodeStands P (Node-F.Len e)
    of_call : {x : List ℕ} {es : List Exp} → ExpsStand P es → NodeStands P (Node-F.Call x es)
    of_iter : {e : Exp} {c : Count} → ExpStands P e → CountStands P (out-Count c) → NodeStands P (Node-F.Iter e c)

  -- so for each of several expressions
  pub data ExpsStand (P : Span → Type 0) : List Exp → Type 0 where
    no_exps : ExpsStand P []
    exps : {e : Exp} {es : List Exp} → ExpStands P e → ExpsStand P es → ExpsStand P (e ∷ es)

  -- for each field of a record
  pub data FieldsStand (P : Span → Type 0) : List (List ℕ × Exp) → Type 0 where
    no_fields : FieldsStand P []
    fields : {f : List ℕ × Exp} {fs : List (List ℕ × Exp)} → ExpStands P f.1 → FieldsStand P fs → FieldsStand P (f ∷ fs)

  -- for each step of a path
  pub data SegsStand (P : Span → Type 0) : List Seg → Type 0 where
    no_steps : SegsStand P []
    steps : {s : Seg} {ss : List Seg} → SegStands P (out-Seg s) → SegsStand P ss → SegsStand P (s ∷ ss)

  pub data SegStands (P : Span → Type 0) : Seg-F Count Node Seg Exp → Type 0 where
    at_field : {x : List ℕ} → SegStands P (Seg-F.Field x)
    at_position : {i : Exp} → ExpStands P i → SegStands P (Seg-F.Seg::At i)
    at_slice : {i n : Exp} → ExpStands P i → ExpStands P n → SegStands P (Seg-F.Seg::Slice i n)

  -- for what says how often an iteration goes
  pub data CountStands (P : Span → Type 0) : Count-F Count Node Seg Exp → Type 0 where
    by_star : CountStands P Count-F.Star
    by_plus : CountStands P Count-F.Plus
    by_quest : CountStands P Count-F.Quest
    by_times : {n : Exp} → ExpStands P n → CountStands P (Count-F.Times n)
    by_below : {x : List ℕ} {n : Exp} → ExpStands P n → CountStands P (count_below x n)

module _ (P : Span → Type 0) where
  pub ExpStands-place : {e : Exp} → ExpStands P e → P (place e)
  ExpStands-place (stands h k) = h

  pub ExpStands-parts : {e : Exp} → ExpStands P e → NodeStands P (opened e)
  ExpStands-parts (stands h k) = k

  pub ExpStands-opened : {e : Exp} (y : Node-F Count Node Seg Exp) → opened e ≡ y → ExpStands P e → NodeStands P y
  ExpStands-opened y is h = subst (NodeStands P) is (ExpStands-parts h)

  -- an expression of this node that begins there
  pub ExpStands-at : (at : Span) (n : Node) (y : Node-F Count Node Seg Exp) → out-Node n ≡ y → P at → NodeStands P y → ExpStands P (roll-Exp (record { at = at; node = n }))
  ExpStands-at at n y is h k =
      let whole = out-roll-Exp (record { at = at; node = n }) in
      stands (subst (λ (x : Exp-F Count Node Seg Exp). P x.at) (sym whole) h) (subst (λ (x : Exp-F Count Node Seg Exp). NodeStands P (out-Node x.node)) (sym whole) (subst (NodeStands P) (sym is) k))

  pub ExpsStand-append : {es fs : List Exp} → ExpsStand P es → ExpsStand P fs → ExpsStand P (es ++ fs)
  ExpsStand-append no_exps k = k
  ExpsStand-append (exps e es) k = exps e (ExpsStand-append es k)

  pub FieldsStand-append : {es fs : List (List ℕ × Exp)} → FieldsStand P es → FieldsStand P fs → FieldsStand P (es ++ fs)
  FieldsStand-append no_fields k = k
  FieldsStand-append (fields e es) k = fields e (FieldsStand-append es k)

  pub SegsStand-append : {ss us : List Seg} → SegsStand P ss → SegsStand P us → SegsStand P (ss ++ us)
  SegsStand-append no_steps k = k
  SegsStand-append (steps s ss) k = steps s (SegsStand-append ss k)
