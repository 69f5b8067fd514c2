-- Forms of source that the internal language is erased to.
use Rattle.std.proofs.Common.{◌≡◌, refl, sym, ◌∙◌, ap, subst, List, [], ◌∷◌, map}
use Rattle.st_num.specs.declared.mark.Mark.{Mark}
use Rattle.st_el.specs.declared.expression.Exp.{Exp}
use Rattle.st_el.specs.declared.expression.Node.{Node, out-Node, roll-Node}
use Rattle.st_el.specs.declared.expression.Node.TheVariants as node
use Rattle.st_el.specs.declared.expression.Count.{Count}
use Rattle.st_el.specs.declared.expression.Count.TheOpen.{Node-F}
use Rattle.st_el.specs.declared.expression.Seg.{Seg}
use Rattle.st_el.specs.Plain.{plain_exp}
use Rattle.st_il.specs.declared.definition.IlDef.{IlDef}
use Rattle.st_il.specs.declared.expression.IlExp.{IlExp}
use Rattle.st_il.specs.declared.ty.Ty.{Ty}
use Rattle.st_il.specs.declared.expression.ListItem.TheVariants as part
use Rattle.st_notation.specs.Elements.{opened}
use Rattle.st_erase.specs.declared.erased.Erased.{Erased}
use Rattle.st_erase.specs.declared.erased.ErasedKind.{ErasedKind}
use Rattle.st_erase.specs.declared.erased.ErasedKind.TheVariants as kind
use Rattle.st_erase.specs.Places.{exp, whole, run_by, run as run_of}
use Rattle.st_erase.specs.Erasure.{plain_form, arithmetic, binary, operation, lifted, list_of, erased}
use Rattle.st_elab_table.specs.Steps.{list_of_one}
use Rattle.st_elab_law.proofs.Claims.{IsPresent, IsSingle, IsErasedTo, IsWritten}
use Rattle.st_elab_law.proofs.Plainness.{plain_of, exp-opens, node-is, plain-in_arithmetic, plain-whole, plain-lifted}
use Rattle.st_elab_law.proofs.Erasings.{erased-List, item-One}

present : (k : ErasedKind) → IsSingle k → IsPresent k
present kind.Plain h = tt
present kind.Arithmetic h = tt
present kind.Run h = absurd h
present kind.Absent h = absurd h

pub whole_source : (x : Erased) (e : Exp) → IsErasedTo x e → plain_exp (whole x) ≡ plain_exp e
whole_source x e h = plain-whole x ∙ h

-- what is written as one element by itself
pub alone_written : (Alone : Type 0) (x y : Erased) (e : Exp) → x ≡ y → IsSingle y.kind → IsErasedTo y e → IsWritten Alone x e
alone_written Alone x y e is single same = record {
  same = ap (λ z. plain_exp z.exp) is ∙ same;
  present = subst (λ z. IsPresent z.kind) (sym is) (present y.kind single);
  single = λ _. subst (λ z. IsSingle z.kind) (sym is) single;
}

-- what is erased as it was
pub written_as : (Alone Other : Type 0) (x y : Erased) (e : Exp) → x ≡ y → (Alone → Other) → IsWritten Other y e → IsWritten Alone x e
written_as Alone Other x y e is goes h = record {
  same = ap (λ z. plain_exp z.exp) is ∙ h.same;
  present = subst (λ z. IsPresent z.kind) (sym is) h.present;
  single = λ alone. subst (λ z. IsSingle z.kind) (sym is) (h.single (goes alone));
}

pub source_as : (x y : Erased) (e : Exp) → x ≡ y → IsErasedTo y e → IsErasedTo x e
source_as x y e is h = ap (λ z. plain_exp z.exp) is ∙ h

-- an expression that is written as one element is a run of one
pub single_run : (x : Erased) (e : Exp) → IsSingle x.kind → IsErasedTo x e → map plain_exp (run_of x) ≡ plain_exp e ∷ []
single_run x e single h = by x.kind single
  where
    by : (k : ErasedKind) → IsSingle k → map plain_exp (run_by k x.exp) ≡ plain_exp e ∷ []
    by kind.Plain s = ap (λ z. z ∷ []) h
    by kind.Arithmetic s = ap (λ z. z ∷ []) (plain-in_arithmetic x.exp ∙ h)
    by kind.Run s = absurd s
    by kind.Absent s = absurd s

-- ---- forms

-- two levels that are plain alike
pub levels_alike : (n : Node) (e : Exp) (y z : Node-F Count Node Seg Exp) → out-Node n ≡ y → opened e ≡ z → plain_of y ≡ plain_of z → plain_exp (exp n) ≡ plain_exp e
levels_alike n e y z out is same = node-is n y out ∙ same ∙ ap plain_of (sym is) ∙ sym (exp-opens e)

module _ (Alone : Type 0) (x : Erased) (e : Exp) where
  pub form_written : (n : Node) (y z : Node-F Count Node Seg Exp) → x ≡ plain_form n → out-Node n ≡ y → opened e ≡ z → plain_of y ≡ plain_of z → IsWritten Alone x e
  form_written n y z is out at same = alone_written Alone x (plain_form n) e is tt (levels_alike n e y z out at same)

  pub leaf_written : (n : Node) (y : Node-F Count Node Seg Exp) → x ≡ plain_form n → out-Node n ≡ y → opened e ≡ y → IsWritten Alone x e
  leaf_written n y is out at = form_written n y y is out at refl

  pub binary_written : (sign : Mark) (a b : Erased) (l r : Exp) → x ≡ binary sign a b → opened e ≡ Node-F.Binary l sign r → IsErasedTo a l → IsErasedTo b r → IsWritten Alone x e
  binary_written sign a b l r is at f g =
      let left = whole_source a l f in
      let right = whole_source b r g in
      form_written (node.Binary (whole a) sign (whole b)) _ _ is (node.outs-Binary (whole a) sign (whole b)) at (λ i. exp (roll-Node (Node-F.Binary (left i) sign (right i))))

  pub operation_written : (sign : Mark) (a b : Erased) (l r : Exp) → x ≡ operation sign a b → opened e ≡ Node-F.Binary l sign r → IsErasedTo a l → IsErasedTo b r → IsWritten Alone x e
  operation_written sign a b l r is at f g =
      alone_written Alone x (operation sign a b) e is tt
      (levels_alike (node.Binary a.exp sign b.exp) e _ _ (node.outs-Binary a.exp sign b.exp) at (λ i. exp (roll-Node (Node-F.Binary (f i) sign (g i)))))

  pub negation_written : (a : Erased) (inner : Exp) → x ≡ arithmetic (node.Neg a.exp) → opened e ≡ Node-F.Neg inner → IsErasedTo a inner → IsWritten Alone x e
  negation_written a inner is at f =
      alone_written Alone x (arithmetic (node.Neg a.exp)) e is tt
      (levels_alike (node.Neg a.exp) e _ _ (node.outs-Neg a.exp) at (λ i. exp (roll-Node (Node-F.Neg (f i)))))

-- ---- one element

module _ (defs : List IlDef) where
  pub erased-one : (t : Ty) (x : IlExp) → erased defs (list_of_one t x) ≡ record { exp = lifted (whole (erased defs x)); kind = kind.Plain }
  erased-one t x = erased-List defs t (part.One x ∷ []) ∙ ap (λ z. list_of (z ∷ [])) (item-One defs x)

  pub lifted_written : (Alone : Type 0) (x y : IlExp) (e : Exp) → erased defs y ≡ record { exp = lifted (whole (erased defs x)); kind = kind.Plain } → IsErasedTo (erased defs x) e
      → IsWritten Alone (erased defs y) e
  lifted_written Alone x y e is h =
      alone_written Alone (erased defs y) (record { exp = lifted (whole (erased defs x)); kind = kind.Plain }) e is tt
      (plain-lifted (whole (erased defs x)) ∙ whole_source (erased defs x) e h)
