-- Which type each form of the internal language has, by those of its operands.
use Rattle.std.proofs.Common.{◌≡◌, refl, sym, ap, ◌∙◌, subst, ℕ, List, [], ◌∷◌, Bool, Some, inl, inr}
use Rattle.std.specs.Option.{option_map}
use Rattle.st_num.specs.declared.mark.Mark.{Mark}
use Rattle.st_num.specs.declared.mark.Mark.TheVariants as mark
use Rattle.st_il.specs.declared.definition.Il.{Il}
use Rattle.st_il.specs.declared.definition.Listed.{Listed}
use Rattle.st_il.specs.declared.expression.IlExp.{IlExp}
use Rattle.st_il.specs.declared.expression.IlExp.TheVariants as exp
use Rattle.st_il.specs.declared.ty.NumTy.{NumTy}
use Rattle.st_il.specs.declared.ty.NumTy.TheVariants as number
use Rattle.st_il.specs.declared.ty.Ty.{Ty}
use Rattle.st_il.specs.declared.ty.Ty.TheVariants as ty
use Rattle.st_type_table.specs.Meaning.{Means}
use Rattle.st_type_table.specs.Joins.{Joins}
use Rattle.st_type_table.specs.Same.{Same}
use Rattle.st_type_table.specs.Sub.{Sub}
use Rattle.st_type_table.proofs.SubLaws.{Same-trans}
use Rattle.st_il.specs.Names.{Name}
use Rattle.st_il.specs.Definitions.{syntaxes}
use Rattle.st_semantics.specs.Environments.{wrapped, type_of, listed_as}
use Rattle.st_semantics.specs.OperationTypes.{number_type}
use Rattle.st_elab_table.specs.Operators.{connected, equated, ordered, reckoned}
use Rattle.st_elab_table.specs.Steps.{injected}
use Rattle.st_ilcheck.specs.FoundTypes.{IsFieldOf}
use Rattle.st_ilcheck.specs.Rules.{AreOrdered, IsListOrOption}
use Rattle.st_elab_typed.proofs.IsPlacedLemmas.{IsPlaced-at}
use Rattle.st_elab_typed.proofs.SameLemmas.{Same-sym, Means-Int, Same-number, Same-apart, Same-to_List, Same-Joins, Same-Opt}
use Rattle.st_elab_typed.proofs.HasTypingLemmas.{HasTyping-made}
use Rattle.st_elab_typed.proofs.HasLemmas.{Has-none, Has-one, Has-two, Has-three, Has-where}
use Rattle.st_ilcheck.specs.Typings.{none}
use Rattle.st_elab_typed.proofs.Claims.{Has, Equals, Exactly}

-- the first number type is that of no more numbers
abbrev pub IsNarrower : NumTy → NumTy → Type 0
IsNarrower number.Int number.Nat = ⊥
IsNarrower m n = Unit {0}

module _ (il : Il) (Ok : List Listed → Type 0) where
  -- ---- what has no operands

  pub Has-Bool : (truth : Bool) → Has il Ok (Exactly ty.Bool) (exp.Bool truth)
  Has-Bool truth = Has-none il Ok (exp.Bool truth) _ (exp.outs-Bool truth) (λ ls. refl) (λ ls. refl) (Exactly ty.Bool) ty.Bool tt tt (λ ls. refl) refl

  pub Has-Number : (n : ℕ) → Has il Ok (Exactly ty.Nat) (exp.Number n)
  Has-Number n = Has-none il Ok (exp.Number n) _ (exp.outs-Number n) (λ ls. refl) (λ ls. refl) (Exactly ty.Nat) ty.Nat tt tt (λ ls. refl) refl

  pub Has-Text : (text : Name) → Has il Ok (Exactly ty.Text) (exp.Text text)
  Has-Text text = Has-none il Ok (exp.Text text) _ (exp.outs-Text text) (λ ls. refl) (λ ls. refl) (Exactly ty.Text) ty.Text tt tt (λ ls. refl) refl

  pub Has-Empty : (t : Ty) → Has il Ok (Exactly (ty.Opt t)) (exp.Empty t)
  Has-Empty t = Has-none il Ok (exp.Empty t) _ (exp.outs-Empty t) (λ ls. refl) (λ ls. refl) (Exactly (ty.Opt t)) (ty.Opt t) tt tt (λ ls. refl) refl

  pub Has-Absent : (t : Ty) → IsListOrOption (syntaxes il) t → Has il Ok (Exactly t) (exp.Absent t)
  Has-Absent t h = Has-none il Ok (exp.Absent t) _ (exp.outs-Absent t) (λ ls. refl) (λ ls. refl) (Exactly t) t h tt (λ ls. refl) refl

  -- a variable that is listed with this type
  pub Has-Var : (x : Name) (t : Ty) → ((ls : List Listed) → Ok ls → (l : Listed) → listed_as x ls ≡ Some l → t ≡ l.ty) → Has il Ok (Exactly t) (exp.Var x)
  Has-Var x t told ls ok k =
      let r = (IsPlaced-at ls (exp.Var x) _ (exp.outs-Var x) k).reached in
      let is : t ≡ type_of r.0 = told ls ok r.0 r.1 ∙ sym (ap (λ z. wrapped z (r.0).ty) r.2) in
      (t, (HasTyping-made il ls (exp.Var x) _ (exp.outs-Var x) [] none (Some t) (ap Some is ∙ sym (ap (option_map type_of) r.1)) tt tt refl, refl))

  -- ---- logic

  pub Has-Not : (a : IlExp) → Has il Ok (Equals il ty.Bool) a → Has il Ok (Exactly ty.Bool) (exp.Not a)
  Has-Not a = Has-one il Ok (exp.Not a) _ (exp.outs-Not a) (λ ls. refl) a (λ ls. refl) (Equals il ty.Bool) (Exactly ty.Bool) (λ o. ty.Bool) (λ o s. (s, tt)) (λ o. tt) (λ ls o s. refl) (λ o s. refl)

  pub Has-connected : (sign : Mark) (a b : IlExp) → Has il Ok (Equals il ty.Bool) a → Has il Ok (Equals il ty.Bool) b → Has il Ok (Exactly ty.Bool) (connected sign a b)
  Has-connected mark.Or a b = Has-two il Ok (exp.Or a b) _ (exp.outs-Or a b) (λ ls. refl) a b (λ ls. refl) (Equals il ty.Bool) (Equals il ty.Bool) (Exactly ty.Bool) (λ o. ty.Bool) (λ o p s r. (s, (r, tt))) (λ o p. tt) (λ ls o p s. refl) (λ o s. refl)
  Has-connected mark.Implies a b = Has-two il Ok (exp.Imp a b) _ (exp.outs-Imp a b) (λ ls. refl) a b (λ ls. refl) (Equals il ty.Bool) (Equals il ty.Bool) (Exactly ty.Bool) (λ o. ty.Bool) (λ o p s r. (s, (r, tt))) (λ o p. tt) (λ ls o p s. refl) (λ o s. refl)
  Has-connected mark.Equivalent a b = Has-two il Ok (exp.Iff a b) _ (exp.outs-Iff a b) (λ ls. refl) a b (λ ls. refl) (Equals il ty.Bool) (Equals il ty.Bool) (Exactly ty.Bool) (λ o. ty.Bool) (λ o p s r. (s, (r, tt))) (λ o p. tt) (λ ls o p s. refl) (λ o s. refl)
  Has-connected _ a b = Has-two il Ok (exp.And a b) _ (exp.outs-And a b) (λ ls. refl) a b (λ ls. refl) (Equals il ty.Bool) (Equals il ty.Bool) (Exactly ty.Bool) (λ o. ty.Bool) (λ o p s r. (s, (r, tt))) (λ o p. tt) (λ ls o p s. refl) (λ o s. refl)

  -- ---- numbers

  abbrev Numbers : NumTy → Ty → Type 0
  Numbers n o = Same (syntaxes il) o (number_type n)

  pub Has-Neg : (a : IlExp) → Has il Ok (Equals il ty.Int) a → Has il Ok (Exactly ty.Int) (exp.Neg a)
  Has-Neg a = Has-one il Ok (exp.Neg a) _ (exp.outs-Neg a) (λ ls. refl) a (λ ls. refl) (Equals il ty.Int) (Exactly ty.Int) (λ o. ty.Int) (λ o s. (s, tt)) (λ o. tt) (λ ls o s. refl) (λ o s. refl)

  pub Has-reckoned : (sign : Mark) (n : NumTy) (a b : IlExp) → Has il Ok (Equals il (number_type n)) a → Has il Ok (Equals il (number_type n)) b → Has il Ok (Exactly (number_type n)) (reckoned sign n a b)
  Has-reckoned mark.Minus n a b = Has-two il Ok (exp.Sub n a b) _ (exp.outs-Sub n a b) (λ ls. refl) a b (λ ls. refl) (Numbers n) (Numbers n) (Exactly (number_type n)) (λ o. number_type n) (λ o p s r. (s, (r, tt))) (λ o p. tt) (λ ls o p s. refl) (λ o s. refl)
  Has-reckoned mark.Star n a b = Has-two il Ok (exp.Mul n a b) _ (exp.outs-Mul n a b) (λ ls. refl) a b (λ ls. refl) (Numbers n) (Numbers n) (Exactly (number_type n)) (λ o. number_type n) (λ o p s r. (s, (r, tt))) (λ o p. tt) (λ ls o p s. refl) (λ o s. refl)
  Has-reckoned mark.Slash n a b = Has-two il Ok (exp.Div n a b) _ (exp.outs-Div n a b) (λ ls. refl) a b (λ ls. refl) (Numbers n) (Numbers n) (Exactly (number_type n)) (λ o. number_type n) (λ o p s r. (s, (r, tt))) (λ o p. tt) (λ ls o p s. refl) (λ o s. refl)
  Has-reckoned mark.Backslash n a b = Has-two il Ok (exp.Rem n a b) _ (exp.outs-Rem n a b) (λ ls. refl) a b (λ ls. refl) (Numbers n) (Numbers n) (Exactly (number_type n)) (λ o. number_type n) (λ o p s r. (s, (r, tt))) (λ o p. tt) (λ ls o p s. refl) (λ o s. refl)
  Has-reckoned _ n a b = Has-two il Ok (exp.Add n a b) _ (exp.outs-Add n a b) (λ ls. refl) a b (λ ls. refl) (Numbers n) (Numbers n) (Exactly (number_type n)) (λ o. number_type n) (λ o p s r. (s, (r, tt))) (λ o p. tt) (λ ls o p s. refl) (λ o s. refl)

  pub Has-Pow : (n : NumTy) (a b : IlExp) → Has il Ok (Equals il (number_type n)) a → Has il Ok (Equals il ty.Nat) b → Has il Ok (Exactly (number_type n)) (exp.Pow n a b)
  Has-Pow n a b = Has-two il Ok (exp.Pow n a b) _ (exp.outs-Pow n a b) (λ ls. refl) a b (λ ls. refl) (Numbers n) (Equals il ty.Nat) (Exactly (number_type n)) (λ o. number_type n) (λ o p s r. (s, (r, tt))) (λ o p. tt) (λ ls o p s. refl) (λ o s. refl)

  are_ordered : (n : NumTy) (o p : Ty) → Numbers n o → Numbers n p → AreOrdered (syntaxes il) (Some o ∷ Some p ∷ [])
  are_ordered number.Nat o p s r = inl (s, (r, tt))
  are_ordered number.Int o p s r = inr (s, (r, tt))

  pub Has-ordered : (sign : Mark) (n : NumTy) (a b : IlExp) → Has il Ok (Equals il (number_type n)) a → Has il Ok (Equals il (number_type n)) b → Has il Ok (Exactly ty.Bool) (ordered sign a b)
  Has-ordered mark.Greater n a b = Has-two il Ok (exp.Gt a b) _ (exp.outs-Gt a b) (λ ls. refl) a b (λ ls. refl) (Numbers n) (Numbers n) (Exactly ty.Bool) (λ o. ty.Bool) (are_ordered n) (λ o p. tt) (λ ls o p s. refl) (λ o s. refl)
  Has-ordered mark.LessOrEqual n a b = Has-two il Ok (exp.Le a b) _ (exp.outs-Le a b) (λ ls. refl) a b (λ ls. refl) (Numbers n) (Numbers n) (Exactly ty.Bool) (λ o. ty.Bool) (are_ordered n) (λ o p. tt) (λ ls o p s. refl) (λ o s. refl)
  Has-ordered mark.GreaterOrEqual n a b = Has-two il Ok (exp.Ge a b) _ (exp.outs-Ge a b) (λ ls. refl) a b (λ ls. refl) (Numbers n) (Numbers n) (Exactly ty.Bool) (λ o. ty.Bool) (are_ordered n) (λ o p. tt) (λ ls o p s. refl) (λ o s. refl)
  Has-ordered _ n a b = Has-two il Ok (exp.Lt a b) _ (exp.outs-Lt a b) (λ ls. refl) a b (λ ls. refl) (Numbers n) (Numbers n) (Exactly ty.Bool) (λ o. ty.Bool) (are_ordered n) (λ o p. tt) (λ ls o p s. refl) (λ o s. refl)

  -- ---- fields

  pub Has-Dot : (a : IlExp) (name : Name) (t u : Ty) → IsFieldOf (syntaxes il) name t u → Has il Ok (Exactly t) a → Has il Ok (Exactly u) (exp.Dot a name)
  Has-Dot a name t u field = Has-one il Ok (exp.Dot a name) _ (exp.outs-Dot a name) (λ ls. refl) a (λ ls. refl) (Exactly t) (Exactly u) (λ o. u) (λ o e. (u, of o e)) (λ o. tt) (λ ls o e. of o e) (λ o e. refl)
    where
      of : (o : Ty) → o ≡ t → IsFieldOf (syntaxes il) name o u
      of o e = subst (λ z. IsFieldOf (syntaxes il) name z u) (sym e) field

  -- ---- lists of exactly this type

  pub Has-At : (a b : IlExp) (t x : Ty) → Means (syntaxes il) t (ty.List x) → Has il Ok (Exactly t) a → Has il Ok (Equals il ty.Nat) b → Has il Ok (Exactly x) (exp.At a b)
  Has-At a b t x means = Has-two il Ok (exp.At a b) _ (exp.outs-At a b) (λ ls. refl) a b (λ ls. refl) (Exactly t) (Equals il ty.Nat) (Exactly x) (λ o. x) (λ o p e r. ((x, of o e), (r, tt))) (λ o p. tt) (λ ls o p e. of o e) (λ o e. refl)
    where
      of : (o : Ty) → o ≡ t → Means (syntaxes il) o (ty.List x)
      of o e = subst (λ z. Means (syntaxes il) z (ty.List x)) (sym e) means

  pub Has-Slice : (a b c : IlExp) (t x : Ty) → Means (syntaxes il) t (ty.List x) → Has il Ok (Exactly t) a → Has il Ok (Equals il ty.Nat) b → Has il Ok (Equals il ty.Nat) c → Has il Ok (Exactly t) (exp.Slice a b c)
  Has-Slice a b c t x means = Has-three il Ok (exp.Slice a b c) _ (exp.outs-Slice a b c) (λ ls. refl) a b c (λ ls. refl) (Exactly t) (Equals il ty.Nat) (Exactly t) (λ o. o)
      (λ o p q e r s. ((x, subst (λ z. Means (syntaxes il) z (ty.List x)) (sym e) means), (r, (s, tt)))) (λ o p q. tt) (λ ls o p q e. refl) (λ o e. e)

  pub Has-Len : (a : IlExp) (t x : Ty) → Means (syntaxes il) t (ty.List x) → Has il Ok (Exactly t) a → Has il Ok (Exactly ty.Nat) (exp.Len a)
  Has-Len a t x means = Has-one il Ok (exp.Len a) _ (exp.outs-Len a) (λ ls. refl) a (λ ls. refl) (Exactly t) (Exactly ty.Nat) (λ o. ty.Nat) (λ o e. (x, subst (λ z. Means (syntaxes il) z (ty.List x)) (sym e) means)) (λ o. tt) (λ ls o e. refl) (λ o e. refl)

  -- ---- options

  pub Has-Present : (a : IlExp) (t x : Ty) → Means (syntaxes il) t (ty.Opt x) → Has il Ok (Equals il x) a → Has il Ok (Equals il t) (exp.Present a)
  Has-Present a t x means = Has-one il Ok (exp.Present a) _ (exp.outs-Present a) (λ ls. refl) a (λ ls. refl) (Equals il x) (Equals il t) ty.Opt (λ o s. tt) (λ o. tt) (λ ls o s. refl) (λ o s. Same-Opt (syntaxes il) o x t means s)

  -- ---- injections

  -- what is below a type and not equal to it
  pub Has-Up : (a : IlExp) (t u : Ty) → Sub (syntaxes il) t u → (Same (syntaxes il) t u → ⊥) → Has il Ok (Exactly t) a → Has il Ok (Exactly u) (exp.Up u a)
  Has-Up a t u below apart = Has-one il Ok (exp.Up u a) _ (exp.outs-Up u a) (λ ls. refl) a (λ ls. refl) (Exactly t) (Exactly u) (λ o. u)
      (λ o e. (subst (λ z. Sub (syntaxes il) z u) (sym e) below, λ s. apart (subst (λ z. Same (syntaxes il) z u) e s))) (λ o. tt) (λ ls o e. refl) (λ o e. refl)

  module _ (total : (t : Ty) → (u : Ty) × Means (syntaxes il) t u) where
    equal_sides : (t o p : Ty) → Same (syntaxes il) o t → Same (syntaxes il) p t → Same (syntaxes il) o p
    equal_sides t o p s r = Same-trans (syntaxes il) total o t p s (Same-sym (syntaxes il) p t r)

    -- ---- equations and membership

    pub Has-equated : (sign : Mark) (t : Ty) (a b : IlExp) → Has il Ok (Equals il t) a → Has il Ok (Equals il t) b → Has il Ok (Exactly ty.Bool) (equated sign a b)
    Has-equated mark.NotEqual t a b = Has-two il Ok (exp.Ne a b) _ (exp.outs-Ne a b) (λ ls. refl) a b (λ ls. refl) (Equals il t) (Equals il t) (Exactly ty.Bool) (λ o. ty.Bool) (equal_sides t) (λ o p. tt) (λ ls o p s. refl) (λ o s. refl)
    Has-equated _ t a b = Has-two il Ok (exp.Eq a b) _ (exp.outs-Eq a b) (λ ls. refl) a b (λ ls. refl) (Equals il t) (Equals il t) (Exactly ty.Bool) (λ o. ty.Bool) (equal_sides t) (λ o p. tt) (λ ls o p s. refl) (λ o s. refl)

    -- an element, and a list of elements of its type
    pub Has-Member : (a b : IlExp) (t x : Ty) → Means (syntaxes il) t (ty.List x) → Has il Ok (Equals il x) a → Has il Ok (Equals il t) b → Has il Ok (Exactly ty.Bool) (exp.Member a b)
    Has-Member a b t x means = Has-two il Ok (exp.Member a b) _ (exp.outs-Member a b) (λ ls. refl) a b (λ ls. refl) (Equals il x) (Equals il t) (Exactly ty.Bool) (λ o. ty.Bool)
        (λ o p s r. let l = Same-to_List (syntaxes il) total p t x means r in (l.0, (l.1.0, equal_sides x l.0 o l.1.1 s))) (λ o p. tt) (λ ls o p s. refl) (λ o s. refl)

    -- ---- `++`, where what holds of the type of the first side says that it is equal to this one

    module _ (P : Ty → Type 0) (t : Ty) (equal : (o : Ty) → P o → Same (syntaxes il) o t) where
      pub Has-Cat : (a b : IlExp) (x : Ty) → Means (syntaxes il) t (ty.List x) → Has il Ok P a → Has il Ok (Equals il t) b → Has il Ok P (exp.Cat a b)
      Has-Cat a b x means = Has-two il Ok (exp.Cat a b) _ (exp.outs-Cat a b) (λ ls. refl) a b (λ ls. refl) P (Equals il t) P (λ o. o)
          (λ o p h r. let l = Same-to_List (syntaxes il) total o t x means (equal o h) in ((l.0, l.1.0), equal_sides t o p (equal o h) r)) (λ o p. tt) (λ ls o p h. refl) (λ o h. h)

      pub Has-Join : (a b : IlExp) → Joins (syntaxes il) t → Has il Ok P a → Has il Ok (Equals il t) b → Has il Ok P (exp.Join a b)
      Has-Join a b can = Has-two il Ok (exp.Join a b) _ (exp.outs-Join a b) (λ ls. refl) a b (λ ls. refl) P (Equals il t) P (λ o. o)
          (λ o p h r. (Same-Joins (syntaxes il) o t (equal o h) can, equal_sides t o p (equal o h) r)) (λ o p. tt) (λ ls o p h. refl) (λ o h. h)

    -- ---- numbers that are injected

    -- numbers of a type that means this one
    pub Has-number : (m : NumTy) (t : Ty) (a : IlExp) → Means (syntaxes il) t (number_type m) → Has il Ok (Exactly t) a → Has il Ok (Equals il (number_type m)) a
    Has-number m t a means = Has-where il Ok (Exactly t) (Equals il (number_type m)) a (λ o e. subst (λ z. Same (syntaxes il) z (number_type m)) (sym e) (Same-number (syntaxes il) t m means))

    pub Has-injected : (m n : NumTy) (t : Ty) (a : IlExp) → IsNarrower m n → Means (syntaxes il) t (number_type m) → Has il Ok (Exactly t) a → Has il Ok (Equals il (number_type n)) (injected m n a)
    Has-injected number.Nat number.Nat t a less means h = Has-number number.Nat t a means h
    Has-injected number.Nat number.Int t a less means h =
        Has-where il Ok (Exactly ty.Int) (Equals il ty.Int) (exp.Up ty.Int a) (λ o e. subst (λ z. Same (syntaxes il) z ty.Int) (sym e) (Same-number (syntaxes il) ty.Int number.Int (Means-Int (syntaxes il))))
        (Has-Up a t ty.Int (Sub.number means (Means-Int (syntaxes il))) (Same-apart (syntaxes il) total t means) h)
    Has-injected number.Int number.Nat t a less means h = absurd less
    Has-injected number.Int number.Int t a less means h = Has-number number.Int t a means h
