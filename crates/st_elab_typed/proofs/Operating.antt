-- What is made of two operands has the type of their operator.
use Rattle.std.proofs.Common.{◌≡◌, refl, sym, subst, ℕ, List}
use Rattle.st_num.specs.declared.span.Span.{Span}
use Rattle.st_num.specs.declared.mark.Mark.{Mark}
use Rattle.st_num.specs.declared.rule.RuleId.TheVariants.{Y1, Y5}
use Rattle.st_el.specs.declared.expression.Exp.{Exp}
use Rattle.st_il.specs.declared.definition.Il.{Il}
use Rattle.st_il.specs.declared.definition.RelationDef.{RelationDef}
use Rattle.st_il.specs.declared.expression.IlExp.{IlExp}
use Rattle.st_il.specs.declared.expression.IlExp.TheVariants as exp
use Rattle.st_il.specs.declared.ty.NumTy.{NumTy}
use Rattle.st_il.specs.declared.ty.NumTy.TheVariants as number
use Rattle.st_il.specs.declared.ty.Ty.{Ty, out-Ty}
use Rattle.st_il.specs.declared.ty.Ty.TheOpen.{Ty-F}
use Rattle.st_il.specs.declared.ty.Ty.TheVariants as ty
use Rattle.st_type_table.specs.Meaning.{Means}
use Rattle.st_type_table.specs.Same.{Same}
use Rattle.st_type_table.specs.Sub.{Sub}
use Rattle.st_type_table.proofs.SameLemmas.{Same-refl}
use Rattle.st_dims.specs.declared.within.Within.{Within}
use Rattle.st_il.specs.Definitions.{syntaxes}
use Rattle.st_semantics.specs.OperationTypes.{number_type}
use Rattle.st_elab_table.specs.declared.decls.Scope.{Scope}
use Rattle.st_elab_table.specs.declared.operator.Operator.{Operator}
use Rattle.st_elab_table.specs.declared.operator.Operator.TheVariants as operator
use Rattle.st_elab_table.specs.Operators.{ordered, equated, reckoned}
use Rattle.st_elab_table.specs.Forms.{place, inferable}
use Rattle.st_elab_table.specs.Questions.{Made, Step, Asks}
use Rattle.st_elab_table.specs.Steps.{breach, give, asked, raised, injected, wider, joined_at, as_joined}
use Rattle.st_elab_table.specs.Steps.{number_type as told_type}
use Rattle.st_elab_table.specs.Operands.{logic_row, numeric, compared, beside, equation_row, membership_row, both_numeric, order_row, arithmetic_row, power_row, negation_row, concatenated, binary_row}
use Rattle.st_elab_typed.proofs.Claims.{Equals, Exactly, HasIn, IsInferred, Kept}
use Rattle.st_elab_typed.proofs.SameLemmas.{Same-sym, Means-List}
use Rattle.st_elab_typed.proofs.HasLemmas.{Has-exactly}
use Rattle.st_elab_typed.proofs.Forms.{Has-connected, Has-Neg, Has-reckoned, Has-Pow, Has-ordered, Has-Up, Has-equated, Has-Member, Has-Cat, Has-Join, IsNarrower, Has-number, Has-injected}
use Rattle.st_elab_typed.proofs.Keeping.{is_list, keeps_if, keeps_list, keeps_number, keeps_larger, keeps_raised}

-- the type of numbers is told as it is found
same_types : (n : NumTy) → number_type n ≡ told_type n
same_types number.Nat = refl
same_types number.Int = refl

narrower_left : (m n : NumTy) → IsNarrower m (wider m n)
narrower_left number.Nat n = tt
narrower_left number.Int n = tt

narrower_right : (m n : NumTy) → IsNarrower n (wider m n)
narrower_right number.Nat number.Nat = tt
narrower_right number.Nat number.Int = tt
narrower_right number.Int number.Nat = tt
narrower_right number.Int number.Int = tt

module _ (il : Il) (vars : List (List ℕ × Ty)) (relations : List RelationDef) (S : Scope) (total : (t : Ty) → (u : Ty) × Means (syntaxes il) t u) (w : Within) where
  abbrev Found : (Ty → Type 0) → IlExp → Type 0
  Found P x = HasIn il vars relations S w P x

  abbrev Infers : Step → Type 0
  Infers s = Kept il vars relations S (IsInferred il vars relations S w) s

  -- ---- logic, equations and membership

  logic_keeps : (sign : Mark) (l r : Exp) → Infers (logic_row w sign l r)
  logic_keeps sign l r = λ a f b g. Has-connected il _ sign a.exp b.exp f.0 g.0

  compared_keeps : (at : Span) (sign : Mark) (a b : Made) → IsInferred il vars relations S w a → IsInferred il vars relations S w b → Infers (compared at sign a b)
  compared_keeps at sign a b f g =
      keeps_larger il vars relations S (IsInferred il vars relations S w) a.ty b.ty (λ t. raised a t (λ x. raised b t (λ y. give (equated sign x y) ty.Bool))) (breach at Y1)
      (λ below. both a.ty (Sub.same (Same-refl (syntaxes il) total a.ty)) below)
      (λ _ above. both b.ty above (Sub.same (Same-refl (syntaxes il) total b.ty)))
      tt
    where
      both : (t : Ty) → Sub (syntaxes il) a.ty t → Sub (syntaxes il) b.ty t → Infers (raised a t (λ x. raised b t (λ y. give (equated sign x y) ty.Bool)))
      both t p q = keeps_raised il vars relations S (IsInferred il vars relations S w) w a t (λ x. raised b t (λ y. give (equated sign x y) ty.Bool)) p f
          (λ x h. keeps_raised il vars relations S (IsInferred il vars relations S w) w b t (λ y. give (equated sign x y) ty.Bool) q g (λ y k. Has-equated il _ total sign t x y h k) total) total

  beside_keeps : (at : Span) (sign : Mark) (r : Exp) (a : Made) → IsInferred il vars relations S w a → Infers (beside w at sign r a)
  beside_keeps at sign r a f =
      keeps_if il vars relations S (IsInferred il vars relations S w) (inferable r) _ _
      (λ _. λ b g. compared_keeps at sign a b f g)
      (λ _. λ b g. Has-equated il _ total sign a.ty a.exp b.exp (Has-exactly il _ total a.exp a.ty f) g.0)

  equation_keeps : (at : Span) (sign : Mark) (l r : Exp) → Infers (equation_row w at sign l r)
  equation_keeps at sign l r =
      keeps_if il vars relations S (IsInferred il vars relations S w) (inferable l) _ _
      (λ _. λ a f. beside_keeps at sign r a f)
      (λ _. keeps_if il vars relations S (IsInferred il vars relations S w) (inferable r) _ _
      (λ _. λ b g a f. Has-equated il _ total sign b.ty a.exp b.exp f.0 (Has-exactly il _ total b.exp b.ty g))
      (λ _. tt))

  membership_keeps : (at : Span) (e l : Exp) → Infers (membership_row w at e l)
  membership_keeps at e l =
      keeps_if il vars relations S (IsInferred il vars relations S w) (inferable l) _ _
      (λ _. λ b g. keeps_list il vars relations S (IsInferred il vars relations S w) (place l) b.ty (λ x. Asks (asked w e x) (λ a. give (exp.Member a.exp b.exp) ty.Bool))
      (λ x means. λ a f. Has-Member il _ total a.exp b.exp b.ty x means f.0 (Has-exactly il _ total b.exp b.ty g)))
      (λ _. keeps_if il vars relations S (IsInferred il vars relations S w) (inferable e) _ _
      (λ _. λ a f b g. Has-Member il _ total a.exp b.exp (ty.List a.ty) a.ty (Means-List (syntaxes il) a.ty) (Has-exactly il _ total a.exp a.ty f) g.0)
      (λ _. tt))

  -- ---- numbers

  both_keep : (l r : Exp) (next : NumTy → IlExp → IlExp → Step) → ((n : NumTy) (x y : IlExp) → Found (Equals il (number_type n)) x → Found (Equals il (number_type n)) y → Infers (next n x y)) → Infers (both_numeric w l r next)
  both_keep l r next h = λ a f. keeps_number il vars relations S (IsInferred il vars relations S w) (place l) a.ty
      (λ m. numeric w r (λ b n. next (wider m n) (injected m (wider m n) a.exp) (injected n (wider m n) b.exp)))
      (λ m means. λ b g. keeps_number il vars relations S (IsInferred il vars relations S w) (place r) b.ty
      (λ n. next (wider m n) (injected m (wider m n) a.exp) (injected n (wider m n) b.exp))
      (λ n mean. h (wider m n) (injected m (wider m n) a.exp) (injected n (wider m n) b.exp)
      (Has-injected il _ total m (wider m n) a.ty a.exp (narrower_left m n) means f)
      (Has-injected il _ total n (wider m n) b.ty b.exp (narrower_right m n) mean g)))

  order_keeps : (sign : Mark) (l r : Exp) → Infers (order_row w sign l r)
  order_keeps sign l r = both_keep l r (λ n x y. give (ordered sign x y) ty.Bool) (λ n x y f g. Has-ordered il _ sign n x y f g)

  -- what has the type of these numbers has the type that is told
  as_told : (n : NumTy) (x : IlExp) → Found (Exactly (number_type n)) x → Found (Exactly (told_type n)) x
  as_told n x h = subst (λ z. Found (Exactly z) x) (same_types n) h

  arithmetic_keeps : (sign : Mark) (l r : Exp) → Infers (arithmetic_row w sign l r)
  arithmetic_keeps sign l r = both_keep l r (λ n x y. give (reckoned sign n x y) (told_type n)) (λ n x y f g. as_told n (reckoned sign n x y) (Has-reckoned il _ sign n x y f g))

  power_keeps : (l r : Exp) → Infers (power_row w l r)
  power_keeps l r = λ a f. keeps_number il vars relations S (IsInferred il vars relations S w) (place l) a.ty
      (λ n. Asks (asked w r ty.Nat) (λ b. give (exp.Pow n a.exp b.exp) (told_type n)))
      (λ n means. λ b g. as_told n (exp.Pow n a.exp b.exp) (Has-Pow il _ n a.exp b.exp (Has-number il _ total n a.ty a.exp means f) g.0))

  pub negation_keeps : (e : Exp) → Infers (negation_row w e)
  negation_keeps e = λ m f. keeps_number il vars relations S (IsInferred il vars relations S w) (place e) m.ty (λ n. give (exp.Neg (injected n number.Int m.exp)) ty.Int)
      (λ n means. Has-Neg il _ (injected n number.Int m.exp) (Has-injected il _ total n number.Int m.ty m.exp (within n) means f))
    where
      within : (n : NumTy) → IsNarrower n number.Int
      within number.Nat = tt
      within number.Int = tt

  -- ---- `++`

  -- what puts two sides together of which the second is of the type, and the first of one that is equal to it
  abbrev pub PutsTogether : Ty → (IlExp → IlExp → IlExp) → Type 1
  PutsTogether t join =
      (P : Ty → Type 0) → ((o : Ty) → P o → Same (syntaxes il) o t) → (x y : IlExp) → Found P x → Found (Equals il t) y → Found P (join x y)

  module _ (Q : Made → Type 0) where
    pub keeps_joined : (at : Span) (t : Ty) (next : (IlExp → IlExp → IlExp) → Step)
        → ((join : IlExp → IlExp → IlExp) → PutsTogether t join → Kept il vars relations S Q (next join)) → Kept il vars relations S Q (as_joined at t next)
    keeps_joined at t next h = λ u m. by u m (out-Ty u) refl
      where
        by : (u : Ty) → Means (syntaxes il) t u → (y : Ty-F Ty) → out-Ty u ≡ y → Kept il vars relations S Q (joined_at at t next y)
        by u m (Ty-F.List x) o = h exp.Cat (λ P equal a b f g. Has-Cat il _ total P t equal a b x (subst (Means (syntaxes il) t) (is_list u x o) m) f g)
        by u m y o = ((λ joins. h exp.Join (λ P equal a b f g. Has-Join il _ total P t equal a b joins f g)), (λ _. tt))

  exact_equal : (t o : Ty) → o ≡ t → Same (syntaxes il) o t
  exact_equal t o e = subst (λ z. Same (syntaxes il) z t) (sym e) (Same-refl (syntaxes il) total t)

  concatenated_keeps : (at : Span) (a b : Made) → IsInferred il vars relations S w a → IsInferred il vars relations S w b → Infers (concatenated at a b)
  concatenated_keeps at a b f g =
      keeps_larger il vars relations S (IsInferred il vars relations S w) a.ty b.ty (λ t. as_joined at t (λ join. raised a t (λ x. raised b t (λ y. give (join x y) t)))) (breach at Y5)
      (λ below. keeps_joined (IsInferred il vars relations S w) at a.ty (λ join. raised a a.ty (λ x. raised b a.ty (λ y. give (join x y) a.ty)))
      (λ join puts. (
        (λ _. second a.ty a.exp join puts below f),
        (λ apart. absurd (apart (Same-refl (syntaxes il) total a.ty))),
      )))
      (λ not_below above. keeps_joined (IsInferred il vars relations S w) at b.ty (λ join. raised a b.ty (λ x. raised b b.ty (λ y. give (join x y) b.ty)))
      (λ join puts. (
        (λ same. absurd (not_below (Sub.same (Same-sym (syntaxes il) a.ty b.ty same)))),
        (λ apart. second b.ty (exp.Up b.ty a.exp) join puts (Sub.same (Same-refl (syntaxes il) total b.ty)) (Has-Up il _ a.exp a.ty b.ty above apart f)),
      )))
      tt
    where
      second : (t : Ty) (x : IlExp) (join : IlExp → IlExp → IlExp) → PutsTogether t join → Sub (syntaxes il) b.ty t → Found (Exactly t) x → Infers (raised b t (λ y. give (join x y) t))
      second t x join puts below h = keeps_raised il vars relations S (IsInferred il vars relations S w) w b t (λ y. give (join x y) t) below g
          (λ y k. puts (Exactly t) (exact_equal t) x y h k) total

  -- ---- all operators

  pub binary_keeps : (at : Span) (sign : Mark) (l r : Exp) (o : Operator) → Infers (binary_row w at sign l r o)
  binary_keeps at sign l r operator.Logic = logic_keeps sign l r
  binary_keeps at sign l r operator.Equation = equation_keeps at sign l r
  binary_keeps at sign l r operator.Order = order_keeps sign l r
  binary_keeps at sign l r operator.Membership = membership_keeps at l r
  binary_keeps at sign l r operator.Concatenation = λ a f b g. concatenated_keeps at a b f g
  binary_keeps at sign l r operator.Arithmetic = arithmetic_keeps sign l r
  binary_keeps at sign l r operator.Power = power_keeps l r
  binary_keeps at sign l r operator.Other = tt
