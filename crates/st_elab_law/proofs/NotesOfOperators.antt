-- Operators, parts and paths have the notes of their source.
use Rattle.std.proofs.Common.{◌≡◌, refl, sym, ◌∙◌, ℕ, List, [], ◌∷◌, map}
use Rattle.st_num.specs.declared.span.Span.{Span}
use Rattle.st_num.specs.declared.mark.Mark.{Mark}
use Rattle.st_num.specs.declared.mark.Mark.TheVariants as mark
use Rattle.st_num.specs.declared.rule.RuleId.TheVariants.{Y1, Y5}
use Rattle.st_el.specs.declared.expression.Exp.{Exp}
use Rattle.st_el.specs.declared.expression.Node.{Node}
use Rattle.st_el.specs.declared.expression.Count.{Count}
use Rattle.st_el.specs.declared.expression.Count.TheOpen.{Seg-F}
use Rattle.st_el.specs.declared.expression.Seg.{Seg, out-Seg}
use Rattle.st_il.specs.declared.ty.Ty.{Ty, out-Ty}
use Rattle.st_il.specs.declared.ty.Ty.TheOpen.{Ty-F}
use Rattle.st_il.specs.declared.ty.Ty.TheVariants as ty
use Rattle.st_il.specs.declared.ty.NumTy.{NumTy}
use Rattle.st_il.specs.declared.ty.NumTy.TheVariants as number
use Rattle.st_il.specs.declared.expression.IlExp.{IlExp}
use Rattle.st_il.specs.declared.expression.IlExp.TheVariants as il
use Rattle.st_il.specs.declared.expression.PathSeg.{PathSeg}
use Rattle.st_il.specs.declared.expression.PathSeg.TheVariants as step
use Rattle.st_dims.specs.declared.within.Within.{Within}
use Rattle.st_elab_table.specs.declared.decls.Decls.{Decls}
use Rattle.st_elab_table.specs.declared.operator.Operator.{Operator}
use Rattle.st_elab_table.specs.declared.operator.Operator.TheVariants as operator
use Rattle.st_elab_table.specs.Operators.{connected, equated, ordered, reckoned}
use Rattle.st_elab_table.specs.Forms.{place, inferable}
use Rattle.st_elab_table.specs.Questions.{Question, Made, Step, Asks}
use Rattle.st_elab_table.specs.Steps.{breach, give, asked, raised, injected, wider, number_type, joined_at, as_joined, as_list}
use Rattle.st_elab_table.specs.Operands.{logic_row, numeric, compared, equation_row, membership_row, both_numeric, order_row, arithmetic_row, power_row, negation_row, concatenated, binary_row}
use Rattle.st_elab_table.specs.Paths.{length_row, position_row, slice_row, field_row, step_row, along, update_row, extension_row}
use Rattle.st_elab_table.proofs.Keeps.{Keeps}
use Rattle.st_elab_law.specs.Notes.{Notes, beside, all_of, written, asked_written}
use Rattle.st_elab_law.specs.Noted.{noted, noted_step}
use Rattle.st_elab_law.proofs.Keeping.{keeps_if, keeps_list, keeps_number, keeps_larger, keeps_field}
use Rattle.st_elab_law.proofs.NotesOfForms.{noted-Not, noted-And, noted-Or, noted-Imp, noted-Iff, noted-Neg, noted-Add, noted-Sub, noted-Mul, noted-Div, noted-Rem, noted-Pow, noted-Eq, noted-Ne, noted-Lt, noted-Gt, noted-Le, noted-Ge, noted-Member, noted-Dot, noted-Set, noted-Extend, noted-Cat, noted-Join, noted-Len, noted-At, noted-Slice, noted-Up, step-Field as noted-Field, step-At as noted-step-At, step-Slice as noted-step-Slice}
use Rattle.st_elab_law.proofs.NotesOfSources.{step_written, step-Field, step-At, step-Slice}

-- what is made has the notes of what the question is about
abbrev pub Noted : Question → Made → Type 0
Noted q m = noted m.exp ≡ asked_written q

-- it has these notes
abbrev pub Notes_as : Notes → Made → Type 0
Notes_as T m = noted m.exp ≡ T

-- what the steps give has these notes
abbrev pub Kept : Decls → Notes → Step → Type 0
Kept D T = Keeps D Noted (Notes_as T)

-- ---- injections and signs

noted-injected : (m n : NumTy) (x : IlExp) → noted (injected m n x) ≡ noted x
noted-injected number.Nat number.Nat x = refl
noted-injected number.Nat number.Int x = noted-Up ty.Int x
noted-injected number.Int n x = refl

noted-connected : (sign : Mark) (x y : IlExp) → noted (connected sign x y) ≡ beside (noted x) (noted y)
noted-connected mark.Or x y = noted-Or x y
noted-connected mark.Implies x y = noted-Imp x y
noted-connected mark.Equivalent x y = noted-Iff x y
noted-connected sign x y = noted-And x y

noted-equated : (sign : Mark) (x y : IlExp) → noted (equated sign x y) ≡ beside (noted x) (noted y)
noted-equated mark.NotEqual x y = noted-Ne x y
noted-equated sign x y = noted-Eq x y

noted-ordered : (sign : Mark) (x y : IlExp) → noted (ordered sign x y) ≡ beside (noted x) (noted y)
noted-ordered mark.Greater x y = noted-Gt x y
noted-ordered mark.LessOrEqual x y = noted-Le x y
noted-ordered mark.GreaterOrEqual x y = noted-Ge x y
noted-ordered sign x y = noted-Lt x y

noted-reckoned : (sign : Mark) (n : NumTy) (x y : IlExp) → noted (reckoned sign n x y) ≡ beside (noted x) (noted y)
noted-reckoned mark.Minus n x y = noted-Sub n x y
noted-reckoned mark.Star n x y = noted-Mul n x y
noted-reckoned mark.Slash n x y = noted-Div n x y
noted-reckoned mark.Backslash n x y = noted-Rem n x y
noted-reckoned sign n x y = noted-Add n x y

-- ---- steps

module _ (D : Decls) (Q : Made → Type 0) where
  -- what is injected has the same notes
  pub raised_occurs : (m : Made) (t : Ty) (next : IlExp → Step) → ((x : IlExp) → noted x ≡ noted m.exp → Keeps D Noted Q (next x)) → Keeps D Noted Q (raised m t next)
  raised_occurs m t next h = ((λ _. h m.exp refl), (λ _. h (il.Up t m.exp) (noted-Up t m.exp)))

  -- what is joined has the notes of both
  pub joined_occurs : (at : Span) (t : Ty) (next : (IlExp → IlExp → IlExp) → Step)
      → ((join : IlExp → IlExp → IlExp) → ((x y : IlExp) → noted (join x y) ≡ beside (noted x) (noted y)) → Keeps D Noted Q (next join))
      → Keeps D Noted Q (as_joined at t next)
  joined_occurs at t next h = λ u m. by (out-Ty u)
    where
      by : (y : Ty-F Ty) → Keeps D Noted Q (joined_at at t next y)
      by (Ty-F.List x) = h il.Cat noted-Cat
      by y = ((λ _. h il.Join noted-Join), (λ _. tt))

  pub both_raised_occurs : (a b : Made) (t : Ty) (next : IlExp → IlExp → Step)
      → ((x y : IlExp) → noted x ≡ noted a.exp → noted y ≡ noted b.exp → Keeps D Noted Q (next x y)) → Keeps D Noted Q (raised a t (λ x. raised b t (next x)))
  both_raised_occurs a b t next h = raised_occurs a t (λ x. raised b t (next x)) (λ x f. raised_occurs b t (next x) (λ y g. h x y f g))

-- ---- operators

module _ (D : Decls) (T : Notes) (l r : Exp) (is : T ≡ beside (written l) (written r)) where
  -- what is made of two operands has their notes
  pub of_two : (z x y : IlExp) → noted z ≡ beside (noted x) (noted y) → noted x ≡ written l → noted y ≡ written r → noted z ≡ T
  of_two z x y two f g = two ∙ (λ i. beside (f i) (g i)) ∙ sym is

  logic_occurs : (w : Within) (sign : Mark) → Kept D T (logic_row w sign l r)
  logic_occurs w sign = λ a f b g. of_two (connected sign a.exp b.exp) a.exp b.exp (noted-connected sign a.exp b.exp) f g

  equated_occurs : (sign : Mark) (x y : IlExp) → noted x ≡ written l → noted y ≡ written r → noted (equated sign x y) ≡ T
  equated_occurs sign x y f g = of_two (equated sign x y) x y (noted-equated sign x y) f g

  compared_occurs : (at : Span) (sign : Mark) (a b : Made) → noted a.exp ≡ written l → noted b.exp ≡ written r → Kept D T (compared at sign a b)
  compared_occurs at sign a b f g =
      keeps_larger D Noted (Notes_as T) a.ty b.ty (λ t. raised a t (λ x. raised b t (λ y. give (equated sign x y) ty.Bool)))
      (λ t. both_raised_occurs D (Notes_as T) a b t (λ x y. give (equated sign x y) ty.Bool) (λ x y h k. equated_occurs sign x y (h ∙ f) (k ∙ g)))
      (breach at Y1) tt

  equation_occurs : (w : Within) (at : Span) (sign : Mark) → Kept D T (equation_row w at sign l r)
  equation_occurs w at sign =
      keeps_if D Noted (Notes_as T) (inferable l) _ _
      (λ _. λ a f. keeps_if D Noted (Notes_as T) (inferable r) _ _
      (λ _. λ b g. compared_occurs at sign a b f g)
      (λ _. λ b g. equated_occurs sign a.exp b.exp f g))
      (λ _. keeps_if D Noted (Notes_as T) (inferable r) _ _ (λ _. λ b g a f. equated_occurs sign a.exp b.exp f g) (λ _. tt))

  member_occurs : (x y : IlExp) → noted x ≡ written l → noted y ≡ written r → noted (il.Member x y) ≡ T
  member_occurs x y f g = of_two (il.Member x y) x y (noted-Member x y) f g

  membership_occurs : (w : Within) (at : Span) → Kept D T (membership_row w at l r)
  membership_occurs w at =
      keeps_if D Noted (Notes_as T) (inferable r) _ _
      (λ _. λ b g. keeps_list D Noted (Notes_as T) (place r) b.ty (λ x. Asks (asked w l x) (λ a. give (il.Member a.exp b.exp) ty.Bool)) (λ x. λ a f. member_occurs a.exp b.exp f g))
      (λ _. keeps_if D Noted (Notes_as T) (inferable l) _ _ (λ _. λ a f b g. member_occurs a.exp b.exp f g) (λ _. tt))

  both_occur : (w : Within) (next : NumTy → IlExp → IlExp → Step) → ((n : NumTy) (x y : IlExp) → noted x ≡ written l → noted y ≡ written r → Kept D T (next n x y)) → Kept D T (both_numeric w l r next)
  both_occur w next h = λ a f. keeps_number D Noted (Notes_as T) (place l) a.ty
      (λ m. numeric w r (λ b n. next (wider m n) (injected m (wider m n) a.exp) (injected n (wider m n) b.exp)))
      (λ m. λ b g. keeps_number D Noted (Notes_as T) (place r) b.ty
      (λ n. next (wider m n) (injected m (wider m n) a.exp) (injected n (wider m n) b.exp))
      (λ n. h (wider m n) (injected m (wider m n) a.exp) (injected n (wider m n) b.exp) (noted-injected m (wider m n) a.exp ∙ f) (noted-injected n (wider m n) b.exp ∙ g)))

  order_occurs : (w : Within) (sign : Mark) → Kept D T (order_row w sign l r)
  order_occurs w sign = both_occur w (λ n x y. give (ordered sign x y) ty.Bool) (λ n x y f g. of_two (ordered sign x y) x y (noted-ordered sign x y) f g)

  arithmetic_occurs : (w : Within) (sign : Mark) → Kept D T (arithmetic_row w sign l r)
  arithmetic_occurs w sign = both_occur w (λ n x y. give (reckoned sign n x y) (number_type n)) (λ n x y f g. of_two (reckoned sign n x y) x y (noted-reckoned sign n x y) f g)

  power_occurs : (w : Within) → Kept D T (power_row w l r)
  power_occurs w = λ a f. keeps_number D Noted (Notes_as T) (place l) a.ty
      (λ n. Asks (asked w r ty.Nat) (λ b. give (il.Pow n a.exp b.exp) (number_type n))) (λ n. λ b g. of_two (il.Pow n a.exp b.exp) a.exp b.exp (noted-Pow n a.exp b.exp) f g)

  concatenated_occurs : (at : Span) (a b : Made) → noted a.exp ≡ written l → noted b.exp ≡ written r → Kept D T (concatenated at a b)
  concatenated_occurs at a b f g =
      keeps_larger D Noted (Notes_as T) a.ty b.ty (λ t. as_joined at t (λ join. raised a t (λ x. raised b t (λ y. give (join x y) t))))
      (λ t. joined_occurs D (Notes_as T) at t (λ join. raised a t (λ x. raised b t (λ y. give (join x y) t)))
      (λ join j. both_raised_occurs D (Notes_as T) a b t (λ x y. give (join x y) t) (λ x y h k. of_two (join x y) x y (j x y) (h ∙ f) (k ∙ g))))
      (breach at Y5) tt

  pub binary_occurs : (w : Within) (at : Span) (sign : Mark) (o : Operator) → Kept D T (binary_row w at sign l r o)
  binary_occurs w at sign operator.Logic = logic_occurs w sign
  binary_occurs w at sign operator.Equation = equation_occurs w at sign
  binary_occurs w at sign operator.Order = order_occurs w sign
  binary_occurs w at sign operator.Membership = membership_occurs w at
  binary_occurs w at sign operator.Concatenation = λ a f b g. concatenated_occurs at a b f g
  binary_occurs w at sign operator.Arithmetic = arithmetic_occurs w sign
  binary_occurs w at sign operator.Power = power_occurs w
  binary_occurs w at sign operator.Other = tt

module _ (D : Decls) (T : Notes) (w : Within) (e : Exp) where
  -- ---- parts

  pub not_occurs : T ≡ written e → (m : Made) → noted m.exp ≡ written e → noted (il.Not m.exp) ≡ T
  not_occurs is m f = noted-Not m.exp ∙ f ∙ sym is

  pub negation_occurs : T ≡ written e → Kept D T (negation_row w e)
  negation_occurs is = λ m f. keeps_number D Noted (Notes_as T) (place e) m.ty (λ n. give (il.Neg (injected n number.Int m.exp)) ty.Int)
      (λ n. noted-Neg (injected n number.Int m.exp) ∙ noted-injected n number.Int m.exp ∙ f ∙ sym is)

  pub length_occurs : T ≡ written e → Kept D T (length_row w e)
  length_occurs is = λ m f. keeps_list D Noted (Notes_as T) (place e) m.ty (λ x. give (il.Len m.exp) ty.Nat) (λ x. noted-Len m.exp ∙ f ∙ sym is)

  pub position_occurs : (i : Exp) → T ≡ beside (written e) (written i) → Kept D T (position_row w e i)
  position_occurs i is = λ m f. keeps_list D Noted (Notes_as T) (place e) m.ty (λ x. Asks (asked w i ty.Nat) (λ a. give (il.At m.exp a.exp) x))
      (λ x. λ a g. of_two D T e i is (il.At m.exp a.exp) m.exp a.exp (noted-At m.exp a.exp) f g)

  pub slice_occurs : (i n : Exp) → T ≡ beside (beside (written e) (written i)) (written n) → Kept D T (slice_row w e i n)
  slice_occurs i n is = λ m f. keeps_list D Noted (Notes_as T) (place e) m.ty
      (λ x. Asks (asked w i ty.Nat) (λ a. Asks (asked w n ty.Nat) (λ b. give (il.Slice m.exp a.exp b.exp) m.ty)))
      (λ x. λ a g b h. noted-Slice m.exp a.exp b.exp ∙ (λ j. beside (beside (f j) (g j)) (h j)) ∙ sym is)

  pub field_occurs : (at : Span) (name : List ℕ) → T ≡ written e → Kept D T (field_row D w at e name)
  field_occurs at name is = λ m f. keeps_field D Noted (Notes_as T) (place e) at name m.ty (λ t. give (il.Dot m.exp name) t) (λ t. noted-Dot m.exp name ∙ f ∙ sym is)

  -- ---- paths

  step_occurs : (at : Span) (t : Ty) (next : PathSeg → Ty → Step) (s : Seg) (y : Seg-F Count Node Seg Exp) → out-Seg s ≡ y
      → ((p : PathSeg) (u : Ty) → noted_step p ≡ step_written s → Kept D T (next p u)) → Kept D T (step_row D w at t next y)
  step_occurs at t next s (Seg-F.Field name) is h =
      keeps_field D Noted (Notes_as T) at at name t (next (step.Field name)) (λ u. h (step.Field name) u (noted-Field name ∙ sym (step-Field s name is)))
  step_occurs at t next s (Seg-F.Seg::At i) is h =
      keeps_list D Noted (Notes_as T) at t (λ x. Asks (asked w i ty.Nat) (λ a. next (step.At a.exp) x)) (λ x. λ a f. h (step.At a.exp) x (noted-step-At a.exp ∙ f ∙ sym (step-At s i is)))
  step_occurs at t next s (Seg-F.Seg::Slice i n) is h =
      keeps_list D Noted (Notes_as T) at t (λ x. Asks (asked w i ty.Nat) (λ a. Asks (asked w n ty.Nat) (λ b. next (step.Slice a.exp b.exp) t)))
      (λ x. λ a f b g. h (step.Slice a.exp b.exp) t (noted-step-Slice a.exp b.exp ∙ (λ j. beside (f j) (g j)) ∙ sym (step-Slice s i n is)))

  along_occurs : (at : Span) (path : List Seg) (t : Ty) (next : List PathSeg → Ty → Step)
      → ((ps : List PathSeg) (u : Ty) → map noted_step ps ≡ map step_written path → Kept D T (next ps u)) → Kept D T (along D w at path t next)
  along_occurs at [] t next h = h [] t refl
  along_occurs at (s ∷ ss) t next h =
      step_occurs at t (λ p u. along D w at ss u (λ ps v. next (p ∷ ps) v)) s (out-Seg s) refl (λ p u f. along_occurs at ss u (λ ps v. next (p ∷ ps) v) (λ ps v g. h (p ∷ ps) v (λ i. f i ∷ g i)))

  pub update_occurs : (at : Span) (path : List Seg) (value : Exp) → T ≡ beside (beside (written e) (all_of (map step_written path))) (written value) → Kept D T (update_row D w at e path value)
  update_occurs at path value is = λ m f. along_occurs at path m.ty (λ ps t. Asks (asked w value t) (λ v. give (il.Set m.exp ps v.exp) m.ty))
      (λ ps t g. λ v h. noted-Set m.exp ps v.exp ∙ (λ i. beside (beside (f i) (all_of (g i))) (h i)) ∙ sym is)

  pub extension_occurs : (at : Span) (path : List Seg) (list : Exp) → T ≡ beside (beside (written e) (all_of (map step_written path))) (written list) → Kept D T (extension_row D w at e path list)
  extension_occurs at path list is = λ m f. along_occurs at path m.ty (λ ps t. as_list at t (λ x. Asks (asked w list t) (λ l. give (il.Extend m.exp ps l.exp) m.ty)))
      (λ ps t g. keeps_list D Noted (Notes_as T) at t (λ x. Asks (asked w list t) (λ l. give (il.Extend m.exp ps l.exp) m.ty))
      (λ x. λ l h. noted-Extend m.exp ps l.exp ∙ (λ i. beside (beside (f i) (all_of (g i))) (h i)) ∙ sym is))
