-- Values of several expressions, and of the two sides of an equation.
use Rattle.std.proofs.Common.{◌≡◌, refl, sym, ◌∙◌, ap, subst, List, [], ◌∷◌}
use Rattle.st_il.specs.declared.definition.SyntaxDef.{SyntaxDef}
use Rattle.st_il.specs.declared.expression.IlExp.{IlExp, out-IlExp}
use Rattle.st_il.specs.declared.expression.IlExp.TheOpen.{IlExp-F}
use Rattle.st_il.specs.declared.value.Env.{Env}
use Rattle.st_il.specs.declared.value.Value.{Value}
use Rattle.st_semantics.specs.declared.outcome.Outcome.{Outcome}
use Rattle.st_semantics.specs.declared.outcome.Outcome.TheVariants.{Val, NoValue, Deep}
use Rattle.st_semantics.specs.declared.outcome.Outcomes.{Outcomes}
use Rattle.st_semantics.specs.declared.outcome.Outcomes.TheVariants.{Values, Stopped}
use Rattle.st_semantics.specs.Parts.{Operation, binary}
use Rattle.st_semantics.specs.Operators.{equality}
use Rattle.st_semantics.specs.Forms.{form_at, HasForm, Strict, by_itself}
use Rattle.st_semantics.specs.Evaluation.{Answers, Task, tasks, then_all, applied, Stops, Gives, GivesAll, strict, variable, call, iteration_ends, iteration, none, stop, next}
use Rattle.st_semantics.specs.Holding.{value_by, HaveValues}
use Rattle.st_semantics.proofs.Singles.{HasForm-single}

module _ (defs : List SyntaxDef) (C : Answers) where
  -- the values of one more expression
  more_values : (t : Task) (ts : List Task) (x : Value) (rest : Outcomes) (xs : List Value) → Gives defs C t.0 t.1 (Val x)
      → ((ys : List Value) → rest ≡ Values ys → HaveValues (value_by defs C) ts ys) → then_all x rest ≡ Values xs → HaveValues (value_by defs C) (t ∷ ts) xs
  more_values t ts x (Values ys) [] g h e = cc
  more_values t ts x (Values ys) (z ∷ zs) g h e =
      let first : x ≡ z = cc in
      let others : Values ys ≡ Values zs = cc in
      (subst (λ w. Gives defs C t.0 t.1 (Val w)) first g, h zs others)
  more_values t ts x (Stopped o) xs g h e = cc

  pub have_values : (ts : List Task) (r : Outcomes) → GivesAll defs C ts r → (xs : List Value) → r ≡ Values xs → HaveValues (value_by defs C) ts xs
  have_values ts r (none e) [] h = tt
  have_values ts r (none e) (x ∷ xs) h = cc
  have_values ts r (stop o g bad e) xs h = cc
  have_values ts r (next {t = t} {ts = us} x rest g all e) xs h = more_values t us x rest xs g (have_values us rest all) (sym e ∙ h)

  pub gives_values : (ts : List Task) (xs : List Value) → HaveValues (value_by defs C) ts xs → GivesAll defs C ts (Values xs)
  gives_values [] [] h = none refl
  gives_values [] (x ∷ xs) h = absurd h
  gives_values (t ∷ ts) [] h = absurd h
  gives_values (t ∷ ts) (x ∷ xs) h = next x (Values xs) h.0 (gives_values ts xs h.1) refl

  val_stops : (o : Outcome) (w : Value) → Stops o → Stopped o ≡ Stopped (Val w) → ⊥
  val_stops (Val v) w s e = s
  val_stops NoValue w s e = cc
  val_stops Deep w s e = cc

  pub not_value : (ts : List Task) (r : Outcomes) (w : Value) → GivesAll defs C ts r → r ≡ Stopped (Val w) → ⊥
  not_value ts r w (none e) k = cc
  not_value ts r w (stop o g b e) k = val_stops o w b (sym e ∙ k)
  not_value ts r w (next {ts = us} y rest g all e) k = more rest (sym e ∙ k) (not_value us rest w all)
    where
      more : (s : Outcomes) → then_all y s ≡ Stopped (Val w) → (s ≡ Stopped (Val w) → ⊥) → ⊥
      more (Values zs) e f = cc
      more (Stopped o) e f = f e

  abbrev pub Two : Env → IlExp → IlExp → Operation → Value → Type 0
  Two env a b f w = (y : Value) × (z : Value) × Gives defs C env a (Val y) × Gives defs C env b (Val z) × (f (y ∷ z ∷ []) ≡ Val w)

  two_of : (env : Env) (a b : IlExp) (f : Operation) (w : Value) (xs : List Value) → HaveValues (value_by defs C) (tasks env (a ∷ b ∷ [])) xs → f xs ≡ Val w → Two env a b f w
  two_of env a b f w [] h e = absurd h
  two_of env a b f w (y ∷ []) h e = absurd h.1
  two_of env a b f w (y ∷ z ∷ []) h e = (y, z, h.0, h.1.0, e)
  two_of env a b f w (y ∷ z ∷ x ∷ xs) h e = absurd h.1.1

  two_by : (env : Env) (a b : IlExp) (f : Operation) (w : Value) (r : Outcomes) → GivesAll defs C (tasks env (a ∷ b ∷ [])) r → Val w ≡ applied f r → Two env a b f w
  two_by env a b f w (Values xs) all e = two_of env a b f w xs (have_values (tasks env (a ∷ b ∷ [])) (Values xs) all xs refl) (sym e)
  two_by env a b f w (Stopped o) all e = absurd (not_value (tasks env (a ∷ b ∷ [])) (Stopped o) w all (ap Stopped (sym e)))

  pub two_values : (env : Env) (e a b : IlExp) (f : Operation) (w : Value) → HasForm defs e (Strict (a ∷ b ∷ []) f) → Gives defs C env e (Val w) → Two env a b f w
  two_values env e a b f w h (strict es g r fe all oe) =
      let same = HasForm-single defs e _ _ fe h in
      let ee : es ≡ a ∷ b ∷ [] = cc in
      let gg : g ≡ f = cc in
      two_by env a b f w r (subst (λ z. GivesAll defs C (tasks env z) r) ee all) (subst (λ z. Val w ≡ applied z r) gg oe)
  two_values env e a b f w h (variable x fe oe) = let same = HasForm-single defs e _ _ fe h in cc
  two_values env e a b f w h (call g es r fe all c) = let same = HasForm-single defs e _ _ fe h in cc
  two_values env e a b f w h (iteration_ends k xs body r fe all we) = let same = HasForm-single defs e _ _ fe h in cc
  two_values env e a b f w h (iteration k xs body r envs s fe all we every oe) = let same = HasForm-single defs e _ _ fe h in cc

  pub gives_two : (env : Env) (e a b : IlExp) (f : Operation) (y z w : Value) → HasForm defs e (Strict (a ∷ b ∷ []) f) → Gives defs C env a (Val y) → Gives defs C env b (Val z)
      → f (y ∷ z ∷ []) ≡ Val w → Gives defs C env e (Val w)
  gives_two env e a b f y z w h p q k = strict (a ∷ b ∷ []) f (Values (y ∷ z ∷ [])) h (next y (Values (z ∷ [])) p (next z (Values []) q (none refl) refl) refl) (sym k)

-- an equation has two operands
pub equation_form : (defs : List SyntaxDef) (e a b : IlExp) → out-IlExp e ≡ IlExp-F.Eq a b → HasForm defs e (Strict (a ∷ b ∷ []) (binary equality))
equation_form defs e a b is = by_itself (ap form_at is)
