-- Steps on types, as the code takes them.
use Rattle.std.proofs.Common.{◌≡◌, refl, sym, ap, ◌∙◌, subst, Bool, true, false, if◌then◌else◌}
use Rattle.std.specs.Prelude.{IsTrue}
use Rattle.st_num.specs.declared.span.Span.{Span}
use Rattle.st_num.specs.declared.rule.RuleId.TheVariants.{Y1, Y5}
use Rattle.st_il.specs.declared.ty.Ty.{Ty, out-Ty, roll-Ty, roll-out-Ty}
use Rattle.st_il.specs.declared.ty.Ty.TheOpen.{Ty-F}
use Rattle.st_il.specs.declared.ty.Ty.TheVariants as ty
use Rattle.st_il.specs.declared.ty.NumTy.{NumTy}
use Rattle.st_il.specs.declared.ty.NumTy.TheVariants as number
use Rattle.st_il.specs.declared.expression.IlExp.{IlExp}
use Rattle.st_il.specs.declared.expression.IlExp.TheVariants as il
use Rattle.st_type_table.specs.Meaning.{Means}
use Rattle.st_type_table.specs.Same.{Same}
use Rattle.st_type_table.specs.Sub.{Sub}
use Rattle.st_elab_table.specs.declared.decls.Decls.{Decls}
use Rattle.st_elab_table.specs.declared.decls.Scope.{Scope}
use Rattle.st_elab_table.specs.Questions.{Made, Answer, Gives, Fails, is_below, Step, Tests}
use Rattle.st_elab_table.specs.Steps.{breach, made, give, is_collection, list_at, as_list, number_at, as_number, raised, list_of_one, lifted_to, lifted_at, fitted}
use Rattle.st_elab_table.specs.Elaboration.{Leads, ends, passes, misses, opens}

-- a test that is false
pub refuted : {P : Type 0} (r : Bool) → r ≡ false → (P → IsTrue r) → P → ⊥
refuted r e f p = let g : r ≡ true = f p in cc

pub proved : {P : Type 0} (r : Bool) → r ≡ true → (IsTrue r → P) → P
proved r e f = f e

list_no : (at : Span) (next : Ty → Step) (u : Ty) → ((x : Ty) → u ≡ ty.List x → ⊥) → list_at at next (out-Ty u) ≡ breach at Y5
list_no at next u none = go (out-Ty u) refl
  where
    go : (y : Ty-F Ty) → out-Ty u ≡ y → list_at at next y ≡ breach at Y5
    go (Ty-F.List x) o = absurd (none x (sym (roll-out-Ty u) ∙ (ap roll-Ty o ∙ ty.rolls-List x)))
    go (Ty-F.Opt x) o = refl
    go (Ty-F.Tuple xs) o = refl
    go (Ty-F.Name n) o = refl
    go Ty-F.Bool o = refl
    go Ty-F.Nat o = refl
    go Ty-F.Int o = refl
    go Ty-F.Text o = refl

number_no : (at : Span) (next : NumTy → Step) (u : Ty) → (u ≡ ty.Nat → ⊥) → (u ≡ ty.Int → ⊥) → number_at at next (out-Ty u) ≡ breach at Y5
number_no at next u nat int = go (out-Ty u) refl
  where
    go : (y : Ty-F Ty) → out-Ty u ≡ y → number_at at next y ≡ breach at Y5
    go Ty-F.Nat o = absurd (nat (sym (roll-out-Ty u) ∙ (ap roll-Ty o ∙ ty.rolls-Nat)))
    go Ty-F.Int o = absurd (int (sym (roll-out-Ty u) ∙ (ap roll-Ty o ∙ ty.rolls-Int)))
    go (Ty-F.List x) o = refl
    go (Ty-F.Opt x) o = refl
    go (Ty-F.Tuple xs) o = refl
    go (Ty-F.Name n) o = refl
    go Ty-F.Bool o = refl
    go Ty-F.Text o = refl

lifted_no : (at : Span) (m : Made) (t u : Ty) → ((x : Ty) → u ≡ ty.List x → ⊥) → ((x : Ty) → u ≡ ty.Opt x → ⊥) → lifted_at at m t (out-Ty u) ≡ breach at Y1
lifted_no at m t u list option = go (out-Ty u) refl
  where
    go : (y : Ty-F Ty) → out-Ty u ≡ y → lifted_at at m t y ≡ breach at Y1
    go (Ty-F.List x) o = absurd (list x (sym (roll-out-Ty u) ∙ (ap roll-Ty o ∙ ty.rolls-List x)))
    go (Ty-F.Opt x) o = absurd (option x (sym (roll-out-Ty u) ∙ (ap roll-Ty o ∙ ty.rolls-Opt x)))
    go (Ty-F.Tuple xs) o = refl
    go (Ty-F.Name n) o = refl
    go Ty-F.Bool o = refl
    go Ty-F.Nat o = refl
    go Ty-F.Int o = refl
    go Ty-F.Text o = refl

abbrev after_shape : Span → Made → Ty → Ty → (IlExp → IlExp) → Bool → Step
after_shape at m t element lift b =
    if b then breach at Y1
    else Tests (is_below m.ty element) (raised m element (λ x. give (lift x) t)) (breach at Y1)

module _ (D : Decls) (S : Scope) where
  pub list_leads : (at : Span) (t u x : Ty) (next : Ty → Step) (a : Answer) → Means D.types t u → u ≡ ty.List x → Leads D S (next x) a → Leads D S (as_list at t next) a
  list_leads at t u x next a means is h =
      opens u means (subst (λ z. Leads D S (list_at at next z) a) (sym (ap out-Ty is ∙ ty.outs-List x)) h)

  pub list_fails : (at : Span) (t u : Ty) (next : Ty → Step) → Means D.types t u → ((x : Ty) → u ≡ ty.List x → ⊥)
      → Leads D S (as_list at t next) (Fails (record { at = at; rule = Y5 }))
  list_fails at t u next means none =
      opens u means (subst (λ z. Leads D S z (Fails (record { at = at; rule = Y5 }))) (sym (list_no at next u none)) ends)

  pub nat_leads : (at : Span) (t u : Ty) (next : NumTy → Step) (a : Answer) → Means D.types t u → u ≡ ty.Nat → Leads D S (next number.Nat) a → Leads D S (as_number at t next) a
  nat_leads at t u next a means is h =
      opens u means (subst (λ z. Leads D S (number_at at next z) a) (sym (ap out-Ty is ∙ ty.outs-Nat)) h)

  pub int_leads : (at : Span) (t u : Ty) (next : NumTy → Step) (a : Answer) → Means D.types t u → u ≡ ty.Int → Leads D S (next number.Int) a → Leads D S (as_number at t next) a
  int_leads at t u next a means is h =
      opens u means (subst (λ z. Leads D S (number_at at next z) a) (sym (ap out-Ty is ∙ ty.outs-Int)) h)

  pub number_fails : (at : Span) (t u : Ty) (next : NumTy → Step) → Means D.types t u → (u ≡ ty.Nat → ⊥) → (u ≡ ty.Int → ⊥)
      → Leads D S (as_number at t next) (Fails (record { at = at; rule = Y5 }))
  number_fails at t u next means nat int =
      opens u means (subst (λ z. Leads D S z (Fails (record { at = at; rule = Y5 }))) (sym (number_no at next u nat int)) ends)

  pub raised_up : (x y : IlExp) (t u : Ty) (next : IlExp → Step) (a : Answer) → (Same D.types t u → ⊥) → y ≡ il.Up u x → Leads D S (next y) a
      → Leads D S (raised (made x t) u next) a
  raised_up x y t u next a differ is h = misses differ (subst (λ z. Leads D S (next z) a) is h)

  -- one element in a list or an option
  pub lifts : (at : Span) (m : Made) (t element v : Ty) (lift : IlExp → IlExp) (a : Answer) → Means D.types element v → is_collection v ≡ false → Sub D.types m.ty element
      → Leads D S (raised m element (λ x. give (lift x) t)) a → Leads D S (lifted_to at m t element lift) a
  lifts at m t element v lift a means plain below h =
      opens v means (subst (λ b. Leads D S (after_shape at m t element lift b) a) (sym plain) (passes below h))

  pub lifts_no_collection : (at : Span) (m : Made) (t element v : Ty) (lift : IlExp → IlExp) → Means D.types element v → is_collection v ≡ true
      → Leads D S (lifted_to at m t element lift) (Fails (record { at = at; rule = Y1 }))
  lifts_no_collection at m t element v lift means listed =
      opens v means (subst (λ b. Leads D S (after_shape at m t element lift b) (Fails (record { at = at; rule = Y1 }))) (sym listed) ends)

  pub lifts_none_above : (at : Span) (m : Made) (t element v : Ty) (lift : IlExp → IlExp) → Means D.types element v → is_collection v ≡ false → (Sub D.types m.ty element → ⊥)
      → Leads D S (lifted_to at m t element lift) (Fails (record { at = at; rule = Y1 }))
  lifts_none_above at m t element v lift means plain above =
      opens v means (subst (λ b. Leads D S (after_shape at m t element lift b) (Fails (record { at = at; rule = Y1 }))) (sym plain) (misses above ends))

  -- what is found, at a type
  pub fitted_same : (at : Span) (x : IlExp) (has t : Ty) → Same D.types has t → Leads D S (fitted at t (made x has)) (Gives (made x t))
  fitted_same at x has t same = passes same ends

  pub fitted_up : (at : Span) (x y : IlExp) (has t : Ty) → (Same D.types has t → ⊥) → Sub D.types has t → y ≡ il.Up t x
      → Leads D S (fitted at t (made x has)) (Gives (made y t))
  fitted_up at x y has t differ below is = misses differ (passes below (subst (λ z. Leads D S (give z t) (Gives (made y t))) is ends))

  pub fitted_list : (at : Span) (x : IlExp) (has t u element : Ty) (a : Answer) → (Same D.types has t → ⊥) → (Sub D.types has t → ⊥) → Means D.types t u → u ≡ ty.List element
      → Leads D S (lifted_to at (made x has) t element (list_of_one element)) a → Leads D S (fitted at t (made x has)) a
  fitted_list at x has t u element a differ above means is h =
      misses differ (misses above (opens u means (subst (λ z. Leads D S (lifted_at at (made x has) t z) a) (sym (ap out-Ty is ∙ ty.outs-List element)) h)))

  pub fitted_option : (at : Span) (x : IlExp) (has t u element : Ty) (a : Answer) → (Same D.types has t → ⊥) → (Sub D.types has t → ⊥) → Means D.types t u → u ≡ ty.Opt element
      → Leads D S (lifted_to at (made x has) t element il.Present) a → Leads D S (fitted at t (made x has)) a
  fitted_option at x has t u element a differ above means is h =
      misses differ (misses above (opens u means (subst (λ z. Leads D S (lifted_at at (made x has) t z) a) (sym (ap out-Ty is ∙ ty.outs-Opt element)) h)))

  pub fitted_fails : (at : Span) (x : IlExp) (has t u : Ty) → (Same D.types has t → ⊥) → (Sub D.types has t → ⊥) → Means D.types t u
      → ((e : Ty) → u ≡ ty.List e → ⊥) → ((e : Ty) → u ≡ ty.Opt e → ⊥) → Leads D S (fitted at t (made x has)) (Fails (record { at = at; rule = Y1 }))
  fitted_fails at x has t u differ above means list option =
      misses differ (misses above (opens u means (subst (λ z. Leads D S z (Fails (record { at = at; rule = Y1 }))) (sym (lifted_no at (made x has) t u list option)) ends)))
