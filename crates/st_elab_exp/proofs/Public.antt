-- What a call gives is what the table gives.
use Rattle.std.proofs.Common.{◌≡◌, sym, subst}
use Rattle.std.specs.Prelude.{Result, Ok, Err, IfOk}
use Rattle.st_el.specs.declared.expression.Exp.{Exp}
use Rattle.st_el.specs.Plain.{plain_exp}
use Rattle.st_il.specs.declared.definition.Il.{Il}
use Rattle.st_il.specs.declared.ty.Ty.{Ty}
use Rattle.st_il.specs.declared.expression.IlExp.{IlExp}
use Rattle.st_erase.specs.Erasure.{erased_exp}
use Rattle.st_elab_table.specs.declared.decls.Decls.{Decls}
use Rattle.st_elab_table.specs.declared.decls.Scope.{Scope}
use Rattle.st_num.specs.declared.fault.Fault.{Fault as ExpFault}
use Rattle.st_num.specs.declared.fault.Fault.TheVariants as fault
use Rattle.st_dims.specs.declared.within.Within.{Within}
use Rattle.st_elab_table.specs.Forms.{place}
use Rattle.st_elab_table.specs.Questions.{Question, check, infer, Made, Breach, Gives, Fails}
use Rattle.st_elab_table.specs.Steps.{made, by_itself, asked, found}
use Rattle.st_elab_table.specs.Elaboration.{Answered, around, Elab, ElabBreach, Infer, InferBreach}
use Rattle.st_elab_table.proofs.Single.{Answered-single}
use Rattle.st_elab_law.specs.Agreement.{IsTableOf}
use Rattle.st_elab_law.proofs.Table.{Elab-erases, Infer-erases}
use Rattle.st_elab_rows.specs.Told.{Told}
use Rattle.st_elab_exp.specs.Exactly.{IsGiven, IsRefused}
use Rattle.st_elab_table.specs.Inside.{ElabInside}
use Rattle.st_elab_exp.proofs.Typing.{of_its_type}

module _ (D : Decls) (S : Scope) where
  pub told_given : {A : Type 0} (q : Question) (f : A → Made) (r : Result A ExpFault) (x : A) → ((y : A) → f y ≡ f x → y ≡ x)
      → Told (λ y. Answered D S q (Gives (f y))) (λ b. Answered D S q (Fails b)) r → Answered D S q (Gives (f x)) → IsGiven x r
  told_given q f (Ok y) x back h g = back y (let e : Gives (f y) ≡ Gives (f x) = Answered-single D S q (Gives (f y)) (Gives (f x)) h g in cc)
  told_given q f (Err (fault.Refused at rule)) x back h g =
      let b : Breach = record { at = at; rule = rule } in
      let e : Fails b ≡ Gives (f x) = Answered-single D S q (Fails b) (Gives (f x)) h g in cc
  told_given q f (Err fault.Memory) x back h g = tt

  pub told_refused : {A : Type 0} (q : Question) (f : A → Made) (r : Result A ExpFault) (b : Breach)
      → Told (λ y. Answered D S q (Gives (f y))) (λ c. Answered D S q (Fails c)) r → Answered D S q (Fails b) → IsRefused b r
  told_refused q f (Ok y) b h g = let e : Gives (f y) ≡ Fails b = Answered-single D S q (Gives (f y)) (Fails b) h g in cc
  told_refused q f (Err (fault.Refused at rule)) b h g =
      let c : Breach = record { at = at; rule = rule } in
      let e : Fails c ≡ Fails b = Answered-single D S q (Fails c) (Fails b) h g in cc
  told_refused q f (Err fault.Memory) b h g = tt

  -- what is given at a type, inside of this, is the elaboration there
  pub is_elaborated_inside : (w : Within) (e : Exp) (t u : Ty) (x y : IlExp) → x ≡ y → Answered D S (check w (place e) by_itself e t) (Gives (made y u)) → ElabInside D S w e t x
  is_elaborated_inside w e t u x y same h =
      subst (λ z. Answered D S (asked w e t) (Gives (made z t))) (sym same)
      (subst (λ z. Answered D S (asked w e t) (Gives (made y z))) (of_its_type D S w (place e) by_itself e t (made y u) h) h)

  pub is_inferred : (e : Exp) (u : Ty) (w : Within) (x y : IlExp) → w ≡ around S → x ≡ y → Answered D S (infer w (place e) e) (Gives (made y u)) → Infer D S e x u
  is_inferred e u w x y is same h =
      subst (λ z. Answered D S (found (around S) e) (Gives (made z u))) (sym same) (subst (λ z. Answered D S (infer z (place e) e) (Gives (made y u))) is h)

-- ---- what is given is erased to the expression

module _ (il : Il) (D : Decls) (S : Scope) (table : IsTableOf il.defs D) where
  pub told_erased : (e : Exp) (t : Ty) (r : Result IlExp ExpFault) → Told (Elab D S e t) (ElabBreach D S e t) r → IfOk r (λ x. plain_exp (erased_exp il x) ≡ plain_exp e)
  told_erased e t (Ok x) h = Elab-erases il.defs D S table e t x h
  told_erased e t (Err fault) h = tt

  pub found_erased : (e : Exp) (r : Result (IlExp × Ty) ExpFault) → Told (λ (p : IlExp × Ty). Infer D S e p.0 p.1) (InferBreach D S e) r → IfOk r (λ p. plain_exp (erased_exp il p.0) ≡ plain_exp e)
  found_erased e (Ok p) h = Infer-erases il.defs D S table e p.0 p.1 h
  found_erased e (Err fault) h = tt
