-- Which side of a membership is asked first.
use Rattle.std.proofs.Common.{◌≡◌, sym, subst, Bool, true, false, if◌then◌else◌}
use Rattle.st_num.specs.declared.span.Span.{Span}
use Rattle.st_num.specs.declared.rule.RuleId.TheVariants.{Y3}
use Rattle.st_el.specs.declared.expression.Exp.{Exp}
use Rattle.st_il.specs.declared.ty.Ty.TheVariants as ty
use Rattle.st_il.specs.declared.expression.IlExp.TheVariants as il
use Rattle.st_elab_table.specs.declared.decls.Decls.{Decls}
use Rattle.st_elab_table.specs.declared.decls.Scope.{Scope}
use Rattle.st_dims.specs.declared.within.Within.{Within}
use Rattle.st_elab_table.specs.Forms.{place, inferable}
use Rattle.st_elab_table.specs.Questions.{Made, Answer, Fails, Step, Asks}
use Rattle.st_elab_table.specs.Steps.{breach, give, asked, found, as_list}
use Rattle.st_elab_table.specs.Operands.{membership_row, beside, compared}
use Rattle.st_elab_table.specs.Operators.{equated}
use Rattle.st_elab_table.specs.Elaboration.{Leads, ends}
use Rattle.st_num.specs.declared.mark.Mark.{Mark}

abbrev from_list : Within → Exp → Exp → Step
from_list w e l = Asks (found w l) (λ b. as_list (place l) b.ty (λ x. Asks (asked w e x) (λ a. give (il.Member a.exp b.exp) ty.Bool)))

abbrev from_element : Within → Exp → Exp → Step
from_element w e l = Asks (found w e) (λ a. Asks (asked w l (ty.List a.ty)) (λ b. give (il.Member a.exp b.exp) ty.Bool))

abbrev chosen : Within → Span → Exp → Exp → Bool → Bool → Step
chosen w at e l by_list by_element = if by_list then from_list w e l else if by_element then from_element w e l else breach at Y3

abbrev right_side : Within → Span → Mark → Exp → Made → Bool → Step
right_side w at sign r a b =
    if b then Asks (found w r) (compared at sign a) else Asks (asked w r a.ty) (λ b. give (equated sign a.exp b.exp) ty.Bool)

module _ (D : Decls) (S : Scope) where
  pub membership_list : (w : Within) (at : Span) (e l : Exp) (a : Answer) → inferable l ≡ true → Leads D S (from_list w e l) a → Leads D S (membership_row w at e l) a
  membership_list w at e l a i h = subst (λ b. Leads D S (chosen w at e l b (inferable e)) a) (sym i) h

  pub membership_element : (w : Within) (at : Span) (e l : Exp) (a : Answer) → inferable l ≡ false → inferable e ≡ true
      → Leads D S (from_element w e l) a → Leads D S (membership_row w at e l) a
  membership_element w at e l a i j h =
      subst (λ b. Leads D S (chosen w at e l b (inferable e)) a) (sym i) (subst (λ b. Leads D S (chosen w at e l false b) a) (sym j) h)

  pub membership_fails : (w : Within) (at : Span) (e l : Exp) → inferable l ≡ false → inferable e ≡ false
      → Leads D S (membership_row w at e l) (Fails (record { at = at; rule = Y3 }))
  membership_fails w at e l i j =
      subst (λ b. Leads D S (chosen w at e l b (inferable e)) (Fails (record { at = at; rule = Y3 }))) (sym i)
      (subst (λ b. Leads D S (chosen w at e l false b) (Fails (record { at = at; rule = Y3 }))) (sym j) ends)

  pub beside_found : (w : Within) (at : Span) (sign : Mark) (r : Exp) (m : Made) (a : Answer) → inferable r ≡ true
      → Leads D S (Asks (found w r) (compared at sign m)) a → Leads D S (beside w at sign r m) a
  beside_found w at sign r m a i h = subst (λ b. Leads D S (right_side w at sign r m b) a) (sym i) h

  pub beside_asked : (w : Within) (at : Span) (sign : Mark) (r : Exp) (m : Made) (a : Answer) → inferable r ≡ false
      → Leads D S (Asks (asked w r m.ty) (λ b. give (equated sign m.exp b.exp) ty.Bool)) a → Leads D S (beside w at sign r m) a
  beside_asked w at sign r m a i h = subst (λ b. Leads D S (right_side w at sign r m b) a) (sym i) h
