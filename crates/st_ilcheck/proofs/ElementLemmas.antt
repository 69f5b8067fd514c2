-- Elements of types, by what the types mean.
use Rattle.std.proofs.Common.{◌≡◌, ◌↔◌, refl, sym, ap, ◌∙◌, subst, List, Bool, true, false, true≢false, Option, Some, None, inl, inr}
use Rattle.std.specs.Prelude.{IsTrue, MatchOption}
use Rattle.std.specs.Borrow.{Bor}
use Rattle.std.specs.Option.{option_copied}
use Rattle.st_il.specs.declared.ty.Ty.{Ty, out-Ty, roll-Ty, roll-out-Ty}
use Rattle.st_il.specs.declared.ty.Ty.TheOpen.{Ty-F}
use Rattle.st_il.specs.declared.ty.Ty.TheVariants as ty
use Rattle.st_il.specs.declared.definition.SyntaxDef.{SyntaxDef}
use Rattle.st_type_table.specs.Meaning.{Means}
use Rattle.st_type_table.proofs.MeansLemmas.{Means-single}
use Rattle.st_ilcheck.specs.FoundTypes.{IsElementOf}
use Rattle.st_ilcheck.specs.Rules.{IsListOrOption}
use Rattle.st_ilcheck.specs.inner.Elements.{element_at, is_sequence}

module _ (defs : List SyntaxDef) where
  element-of : (u w : Ty) → Some w ≡ element_at (out-Ty u) → u ≡ ty.List w
  element-of u w e = by (out-Ty u) refl e
    where
      by : (l : Ty-F Ty) → out-Ty u ≡ l → Some w ≡ element_at l → u ≡ ty.List w
      by (Ty-F.List t) q f = let s : w ≡ t = cc in sym (roll-out-Ty u) ∙ ap roll-Ty q ∙ ty.rolls-List t ∙ ap ty.List (sym s)
      by Ty-F.Bool q f = cc
      by Ty-F.Nat q f = cc
      by Ty-F.Int q f = cc
      by Ty-F.Text q f = cc
      by (Ty-F.Name x) q f = cc
      by (Ty-F.Opt t) q f = cc
      by (Ty-F.Tuple ts) q f = cc

  pub element-exact : (t u : Ty) (o : Option (Bor Ty)) → Means defs t u → option_copied o ≡ element_at (out-Ty u)
      → MatchOption o ((w : Ty) → IsElementOf defs t w → ⊥) (λ e. IsElementOf defs t e.now)
  element-exact t u None m e = λ w h.
      let z : None ≡ Some w = e ∙ ap element_at (ap out-Ty (Means-single defs t u (ty.List w) m h) ∙ ty.outs-List w) in
      cc
  element-exact t u (Some w) m e = subst (Means defs t) (element-of u w.now e) m

  pub sequence-exact : (t u : Ty) (r : Bool) → Means defs t u → r ≡ is_sequence (out-Ty u) → IsTrue r ↔ IsListOrOption defs t
  sequence-exact t u r m e = (λ y. by (out-Ty u) refl (sym e ∙ y), λ h. from h)
    where
      by : (l : Ty-F Ty) → out-Ty u ≡ l → is_sequence (out-Ty u) ≡ true → IsListOrOption defs t
      by (Ty-F.List w) q f = inl (w, subst (Means defs t) (sym (roll-out-Ty u) ∙ ap roll-Ty q ∙ ty.rolls-List w) m)
      by (Ty-F.Opt w) q f = inr (w, subst (Means defs t) (sym (roll-out-Ty u) ∙ ap roll-Ty q ∙ ty.rolls-Opt w) m)
      by Ty-F.Bool q f = let z : true ≡ false = sym f ∙ ap is_sequence q in absurd (true≢false z)
      by Ty-F.Nat q f = let z : true ≡ false = sym f ∙ ap is_sequence q in absurd (true≢false z)
      by Ty-F.Int q f = let z : true ≡ false = sym f ∙ ap is_sequence q in absurd (true≢false z)
      by Ty-F.Text q f = let z : true ≡ false = sym f ∙ ap is_sequence q in absurd (true≢false z)
      by (Ty-F.Name x) q f = let z : true ≡ false = sym f ∙ ap is_sequence q in absurd (true≢false z)
      by (Ty-F.Tuple ts) q f = let z : true ≡ false = sym f ∙ ap is_sequence q in absurd (true≢false z)

      from : IsListOrOption defs t → IsTrue r
      from (inl (w, n)) = e ∙ ap is_sequence (ap out-Ty (Means-single defs t u (ty.List w) m n) ∙ ty.outs-List w)
      from (inr (w, n)) = e ∙ ap is_sequence (ap out-Ty (Means-single defs t u (ty.Opt w) m n) ∙ ty.outs-Opt w)

  pub no-sequence : (t : Ty) → ((u : Ty) → Means defs t u → ⊥) → IsListOrOption defs t → ⊥
  no-sequence t n (inl (w, m)) = n (ty.List w) m
  no-sequence t n (inr (w, m)) = n (ty.Opt w) m
