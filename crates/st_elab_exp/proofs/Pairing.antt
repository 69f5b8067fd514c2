-- Expressions with their types, found one after another.
use Rattle.std.proofs.Common.{◌≡◌, refl, sym, ap, ◌∙◌, subst, List, [], ◌∷◌, ◌++◌, map, inl}
use Rattle.std.proofs.lemmas.List.{map-append}
use Rattle.st_il.specs.declared.ty.Ty.{Ty}
use Rattle.st_il.specs.declared.expression.IlExp.{IlExp}
use Rattle.st_elab_table.specs.declared.decls.Decls.{Decls}
use Rattle.st_elab_table.specs.declared.decls.Scope.{Scope}
use Rattle.st_elab_table.specs.Questions.{Question, Made, Breach, Answer, Gives, Fails, Step, asks}
use Rattle.st_elab_table.specs.Steps.{exp_of, ty_of, exps}
use Rattle.st_elab_table.specs.Elaboration.{Answered, Leads}
use Rattle.st_elab_rows.specs.declared.asking.Context.{Context}
use Rattle.st_elab_exp.specs.declared.inferred.FoundAll.{FoundAll}
use Rattle.st_elab_table.specs.Parts.{Asked, Breaks, AskedAs}
use Rattle.st_elab_rows.specs.inner.Continuing.{Continues}
use Rattle.st_elab_exp.specs.inner.Pairs.{AreFound}
use Rattle.st_elab_rows.proofs.Builds.{all_asked, continues_begin, continues_more, continues_ends}

map_same : (ms : List Made) → map (λ (m : Made). m) ms ≡ ms
map_same [] = refl
map_same (m ∷ ms) = ap (λ z. m ∷ z) (map_same ms)

module _ (D : Decls) (S : Scope) where
  -- these expressions and types are found so far
  abbrev pub FoundSoFar : List Question → List Question → List IlExp → List Ty → Type 0
  FoundSoFar all left xs ts = (ms : List Made) × Continues D S all left Made (λ (m : Made). m) ms × (exps ms ≡ xs) × (map ty_of ms ≡ ts)

  pub found_begin : (all : List Question) → FoundSoFar all all [] []
  found_begin all = ([], continues_begin D S all (λ (m : Made). m), refl, refl)

  pub found_more : (all left more : List Question) (q : Question) (xs ys : List IlExp) (ts us : List Ty) (m : Made) → left ≡ q ∷ more → ys ≡ xs ++ m.exp ∷ [] → us ≡ ts ++ m.ty ∷ []
      → FoundSoFar all left xs ts → Answered D S q (Gives m) → FoundSoFar all more ys us
  found_more all left more q xs ys ts us m is one other h g = (
    h.0 ++ m ∷ [],
    continues_more D S all more q (λ (m : Made). m) h.0 m (subst (λ z. Continues D S all z Made (λ (m : Made). m) h.0) is h.1) g,
    map-append exp_of h.0 (m ∷ []) ∙ ap (λ z. z ++ m.exp ∷ []) h.2 ∙ sym one,
    map-append ty_of h.0 (m ∷ []) ∙ ap (λ z. z ++ m.ty ∷ []) h.3 ∙ sym other,
  )

  pub found_breaks : (all left more : List Question) (q : Question) (xs : List IlExp) (ts : List Ty) (b : Breach) → left ≡ q ∷ more
      → FoundSoFar all left xs ts → Answered D S q (Fails b) → Breaks D S all b
  found_breaks all left more q xs ts b is h g = h.1.breaks b (subst (λ z. Breaks D S z b) (sym is) (inl g))

  found_all : (all : List Question) (xs : List IlExp) (ts : List Ty) → FoundSoFar all [] xs ts → (ms : List Made) × Asked D S all ms × (exps ms ≡ xs) × (map ty_of ms ≡ ts)
  found_all all xs ts h =
      let end : AskedAs D S all Made (λ (m : Made). m) h.0 = continues_ends D S all (λ (m : Made). m) h.0 h.1 in
      (h.0, subst (Asked D S all) (sym (map_same end.mades) ∙ end.parts) end.asked, h.2, h.3)

pub found_end : (x : Context) (all left : List Question) (made : FoundAll) → left ≡ [] → FoundSoFar x.decls.now x.scope.now all left made.exps made.tys → AreFound x all made
found_end x all left made is h =
    let end = found_all x.decls.now x.scope.now all made.exps made.tys (subst (λ z. FoundSoFar x.decls.now x.scope.now all z made.exps made.tys) is h) in
    record { mades = end.0; asked = end.1; exps-are = end.2; tys-are = end.3 }

-- what is found leads where the steps behind it lead
pub pairs_lead : (x : Context) (qs : List Question) (made : FoundAll) (next : List IlExp → List Ty → Step) (a : Answer) → AreFound x qs made
    → Leads x.decls.now x.scope.now (next made.exps made.tys) a → Leads x.decls.now x.scope.now (asks qs (λ ms. next (exps ms) (map ty_of ms))) a
pairs_lead x qs made next a h l =
    all_asked x.decls.now x.scope.now qs h.mades (λ ms. next (exps ms) (map ty_of ms)) a h.asked
    (subst (λ z. Leads x.decls.now x.scope.now (next (exps h.mades) z) a) (sym h.tys-are)
    (subst (λ z. Leads x.decls.now x.scope.now (next z made.tys) a) (sym h.exps-are) l))
