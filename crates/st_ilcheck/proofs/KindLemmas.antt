-- Kinds that begin with those of a dimension.
use Rattle.std.proofs.Common.{◌≡◌, ◌↔◌, refl, sym, ap₂, ◌∙◌, subst, List, [], ◌∷◌, ◌++◌, Bool, false, length, arith, append-nil, Some, None}
use Rattle.std.specs.Prelude.{IsTrue, All}
use Rattle.st_num.specs.declared.dim.Kind.{Kind}
use Rattle.st_il.specs.declared.definition.Listed.{Listed}
use Rattle.st_semantics.specs.Environments.{listed_as}
use Rattle.st_il.specs.Names.{Name, has_name}
use Rattle.st_ilcheck.specs.Variables.{Occurrence, BeginsWith, IsListed, AreListed, names_of}
use Rattle.st_ilcheck.specs.inner.Beginnings.{BeginsBy}

pub begins-whole : (dim kinds : List Kind) → BeginsBy dim kinds → BeginsWith dim kinds
begins-whole [] kinds h = record { rest = kinds; whole = refl }
begins-whole (k ∷ dim) [] h = absurd h
begins-whole (k ∷ dim) (o ∷ kinds) h =
    let r = begins-whole dim kinds h.1 in
    record { rest = r.rest; whole = ap₂ (λ a b. a ∷ b) (sym h.0) r.whole }

begins-append : (dim rest : List Kind) → BeginsBy dim (dim ++ rest)
begins-append [] rest = tt
begins-append (k ∷ dim) rest = (refl, begins-append dim rest)

pub begins-by : (dim kinds : List Kind) → BeginsWith dim kinds → BeginsBy dim kinds
begins-by dim kinds h = subst (BeginsBy dim) (sym h.whole) (begins-append dim h.rest)

pub begins-all : (dim kinds : List Kind) → length dim ≡ length kinds → BeginsBy dim kinds → kinds ≡ dim
begins-all [] [] e h = refl
begins-all [] (o ∷ kinds) e h = absurd (omega (arith, e))
begins-all (k ∷ dim) [] e h = absurd h
begins-all (k ∷ dim) (o ∷ kinds) e h = let shorter : length dim ≡ length kinds = omega (arith, e) in ap₂ (λ a b. a ∷ b) (sym h.0) (begins-all dim kinds shorter h.1)

pub begins-itself : (dim kinds : List Kind) → kinds ≡ dim → BeginsBy dim kinds
begins-itself dim kinds e = subst (BeginsBy dim) (append-nil dim ∙ sym e) (begins-append dim [])

module _ (ls : List Listed) (o : Occurrence) where
  pub listed-found : (l : Listed) (dim kinds : List Kind) (r : Bool) → Some l ≡ listed_as o.0 ls → dim ≡ l.dim → kinds ≡ o.1 → (IsTrue r ↔ BeginsBy dim kinds) → IsTrue r ↔ IsListed ls o
  listed-found l dim kinds r e p q h = (
    λ y. record { variable = l; found = sym e; begins = begins-whole l.dim o.1 (subst (λ z. BeginsBy z o.1) p (subst (BeginsBy dim) q (h.0 y))) },
    λ k. let same : Some l ≡ Some k.variable = e ∙ k.found in
        let one : k.variable ≡ l = cc in
        h.1 (subst (λ z. BeginsBy z kinds) (sym p) (subst (BeginsBy l.dim) (sym q) (begins-by l.dim o.1 (subst (λ (z : Listed). BeginsWith z.dim o.1) one k.begins)))),
  )

  pub listed-none : None ≡ listed_as o.0 ls → IsListed ls o → ⊥
  listed-none e k = let bad : None ≡ Some k.variable = e ∙ k.found in cc

pub listed-kept : (ls ms : List Listed) (os ps : List Occurrence) (r : Bool) → ls ≡ ms → os ≡ ps → (IsTrue r ↔ AreListed ls os) → IsTrue r ↔ AreListed ms ps
listed-kept ls ms os ps r p q h = subst (λ z. IsTrue r ↔ AreListed z ps) p (subst (λ z. IsTrue r ↔ AreListed ls z) q h)

pub inside-kept : (is js : List Name) (os ps : List Occurrence) (r : Bool) → is ≡ js → os ≡ ps → (IsTrue r ↔ All (λ (i : Name). has_name (names_of os) i ≡ false) is)
    → IsTrue r ↔ All (λ (i : Name). has_name (names_of ps) i ≡ false) js
inside-kept is js os ps r p q h =
    subst (λ z. IsTrue r ↔ All (λ (i : Name). has_name (names_of ps) i ≡ false) z) p
    (subst (λ (z : List Occurrence). IsTrue r ↔ All (λ (i : Name). has_name (names_of z) i ≡ false) is) q h)
