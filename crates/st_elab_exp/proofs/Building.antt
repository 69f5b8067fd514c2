-- Premises and variables, one after another, as the code takes them.
use Rattle.std.proofs.Common.{◌≡◌, sym, ap, ◌∙◌, subst, ℕ, ◌+◌, ◌<◌, ◌≤◌, List, [], ◌∷◌, ◌++◌, length, take, drop, get_or, inl, inr}
use Rattle.std.specs.List.{AllByRecursion}
use Rattle.std.proofs.lemmas.List.{map-append}
use Rattle.st_num.specs.declared.dim.Kind.{Kind}
use Rattle.st_el.specs.declared.expression.Count.{Count}
use Rattle.st_el.specs.declared.definition.Prem.{Prem}
use Rattle.st_el.specs.declared.definition.PremNode.TheOpen.{PremNode-F}
use Rattle.st_il.specs.declared.expression.IlPrem.{IlPrem}
use Rattle.st_dims.specs.Dimensions.{Table}
use Rattle.st_dims.proofs.Lists.{next_taken, all_taken, cut}
use Rattle.st_elab_table.specs.declared.decls.Decls.{Decls}
use Rattle.st_elab_table.specs.declared.decls.Scope.{Scope}
use Rattle.st_dims.specs.declared.within.Within.{Within}
use Rattle.st_elab_table.specs.Questions.{Breach}
use Rattle.st_elab_table.specs.Iterations.{Variable}
use Rattle.st_dims.specs.Around.{inside}
use Rattle.st_elab_table.specs.Premises.{node_of, ElabPrem, PremBreach, in_premise, ElabPrems, PremsBreach}
use Rattle.st_elab_table.specs.Scopes.{table_of, HasItsType}

-- ---- premises

module _ (D : Decls) (S : Scope) (w : Within) where
  one_more : (ps : List Prem) (xs : List IlPrem) (p : Prem) (x : IlPrem) → ElabPrems D S w ps xs → ElabPrem D S w p x → ElabPrems D S w (ps ++ p ∷ []) (xs ++ x ∷ [])
  one_more [] [] p x h k = (k, tt)
  one_more [] (y ∷ xs) p x h k = absurd h
  one_more (q ∷ ps) [] p x h k = absurd h
  one_more (q ∷ ps) (y ∷ xs) p x (h, hs) k = (h, one_more ps xs p x hs k)

  breach_behind : (ps rest : List Prem) (xs : List IlPrem) (p : Prem) (b : Breach) → ElabPrems D S w ps xs → PremBreach D S w p b → PremsBreach D S w (ps ++ p ∷ rest) b
  breach_behind [] rest xs p b h k = inl k
  breach_behind (q ∷ ps) rest [] p b h k = absurd h
  breach_behind (q ∷ ps) rest (y ∷ xs) p b (h, hs) k = inr (y, h, breach_behind ps rest xs p b hs k)

  pub next_prem : (ps : List Prem) (i : ℕ) (p : Prem) (xs ys : List IlPrem) (x : IlPrem) → i < length ps → p ≡ get_or ps i p → ys ≡ xs ++ x ∷ []
      → ElabPrems D S w (take i ps) xs → ElabPrem D S w p x → ElabPrems D S w (take (i + 1) ps) ys
  next_prem ps i p xs ys x h is pushed before one =
      subst (λ z. ElabPrems D S w z ys) (sym (next_taken ps i p h is))
      (subst (ElabPrems D S w (take i ps ++ p ∷ [])) (sym pushed) (one_more (take i ps) xs p x before one))

  pub breach_at : (ps : List Prem) (i : ℕ) (p : Prem) (xs : List IlPrem) (b : Breach) → i < length ps → p ≡ get_or ps i p
      → ElabPrems D S w (take i ps) xs → PremBreach D S w p b → PremsBreach D S w ps b
  breach_at ps i p xs b h is before one =
      subst (λ z. PremsBreach D S w z b) (sym (cut ps i p h is)) (breach_behind (take i ps) (drop (i + 1) ps) xs p b before one)

  pub all_prems : (ps : List Prem) (i : ℕ) (xs : List IlPrem) → length ps ≤ i → ElabPrems D S w (take i ps) xs → ElabPrems D S w ps xs
  all_prems ps i xs h before = subst (λ z. ElabPrems D S w z xs) (all_taken ps i h) before

  pub premise_breach : (inner : Within) (p q taken : Prem) (c : Count) (b : Breach) → node_of p ≡ PremNode-F.Each q c → inner ≡ inside w c → taken ≡ q
      → PremBreach D S inner taken b → PremBreach D S w p b
  premise_breach inner p q taken c b is within same h =
      in_premise q c is (subst (λ z. PremBreach D S z q b) within (subst (λ z. PremBreach D S inner z b) same h))

-- ---- typed variables

all_more : (P : Variable → Type 0) (vs : List Variable) (v : Variable) → AllByRecursion P vs → P v → AllByRecursion P (vs ++ v ∷ [])
all_more P [] v h k = (k, tt)
all_more P (u ∷ vs) v (h, hs) k = (h, all_more P vs v hs k)

pub next_typed : (D : Decls) (vs us : List Variable) (v : Variable) → us ≡ vs ++ v ∷ [] → AllByRecursion (HasItsType D) vs → HasItsType D v → AllByRecursion (HasItsType D) us
next_typed D vs us v pushed h k = subst (AllByRecursion (HasItsType D)) (sym pushed) (all_more (HasItsType D) vs v h k)

pub next_entry : (table : Table) (i : ℕ) (entry : List ℕ × List Kind) (vs us : List Variable) (v : Variable) → i < length table → entry ≡ get_or table i entry
    → us ≡ vs ++ v ∷ [] → (v.0, v.2) ≡ entry → table_of vs ≡ take i table → table_of us ≡ take (i + 1) table
next_entry table i entry vs us v h is pushed same before =
    ap table_of pushed ∙ map-append (λ (v : Variable). (v.0, v.2)) vs (v ∷ []) ∙ ap (λ z. z ++ (v.0, v.2) ∷ []) before
    ∙ ap (λ z. take i table ++ z ∷ []) same ∙ sym (next_taken table i entry h is)

pub same_pair : (m n : List ℕ) (d e : List Kind) → m ≡ n → d ≡ e → ◌≡◌ {A = List ℕ × List Kind} (m, d) (n, e)
same_pair m n d e h k = λ i. (h i, k i)
