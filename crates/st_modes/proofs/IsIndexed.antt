-- What is looked up in an internal language is of it.
use Rattle.std.proofs.Common.{◌≡◌, refl, sym, ◌∙◌, ap, subst, Bool, true, true≢false, not, List, [], ◌∷◌, map, filter, is_some}
use Rattle.st_il.specs.declared.definition.FunDef.{FunDef}
use Rattle.st_il.specs.declared.definition.Il.{Il}
use Rattle.st_il.specs.declared.definition.IlDef.{IlDef}
use Rattle.std.specs.Borrow.{Bor}
use Rattle.st_il.specs.Names.{Name}
use Rattle.st_il.specs.Definitions.{funs_in, clauses_of}
use Rattle.st_modes.specs.declared.citations.Citations.{Citations}
use Rattle.st_modes.specs.declared.indexed.Indexed.{Indexed}
use Rattle.st_order.specs.Modes.{HasFew}
use Rattle.st_order.specs.Known.{AreDirections, all_now, at}
use Rattle.st_modes.specs.inner.Citations.{HasRead, is_any, called_by_function}
use Rattle.st_modes.specs.inner.Reaching.{Reached}
use Rattle.st_modes.specs.inner.Sifted.{Sifted}
use Rattle.st_modes.specs.inner.Targets.{Numbers, IsLeastOf, least_first}
use Rattle.st_modes.specs.inner.Needs.{HasNoClause, IsIndexed}
use Rattle.st_modes.proofs.Sifted.{sifted_by_test}

any_none : {A : Type 0} (xs : List A) → not (is_any xs) ≡ true → xs ≡ []
any_none [] h = refl
any_none (x ∷ xs) h = absurd (true≢false (sym h))

-- nothing stands under the name of a function
abbrev test : Citations → FunDef → Bool
test c f = not (is_some (at c.calls.entries f.name))

-- the functions under whose names nothing stands have no clauses
lacking_is : (il : Il) (c : Citations) (lacking : List FunDef) → HasRead il.defs c → lacking ≡ filter (λ (f : FunDef). not (is_some (at c.calls.entries f.name))) (all_now c.funs)
    → Sifted (HasNoClause il) (funs_in il.defs) lacking
lacking_is il c lacking h is =
    subst (λ z. Sifted (HasNoClause il) (funs_in il.defs) z) (sym (is ∙ ap (filter (test c)) h.funs))
    (sifted_by_test (HasNoClause il) (test c) (λ f e. any_none (clauses_of il f.name) (sym (ap not (h.defined f.name)) ∙ e)) (λ f none. ap not (h.defined f.name ∙ ap is_any none)) (funs_in il.defs))

-- the same of what is read as slices
pub lacks_as : (defs defs' : List IlDef) (lacking lacking' : List (Bor FunDef)) (entries : Numbers) → defs ≡ defs' → lacking ≡ lacking'
    → ((start : List Name) → IsLeastOf (Reached start (λ q. called_by_function q defs)) (map (λ (f : FunDef). f.name) (all_now lacking)) (least_first entries start))
    → (start : List Name) → IsLeastOf (Reached start (λ q. called_by_function q defs')) (map (λ (f : FunDef). f.name) (all_now lacking')) (least_first entries start)
lacks_as defs defs' lacking lacking' entries e f h start =
    subst (λ ds. IsLeastOf (Reached start (λ q. called_by_function q ds)) (map (λ (f : FunDef). f.name) (all_now lacking')) (least_first entries start)) e
    (subst (λ fs. IsLeastOf (Reached start (λ q. called_by_function q defs)) (map (λ (f : FunDef). f.name) (all_now fs)) (least_first entries start)) f (h start))

pub is_indexed : (il : Il) (x : Indexed) → AreDirections x.directions → x.directions.il.now ≡ il → HasRead il.defs x.citations
    → all_now x.lacking ≡ filter (λ (f : FunDef). not (is_some (at x.citations.calls.entries f.name))) (all_now x.citations.funs)
    → ((start : List Name) → IsLeastOf (Reached start (λ q. called_by_function q il.defs)) (map (λ (f : FunDef). f.name) (all_now x.lacking)) (least_first x.lacks.entries start)) → HasFew il → IsIndexed x
is_indexed il x d is read lacking lacks few = record {
  directions = d;
  read = read_is;
  lacking = lacking_is x.directions.il.now x.citations (all_now x.lacking) read_is lacking;
  lacks =
      subst (λ (z : Il). (start : List Name) → IsLeastOf (Reached start (λ q. called_by_function q z.defs)) (map (λ (f : FunDef). f.name) (all_now x.lacking)) (least_first x.lacks.entries start)) (sym is)
      lacks;
  few = (subst HasFew (sym is) few).1;
}
  where
    read_is : HasRead x.directions.il.now.defs x.citations
    read_is = subst (λ (z : Il). HasRead z.defs x.citations) (sym is) read
