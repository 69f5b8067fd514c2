-- The lists and options of what elements bind have the types that are listed outside.
use Rattle.std.proofs.Common.{◌≡◌, ℕ, refl, sym, ◌∙◌, ap, subst, List, [], ◌∷◌, ◌++◌, Bool, true, false, if◌then◌else◌, Some, bytes_eq}
use Rattle.st_num.specs.declared.dim.Kind.{Kind}
use Rattle.st_num.specs.declared.dim.Kind.TheVariants as kind
use Rattle.st_il.specs.declared.definition.Il.{Il}
use Rattle.st_il.specs.declared.definition.Listed.{Listed}
use Rattle.st_il.specs.declared.expression.IlExp.{IlExp, out-IlExp}
use Rattle.st_il.specs.declared.expression.IlExp.TheOpen.{IlExp-F}
use Rattle.st_il.specs.declared.expression.Iteration.{Iteration}
use Rattle.st_il.specs.declared.expression.IlPrem.{IlPrem}
use Rattle.st_il.specs.declared.ty.Ty.{Ty}
use Rattle.st_il.specs.declared.value.Env.{Env}
use Rattle.st_il.specs.declared.value.Value.{Value}
use Rattle.st_semantics.specs.declared.outcome.Outcome.TheVariants.{Val}
use Rattle.st_il.specs.Names.{Name, has_name}
use Rattle.st_il.specs.Definitions.{syntaxes}
use Rattle.st_semantics.specs.Environments.{value_in, names_of, wrapped, type_of, listed_as, IsTypedValue, IsSomeTyped}
use Rattle.st_semantics.specs.Iterations.{count_of, index_of, kind_of, gathered_as}
use Rattle.st_semantics.specs.Scopes.{inner, stepped, stepped_all, listed_inside}
use Rattle.st_semantics.specs.Variables.{prem_vars}
use Rattle.st_semantics.specs.Depth.{ValuesAt, AllTypedIn}
use Rattle.st_semantics.specs.Kinds.{BeginsWith, AreOfItsKind}
use Rattle.st_semantics.specs.Laws.{CallsAreSingle}
use Rattle.st_semantics.proofs.Names.{bytes-path, within-right}
use Rattle.st_semantics.proofs.Elements.{EachTyped, no_index}
use Rattle.st_semantics.proofs.TypedParts.{gathered_typed}
use Rattle.st_eval.specs.Steps.{HasOnly}
use Rattle.st_eval.specs.Elements.{AllHoldWith, Gathers, LawOfLists, LawOfGathered}
use Rattle.st_eval.proofs.Trying.{some_typed}
use Rattle.st_eval.proofs.Unfolded.{IsUnfolded, own_name, gathered_only}
use Rattle.st_eval.proofs.Iterations.{iterates}

-- a type in one kind more
wrap_step : (k : Kind) (ds : List Kind) (t : Ty) → wrapped (k ∷ []) (wrapped ds t) ≡ wrapped (k ∷ ds) t
wrap_step kind.List ds t = refl
wrap_step kind.Opt ds t = refl

outer_type : (k : Kind) (ds : List Kind) (t : Ty) → BeginsWith k ds → wrapped (k ∷ []) (wrapped (inner ds) t) ≡ wrapped ds t
outer_type k [] t h = absurd h
outer_type k (e ∷ ds) t h = wrap_step k ds t ∙ ap (λ z. wrapped (z ∷ ds) t) (sym h)

-- a listed variable has the name that it is listed under
listed_name : (x : Name) (ls : List Listed) (l : Listed) → listed_as x ls ≡ Some l → x ≡ l.name
listed_name x [] l e = cc
listed_name x (m ∷ ms) l e = at (bytes_eq x m.name) refl e (listed_name x ms l)
  where
    at : (b : Bool) → bytes_eq x m.name ≡ b → (if b then Some m else listed_as x ms) ≡ Some l → (listed_as x ms ≡ Some l → x ≡ l.name) → x ≡ l.name
    at true j e ih = let same : m ≡ l = cc in bytes-path x m.name j ∙ ap (λ (z : Listed). z.name) same
    at false j e ih = ih e

-- how it is listed inside
listed_stepped : (x : Name) (xs : List Name) (ls : List Listed) (l : Listed) → listed_as x ls ≡ Some l → listed_as x (stepped_all xs ls) ≡ Some (stepped xs l)
listed_stepped x xs [] l e = cc
listed_stepped x xs (m ∷ ms) l e = at (bytes_eq x m.name) e (listed_stepped x xs ms l)
  where
    at : (b : Bool) → (if b then Some m else listed_as x ms) ≡ Some l → (listed_as x ms ≡ Some l → listed_as x (stepped_all xs ms) ≡ Some (stepped xs l)) → (if b then Some (stepped xs m) else listed_as x (stepped_all xs ms)) ≡ Some (stepped xs l)
    at true e ih = let same : m ≡ l = cc in ap (λ z. Some (stepped xs z)) same
    at false e ih = ih e

abbrev inner_dim : Bool → Listed → List Kind
inner_dim b l = if b then inner l.dim else l.dim

module _ (il : Il) (bound : List Name) (ls : List Listed) (p : IlPrem) (how : Iteration) (xs : List Name) (body : IlPrem) (u : IsUnfolded bound ls p how xs body) (kinded : AreOfItsKind how xs ls) where
  abbrev Scope : List Listed
  Scope = listed_inside how xs ls

  module _ (x : Name) (l : Listed) (iterated : has_name xs x ≡ true) (listed : listed_as x ls ≡ Some l) where
    own : (has_name (index_of how) x ≡ false) × (has_name (prem_vars body) x ≡ true)
    own = own_name il bound ls p how xs body u x iterated

    inside : listed_as x Scope ≡ Some (stepped xs l)
    inside = no_index (index_of how) x (stepped_all xs ls) own.0 ∙ listed_stepped x xs ls l listed

    element_type : type_of (stepped xs l) ≡ wrapped (inner l.dim) l.ty
    element_type = ap (λ b. wrapped (inner_dim b l) l.ty) (ap (has_name xs) (sym (listed_name x ls l listed)) ∙ iterated)

    each_typed : (found : List Env) (vs : List Value) → AllTypedIn il Scope (prem_vars body) found → ValuesAt x found vs → EachTyped (syntaxes il) (wrapped (inner l.dim) l.ty) vs
    each_typed [] [] all at = tt
    each_typed [] (v ∷ vs) all at = absurd at
    each_typed (f ∷ found) [] all at = absurd at
    each_typed (f ∷ found) (v ∷ vs) all at = (
      subst (λ z. IsTypedValue (syntaxes il) z v) element_type (some_typed (syntaxes il) (stepped xs l) (value_in f x) v (all.0 x own.1 (stepped xs l) inside) at.0),
      each_typed found vs all.1 at.1,
    )

    pub list_typed : (found : List Env) (vs : List Value) (v : Value) → AllTypedIn il Scope (prem_vars body) found → ValuesAt x found vs → gathered_as (kind_of how) vs ≡ Val v → IsTypedValue (syntaxes il) (type_of l) v
    list_typed found vs v all at made =
        subst (λ z. IsTypedValue (syntaxes il) z v) (outer_type (kind_of how) l.dim l.ty (kinded x iterated l listed))
        (gathered_typed (syntaxes il) (kind_of how) (wrapped (inner l.dim) l.ty) vs v (each_typed found vs all at) made)

  -- an environment of what is gathered has the variables, each of its type
  pub gathered_variables : (env : Env) (found : List Env) → AllTypedIn il Scope (prem_vars body) found → HasOnly il ls bound env → (more : Env) → Gathers bound env how xs found more → ((x : Name) → has_name (names_of more) x ≡ has_name (bound ++ prem_vars p) x)
      → ((e : IlExp) (x : Name) → count_of how ≡ e ∷ [] → out-IlExp e ≡ IlExp-F.Var x → has_name bound x ≡ false → (l : Listed) → listed_as x ls ≡ Some l → IsSomeTyped (syntaxes il) (type_of l) (value_in more x))
      → HasOnly il ls (bound ++ prem_vars p) more
  gathered_variables env found all only more g names number =
      gathered_only il bound ls p how xs body u env more only g.agrees names (λ x k i l at.
      let v = g.lists x k i in
      subst (IsSomeTyped (syntaxes il) (type_of l)) (sym v.4) (list_typed x l i at found v.1 v.0 all v.2 v.3)) number

-- what holds at elements is typed there
all_typed : (il : Il) (n : ℕ) (bound : List Name) (ls : List Listed) (p : IlPrem) (elements found : List Env) → AllHoldWith il n bound ls p elements found → AllTypedIn il ls (prem_vars p) found
all_typed il n bound ls p [] [] all = tt
all_typed il n bound ls p [] (f ∷ fs) all = absurd all
all_typed il n bound ls p (e ∷ es) [] all = absurd all
all_typed il n bound ls p (e ∷ es) (f ∷ fs) all = (λ x i l at. all.0.variables.typed x (within-right bound (prem_vars p) x i) l at, all_typed il n bound ls p es fs all.1)

pub law_of_lists : (il : Il) → CallsAreSingle il → LawOfLists il
law_of_lists il single n bound ls env p how xs body each elements found all x l iterated listed vs v at made =
    list_typed il bound ls p how xs body (iterates il bound ls p how xs body each) each.kinded x l iterated listed found vs v (all_typed il n (index_of how ++ bound) (listed_inside how xs ls) body elements found all) at made

pub law_of_gathered : (il : Il) → CallsAreSingle il → LawOfGathered il
law_of_gathered il single n bound ls env p how xs body each elements found all only more g names number =
    gathered_variables il bound ls p how xs body (iterates il bound ls p how xs body each) each.kinded env found (all_typed il n (index_of how ++ bound) (listed_inside how xs ls) body elements found all) only more g names number
