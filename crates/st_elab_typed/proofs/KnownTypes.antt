-- The names in types that a source leads to are declared.
use Rattle.std.proofs.Common.{◌≡◌, refl, sym, ◌∙◌, ap, subst, ℕ, List, [], ◌∷◌, map, Bool, true, false}
use Rattle.std.specs.Prelude.{Option, Some, None, if◌then◌else◌}
use Rattle.std.specs.List.{AllByRecursion, flat_map}
use Rattle.std.specs.Map.{lookup}
use Rattle.std.specs.Option.{option_or, option_map}
use Rattle.st_num.specs.Names.{same_name}
use Rattle.st_num.specs.declared.dim.Kind.{Kind}
use Rattle.st_num.specs.declared.dim.Kind.TheVariants as kind
use Rattle.st_il.specs.declared.definition.Alternative.{Alternative}
use Rattle.st_il.specs.declared.definition.FunDef.{FunDef}
use Rattle.st_il.specs.declared.definition.SyntaxBody.{SyntaxBody}
use Rattle.st_il.specs.declared.definition.SyntaxBody.TheVariants as body
use Rattle.st_il.specs.declared.ty.Ty.{Ty, out-Ty, map-Ty, fold_out-Ty}
use Rattle.st_il.specs.declared.ty.Ty.TheOpen.{Ty-F}
use Rattle.st_il.specs.declared.ty.Ty.TheVariants as ty
use Rattle.st_il.specs.declared.ty.NumTy.{NumTy}
use Rattle.st_il.specs.declared.ty.NumTy.TheVariants as number
use Rattle.st_type_table.specs.declared.entry.CaseDef.{CaseDef}
use Rattle.st_type_table.specs.Leads.{names_in, names_at}
use Rattle.st_type_table.specs.Meaning.{body_of, named_at, named, aliased, alternatives_of, Means, itself, alias, listed as listed_alternatives, recorded}
use Rattle.st_type_table.specs.Cases.{or_none, Brings, own, included, Flatten, none as flat_none, more as flat_more, HasCases}
use Rattle.st_type_table.specs.Keys.{IsFirstWith, here, later}
use Rattle.st_elab_table.specs.declared.decls.Decls.{Decls}
use Rattle.st_elab_table.specs.Iterations.{of_kind}
use Rattle.st_elab_table.specs.Choice.{IsChosenBy, keyed, keyless}
use Rattle.st_elab_table.specs.Inferred.{fun_named}
use Rattle.st_elab_table.specs.Variables.{named_type, written_type, syntax_type, first_type, remaining, type_of_name}
use Rattle.st_elab_table.specs.Steps.{number_type}
use Rattle.st_elab_typed.specs.Citations.{IsSyntax, IsKnown, AlternativeKnown, BodyKnown, AreKnown}
use Rattle.st_elab_typed.proofs.Members.{same_path, Each-append, Each-left, Each-right}

-- ---- what is looked up

pub looked_up : {A : Type 0} (P : A → Type 0) (name : List ℕ) (es : List (List ℕ × A)) (a : A) → AllByRecursion (λ (e : List ℕ × A). P e.1) es → lookup (same_name name) es ≡ Some a → P a
looked_up P name [] a h s = let bad : None ≡ Some a = s in cc
looked_up P name (e ∷ es) a h s = by (same_name name e.0) s (looked_up P name es a h.1)
  where
    by : (b : Bool) → (if b then Some e.1 else lookup (same_name name) es) ≡ Some a → (lookup (same_name name) es ≡ Some a → P a) → P a
    by true s rest = let same : e.1 ≡ a = cc in subst P same h.0
    by false s rest = rest s

-- the function that is found has the name
pub fun_name : (fs : List FunDef) (name : List ℕ) (f : FunDef) → fun_named fs name ≡ Some f → f.name ≡ name
fun_name [] name f s = let bad : None ≡ Some f = s in cc
fun_name (g ∷ gs) name f s = by (same_name name g.name) refl s (fun_name gs name f)
  where
    by : (b : Bool) → same_name name g.name ≡ b → (if b then Some g else fun_named gs name) ≡ Some f → (fun_named gs name ≡ Some f → f.name ≡ name) → f.name ≡ name
    by true e k rest = let same : g ≡ f = cc in ap (λ (z : FunDef). z.name) (sym same) ∙ sym (same_path name g.name e)
    by false e k rest = rest k

pub fun_itself : (fs : List FunDef) (name : List ℕ) (f : FunDef) → fun_named fs name ≡ Some f → fun_named fs f.name ≡ Some f
fun_itself fs name f s = ap (fun_named fs) (fun_name fs name f s) ∙ s

module _ (D : Decls) where
  -- ---- types

  names-level : (t : Ty) (y : Ty-F Ty) → out-Ty t ≡ y → names_in t ≡ names_at (map-Ty Ty (List (List ℕ)) names_in y)
  names-level t y is = fold_out-Ty (List (List ℕ)) names_at t ∙ ap (λ z. names_at (map-Ty Ty (List (List ℕ)) names_in z)) is

  known_by : (t : Ty) (names : List (List ℕ)) → names_in t ≡ names → AllByRecursion (IsSyntax D) names → IsKnown D t
  known_by t names is h = subst (AllByRecursion (IsSyntax D)) (sym is) h

  pub known-Bool : IsKnown D ty.Bool
  known-Bool = known_by ty.Bool [] (names-level ty.Bool _ ty.outs-Bool) tt

  pub known-Nat : IsKnown D ty.Nat
  known-Nat = known_by ty.Nat [] (names-level ty.Nat _ ty.outs-Nat) tt

  pub known-Int : IsKnown D ty.Int
  known-Int = known_by ty.Int [] (names-level ty.Int _ ty.outs-Int) tt

  pub known-Text : IsKnown D ty.Text
  known-Text = known_by ty.Text [] (names-level ty.Text _ ty.outs-Text) tt

  pub known-List : (x : Ty) → IsKnown D x → IsKnown D (ty.List x)
  known-List x h = known_by (ty.List x) (names_in x) (names-level (ty.List x) _ (ty.outs-List x)) h

  known-Opt : (x : Ty) → IsKnown D x → IsKnown D (ty.Opt x)
  known-Opt x h = known_by (ty.Opt x) (names_in x) (names-level (ty.Opt x) _ (ty.outs-Opt x)) h

  parts_known : (ts : List Ty) → AllByRecursion (IsKnown D) ts → AllByRecursion (IsSyntax D) (flat_map (λ (names : List (List ℕ)). names) (map names_in ts))
  parts_known [] h = tt
  parts_known (t ∷ ts) h = Each-append (IsSyntax D) (names_in t) (flat_map (λ (names : List (List ℕ)). names) (map names_in ts)) h.0 (parts_known ts h.1)

  known_parts : (ts : List Ty) → AllByRecursion (IsSyntax D) (flat_map (λ (names : List (List ℕ)). names) (map names_in ts)) → AllByRecursion (IsKnown D) ts
  known_parts [] h = tt
  known_parts (t ∷ ts) h = (
    Each-left (IsSyntax D) (names_in t) (flat_map (λ (names : List (List ℕ)). names) (map names_in ts)) h,
    known_parts ts (Each-right (IsSyntax D) (names_in t) (flat_map (λ (names : List (List ℕ)). names) (map names_in ts)) h),
  )

  pub known-Tuple : (ts : List Ty) → AllByRecursion (IsKnown D) ts → IsKnown D (ty.Tuple ts)
  known-Tuple ts h = known_by (ty.Tuple ts) _ (names-level (ty.Tuple ts) _ (ty.outs-Tuple ts)) (parts_known ts h)

  known-Name : (name : List ℕ) → IsSyntax D name → IsKnown D (ty.Name name)
  known-Name name h = known_by (ty.Name name) (name ∷ []) (names-level (ty.Name name) _ (ty.outs-Name name)) (h, tt)

  pub element_known : (u x : Ty) → out-Ty u ≡ Ty-F.List x → IsKnown D u → IsKnown D x
  element_known u x is h = subst (AllByRecursion (IsSyntax D)) (names-level u (Ty-F.List x) is) h

  pub option_known : (u x : Ty) → out-Ty u ≡ Ty-F.Opt x → IsKnown D u → IsKnown D x
  option_known u x is h = subst (AllByRecursion (IsSyntax D)) (names-level u (Ty-F.Opt x) is) h

  pub tuple_known : (u : Ty) (ts : List Ty) → out-Ty u ≡ Ty-F.Tuple ts → IsKnown D u → AllByRecursion (IsKnown D) ts
  tuple_known u ts is h = known_parts ts (subst (AllByRecursion (IsSyntax D)) (names-level u (Ty-F.Tuple ts) is) h)

  pub name_known : (u : Ty) (name : List ℕ) → out-Ty u ≡ Ty-F.Name name → IsKnown D u → IsSyntax D name
  name_known u name is h = (subst (AllByRecursion (IsSyntax D)) (names-level u (Ty-F.Name name) is) h).0

  pub number_known : (n : NumTy) → IsKnown D (number_type n)
  number_known number.Nat = known-Nat
  number_known number.Int = known-Int

  pub kind_known : (k : Kind) (t : Ty) → IsKnown D t → IsKnown D (of_kind k t)
  kind_known kind.List t h = known-List t h
  kind_known kind.Opt t h = known-Opt t h

  module _ (known : AreKnown D) where
    -- ---- what types mean

    -- the body of a type that names one
    named_known : (t : Ty) (b : SyntaxBody) → named D.types t ≡ Some b → BodyKnown D b
    named_known t b h = by (out-Ty t) refl h
      where
        by : (y : Ty-F Ty) → out-Ty t ≡ y → named D.types t ≡ Some b → BodyKnown D b
        by (Ty-F.Name name) is s = known.bodies name b (ap (λ z. named_at D.types z) (sym is) ∙ s)
        by Ty-F.Bool is s = let bad : None ≡ Some b = ap (λ z. named_at D.types z) (sym is) ∙ s in cc
        by Ty-F.Nat is s = let bad : None ≡ Some b = ap (λ z. named_at D.types z) (sym is) ∙ s in cc
        by Ty-F.Int is s = let bad : None ≡ Some b = ap (λ z. named_at D.types z) (sym is) ∙ s in cc
        by Ty-F.Text is s = let bad : None ≡ Some b = ap (λ z. named_at D.types z) (sym is) ∙ s in cc
        by (Ty-F.List u) is s = let bad : None ≡ Some b = ap (λ z. named_at D.types z) (sym is) ∙ s in cc
        by (Ty-F.Opt u) is s = let bad : None ≡ Some b = ap (λ z. named_at D.types z) (sym is) ∙ s in cc
        by (Ty-F.Tuple us) is s = let bad : None ≡ Some b = ap (λ z. named_at D.types z) (sym is) ∙ s in cc

    alias_known : (t u : Ty) (o : Option SyntaxBody) → named D.types t ≡ o → aliased o ≡ Some u → IsKnown D u
    alias_known t u None is h = let bad : None ≡ Some u = h in cc
    alias_known t u (Some (body.Alias v)) is h = let same : v ≡ u = cc in subst (IsKnown D) same (named_known t (body.Alias v) is)
    alias_known t u (Some (body.Variant alternatives)) is h = let bad : None ≡ Some u = h in cc
    alias_known t u (Some (body.Fields fields)) is h = let bad : None ≡ Some u = h in cc

    -- what a known type means is known
    pub means_known : (t u : Ty) → IsKnown D t → Means D.types t u → IsKnown D u
    means_known t u h (itself a same) = subst (IsKnown D) same h
    means_known t u h (alias v a m) = means_known v u (alias_known t v (named D.types t) refl a) m

    pub fields_known : (t : Ty) (fields : List (List ℕ × Ty)) (o : Option SyntaxBody) → named D.types t ≡ o → recorded o ≡ Some fields → AllByRecursion (λ (f : List ℕ × Ty). IsKnown D f.1) fields
    fields_known t fields None is h = let bad : None ≡ Some fields = h in cc
    fields_known t fields (Some (body.Alias v)) is h = let bad : None ≡ Some fields = h in cc
    fields_known t fields (Some (body.Variant alternatives)) is h = let bad : None ≡ Some fields = h in cc
    fields_known t fields (Some (body.Fields gs)) is h = let same : gs ≡ fields = cc in subst (AllByRecursion (λ (f : List ℕ × Ty). IsKnown D f.1)) same (named_known t (body.Fields gs) is)

    alternatives_known : (t : Ty) (alternatives : List Alternative) (o : Option SyntaxBody) → named D.types t ≡ o → listed_alternatives o ≡ Some alternatives → AllByRecursion (AlternativeKnown D) alternatives
    alternatives_known t as' None is h = let bad : None ≡ Some as' = h in cc
    alternatives_known t as' (Some (body.Alias v)) is h = let bad : None ≡ Some as' = h in cc
    alternatives_known t as' (Some (body.Variant bs)) is h = let same : bs ≡ as' = cc in subst (AllByRecursion (AlternativeKnown D)) same (named_known t (body.Variant bs) is)
    alternatives_known t as' (Some (body.Fields fields)) is h = let bad : None ≡ Some as' = h in cc

    or_none_known : (t : Ty) (o : Option (List Alternative)) → alternatives_of D.types t ≡ o → AllByRecursion (AlternativeKnown D) (or_none o)
    or_none_known t None is = tt
    or_none_known t (Some as') is = alternatives_known t as' (named D.types t) refl is

    -- the operands of a case are known
    abbrev CaseKnown : CaseDef → Type 0
    CaseKnown c = AllByRecursion (IsKnown D) c.operands

    mutual
      brings_known : (a : Alternative) (cases : List CaseDef) → AlternativeKnown D a → Brings D.types a cases → AllByRecursion CaseKnown cases
      brings_known a cases h (own tag operands is are) = subst (AllByRecursion CaseKnown) (sym are) (subst (AlternativeKnown D) is h, tt)
      brings_known a cases h (included name t is m flat) = flatten_known (or_none (alternatives_of D.types t)) cases (or_none_known t (alternatives_of D.types t) refl) flat

      flatten_known : (as' : List Alternative) (cases : List CaseDef) → AllByRecursion (AlternativeKnown D) as' → Flatten D.types as' cases → AllByRecursion CaseKnown cases
      flatten_known [] cases h (flat_none is) = subst (AllByRecursion CaseKnown) (sym is) tt
      flatten_known (a ∷ as') cases h (flat_more first rest b f is) =
          subst (AllByRecursion CaseKnown) (sym is) (Each-append CaseKnown first rest (brings_known a first h.0 b) (flatten_known as' rest h.1 f))

    pub cases_known : (t : Ty) (cases : List CaseDef) → HasCases D.types t cases → AllByRecursion CaseKnown cases
    cases_known t cases h = flatten_known h.alternatives cases (alternatives_known h.variant h.alternatives (named D.types h.variant) refl h.declared) h.flattened

    first_known : (k : _) (cases : List CaseDef) (c : CaseDef) → AllByRecursion CaseKnown cases → IsFirstWith k cases c → CaseKnown c
    first_known k [] c h f = elim f [ ]
    first_known k (d ∷ ds) c h (here key) = h.0
    first_known k (d ∷ ds) c h (later differs f) = first_known k ds c h.1 f

    pub chosen_known : (k : _) (cases : List CaseDef) (c : CaseDef) → AllByRecursion CaseKnown cases → IsChosenBy k cases c → CaseKnown c
    chosen_known k cases c h (keyed f) = first_known k cases c h f
    chosen_known k cases c h (keyless differs f) = first_known _ cases c h f

    -- the type of a name is known
    written_known : (b c d e : Bool) (t : Ty) → (if b then Some ty.Bool else if c then Some ty.Nat else if d then Some ty.Int else if e then Some ty.Text else None) ≡ Some t → IsKnown D t
    written_known true c d e t h = let same : ty.Bool ≡ t = cc in subst (IsKnown D) same known-Bool
    written_known false true d e t h = let same : ty.Nat ≡ t = cc in subst (IsKnown D) same known-Nat
    written_known false false true e t h = let same : ty.Int ≡ t = cc in subst (IsKnown D) same known-Int
    written_known false false false true t h = let same : ty.Text ≡ t = cc in subst (IsKnown D) same known-Text
    written_known false false false false t h = let bad : None ≡ Some t = h in cc

    syntax_known : (name : List ℕ) (o : Option SyntaxBody) (t : Ty) → body_of D.types name ≡ o → option_map (λ (b : SyntaxBody). ty.Name name) o ≡ Some t → IsKnown D t
    syntax_known name None t is h = let bad : None ≡ Some t = h in cc
    syntax_known name (Some b) t is h =
        let same : ty.Name name ≡ t = cc in
        subst (IsKnown D) same (known-Name name (λ none_there. let bad : Some b ≡ None = sym is ∙ none_there in cc))

    pub either_known : (o p : Option Ty) (t : Ty) → option_or o p ≡ Some t → (o ≡ Some t → IsKnown D t) → (p ≡ Some t → IsKnown D t) → IsKnown D t
    either_known None p t h k l = l h
    either_known (Some u) p t h k l = k h

    named_type_known : (name : List ℕ) (t : Ty) → named_type D name ≡ Some t → IsKnown D t
    named_type_known name t h =
        either_known (lookup (same_name name) D.vars) (option_or (syntax_type D name) (written_type name)) t h (looked_up (IsKnown D) name D.vars t known.vars)
        (λ k. either_known (syntax_type D name) (written_type name) t k (syntax_known name (body_of D.types name) t refl) (λ l. written_known _ _ _ _ t l))

    first_type_known : (names : List (List ℕ)) (t : Ty) → first_type D names ≡ Some t → IsKnown D t
    first_type_known [] t h = let bad : None ≡ Some t = h in cc
    first_type_known (name ∷ names) t h = either_known (named_type D name) (first_type D names) t h (named_type_known name t) (first_type_known names t)

    pub name_type_known : (name : List ℕ) (t : Ty) → type_of_name D name ≡ Some t → IsKnown D t
    name_type_known name t h = first_type_known (remaining name) t h

    pub fun_known : (fs : List FunDef) (P : FunDef → Type 0) (name : List ℕ) (f : FunDef) → AllByRecursion P fs → fun_named fs name ≡ Some f → P f
    fun_known [] P name f h s = let bad : None ≡ Some f = s in cc
    fun_known (g ∷ gs) P name f h s = by (same_name name g.name) s (fun_known gs P name f h.1)
      where
        by : (b : Bool) → (if b then Some g else fun_named gs name) ≡ Some f → (fun_named gs name ≡ Some f → P f) → P f
        by true s rest = let same : g ≡ f = cc in subst P same h.0
        by false s rest = rest s
