-- Aliases come to an end where the syntaxes break no rule.
use Rattle.std.proofs.Common.{◌≡◌, refl, sym, ◌∙◌, ap, subst, ℕ, zero, suc, ◌<◌, List, [], ◌∷◌, ◌++◌, length, Bool, true, false, true≢false, ◌||◌, inl, inr, arith}
use Rattle.std.specs.Prelude.{◌⊎◌, Option, Some, None, if◌then◌else◌, slice_get}
use Rattle.st_num.specs.Names.{same_name, is_among}
use Rattle.st_il.specs.declared.ty.Ty.{Ty, out-Ty, map-Ty, fold_out-Ty}
use Rattle.st_il.specs.declared.ty.Ty.TheOpen.{Ty-F}
use Rattle.st_il.specs.declared.definition.SyntaxDef.{SyntaxDef}
use Rattle.st_il.specs.declared.definition.SyntaxBody.{SyntaxBody}
use Rattle.st_il.specs.declared.definition.SyntaxBody.TheVariants as body
use Rattle.st_type_table.specs.Meaning.{body_of, named_at, aliased, alias_of, Means, itself, alias}
use Rattle.st_type_table.specs.Leads.{Among, names_at, names_in, leads_from, next_of, Leads, here, step}
use Rattle.st_type_table.specs.Breach.{on_alias, on_body, AllHold, IsSound}
use Rattle.st_type_table.proofs.InsertionLemmas.{same-equal}
use Rattle.st_elab_law.proofs.Unpassed.{unpassed, unpassed-fewer}

-- Each type means something.
abbrev pub AliasesEnd : List SyntaxDef → Type 0
AliasesEnd defs = (t : Ty) → (u : Ty) × Means defs t u

among-split : (name v : List ℕ) (passed : List (List ℕ)) → is_among name (passed ++ v ∷ []) ≡ true → (is_among name passed ≡ true) ⊎ (same_name name v ≡ true)
among-split name v [] h = by (same_name name v) h
  where
    by : (b : Bool) → (b || false) ≡ true → (false ≡ true) ⊎ (b ≡ true)
    by true k = inr refl
    by false k = inl k
among-split name v (p ∷ ps) h = by (same_name name p) h (among-split name v ps)
  where
    by : (b : Bool) → (b || is_among name (ps ++ v ∷ [])) ≡ true → (is_among name (ps ++ v ∷ []) ≡ true → (is_among name ps ≡ true) ⊎ (same_name name v ≡ true)) → ((b || is_among name ps) ≡ true) ⊎ (same_name name v ≡ true)
    by true k more = inl refl
    by false k more = more k

-- the definition of a name
record Found (defs : List SyntaxDef) (name : List ℕ) (b : SyntaxBody) : Type 0 where
  place : ℕ
  definition : SyntaxDef
  within : place < length defs
  there : slice_get defs place ≡ Some definition
  named : name ≡ definition.name
  is : definition.body ≡ b

found : (defs : List SyntaxDef) (name : List ℕ) (b : SyntaxBody) → body_of defs name ≡ Some b → Found defs name b
found [] name b h = absurd (cc)
found (d ∷ ds) name b h = by (same_name name d.name) refl h (found ds name b)
  where
    by : (c : Bool) → same_name name d.name ≡ c → (if c then Some d.body else body_of ds name) ≡ Some b → (body_of ds name ≡ Some b → Found ds name b) → Found (d ∷ ds) name b
    by true same k later = record { place = 0; definition = d; within = omega arith; there = refl; named = same-equal name d.name same; is = cc }
    by false same k later =
        let f = later k in
        let l : f.place < length ds = f.within in
        record { place = suc f.place; definition = f.definition; within = omega (arith, l); there = f.there; named = f.named; is = f.is }

module _ (defs : List SyntaxDef) (sound : IsSound defs) where
  never-back : (target : List ℕ) (number : ℕ) (names : List (List ℕ)) → AllHold defs (on_alias target number names) → (name : List ℕ) → Among names name → Leads defs name target → ⊥
  never-back target number [] h name a l = a
  never-back target number (x ∷ xs) h name (inl e) l = h.1.0 (subst (λ z. Leads defs z target) e l)
  never-back target number (x ∷ xs) h name (inr a) l = never-back target (suc number) xs h.1.1 name a l

  -- what an alias names does not lead back to it
  alias-ahead : (n m : List ℕ) (w : Ty) → body_of defs n ≡ Some (body.Alias w) → Among (names_in w) m → Leads defs m n → ⊥
  alias-ahead n m w is a l =
      let f = found defs n (body.Alias w) is in
      let holds : AllHold defs (on_body f.definition.name f.definition.body) = (sound f.place f.within f.definition f.there).1 in
      never-back f.definition.name 0 (names_in w) (subst (λ b. AllHold defs (on_body f.definition.name b)) f.is holds) m a (subst (λ z. Leads defs m z) f.named l)

  names-one : (w : Ty) (m : List ℕ) → out-Ty w ≡ Ty-F.Name m → names_in w ≡ m ∷ []
  names-one w m is = fold_out-Ty (List (List ℕ)) names_at w ∙ ap (λ z. names_at (map-Ty Ty (List (List ℕ)) names_in z)) is

  -- no name of the type leads to one that is passed
  abbrev Ahead : Ty → List (List ℕ) → Type 0
  Ahead t passed = (p n : List ℕ) → is_among p passed ≡ true → out-Ty t ≡ Ty-F.Name n → Leads defs n p → ⊥

  among-names : (n m : List ℕ) (w : Ty) → body_of defs n ≡ Some (body.Alias w) → out-Ty w ≡ Ty-F.Name m → Among (next_of defs n) m
  among-names n m w is name = subst (λ z. Among z m) (sym (ap leads_from is ∙ names-one w m name)) (inl refl)

  ahead-next : (t w : Ty) (n : List ℕ) (passed : List (List ℕ)) → out-Ty t ≡ Ty-F.Name n → body_of defs n ≡ Some (body.Alias w) → Ahead t passed → Ahead w (passed ++ n ∷ [])
  ahead-next t w n passed name is ahead p m among named leads = by (among-split p n passed among)
    where
      by : (is_among p passed ≡ true) ⊎ (same_name p n ≡ true) → ⊥
      by (inl before) = ahead p n before name (step m (among-names n m w is named) leads)
      by (inr same) = alias-ahead n m w is (subst (λ z. Among z m) (sym (names-one w m named)) (inl refl)) (subst (λ z. Leads defs m z) (same-equal p n same) leads)

  abbrev Meaning : Ty → Type 0
  Meaning t = (u : Ty) × Means defs t u

  aliased-by : (t w : Ty) (o : Option SyntaxBody) → aliased o ≡ Some w → o ≡ Some (body.Alias w)
  aliased-by t w None h = absurd (cc)
  aliased-by t w (Some (body.Alias v)) h = let same : v ≡ w = cc in ap (λ z. Some (body.Alias z)) same
  aliased-by t w (Some (body.Variant alternatives)) h = absurd (cc)
  aliased-by t w (Some (body.Fields fields)) h = absurd (cc)

  meaning : (r : ℕ) (passed : List (List ℕ)) (t : Ty) → Ahead t passed → unpassed defs passed < r → Meaning t
  meaning zero passed t ahead less = absurd (omega (arith, less))
  meaning (suc r) passed t ahead less = by (alias_of defs t) refl (λ w. meaning r)
    where
      named : (w : Ty) (y : Ty-F Ty) → out-Ty t ≡ y → aliased (named_at defs y) ≡ Some w → ((n : List ℕ) → out-Ty t ≡ Ty-F.Name n → body_of defs n ≡ Some (body.Alias w) → Meaning t) → Meaning t
      named w (Ty-F.Name n) o h go = go n o (aliased-by t w (body_of defs n) h)
      named w Ty-F.Bool o h go = absurd (cc)
      named w Ty-F.Nat o h go = absurd (cc)
      named w Ty-F.Int o h go = absurd (cc)
      named w Ty-F.Text o h go = absurd (cc)
      named w (Ty-F.List x) o h go = absurd (cc)
      named w (Ty-F.Opt x) o h go = absurd (cc)
      named w (Ty-F.Tuple xs) o h go = absurd (cc)

      through : (w : Ty) (n : List ℕ) (c : Bool) → is_among n passed ≡ c → alias_of defs t ≡ Some w → out-Ty t ≡ Ty-F.Name n → body_of defs n ≡ Some (body.Alias w)
          → ((passed : List (List ℕ)) (t : Ty) → Ahead t passed → unpassed defs passed < r → Meaning t) → Meaning t
      through w n true among is name written next = absurd (ahead n n among name (here refl))
      through w n false among is name written next =
          let fewer = unpassed-fewer defs passed n (body.Alias w) written among in
          let m = next (passed ++ n ∷ []) w (ahead-next t w n passed name written ahead) (omega (arith, fewer, less)) in
          (m.0, alias w is m.1)

      by : (o : Option Ty) → alias_of defs t ≡ o → ((w : Ty) (passed : List (List ℕ)) (t : Ty) → Ahead t passed → unpassed defs passed < r → Meaning t) → Meaning t
      by None is next = (t, itself is refl)
      by (Some w) is next = named w (out-Ty t) refl is (λ n name written. through w n (is_among n passed) refl is name written (next w))

  pub AliasesEnd-sound : AliasesEnd defs
  AliasesEnd-sound t = meaning (suc (unpassed defs [])) [] t (λ p n among. absurd (true≢false (sym among))) (omega arith)
