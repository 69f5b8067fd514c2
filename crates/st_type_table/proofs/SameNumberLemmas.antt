-- Types are equal through aliases where they have one number.
use Rattle.std.proofs.Common.{◌≡◌, ◌↔◌, refl, sym, ap, ◌∙◌, subst, ℕ, zero, suc, ◌<◌, List, [], ◌∷◌, map, Bool, true, false, true≢false, Option, Some, None, arith, inl, inr, ◌⊎◌}
use Rattle.std.specs.Prelude.{slice_get, IsTrue, nat_eq}
use Rattle.std.proofs.lemmas.Bool.{eqb-true, eq-eqb}
use Rattle.st_il.specs.declared.ty.Ty.{Ty, out-Ty, roll-Ty, roll-out-Ty, map-Ty}
use Rattle.st_il.specs.declared.ty.Ty.TheOpen.{Ty-F}
use Rattle.st_il.specs.declared.ty.Ty.TheVariants as ty
use Rattle.st_il.specs.declared.definition.SyntaxDef.{SyntaxDef}
use Rattle.st_type_table.specs.declared.form.Form.{Form}
use Rattle.st_type_table.specs.declared.form.Form.TheVariants as form
use Rattle.st_type_table.specs.Meaning.{Means, itself, alias, alias_of, aliased, named_at}
use Rattle.st_type_table.specs.Same.{Same, SameAll}
use Rattle.st_type_table.specs.inner.SameLevels.{SameAt}
use Rattle.st_type_table.specs.inner.Forms.{Numbers, number_of, list_number, option_number, tuple_number, number_at, type_number, parts_number, is_name, AreOneName, AreAlike, PartsBelow, AreForms}
use Rattle.st_type_table.proofs.FormLemmas.{form-found, number-level, list-part, option-part, pair-parts, none-some}
use Rattle.st_type_table.proofs.SameLemmas.{to, same-closed_by, same-opened, Same-refl}

-- ---- what aliases stand for has their number

-- what the top of a type is an alias of
at-name : (defs : List SyntaxDef) (t s : Ty) (l : Ty-F Ty) → out-Ty t ≡ l → alias_of defs t ≡ Some s → (name : List ℕ) × (l ≡ Ty-F.Name name) × (aliased (named_at defs l) ≡ Some s)
at-name defs t s (Ty-F.Name name) e a = (name, refl, ap (λ z. aliased (named_at defs z)) (sym e) ∙ a)
at-name defs t s Ty-F.Bool e a = none-some (ap (λ z. aliased (named_at defs z)) (sym e) ∙ a) _
at-name defs t s Ty-F.Nat e a = none-some (ap (λ z. aliased (named_at defs z)) (sym e) ∙ a) _
at-name defs t s Ty-F.Int e a = none-some (ap (λ z. aliased (named_at defs z)) (sym e) ∙ a) _
at-name defs t s Ty-F.Text e a = none-some (ap (λ z. aliased (named_at defs z)) (sym e) ∙ a) _
at-name defs t s (Ty-F.List x) e a = none-some (ap (λ z. aliased (named_at defs z)) (sym e) ∙ a) _
at-name defs t s (Ty-F.Opt x) e a = none-some (ap (λ z. aliased (named_at defs z)) (sym e) ∙ a) _
at-name defs t s (Ty-F.Tuple xs) e a = none-some (ap (λ z. aliased (named_at defs z)) (sym e) ∙ a) _

module _ (defs : List SyntaxDef) (numbers : Numbers) (forms : List Form) (are : AreForms defs numbers forms) where
  number : Ty → Option ℕ
  number t = type_number numbers forms t

  alias-number : (t s : Ty) → alias_of defs t ≡ Some s → type_number numbers forms t ≡ type_number numbers forms s
  alias-number t s a =
      let n = at-name defs t s (out-Ty t) refl a in
      by n.0 (number-level numbers forms t (Ty-F.Name n.0) n.1) (ap (λ z. aliased (named_at defs z)) (sym n.1) ∙ n.2) (number_of numbers n.0) refl
    where
      by : (name : List ℕ) → type_number numbers forms t ≡ number_of numbers name → aliased (named_at {X = Ty} defs (Ty-F.Name name)) ≡ Some s
          → (o : Option ℕ) → number_of numbers name ≡ o → type_number numbers forms t ≡ type_number numbers forms s
      by name p b None e = none-some (sym (ap aliased (are.whole name e)) ∙ b) _
      by name p b (Some i) e = p ∙ e ∙ sym (are.right.alias name i s e b)

  pub means-number : (t u : Ty) → Means defs t u → type_number numbers forms t ≡ type_number numbers forms u
  means-number t u (itself p q) = ap (type_number numbers forms) q
  means-number t u (alias s p m) = alias-number t s p ∙ means-number s u m

  -- ---- types that are the same have one number

  mutual
    pub same-number : (a b : Ty) → Same defs a b → type_number numbers forms a ≡ type_number numbers forms b
    same-number a b (Same.equal t p q) = means-number a t p ∙ sym (means-number b t q)
    same-number a b (Same.list x y p q s) =
        means-number a (ty.List x) p ∙ number-level numbers forms (ty.List x) (Ty-F.List x) (ty.outs-List x) ∙ ap (list_number forms) (same-number x y s)
        ∙ sym (number-level numbers forms (ty.List y) (Ty-F.List y) (ty.outs-List y)) ∙ sym (means-number b (ty.List y) q)
    same-number a b (Same.option x y p q s) =
        means-number a (ty.Opt x) p ∙ number-level numbers forms (ty.Opt x) (Ty-F.Opt x) (ty.outs-Opt x) ∙ ap (option_number forms) (same-number x y s)
        ∙ sym (number-level numbers forms (ty.Opt y) (Ty-F.Opt y) (ty.outs-Opt y)) ∙ sym (means-number b (ty.Opt y) q)
    same-number a b (Same.tuple xs ys p q s) =
        means-number a (ty.Tuple xs) p ∙ number-level numbers forms (ty.Tuple xs) (Ty-F.Tuple xs) (ty.outs-Tuple xs) ∙ ap (tuple_number forms) (same-numbers xs ys s)
        ∙ sym (number-level numbers forms (ty.Tuple ys) (Ty-F.Tuple ys) (ty.outs-Tuple ys)) ∙ sym (means-number b (ty.Tuple ys) q)

    same-numbers : (xs ys : List Ty) → SameAll defs xs ys → map (type_number numbers forms) xs ≡ map (type_number numbers forms) ys
    same-numbers [] [] s = refl
    same-numbers [] (y ∷ ys) s = absurd (elim s [ ])
    same-numbers (x ∷ xs) [] s = absurd (elim s [ ])
    same-numbers (x ∷ xs) (y ∷ ys) (SameAll.more s r) = (λ i. same-number x y s i ∷ same-numbers xs ys r i)

  -- ---- types of one number are the same

  -- the form is that of a type with this top
  IsFormOf : Form → Ty-F Ty → Type 0
  IsFormOf form.Bool Ty-F.Bool = Unit {0}
  IsFormOf form.Nat Ty-F.Nat = Unit {0}
  IsFormOf form.Int Ty-F.Int = Unit {0}
  IsFormOf form.Text Ty-F.Text = Unit {0}
  IsFormOf (form.Own n) (Ty-F.Name x) = n ≡ x
  IsFormOf (form.List j) (Ty-F.List x) = type_number numbers forms x ≡ Some j
  IsFormOf (form.Opt j) (Ty-F.Opt x) = type_number numbers forms x ≡ Some j
  IsFormOf form.Empty (Ty-F.Tuple []) = Unit {0}
  IsFormOf (form.Pair j k) (Ty-F.Tuple (x ∷ xs)) = (type_number numbers forms x ≡ Some j) × (parts_number numbers forms xs ≡ Some k)
  IsFormOf _ _ = ⊥

  Formed : ℕ → Ty-F Ty → Type 0
  Formed i l = (f : Form) × (slice_get forms i ≡ Some f) × IsFormOf f l

  level-formed : (l : Ty-F Ty) (i : ℕ) → aliased (named_at defs l) ≡ None → number_at numbers forms (map-Ty Ty (Option ℕ) (type_number numbers forms) l) ≡ Some i → Formed i l
  unfolding Formed IsFormOf
  level-formed Ty-F.Bool i a e = (form.Bool, form-found forms form.Bool i e, tt)
  level-formed Ty-F.Nat i a e = (form.Nat, form-found forms form.Nat i e, tt)
  level-formed Ty-F.Int i a e = (form.Int, form-found forms form.Int i e, tt)
  level-formed Ty-F.Text i a e = (form.Text, form-found forms form.Text i e, tt)
  level-formed (Ty-F.Name x) i a e = (form.Own x, are.right.own x i e a, refl)
  level-formed (Ty-F.List x) i a e =
      let q = list-part numbers forms (type_number numbers forms x) i e in
      (form.List q.0, form-found forms (form.List q.0) i q.2, q.1)
  level-formed (Ty-F.Opt x) i a e =
      let q = option-part numbers forms (type_number numbers forms x) i e in
      (form.Opt q.0, form-found forms (form.Opt q.0) i q.2, q.1)
  level-formed (Ty-F.Tuple []) i a e = (form.Empty, form-found forms form.Empty i e, tt)
  level-formed (Ty-F.Tuple (x ∷ xs)) i a e =
      let q = pair-parts numbers forms (type_number numbers forms x) (parts_number numbers forms xs) i e in
      (form.Pair q.0 q.1, form-found forms (form.Pair q.0 q.1) i q.4, (q.2, q.3))

  -- a meaning ends
  ended : (t u : Ty) → Means defs t u → alias_of defs u ≡ None
  ended t u (itself p q) = subst (λ z. alias_of defs z ≡ None) q p
  ended t u (alias s p m) = ended s u m

  formed : (t u : Ty) (i : ℕ) → Means defs t u → type_number numbers forms t ≡ Some i → Formed i (out-Ty u)
  formed t u i m e = level-formed (out-Ty u) i (ended t u m) (sym (number-level numbers forms u (out-Ty u) refl) ∙ sym (means-number t u m) ∙ e)

  module _ (total : (t : Ty) → (u : Ty) × Means defs t u) where
    AllBelow : ℕ → Type 0
    AllBelow n = (i : ℕ) → i < n → (a b : Ty) → type_number numbers forms a ≡ Some i → type_number numbers forms b ≡ Some i → Same defs a b

    -- tuples of one number, as types
    rest-same : (n k : ℕ) → AllBelow n → k < n → (xs ys : List Ty) → parts_number numbers forms xs ≡ Some k → parts_number numbers forms ys ≡ Some k → SameAll defs xs ys
    unfolding AllBelow
    rest-same n k below h xs ys p q =
        let s = below k h (ty.Tuple xs) (ty.Tuple ys)
        (number-level numbers forms (ty.Tuple xs) (Ty-F.Tuple xs) (ty.outs-Tuple xs) ∙ p)
        (number-level numbers forms (ty.Tuple ys) (Ty-F.Tuple ys) (ty.outs-Tuple ys) ∙ q) in
        let at : SameAt defs (out-Ty (ty.Tuple xs)) (out-Ty (ty.Tuple ys)) = same-opened defs total (ty.Tuple xs) (ty.Tuple ys) (ty.Tuple xs) (ty.Tuple ys) (itself (unaliased xs) refl) (itself (unaliased ys) refl) s in
        subst (λ z. SameAt defs z (Ty-F.Tuple ys)) (ty.outs-Tuple xs) (subst (λ z. SameAt defs (out-Ty (ty.Tuple xs)) z) (ty.outs-Tuple ys) at)
      where
        unaliased : (zs : List Ty) → alias_of defs (ty.Tuple zs) ≡ None
        unaliased zs = ap (λ z. aliased (named_at defs z)) (ty.outs-Tuple zs)

    level-same : (n : ℕ) → AllBelow n → (f : Form) (l k : Ty-F Ty) → PartsBelow n f → IsFormOf f l → IsFormOf f k → SameAt defs l k
    unfolding IsFormOf AllBelow
    level-same n below form.Bool Ty-F.Bool Ty-F.Bool h p q = tt
    level-same n below form.Bool Ty-F.Bool _ h p q = absurd q
    level-same n below form.Bool _ k h p q = absurd p
    level-same n below form.Nat Ty-F.Nat Ty-F.Nat h p q = tt
    level-same n below form.Nat Ty-F.Nat _ h p q = absurd q
    level-same n below form.Nat _ k h p q = absurd p
    level-same n below form.Int Ty-F.Int Ty-F.Int h p q = tt
    level-same n below form.Int Ty-F.Int _ h p q = absurd q
    level-same n below form.Int _ k h p q = absurd p
    level-same n below form.Text Ty-F.Text Ty-F.Text h p q = tt
    level-same n below form.Text Ty-F.Text _ h p q = absurd q
    level-same n below form.Text _ k h p q = absurd p
    level-same n below (form.Own m) (Ty-F.Name x) (Ty-F.Name y) h p q = sym p ∙ q
    level-same n below (form.Own m) (Ty-F.Name x) _ h p q = absurd q
    level-same n below (form.Own m) _ k h p q = absurd p
    level-same n below (form.List j) (Ty-F.List x) (Ty-F.List y) h p q = below j h x y p q
    level-same n below (form.List j) (Ty-F.List x) _ h p q = absurd q
    level-same n below (form.List j) _ k h p q = absurd p
    level-same n below (form.Opt j) (Ty-F.Opt x) (Ty-F.Opt y) h p q = below j h x y p q
    level-same n below (form.Opt j) (Ty-F.Opt x) _ h p q = absurd q
    level-same n below (form.Opt j) _ k h p q = absurd p
    level-same n below form.Empty (Ty-F.Tuple []) (Ty-F.Tuple []) h p q = SameAll.none
    level-same n below form.Empty (Ty-F.Tuple []) _ h p q = absurd q
    level-same n below form.Empty _ k h p q = absurd p
    level-same n below (form.Pair j r) (Ty-F.Tuple (x ∷ xs)) (Ty-F.Tuple (y ∷ ys)) h p q =
        SameAll.more (below j h.0 x y p.0 q.0) (rest-same n r below h.1 xs ys p.1 q.1)
    level-same n below (form.Pair j r) (Ty-F.Tuple (x ∷ xs)) _ h p q = absurd q
    level-same n below (form.Pair j r) _ k h p q = absurd p

    one-form : (f g : Form) (l : Ty-F Ty) → Some f ≡ Some g → IsFormOf g l → IsFormOf f l
    one-form f g l e h = let s : f ≡ g = cc in subst (λ z. IsFormOf z l) (sym s) h

    step : (n : ℕ) → AllBelow n → (a b : Ty) → type_number numbers forms a ≡ Some n → type_number numbers forms b ≡ Some n → Same defs a b
    unfolding Formed
    step n below a b p q =
        let u = total a in
        let w = total b in
        let f = formed a u.0 n u.1 p in
        let g = formed b w.0 n w.1 q in
        same-closed_by defs a b (out-Ty u.0) (out-Ty w.0) (to defs a u.0 (out-Ty u.0) u.1 refl) (to defs b w.0 (out-Ty w.0) w.1 refl)
        (level-same n below f.0 (out-Ty u.0) (out-Ty w.0) (are.right.ordered.below n f.0 f.1) f.2 (one-form f.0 g.0 (out-Ty w.0) (sym f.1 ∙ g.1) g.2))

    all_below : (n : ℕ) → AllBelow n
    unfolding AllBelow
    all_below zero i h a b p q = absurd (omega arith)
    all_below (suc n) i h a b p q = step i (λ j less. all_below n j (omega (arith, h, less))) a b p q

    pub number-same : (i : ℕ) (a b : Ty) → type_number numbers forms a ≡ Some i → type_number numbers forms b ≡ Some i → Same defs a b
    unfolding AllBelow
    number-same i a b p q = all_below (suc i) i (omega arith) a b p q

    -- ---- types of which one is a name

    one-name : (l k : Ty-F Ty) → AreOneName l k → l ≡ k
    one-name (Ty-F.Name x) (Ty-F.Name y) h = ap Ty-F.Name h
    one-name _ _ h = absurd h

    pub alike-sound : (a b : Ty) → AreAlike numbers forms a b → Same defs a b
    alike-sound a b (AreAlike.named h) =
        subst (Same defs a) (sym (roll-out-Ty a) ∙ ap roll-Ty (one-name (out-Ty a) (out-Ty b) h) ∙ roll-out-Ty b) (Same-refl defs total a)
    alike-sound a b (AreAlike.numbered i p q) = number-same i a b p q

    -- what has no number is no alias
    unnumbered : (t : Ty) → type_number numbers forms t ≡ None → alias_of defs t ≡ None
    unnumbered t e = by (alias_of defs t) refl
      where
        by : (o : Option Ty) → alias_of defs t ≡ o → alias_of defs t ≡ None
        by None a = a
        by (Some s) a =
            let n = at-name defs t s (out-Ty t) refl a in
            let none : number_of numbers n.0 ≡ None = sym (number-level numbers forms t (Ty-F.Name n.0) n.1) ∙ e in
            let named : aliased (named_at {X = Ty} defs (Ty-F.Name n.0)) ≡ Some s = ap (λ z. aliased (named_at defs z)) (sym n.1) ∙ n.2 in
            none-some (sym (ap aliased (are.whole n.0 none)) ∙ named) _

    same-named : (l k : Ty-F Ty) → (is_name l ≡ true) ⊎ (is_name k ≡ true) → SameAt defs l k → AreOneName l k
    same-named (Ty-F.Name x) (Ty-F.Name y) h s = s
    same-named (Ty-F.Name x) _ h s = absurd s
    same-named _ (Ty-F.Name y) h s = absurd s
    same-named _ _ (inl h) s = absurd (true≢false (sym h))
    same-named _ _ (inr h) s = absurd (true≢false (sym h))

    pub alike-complete : (a b : Ty) → (is_name (out-Ty a) ≡ true) ⊎ (is_name (out-Ty b) ≡ true) → Same defs a b → AreAlike numbers forms a b
    alike-complete a b h s = by (type_number numbers forms a) refl
      where
        by : (o : Option ℕ) → type_number numbers forms a ≡ o → AreAlike numbers forms a b
        by (Some i) e = AreAlike.numbered i e (sym (same-number a b s) ∙ e)
        by None e =
            let f : type_number numbers forms b ≡ None = sym (same-number a b s) ∙ e in
            AreAlike.named (same-named (out-Ty a) (out-Ty b) h
            (same-opened defs total a b a b (itself (unnumbered a e) refl) (itself (unnumbered b f) refl) s))

    pub alike-same : (a b : Ty) (r : Bool) → (is_name (out-Ty a) ≡ true) ⊎ (is_name (out-Ty b) ≡ true) → (IsTrue r ↔ AreAlike numbers forms a b) → IsTrue r ↔ Same defs a b
    alike-same a b r h k = (λ t. alike-sound a b (k.0 t), λ s. k.1 (alike-complete a b h s))

-- ---- types that are no names

level-unnamed : (defs : List SyntaxDef) (l : Ty-F Ty) → is_name l ≡ false → aliased (named_at defs l) ≡ None
level-unnamed defs Ty-F.Bool h = refl
level-unnamed defs Ty-F.Nat h = refl
level-unnamed defs Ty-F.Int h = refl
level-unnamed defs Ty-F.Text h = refl
level-unnamed defs (Ty-F.Name x) h = absurd (true≢false h)
level-unnamed defs (Ty-F.List x) h = refl
level-unnamed defs (Ty-F.Opt x) h = refl
level-unnamed defs (Ty-F.Tuple xs) h = refl

pub means-itself : (defs : List SyntaxDef) (t : Ty) → is_name (out-Ty t) ≡ false → Means defs t t
means-itself defs t h = itself (level-unnamed defs (out-Ty t) h) refl

-- ---- types that have numbers

pub alike-numbers : (numbers : Numbers) (forms : List Form) (a b : Ty) (one other : ℕ) → (IsTrue false ↔ AreOneName (out-Ty a) (out-Ty b)) → Some one ≡ type_number numbers forms a → Some other ≡ type_number numbers forms b
    → IsTrue (nat_eq one other) ↔ AreAlike numbers forms a b
alike-numbers numbers forms a b one other apart p q = (
  λ h. AreAlike.numbered one (sym p) (sym q ∙ ap Some (sym (eqb-true one other h))),
  λ h. back h,
)
  where
    back : AreAlike numbers forms a b → IsTrue (nat_eq one other)
    back (AreAlike.named n) = absurd (true≢false (sym (apart.1 n)))
    back (AreAlike.numbered i e f) =
        let x : Some one ≡ Some i = p ∙ e in
        let y : Some other ≡ Some i = q ∙ f in
        eq-eqb one other (let z : one ≡ other = cc in z)
