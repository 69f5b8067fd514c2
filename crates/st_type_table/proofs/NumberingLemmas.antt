-- Numbers of types stay right while forms and names are added.
use Rattle.std.proofs.Common.{◌≡◌, refl, sym, ap, ◌∙◌, subst, ℕ, zero, suc, ◌<◌, ◌≤◌, List, [], ◌∷◌, ◌++◌, append_assoc, append-nil, length-append, length, map, get_or, drop, Bool, true, false, true≢false, nat_eq, Option, Some, None, arith, if◌then◌else◌, inl, inr, ◌⊎◌}
use Rattle.std.specs.Prelude.{slice_get, IfOk, Ok, Err, is_some, IsSome, nat_lt}
use Rattle.std.specs.declared.result.Result.{Result}
use Rattle.std.specs.List.{list_any, position_or_len}
use Rattle.std.specs.Cmp.Lexicographic.{pointwise}
use Rattle.std.proofs.lemmas.List.Folds.{position_or_len_push}
use Rattle.std.proofs.lemmas.Option.{slice_get_within, slice_get-get_or, get_or_from_slice_get}
use Rattle.std.proofs.lemmas.List.Sorted.{Contains-permutation}
use Rattle.std.proofs.lemmas.Map.Views.{Contains-keys_from_lookup}
use Rattle.std.specs.List.Sorted.{IsPermutation}
use Rattle.std.specs.Map.{keys_of}
use Rattle.std.specs.Borrow.{Bor}
use Rattle.std.proofs.lemmas.Slice.Eq.{bytes_eq-Decides}
use Rattle.indexmap.specs.IndexSet.{insert_key}
use Rattle.st_il.specs.declared.ty.Ty.{Ty, out-Ty}
use Rattle.st_il.specs.declared.ty.Ty.TheOpen.{Ty-F}
use Rattle.st_il.specs.declared.definition.SyntaxDef.{SyntaxDef}
use Rattle.st_il.specs.declared.definition.SyntaxBody.{SyntaxBody}
use Rattle.st_type_table.specs.declared.entry.Entry.{Entry}
use Rattle.st_type_table.specs.declared.form.Form.{Form}
use Rattle.st_type_table.specs.declared.form.Form.TheVariants as form
use Rattle.st_type_table.specs.Meaning.{aliased, body_of}
use Rattle.st_type_table.specs.inner.Kept.{Kept, defs_of, entry_of}
use Rattle.st_type_table.proofs.KeptLemmas.{bodied, body_of-kept}
use Rattle.st_type_table.specs.inner.Forms.{Numbers, number_of, form_eq, form_number, list_number, option_number, pair_number, type_number, parts_number, PartsBelow, IsOrdered, HasNumber, AreNumbers, AreForms, alias_named}
use Rattle.st_type_table.specs.inner.Numbering.{AreAllNames, body_number, Grows, Numbered, Adds, IsGiven, Keeps}
use Rattle.st_type_table.proofs.FormLemmas.{eq-refl, form-found, form-stays, positioned, number-level, type-within, type-stays, parts-stays, parts-next, parts-end, tuple-within, none-some}

-- ---- results

pub ok-map : {A E : Type 0} {P Q : A → Type 0} (r : Result A E) → IfOk r P → ((x : A) → P x → Q x) → IfOk r Q
ok-map (Ok x) h f = f x h
ok-map (Err e) h f = tt

-- ---- a form is added

pub keys-grow : (old : List Form) (f : Form) → Grows old (insert_key form_eq old f)
keys-grow old f = by (list_any (form_eq f) old)
  where
    by : (b : Bool) → Grows old (if b then old else old ++ f ∷ [])
    by true = ([], sym (append-nil old))
    by false = (f ∷ [], refl)

pub added-number : (old new : List Form) (f : Form) (i : ℕ) → new ≡ insert_key form_eq old f → i ≡ position_or_len (form_eq f) old → i < length new → form_number new f ≡ Some i
added-number old new f i e p h =
    positioned (form_eq f) new i (ap (position_or_len (form_eq f)) e ∙ by (list_any (form_eq f) old) ∙ sym p) h
  where
    last : (b : Bool) → form_eq f f ≡ b → position_or_len (form_eq f) (old ++ f ∷ []) ≡ position_or_len (form_eq f) old
    last true r = let s = position_or_len_push (form_eq f) old f in let q = eq-refl f in grind (arith, s, q)
    last false r = absurd (let q = eq-refl f in let z : true ≡ false = sym q ∙ r in cc)

    by : (b : Bool) → position_or_len (form_eq f) (if b then old else old ++ f ∷ []) ≡ position_or_len (form_eq f) old
    by true = refl
    by false = last (form_eq f f) refl

slice_get-front : (old more : List Form) (i : ℕ) (f : Form) → slice_get old i ≡ Some f → slice_get (old ++ more) i ≡ Some f
slice_get-front [] more i f e = none-some e _
slice_get-front (x ∷ old) more zero f e = e
slice_get-front (x ∷ old) more (suc i) f e = slice_get-front old more i f e

-- a form at a position is one of those before, or the last
at-last : (old : List Form) (f g : Form) (i : ℕ) → slice_get (old ++ f ∷ []) i ≡ Some g → (slice_get old i ≡ Some g) ⊎ ((i ≡ length old) × (f ≡ g))
at-last [] f g zero e = inr (refl, cc)
at-last [] f g (suc i) e = none-some e _
at-last (x ∷ old) f g zero e = inl e
at-last (x ∷ old) f g (suc i) e = by (at-last old f g i e)
  where
    by : (slice_get old i ≡ Some g) ⊎ ((i ≡ length old) × (f ≡ g)) → (slice_get old i ≡ Some g) ⊎ ((suc i ≡ suc (length old)) × (f ≡ g))
    by (inl h) = inl h
    by (inr h) = inr (ap suc h.0, h.1)

module _ (numbers : Numbers) where
  below-new : (old : List Form) (f : Form) → IsOrdered numbers old → PartsBelow (length old) f → (b : Bool) (i : ℕ) (g : Form) → slice_get (if b then old else old ++ f ∷ []) i ≡ Some g → PartsBelow i g
  below-new old f o h true i g e = o.below i g e
  below-new old f o h false i g e = by (at-last old f g i e)
    where
      by : (slice_get old i ≡ Some g) ⊎ ((i ≡ length old) × (f ≡ g)) → PartsBelow i g
      by (inl p) = o.below i g p
      by (inr p) = subst (λ n. PartsBelow n g) (sym p.0) (subst (PartsBelow (length old)) p.1 h)

  within-new : (old more : List Form) → IsOrdered numbers old → (name : List ℕ) (i : ℕ) → number_of numbers name ≡ Some i → i < length (old ++ more)
  within-new old more o name i e = let h = o.within name i e in let l = length-append old more in omega (arith, h, l)

  pub form-added : (old new : List Form) (f : Form) (i : ℕ) → IsOrdered numbers old → PartsBelow (length old) f → Adds old new f i → Numbered numbers old new (λ forms. form_number forms f) i
  form-added old new f i o h a =
      let g : Grows old new = subst (Grows old) (sym a.keys) (keys-grow old f) in
      record {
        grows = g;
        ordered = record {
          within = λ name j e. subst (λ z. j < length z) (sym g.1) (within-new old g.0 o name j e);
          below = λ j k e. below-new old f o h (list_any (form_eq f) old) j k (subst (λ z. slice_get z j ≡ Some k) a.keys e);
        };
        number = a.number;
      }

  pub grows-on : (a b c : List Form) → Grows a b → Grows b c → Grows a c
  grows-on a b c g h = (g.0 ++ h.0, h.1 ∙ ap (λ z. z ++ h.0) g.1 ∙ append_assoc a g.0 h.0)

  -- what had a number has it after more forms
  pub type-on : (a b : List Form) (t : Ty) (i : ℕ) → Grows a b → type_number numbers a t ≡ Some i → type_number numbers b t ≡ Some i
  type-on a b t i g e = subst (λ z. type_number numbers z t ≡ Some i) (sym g.1) (type-stays numbers numbers a g.0 (λ name j h. h) t i e)

  pub parts-on : (a b : List Form) (xs : List Ty) (i : ℕ) → Grows a b → parts_number numbers a xs ≡ Some i → parts_number numbers b xs ≡ Some i
  parts-on a b xs i g e = subst (λ z. parts_number numbers z xs ≡ Some i) (sym g.1) (parts-stays numbers numbers a g.0 (λ name j h. h) xs i e)

  pub form-on : (a b : List Form) (f : Form) (i : ℕ) → Grows a b → form_number a f ≡ Some i → form_number b f ≡ Some i
  form-on a b f i g e = subst (λ z. form_number z f ≡ Some i) (sym g.1) (form-stays a g.0 f i e)

  pub form-within : (forms : List Form) (f : Form) (i : ℕ) → form_number forms f ≡ Some i → i < length forms
  form-within forms f i e = slice_get_within forms i f (form-found forms f i e)

  -- ---- a type is added

  abbrev Typed : List Form → List Form → Ty → ℕ → Type 0
  Typed old new t i = Numbered numbers old new (λ forms. type_number numbers forms t) i

  pub typed-plain : (old new : List Form) (t : Ty) (f : Form) (i : ℕ) → IsOrdered numbers old → PartsBelow (length old) f
      → ((forms : List Form) → type_number numbers forms t ≡ form_number forms f) → Adds old new f i → Typed old new t i
  typed-plain old new t f i o h same a =
      let n = form-added old new f i o h a in
      record { grows = n.grows; ordered = n.ordered; number = same new ∙ n.number }

  pub typed-list : (a b c : List Form) (t x : Ty) (j i : ℕ) → out-Ty t ≡ Ty-F.List x → Typed a b x j → Adds b c (form.List j) i → Typed a c t i
  typed-list a b c t x j i e part adds =
      let n = form-added b c (form.List j) i part.ordered (type-within numbers b part.ordered x j part.number) adds in
      record {
        grows = grows-on a b c part.grows n.grows;
        ordered = n.ordered;
        number = number-level numbers c t (Ty-F.List x) e ∙ ap (list_number c) (type-on b c x j n.grows part.number) ∙ n.number;
      }

  pub typed-option : (a b c : List Form) (t x : Ty) (j i : ℕ) → out-Ty t ≡ Ty-F.Opt x → Typed a b x j → Adds b c (form.Opt j) i → Typed a c t i
  typed-option a b c t x j i e part adds =
      let n = form-added b c (form.Opt j) i part.ordered (type-within numbers b part.ordered x j part.number) adds in
      record {
        grows = grows-on a b c part.grows n.grows;
        ordered = n.ordered;
        number = number-level numbers c t (Ty-F.Opt x) e ∙ ap (option_number c) (type-on b c x j n.grows part.number) ∙ n.number;
      }

  abbrev TypedFrom : List Form → List Form → List Ty → ℕ → Type 0
  TypedFrom old new xs i = Numbered numbers old new (λ forms. parts_number numbers forms xs) i

  pub typed-end : (old new : List Form) (xs : List Ty) (n i : ℕ) → length xs ≤ n → IsOrdered numbers old → Adds old new form.Empty i → TypedFrom old new (drop n xs) i
  typed-end old new xs n i h o a =
      let m = form-added old new form.Empty i o tt a in
      record { grows = m.grows; ordered = m.ordered; number = sym (parts-end numbers new xs n h) ∙ m.number }

  -- the parts from a position on, by the one there and those behind
  pub typed-pair : (a b c d : List Form) (xs : List Ty) (at : ℕ) (x : Ty) (rest first i : ℕ) → at < length xs → x ≡ get_or xs at x
      → TypedFrom a b (drop (suc at) xs) rest → Typed b c x first → Adds c d (form.Pair first rest) i → TypedFrom a d (drop at xs) i
  typed-pair a b c d xs at x rest first i h e behind here adds =
      let p : parts_number numbers c (drop (suc at) xs) ≡ Some rest = parts-on b c (drop (suc at) xs) rest here.grows behind.number in
      let n = form-added c d (form.Pair first rest) i here.ordered (type-within numbers c here.ordered x first here.number, tuple-within numbers c (map (type_number numbers c) (drop (suc at) xs)) rest p) adds in
      record {
        grows = grows-on a b d behind.grows (grows-on b c d here.grows n.grows);
        ordered = n.ordered;
        number = parts-next numbers d xs at x h e ∙ ap (λ o. pair_number d o (parts_number numbers d (drop (suc at) xs))) (type-on c d x first n.grows here.number)
            ∙ ap (pair_number d (Some first)) (parts-on c d (drop (suc at) xs) rest n.grows p) ∙ n.number;
      }

  pub body-on : (a b : List Form) (name : List ℕ) (o : Option Ty) (i : ℕ) → Grows a b → body_number numbers name o a ≡ Some i → body_number numbers name o b ≡ Some i
  body-on a b name None i g e = form-on a b (form.Own name) i g e
  body-on a b name (Some t) i g e = type-on a b t i g e

  pub body-within : (forms : List Form) (name : List ℕ) (o : Option Ty) (i : ℕ) → IsOrdered numbers forms → body_number numbers name o forms ≡ Some i → i < length forms
  body-within forms name None i o e = form-within forms (form.Own name) i e
  body-within forms name (Some t) i o e = type-within numbers forms o t i e

  pub own-numbered : (old new : List Form) (name copy : List ℕ) (o : Option Ty) (i : ℕ) → o ≡ None → copy ≡ name → IsOrdered numbers old → Adds old new (form.Own copy) i
      → Numbered numbers old new (body_number numbers name o) i
  own-numbered old new name copy o i none same ordered a =
      let n = form-added old new (form.Own copy) i ordered tt a in
      record { grows = n.grows; ordered = n.ordered; number = ap (λ z. body_number numbers name z new) none ∙ ap (λ z. form_number new (form.Own z)) (sym same) ∙ n.number }

pub free-name : (o : Option ℕ) → false ≡ is_some o → o ≡ None
free-name None h = refl
free-name (Some i) h = absurd (true≢false (sym h))

-- what a name is an alias of, by what is kept
pub alias-kept : (kept : Kept) (name : List ℕ) (o : Option Entry) → o ≡ entry_of kept name → alias_named (defs_of kept) name ≡ aliased (bodied o)
alias-kept kept name o e = ap aliased (body_of-kept kept name ∙ ap bodied (sym e))

-- ---- a name is given its number

-- two names, of which one may have been given a number
given-one : (old new : Numbers) (name other : List ℕ) (i : ℕ) → IsGiven old new name i → (P : Type 0)
    → (name ≡ other → number_of new other ≡ Some i → P) → (number_of new other ≡ number_of old other → P) → P
given-one old new name other i given P one rest = by (pointwise nat_eq name other) refl
  where
    by : (b : Bool) → pointwise nat_eq name other ≡ b → P
    by true e = one ((bytes_eq-Decides name other).0 e) (given other ∙ ap (λ c. if c then Some i else number_of old other) e)
    by false e = rest (given other ∙ ap (λ c. if c then Some i else number_of old other) e)

pub given-keeps : (old new : Numbers) (name : List ℕ) (i : ℕ) → number_of old name ≡ None → IsGiven old new name i → Keeps old new
given-keeps old new name i free given other j e =
    given-one old new name other i given (number_of new other ≡ Some j)
    (λ same is. none-some (sym free ∙ ap (number_of old) same ∙ e) _)
    (λ is. is ∙ e)

pub given-has : (defs : List SyntaxDef) (old new : Numbers) (name : List ℕ) (i : ℕ) → IsGiven old new name i → HasNumber defs new name
given-has defs old new name i given e =
    let is : number_of new name ≡ Some i = given name ∙ ap (λ c. if c then Some i else number_of old name) ((bytes_eq-Decides name name).1 refl) in
    none-some (sym e ∙ is) _

module _ (defs : List SyntaxDef) (one other : Numbers) (old new : List Form) (name : List ℕ) (i : ℕ)
    (right : AreNumbers defs one old) (free : number_of one name ≡ None)
    (numbered : Numbered one old new (body_number one name (alias_named defs name)) i) (given : IsGiven one other name i) where
  keeps : Keeps one other
  keeps = given-keeps one other name i free given

  carried : (t : Ty) (j : ℕ) → type_number one new t ≡ Some j → type_number other new t ≡ Some j
  carried t j e = subst (λ z. type_number other z t ≡ Some j) (append-nil new) (type-stays one other new [] keeps t j e)

  given-within : (q : List ℕ) (j : ℕ) → number_of other q ≡ Some j → j < length new
  given-within q j e =
      given-one one other name q i given (j < length new)
      (λ same is. let z : i ≡ j = let y : Some i ≡ Some j = sym is ∙ e in cc in subst (λ k. k < length new) z (body-within one new name (alias_named defs name) i numbered.ordered numbered.number))
      (λ is. numbered.ordered.within q j (sym is ∙ e))

  given-alias : (q : List ℕ) (j : ℕ) (t : Ty) → number_of other q ≡ Some j → alias_named defs q ≡ Some t → type_number other new t ≡ Some j
  given-alias q j t e a =
      given-one one other name q i given (type_number other new t ≡ Some j)
      (λ same is. carried t j (ap (λ o. body_number one name o new) (sym a ∙ ap (alias_named defs) (sym same)) ∙ numbered.number ∙ sym is ∙ e))
      (λ is. carried t j (type-on one old new t j numbered.grows (right.alias q j t (sym is ∙ e) a)))

  given-own : (q : List ℕ) (j : ℕ) → number_of other q ≡ Some j → alias_named defs q ≡ None → slice_get new j ≡ Some (form.Own q)
  given-own q j e a =
      given-one one other name q i given (slice_get new j ≡ Some (form.Own q))
      (λ same is. subst (λ z. slice_get new j ≡ Some (form.Own z)) same
      (form-found new (form.Own name) j (ap (λ o. body_number one name o new) (sym a ∙ ap (alias_named defs) (sym same)) ∙ numbered.number ∙ sym is ∙ e)))
      (λ is. subst (λ z. slice_get z j ≡ Some (form.Own q)) (sym numbered.grows.1) (slice_get-front old numbered.grows.0 j (form.Own q) (right.own q j (sym is ∙ e) a)))

  pub given-right : AreNumbers defs other new
  given-right = record {
    ordered = record { within = given-within; below = numbered.ordered.below };
    alias = given-alias;
    own = given-own;
  }

-- a name that has a number keeps one
pub has-kept : (defs : List SyntaxDef) (old new : Numbers) (name : List ℕ) → Keeps old new → HasNumber defs old name → HasNumber defs new name
has-kept defs old new name keeps has none = by (number_of old name) refl
  where
    by : (o : Option ℕ) → number_of old name ≡ o → body_of defs name ≡ None
    by None e = has e
    by (Some i) e = none-some (sym none ∙ keeps name i e) _

-- ---- all names

-- each of the names before a position stands in a list
abbrev pub AreListed : List (List ℕ) → ℕ → List (Bor (List ℕ)) → Type 0
AreListed keys at names = (k : ℕ) (x : List ℕ) → k < at → slice_get keys k ≡ Some x → (j : ℕ) × (b : Bor (List ℕ)) × (slice_get names j ≡ Some b) × (b.now ≡ x)

slice_get-last : {A : Type 0} (xs : List A) (x : A) → slice_get (xs ++ x ∷ []) (length xs) ≡ Some x
slice_get-last [] x = refl
slice_get-last (y ∷ xs) x = slice_get-last xs x

slice_get-kept : {A : Type 0} (xs : List A) (x y : A) (j : ℕ) → slice_get xs j ≡ Some y → slice_get (xs ++ x ∷ []) j ≡ Some y
slice_get-kept [] x y j e = none-some e _
slice_get-kept (z ∷ xs) x y zero e = e
slice_get-kept (z ∷ xs) x y (suc j) e = slice_get-kept xs x y j e

pub listed-push : (keys : List (List ℕ)) (at : ℕ) (names : List (Bor (List ℕ))) (b : Bor (List ℕ)) → slice_get keys at ≡ Some b.now → AreListed keys at names → AreListed keys (suc at) (names ++ b ∷ [])
listed-push keys at names b e listed k x less f = by (nat_lt k at) refl
  where
    by : (z : Bool) → nat_lt k at ≡ z → (j : ℕ) × (c : Bor (List ℕ)) × (slice_get (names ++ b ∷ []) j ≡ Some c) × (c.now ≡ x)
    by true h = let l = listed k x (grind arith) f in (l.0, l.1, slice_get-kept names b l.1 l.0 l.2, l.3)
    by false h =
        let same : k ≡ at = grind arith in
        let z : Some b.now ≡ Some x = sym e ∙ ap (slice_get keys) (sym same) ∙ f in
        (length names, b, slice_get-last names b, cc)

-- names that are moved about are all there
pub listed-moved : (names moved : List (Bor (List ℕ))) (j : ℕ) (b : Bor (List ℕ)) → IsPermutation names moved → slice_get names j ≡ Some b → (k : ℕ) × (slice_get moved k ≡ Some b)
listed-moved names moved j b p e =
    let c = Contains-permutation names moved b p (j, slice_get_within names j b e, get_or_from_slice_get names j b b e) in
    (c.0, slice_get-get_or moved c.0 b c.1 ∙ ap Some c.2)

pub all-names : (kept : Kept) (keys : List (List ℕ)) (at : ℕ) (names moved : List (Bor (List ℕ))) → keys ≡ keys_of kept → length keys ≤ at → AreListed keys at names → IsPermutation names moved → AreAllNames (defs_of kept) moved
all-names kept keys at names moved same whole listed p name is = by (entry_of kept name) refl
  where
    by : (o : Option Entry) → entry_of kept name ≡ o → (k : ℕ) × (b : Bor (List ℕ)) × (slice_get moved k ≡ Some b) × (b.now ≡ name)
    by None e = absurd (is (body_of-kept kept name ∙ ap bodied e))
    by (Some entry) e =
        let c = Contains-keys_from_lookup {eq = pointwise nat_eq} (λ x y h. (bytes_eq-Decides x y).0 h) name kept (subst (λ o. IsSome o) (sym e) refl) in
        let d : slice_get keys c.0 ≡ Some name = subst (λ z. slice_get z c.0 ≡ Some name) (sym same) (slice_get-get_or (keys_of kept) c.0 name c.1 ∙ ap Some c.2) in
        let l = listed c.0 name (let w = slice_get_within keys c.0 name d in omega (arith, w, whole)) d in
        let m = listed-moved names moved l.0 l.1 p l.2 in
        (m.0, l.1, m.1, l.3)

-- ---- the table's numbers

-- the names before a position have numbers
abbrev pub HaveNumbers : List SyntaxDef → Numbers → List (Bor (List ℕ)) → ℕ → Type 0
HaveNumbers defs numbers names at = (k : ℕ) (b : Bor (List ℕ)) → k < at → slice_get names k ≡ Some b → HasNumber defs numbers b.now

pub have-more : (defs : List SyntaxDef) (old new : Numbers) (names : List (Bor (List ℕ))) (at : ℕ) (b : Bor (List ℕ)) → slice_get names at ≡ Some b → Keeps old new → HasNumber defs new b.now
    → HaveNumbers defs old names at → HaveNumbers defs new names (suc at)
have-more defs old new names at b e keeps has have k c less f = by (nat_lt k at) refl
  where
    by : (z : Bool) → nat_lt k at ≡ z → HasNumber defs new c.now
    by true h = has-kept defs old new c.now keeps (have k c (grind arith) f)
    by false h =
        let same : k ≡ at = grind arith in
        let z : Some b ≡ Some c = sym e ∙ ap (slice_get names) (sym same) ∙ f in
        let y : b ≡ c = cc in
        subst (λ d. HasNumber defs new d.now) y has

pub all-numbered : (defs : List SyntaxDef) (numbers : Numbers) (forms : List Form) (names : List (Bor (List ℕ))) (at : ℕ) → length names ≤ at → AreAllNames defs names → AreNumbers defs numbers forms
    → HaveNumbers defs numbers names at → AreForms defs numbers forms
all-numbered defs numbers forms names at whole all right have = record { right = right; whole = λ name none. by name none (body_of defs name) refl }
  where
    by : (name : List ℕ) → number_of numbers name ≡ None → (o : Option SyntaxBody) → body_of defs name ≡ o → body_of defs name ≡ None
    by name none None e = e
    by name none (Some b) e =
        let f = all name (λ h. none-some (sym h ∙ e) ⊥) in
        let w = slice_get_within names f.0 f.1 f.2 in
        subst (λ z. HasNumber defs numbers z) f.3 (have f.0 f.1 (omega (arith, w, whole)) f.2) none

pub none-numbered : (defs : List SyntaxDef) → AreNumbers defs [] []
none-numbered defs = record {
  ordered = record { within = λ name i e. none-some e _; below = λ i f e. none-some e _ };
  alias = λ name i t e a. none-some e _;
  own = λ name i e a. none-some e _;
}
