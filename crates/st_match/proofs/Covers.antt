-- Lists of environments that cover: none, both, one after another.
use Rattle.std.proofs.Common.{◌≡◌, ℕ, ◌+◌, ◌<◌, ◌≤◌, sym, ◌∙◌, ap, subst, List, [], ◌∷◌, ◌++◌, length, take, get_or, ◌⊎◌, inl, inr, true, ◌||◌}
use borrow.Author.Count.{below_more}
use Rattle.std.proofs.lemmas.List.{take_more, take_all}
use Rattle.st_il.specs.declared.value.Env.{Env}
use Rattle.st_il.specs.Names.{Name}
use Rattle.st_semantics.proofs.Names.{or-cases, or-left, or-right}
use Rattle.st_match.specs.inner.Covering.{Names, joined, Stands, OneOf, Covers}

-- ---- one of several

pub OneOf-map : {A : Type 0} (P Q : A → Type 0) → ((a : A) → P a → Q a) → (xs : List A) → OneOf P xs → OneOf Q xs
OneOf-map P Q f [] o = o
OneOf-map P Q f (x ∷ xs) (inl p) = inl (f x p)
OneOf-map P Q f (x ∷ xs) (inr o) = inr (OneOf-map P Q f xs o)

pub OneOf-left : {A : Type 0} (P : A → Type 0) (xs ys : List A) → OneOf P xs → OneOf P (xs ++ ys)
OneOf-left P [] ys o = absurd o
OneOf-left P (x ∷ xs) ys (inl p) = inl p
OneOf-left P (x ∷ xs) ys (inr o) = inr (OneOf-left P xs ys o)

pub OneOf-right : {A : Type 0} (P : A → Type 0) (xs ys : List A) → OneOf P ys → OneOf P (xs ++ ys)
OneOf-right P [] ys o = o
OneOf-right P (x ∷ xs) ys o = inr (OneOf-right P xs ys o)

pub OneOf-cases : {A : Type 0} (P : A → Type 0) (xs ys : List A) → OneOf P (xs ++ ys) → OneOf P xs ⊎ OneOf P ys
OneOf-cases P [] ys o = inr o
OneOf-cases P (x ∷ xs) ys (inl p) = inl (inl p)
OneOf-cases P (x ∷ xs) ys (inr o) = elim (OneOf-cases P xs ys o) [ inl q ↦ inl (inr q) | inr q ↦ inr q ]

-- ---- fewer names

Stands-fewer : (s : Env) (a b : Names) (e : Env) → ((x : Name) → b x ≡ true → a x ≡ true) → Stands s a e → Stands s b e
Stands-fewer s a b e h t = record { below = t.below; has = λ x k. t.has x (h x k) }

pub OneOf-fewer : (s : Env) (a b : Names) (es : List Env) → ((x : Name) → b x ≡ true → a x ≡ true) → OneOf (Stands s a) es → OneOf (Stands s b) es
OneOf-fewer s a b es h = OneOf-map (Stands s a) (Stands s b) (λ e. Stands-fewer s a b e h) es

-- ---- what covers

pub Covers-none : (F : Env → Type 0) (n : Names) (es : List Env) → ((s : Env) → F s → ⊥) → Covers F n es []
Covers-none F n es h = record { covers = λ s b f a. absurd (h s f) }

pub Covers-never : (F : Env → Type 0) (n : Names) (es fs : List Env) → ((s : Env) → F s → ⊥) → Covers F n es fs
Covers-never F n es fs h = record { covers = λ s b f a. absurd (h s f) }

pub Covers-nothing : (F : Env → Type 0) (n : Names) (fs : List Env) → Covers F n [] fs
Covers-nothing F n fs = record { covers = λ s b f a. absurd a }

pub Covers-same : (F : Env → Type 0) (n : Names) (es : List Env) → ((x : Name) → n x ≡ true → ⊥) → Covers F n es es
Covers-same F n es h = record { covers = λ s b f a. OneOf-fewer s b (joined b n) es (λ x k. elim (or-cases (b x) (n x) k) [ inl p ↦ p | inr p ↦ absurd (h x p) ]) a }

pub Covers-then : (F G : Env → Type 0) (m n : Names) (es fs gs : List Env) → Covers F m es fs → Covers G n fs gs → Covers (λ s. F s × G s) (joined m n) es gs
Covers-then F G m n es fs gs p q = record {
  covers = λ s b f a. OneOf-fewer s (joined (joined b m) n) (joined b (joined m n)) gs (turned b)
      (q.covers s (joined b m) f.1 (p.covers s b f.0 a));
}
  where
    turned : (b : Names) (x : Name) → (b x || (m x || n x)) ≡ true → ((b x || m x) || n x) ≡ true
    turned b x k = elim (or-cases (b x) (m x || n x) k) [
      | inl c ↦ or-left (b x || m x) (n x) (or-left (b x) (m x) c)
      | inr c ↦ elim (or-cases (m x) (n x) c) [ inl d ↦ or-left (b x || m x) (n x) (or-right (b x) (m x) d) | inr d ↦ or-right (b x || m x) (n x) d ]
    ]

pub joined_more : (b m n : Names) → ((x : Name) → n x ≡ true → m x ≡ true) → (x : Name) → joined b n x ≡ true → joined b m x ≡ true
joined_more b m n h x k = elim (or-cases (b x) (n x) k) [ inl c ↦ or-left (b x) (m x) c | inr c ↦ or-right (b x) (m x) (h x c) ]

pub Covers-weaken : (F G : Env → Type 0) (m n : Names) (es fs : List Env) → ((s : Env) → G s → F s) → ((x : Name) → n x ≡ true → m x ≡ true)
    → Covers F m es fs → Covers G n es fs
Covers-weaken F G m n es fs g h p = record {
  covers = λ s b f a. OneOf-fewer s (joined b m) (joined b n) fs (joined_more b m n h) (p.covers s b (g s f) a);
}

pub Covers-left : (F : Env → Type 0) (n : Names) (es fs gs : List Env) → Covers F n es fs → Covers F n es (fs ++ gs)
Covers-left F n es fs gs p = record { covers = λ s b f a. OneOf-left (Stands s (joined b n)) fs gs (p.covers s b f a) }

pub Covers-right : (F : Env → Type 0) (n : Names) (es fs gs : List Env) → Covers F n es gs → Covers F n es (fs ++ gs)
Covers-right F n es fs gs p = record { covers = λ s b f a. OneOf-right (Stands s (joined b n)) fs gs (p.covers s b f a) }

Covers-append : (F : Env → Type 0) (n : Names) (es fs xs ys : List Env) → Covers F n es xs → Covers F n fs ys → Covers F n (es ++ fs) (xs ++ ys)
Covers-append F n es fs xs ys p q = record {
  covers = λ s b f a. elim (OneOf-cases (Stands s b) es fs a) [
    | inl l ↦ OneOf-left (Stands s (joined b n)) xs ys (p.covers s b f l)
    | inr r ↦ OneOf-right (Stands s (joined b n)) xs ys (q.covers s b f r)
  ];
}

-- ---- loops

-- one more of the environments before
pub Covers-more : (F : Env → Type 0) (n : Names) (es xs ys zs : List Env) (i : ℕ) (e : Env) → i < length es → e ≡ get_or es i e → zs ≡ xs ++ ys
    → Covers F n (take i es) xs → Covers F n (e ∷ []) ys → Covers F n (take (i + 1) es) zs
Covers-more F n es xs ys zs i e h is made p q =
    subst (λ z. Covers F n (take (i + 1) es) z) (sym made)
    (subst (λ z. Covers F n z (xs ++ ys)) (sym (take_more es i e h ∙ ap (λ z. take i es ++ z ∷ []) (sym is))) (Covers-append F n (take i es) (e ∷ []) xs ys p q))

pub Covers-all : (F : Env → Type 0) (n : Names) (es xs : List Env) (i : ℕ) → length es ≤ i → Covers F n (take i es) xs → Covers F n es xs
Covers-all F n es xs i h p = subst (λ z. Covers F n z xs) (take_all i es h) p

-- a loop that looks at one number after another
pub each_number : {A : Type 0} (P : ℕ → List A → Type 0) → ((k : ℕ) (fs gs : List A) → P k fs → P k (fs ++ gs)) → ((k : ℕ) (fs gs : List A) → P k gs → P k (fs ++ gs))
    → (fs more gs : List A) (i : ℕ) → gs ≡ fs ++ more → ((k : ℕ) → k < i → P k fs) → P i more → (k : ℕ) → k < i + 1 → P k gs
each_number P left right fs more gs i is c d k h = subst (P k) (sym is)
    (below_more (λ j. P j (fs ++ more)) i (λ j l. left j fs more (c j l)) (right i fs more d) k h)
