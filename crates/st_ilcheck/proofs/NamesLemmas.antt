-- Names in order with an index: one more name, and what the index tells.
use Rattle.std.proofs.Common.{◌≡◌, ◌↔◌, ℕ, zero, suc, ◌+◌, ◌-◌, refl, sym, ap, ◌∙◌, subst, Bool, true, false, true≢false, ◌&&◌, ◌||◌, if◌then◌else◌, List, [], ◌∷◌, ◌++◌, Option, Some, length, take, cond, arith}
use Rattle.std.specs.Prelude.{IsTrue, not, bytes_eq}
use Rattle.std.specs.Borrow.{Bor}
use Rattle.std.specs.Option.{is_none, is_some, unwrap_or}
use Rattle.std.proofs.lemmas.List.{map-append, length-append}
use Rattle.st_il.specs.Names.{Name, has_name}
use Rattle.st_ilcheck.specs.Declarations.{times, IsOnceIn}
use Rattle.st_ilcheck.specs.Index.{at, has_pair}
use Rattle.st_ilcheck.specs.inner.Names.{names_at, is_single, IsCounted, pairs_at, is_pair, IsKept}
use Rattle.st_num.specs.Names.{same_name}
use Rattle.st_type_table.proofs.InsertionLemmas.{same-equal, any-more}

-- ---- lists from which the last is taken off

taken : {A : Type 0} (xs ys : List A) → take (length xs) (xs ++ ys) ≡ xs
taken [] [] = refl
taken [] (y ∷ ys) = refl
taken (x ∷ xs) ys = ap (λ z. x ∷ z) (taken xs ys)

pub last-off : {A : Type 0} (xs longer left : List A) (x : A) (n : ℕ) → longer ≡ xs ++ x ∷ [] → n ≡ length longer → left ≡ take (n - 1) longer → left ≡ xs
last-off xs longer left x n l e t =
    let count : n ≡ length xs + 1 = e ∙ (ap length l ∙ length-append xs (x ∷ [])) in
    let one : n - 1 ≡ length xs = omega (arith, count) in
    t ∙ (ap (λ z. take z longer) one ∙ (ap (take (length xs)) l ∙ taken xs (x ∷ [])))

-- ---- one more name

pub names-more : (xs longer : List (Bor Name)) (x : Bor Name) → longer ≡ xs ++ x ∷ [] → names_at longer ≡ names_at xs ++ x.now ∷ []
names-more xs longer x e = ap names_at e ∙ map-append (λ (name : Bor Name). name.now) xs (x ∷ [])

pub times-more : (q x : Name) (names : List Name) → times q (names ++ x ∷ []) ≡ (if bytes_eq q x then suc (times q names) else times q names)
times-more q x [] = refl
times-more q x (y ∷ names) = by (bytes_eq q y) (bytes_eq q x) (times q names) (times q (names ++ x ∷ [])) (times-more q x names)
  where
    by : (b c : Bool) (n m : ℕ) → m ≡ (if c then suc n else n) → (if b then suc m else m) ≡ (if c then suc (if b then suc n else n) else (if b then suc n else n))
    by true true n m e = ap suc e
    by true false n m e = ap suc e
    by false true n m e = e
    by false false n m e = e

flipped : (a b : Bool) → a ≡ not b → b ≡ not a
flipped true true e = absurd (true≢false e)
flipped true false e = refl
flipped false true e = refl
flipped false false e = absurd (true≢false (sym e))

single-next : (n : ℕ) → Some (is_none (is_single n)) ≡ is_single (suc n)
single-next zero = refl
single-next (suc zero) = refl
single-next (suc (suc n)) = refl

pub counted-more : (names longer : List Name) (entries new : List (Bor Name × Bool)) (name : Name) (first : Bool)
    → IsCounted names entries → is_some (at entries name) ≡ not first → ((q : Name) → at new q ≡ (if same_name q name then Some first else at entries q))
    → longer ≡ names ++ name ∷ [] → IsCounted longer new
counted-more names longer entries new name first h f more e = record { counted = λ q. by q (bytes_eq q name) refl ∙ ap (λ ns. is_single (times q ns)) (sym e) }
  where
    by : (q : Name) (b : Bool) → bytes_eq q name ≡ b → at new q ≡ is_single (times q (names ++ name ∷ []))
    by q true is =
        let one : at entries name ≡ is_single (times q names) = ap (at entries) (sym (same-equal q name is)) ∙ h.counted q in
        more q ∙ (ap (λ c. if c then Some first else at entries q) is
        ∙ (ap Some (flipped (is_some (at entries name)) first f ∙ ap is_none one)
        ∙ (single-next (times q names)
        ∙ sym (ap is_single (times-more q name names ∙ ap (λ c. if c then suc (times q names) else times q names) is)))))
    by q false is =
        more q ∙ (ap (λ c. if c then Some first else at entries q) is
        ∙ (h.counted q
        ∙ sym (ap is_single (times-more q name names ∙ ap (λ c. if c then suc (times q names) else times q names) is))))

-- what is unchanged is counted as before
pub counted-same : (names same : List Name) (entries new : List (Bor Name × Bool)) → IsCounted names entries → same ≡ names → new ≡ entries → IsCounted same new
counted-same names same entries new h n e = subst (λ ns. IsCounted ns new) (sym n) (subst (IsCounted names) (sym e) h)

pub counted-none : (names : List Name) (entries : List (Bor Name × Bool)) → names ≡ [] → entries ≡ [] → IsCounted names entries
counted-none names entries n e = subst (λ ns. IsCounted ns entries) (sym n) (subst (IsCounted []) (sym e) (record { counted = λ q. refl }))

-- ---- what the index tells of a name

found-at : (q : Name) (names : List Name) → is_some (is_single (times q names)) ≡ has_name names q
found-at q [] = refl
found-at q (y ∷ names) = by (bytes_eq q y) (times q names) (has_name names q) (found-at q names)
  where
    single-some : (n : ℕ) → is_some (is_single (suc n)) ≡ true
    single-some zero = refl
    single-some (suc n) = refl

    by : (b : Bool) (n : ℕ) (there : Bool) → is_some (is_single n) ≡ there → is_some (is_single (if b then suc n else n)) ≡ (b || there)
    by true n there e = single-some n
    by false n there e = e

pub has-exact : (names : List Name) (entries : List (Bor Name × Bool)) (q : Name) (o : Option Bool) (there : Bool)
    → IsCounted names entries → o ≡ at entries q → there ≡ is_some o → there ≡ has_name names q
has-exact names entries q o there h e s = s ∙ (ap is_some (e ∙ h.counted q) ∙ found-at q names)

single-once : (n : ℕ) → IsTrue (unwrap_or (is_single n) false) ↔ (n ≡ 1)
single-once zero = (λ t. absurd (true≢false (sym t)), λ e. absurd (omega (arith, e)))
single-once (suc zero) = (λ t. refl, λ e. refl)
single-once (suc (suc n)) = (λ t. absurd (true≢false (sym t)), λ e. absurd (omega (arith, e)))

pub once-exact : (names : List Name) (entries : List (Bor Name × Bool)) (q : Name) (o : Option Bool) (once : Bool)
    → IsCounted names entries → o ≡ at entries q → once ≡ unwrap_or o false → IsTrue once ↔ IsOnceIn names q
once-exact names entries q o once h e s = subst (λ c. IsTrue c ↔ IsOnceIn names q) (sym (s ∙ ap (λ x. unwrap_or x false) (e ∙ h.counted q))) (single-once (times q names))

-- ---- one more pair

pub pairs-more : (xs longer : List (Bor Name × Bor Name)) (x : Bor Name × Bor Name) → longer ≡ xs ++ x ∷ [] → pairs_at longer ≡ pairs_at xs ++ (x.0.now, x.1.now) ∷ []
pairs-more xs longer x e = ap pairs_at e ∙ map-append (λ (pair : Bor Name × Bor Name). (pair.0.now, pair.1.now)) xs (x ∷ [])

pub kept-more : (pairs longer : List (Name × Name)) (keys new : List (Bor Name × Bor Name)) (first second : Name)
    → IsKept pairs keys → ((p q : Name) → has_pair new p q ≡ (has_pair keys p q || (same_name p first && same_name q second)))
    → longer ≡ pairs ++ (first, second) ∷ [] → IsKept longer new
kept-more pairs longer keys new first second h more e = record {
  kept = λ p q.
      more p q ∙ (ap (λ c. c || (bytes_eq p first && bytes_eq q second)) (h.kept p q)
      ∙ (sym (any-more (λ (pair : Name × Name). bytes_eq p pair.0 && bytes_eq q pair.1) pairs (first, second)) ∙ ap (is_pair p q) (sym e)));
}

pub kept-same : (pairs same : List (Name × Name)) (keys new : List (Bor Name × Bor Name)) → IsKept pairs keys → same ≡ pairs → new ≡ keys → IsKept same new
kept-same pairs same keys new h n e = subst (λ ps. IsKept ps new) (sym n) (subst (IsKept pairs) (sym e) h)

pub kept-none : (pairs : List (Name × Name)) (keys : List (Bor Name × Bor Name)) → pairs ≡ [] → keys ≡ [] → IsKept pairs keys
kept-none pairs keys n e = subst (λ ps. IsKept ps keys) (sym n) (subst (IsKept []) (sym e) (record { kept = λ p q. refl }))
