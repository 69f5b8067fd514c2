-- What is found from one source after another.
use Rattle.std.proofs.Common.{arith, ℕ, ◌≤◌, List, [], ◌∷◌, ◌++◌, ◌⊎◌, inl, inr}
use Rattle.std.specs.List.{AllByRecursion}
use Rattle.st_il.specs.declared.definition.Il.{Il}
use Rattle.st_semantics.specs.Goals.{Goal}
use Rattle.st_search.specs.declared.stop.Stop.{Stop}
use Rattle.st_search.specs.declared.stop.Stop.TheVariants as stop
use Rattle.st_search.specs.inner.Lists.{Exists}
use Rattle.st_search.specs.inner.Chains.{IsCalm}
use Rattle.st_search.specs.inner.Sought.{Sought, Finds, sought_from, Stops, StopsIf}

-- ---- one of some elements

module _ {A : Type 0} (P : A → Type 0) where
  pub Exists-front : (xs ys : List A) → Exists P xs → Exists P (xs ++ ys)
  Exists-front [] ys h = absurd h
  Exists-front (x ∷ xs) ys (inl h) = inl h
  Exists-front (x ∷ xs) ys (inr h) = inr (Exists-front xs ys h)

  pub Exists-back : (xs ys : List A) → Exists P ys → Exists P (xs ++ ys)
  Exists-back [] ys h = h
  Exists-back (x ∷ xs) ys h = inr (Exists-back xs ys h)

  pub Exists-split : (xs ys : List A) → Exists P (xs ++ ys) → Exists P xs ⊎ Exists P ys
  Exists-split [] ys h = inr h
  Exists-split (x ∷ xs) ys (inl h) = inl (inl h)
  Exists-split (x ∷ xs) ys (inr h) = elim (Exists-split xs ys h) [ inl i ↦ inl (inr i) | inr i ↦ inr i ]

  pub Exists-last : (xs : List A) (x : A) → P x → Exists P (xs ++ x ∷ [])
  Exists-last xs x h = Exists-back xs (x ∷ []) (inl h)

  pub Each-append : (xs ys : List A) → AllByRecursion P xs → AllByRecursion P ys → AllByRecursion P (xs ++ ys)
  Each-append [] ys g h = h
  Each-append (x ∷ xs) ys g h = (g.0, Each-append xs ys g.1 h)

module _ {A : Type 0} (P Q : A → Type 0) (more : (x : A) → P x → Q x) where
  pub Exists-weaken : (xs : List A) → Exists P xs → Exists Q xs
  Exists-weaken [] h = absurd h
  Exists-weaken (x ∷ xs) (inl h) = inl (more x h)
  Exists-weaken (x ∷ xs) (inr h) = inr (Exists-weaken xs h)

  pub Each-weaken : (xs : List A) → AllByRecursion P xs → AllByRecursion Q xs
  Each-weaken [] h = tt
  Each-weaken (x ∷ xs) h = (more x h.0, Each-weaken xs h.1)

-- ---- finds

module _ (il : Il) (n : ℕ) where
  pub IsCalm-wider : (l m : ℕ) (g : Goal) → l ≤ m → IsCalm il n l g → IsCalm il n m g
  IsCalm-wider l m g h calm = record {
    short = λ (more : List Goal) linked. let few = calm.short more linked in omega (arith, few, h);
    quiet = calm.quiet;
  }

  module _ {X Y : Type 0} where
    pub Finds-wider : (l m : ℕ) (q : Sought X Y) (xs : List X) → l ≤ m → Finds il n l q xs → Finds il n m q xs
    Finds-wider l m q xs h f = record {
      sound = f.sound;
      complete = f.complete;
      calm = λ g asked. IsCalm-wider l m g h (f.calm g asked);
      shallow = f.shallow;
    }

    module _ {S : Type 0} (q : S → Sought X Y) where
      pub Finds-start : (l : ℕ) → Finds il n l (sought_from q []) []
      Finds-start l = record {
        sound = tt;
        complete = λ y w. absurd w;
        calm = λ g asked. absurd asked;
        shallow = λ deep. deep;
      }

      right_there : (zs : List S) (z : S) (ys : List X) → AllByRecursion (q z).Right ys → AllByRecursion (sought_from q (zs ++ z ∷ [])).Right ys
      right_there zs z ys all = Each-weaken (q z).Right (sought_from q (zs ++ z ∷ [])).Right (λ x r. Exists-last (λ (s : S). (q s).Right x) zs z r) ys all

      right_before : (zs : List S) (z : S) (xs : List X) → AllByRecursion (sought_from q zs).Right xs → AllByRecursion (sought_from q (zs ++ z ∷ [])).Right xs
      right_before zs z xs all = Each-weaken (sought_from q zs).Right (sought_from q (zs ++ z ∷ [])).Right (λ x r. Exists-front (λ (s : S). (q s).Right x) zs (z ∷ []) r) xs all

      only_asked : (z : S) (goal : Goal) → Exists (λ (s : S). (q s).Asked goal) (z ∷ []) → (q z).Asked goal
      only_asked z goal (inl h) = h
      only_asked z goal (inr h) = absurd h

      only_deep : (z : S) → Exists (λ (s : S). (q s).Deep) (z ∷ []) → (q z).Deep
      only_deep z (inl h) = h
      only_deep z (inr h) = absurd h

      last_wanted : (l : ℕ) (zs : List S) (z : S) (ys : List X) (y : Y) → Finds il n l (q z) ys → Exists (λ (s : S). (q s).Wanted y) (z ∷ []) → Exists (λ x. (sought_from q (zs ++ z ∷ [])).Is x y) ys
      last_wanted l zs z ys y g (inl w) =
          Exists-weaken (λ x. (q z).Is x y) (λ x. (sought_from q (zs ++ z ∷ [])).Is x y)
          (λ x is. Exists-last (λ (s : S). (q s).Wanted y × (q s).Is x y) zs z (w, is)) ys (g.complete y w)
      last_wanted l zs z ys y g (inr w) = absurd w

      first_wanted : (l : ℕ) (zs : List S) (z : S) (xs : List X) (y : Y) → Finds il n l (sought_from q zs) xs → (sought_from q zs).Wanted y → Exists (λ x. (sought_from q (zs ++ z ∷ [])).Is x y) xs
      first_wanted l zs z xs y f w =
          Exists-weaken (λ x. (sought_from q zs).Is x y) (λ x. (sought_from q (zs ++ z ∷ [])).Is x y)
          (λ x is. Exists-front (λ (s : S). (q s).Wanted y × (q s).Is x y) zs (z ∷ []) is) xs (f.complete y w)

      -- one source more
      pub Finds-next : (l m k : ℕ) (zs : List S) (z : S) (xs ys : List X) → Finds il n l (sought_from q zs) xs → Finds il n m (q z) ys → l ≤ k → m ≤ k → Finds il n k (sought_from q (zs ++ z ∷ [])) (xs ++ ys)
      Finds-next l m k zs z xs ys f g less lesser = record {
        sound = Each-append (sought_from q (zs ++ z ∷ [])).Right xs ys (right_before zs z xs f.sound) (right_there zs z ys g.sound);
        complete = λ y w. elim (Exists-split (λ (s : S). (q s).Wanted y) zs (z ∷ []) w) [
          | inl i ↦ Exists-front (λ x. (sought_from q (zs ++ z ∷ [])).Is x y) xs ys (first_wanted l zs z xs y f i)
          | inr i ↦ Exists-back (λ x. (sought_from q (zs ++ z ∷ [])).Is x y) xs ys (last_wanted m zs z ys y g i)
        ];
        calm = λ goal asked. elim (Exists-split (λ (s : S). (q s).Asked goal) zs (z ∷ []) asked) [
          | inl i ↦ IsCalm-wider l k goal less (f.calm goal i)
          | inr i ↦ IsCalm-wider m k goal lesser (g.calm goal (only_asked z goal i))
        ];
        shallow = λ deep. elim (Exists-split (λ (s : S). (q s).Deep) zs (z ∷ []) deep) [
          | inl i ↦ f.shallow i
          | inr i ↦ g.shallow (only_deep z i)
        ];
      }

-- what stops at one source stops at all
pub Stops-from : (il : Il) (n left : ℕ) {S X Y : Type 0} (q : S → Sought X Y) (before : List S) (z : S) (after : List S) (s : Stop) → Stops il n left (q z) s → Stops il n left (sought_from q (before ++ z ∷ after)) s
Stops-from il n left q before z after stop.Meets h = Exists-back (λ z. (q z).Deep) before (z ∷ after) (inl h)
Stops-from il n left q before z after (stop.Asks chain) h =
    (h.0, Exists-back (λ z. (q z).Asked h.0) before (z ∷ after) (inl h.1), h.2, h.3)
Stops-from il n left q before z after stop.Memory h = tt

-- where no goal is asked
pub StopsIf-Stops : (il : Il) (n left : ℕ) {X Y : Type 0} (q : Sought X Y) (P : Type 0) (s : Stop) → (P → q.Deep) → StopsIf P s → Stops il n left q s
StopsIf-Stops il n left q P stop.Meets deep h = deep h
StopsIf-Stops il n left q P (stop.Asks chain) deep h = absurd h
StopsIf-Stops il n left q P stop.Memory deep h = tt
