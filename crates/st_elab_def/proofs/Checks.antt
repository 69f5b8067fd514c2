-- What is asked is checked, part by part.
use Rattle.std.proofs.Common.{◌≡◌, sym, ap, ◌∙◌, subst, ℕ, ◌+◌, ◌<◌, ◌≤◌, List, [], ◌∷◌, ◌++◌, length, take, drop, get_or, append-nil}
use Rattle.std.specs.Prelude.{Result, Ok, Err, flat_map}
use Rattle.std.proofs.lemmas.Grind.{flat_map-append}
use Rattle.st_num.specs.declared.fault.Fault.{Fault}
use Rattle.st_num.specs.declared.fault.Fault.TheVariants as fault
use Rattle.st_dims.proofs.Lists.{next_taken, all_taken, cut}
use Rattle.st_elab_table.specs.declared.decls.Decls.{Decls}
use Rattle.st_elab_def.specs.Phases.{Placed}
use Rattle.st_elab_def.specs.inner.Walk.{AllPassAt, Checks}
use Rattle.st_elab_def.proofs.Leaves.{AllPassAt-append, FirstBreachAt-front, FirstBreachAt-behind}

module _ (D : Decls) where
  -- a breach in what is asked first
  pub checks-stop : {A B : Type 0} (ps qs : List Placed) (r : Result A Fault) (s : Result B Fault) (e : Fault) → r ≡ Err e → s ≡ Err e
      → Checks D ps r → Checks D (ps ++ qs) s
  checks-stop ps qs r s (fault.Refused at rule) is out h =
      subst (Checks D (ps ++ qs)) (sym out) (FirstBreachAt-front D ps qs (record { at = at; rule = rule }) (subst (Checks D ps) is h))
  checks-stop ps qs r s fault.Memory is out h = subst (Checks D (ps ++ qs)) (sym out) tt

  -- what is asked first passes
  pub checks-go : {A : Type 0} (ps qs : List Placed) (s : Result A Fault) → AllPassAt D ps → Checks D qs s → Checks D (ps ++ qs) s
  checks-go ps qs (Ok x) h k = AllPassAt-append D ps qs h k
  checks-go ps qs (Err (fault.Refused at rule)) h k = FirstBreachAt-behind D ps qs (record { at = at; rule = rule }) h k
  checks-go ps qs (Err fault.Memory) h k = tt

  -- a breach is handed on
  pub checks-same : {A B : Type 0} (ps : List Placed) (r : Result A Fault) (s : Result B Fault) (e : Fault) → r ≡ Err e → s ≡ Err e
      → Checks D ps r → Checks D ps s
  checks-same ps r s (fault.Refused at rule) is out h = subst (Checks D ps) (sym out) (subst (Checks D ps) is h)
  checks-same ps r s fault.Memory is out h = subst (Checks D ps) (sym out) tt

  -- the same is asked
  pub checks-is : {A : Type 0} (ps qs : List Placed) (s : Result A Fault) → ps ≡ qs → Checks D qs s → Checks D ps s
  checks-is ps qs s e h = subst (λ ps. Checks D ps s) (sym e) h

  -- what passed
  pub passed : {A : Type 0} (ps : List Placed) (r : Result A Fault) (x : A) → r ≡ Ok x → Checks D ps r → AllPassAt D ps
  passed ps r x is h = subst (Checks D ps) is h

  -- ---- the members of a list

  module _ {X : Type 0} (g : X → List Placed) (xs : List X) (i : ℕ) where
    pub each-next : (x : X) → i < length xs → x ≡ get_or xs i x → AllPassAt D (flat_map g (take i xs)) → AllPassAt D (g x) → AllPassAt D (flat_map g (take (i + 1) xs))
    each-next x h is before one =
        subst (λ zs. AllPassAt D (flat_map g zs)) (sym (next_taken xs i x h is))
        (subst (AllPassAt D) (sym (flat_map-append g (take i xs) (x ∷ [])))
        (AllPassAt-append D (flat_map g (take i xs)) (g x ++ []) before (subst (AllPassAt D) (sym (append-nil (g x))) one)))

    pub each-stop : {A B : Type 0} (x : X) (r : Result A Fault) (s : Result B Fault) (e : Fault) → i < length xs → x ≡ get_or xs i x
        → AllPassAt D (flat_map g (take i xs)) → r ≡ Err e → s ≡ Err e → Checks D (g x) r → Checks D (flat_map g xs) s
    each-stop x r s e h is before failed out one =
        checks-is (flat_map g xs) (flat_map g (take i xs) ++ (g x ++ flat_map g (drop (i + 1) xs))) s
        (ap (flat_map g) (cut xs i x h is) ∙ flat_map-append g (take i xs) (x ∷ drop (i + 1) xs))
        (checks-go (flat_map g (take i xs)) (g x ++ flat_map g (drop (i + 1) xs)) s before (checks-stop (g x) (flat_map g (drop (i + 1) xs)) r s e failed out one))

    pub each-end : length xs ≤ i → AllPassAt D (flat_map g (take i xs)) → AllPassAt D (flat_map g xs)
    each-end h before = subst (λ zs. AllPassAt D (flat_map g zs)) (all_taken xs i h) before
