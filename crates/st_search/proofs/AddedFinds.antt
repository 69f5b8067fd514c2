-- Outputs that are found, when others are added to them in order.
use Rattle.std.proofs.Common.{arith, ◌≡◌, refl, sym, ap, subst, ℕ, zero, suc, List, [], ◌∷◌, ◌++◌, inl, inr}
use Rattle.std.specs.Prelude.{Contains}
use Rattle.std.specs.List.{AllByRecursion}
use Rattle.std.proofs.lemmas.List.Elements.{Contains-append_left, Contains-append_right, Contains-append_cases}
use Rattle.st_il.specs.declared.definition.Il.{Il}
use Rattle.st_il.specs.declared.value.Value.{Value}
use Rattle.st_search.specs.declared.answer.Output.{Output}
use Rattle.st_search.specs.Answers.{values_in}
use Rattle.st_search.specs.inner.Lists.{Exists}
use Rattle.st_search.specs.inner.Ordered.{AreAdded}
use Rattle.st_search.specs.inner.Sought.{Sought, Finds}

-- an output is among some
pub each_holds : (P : Output → Type 0) (xs : List Output) (o : Output) → AllByRecursion P xs → Contains xs o → P o
each_holds P [] o all (k, within, is) = absurd (omega (arith, within))
each_holds P (x ∷ xs) o all (zero, within, is) = subst P is all.0
each_holds P (x ∷ xs) o all (suc k, within, is) = each_holds P xs o all.1 (k, omega (arith, within), is)

later : (x : Output) (xs : List Output) (o : Output) → Contains xs o → Contains (x ∷ xs) o
later x xs o h = Contains-append_right (x ∷ []) xs o h

pub all_hold : (P : Output → Type 0) (xs : List Output) → ((o : Output) → Contains xs o → P o) → AllByRecursion P xs
all_hold P [] h = tt
all_hold P (x ∷ xs) h = (h x (zero, omega arith, refl), all_hold P xs (λ o c. h o (later x xs o c)))

-- values are among those of outputs where one of them has them
pub has_values : (xs : List Output) (vs : List Value) → Exists (λ (o : Output). o.values ≡ vs) xs → Contains (values_in xs) vs
has_values [] vs h = absurd h
has_values (x ∷ xs) vs (inl h) = Contains-append_left (x.values ∷ []) (values_in xs) vs (zero, omega arith, h)
has_values (x ∷ xs) vs (inr h) = Contains-append_right (x.values ∷ []) (values_in xs) vs (has_values xs vs h)

pub one_has : (xs : List Output) (vs : List Value) → Contains (values_in xs) vs → Exists (λ (o : Output). o.values ≡ vs) xs
one_has [] vs (k, within, is) = absurd (omega (arith, within))
one_has (x ∷ xs) vs (zero, within, is) = inl is
one_has (x ∷ xs) vs (suc k, within, is) = inr (one_has xs vs (k, omega (arith, within), is))

swapped : {A : Type 0} (P : A → Type 0) (xs ys : List A) (x : A) → Contains (ys ++ xs) x → Contains (xs ++ ys) x
swapped P xs ys x h = elim (Contains-append_cases ys xs x h) [
  | inl i ↦ Contains-append_right xs ys x i
  | inr i ↦ Contains-append_left xs ys x i
]

values_append : (xs ys : List Output) → values_in (xs ++ ys) ≡ values_in xs ++ values_in ys
values_append [] ys = refl
values_append (x ∷ xs) ys = ap (λ z. x.values ∷ z) (values_append xs ys)

swapped_values : (xs ys : List Output) (vs : List Value) → Contains (values_in (xs ++ ys)) vs → Contains (values_in (ys ++ xs)) vs
swapped_values xs ys vs h =
    subst (λ z. Contains z vs) (sym (values_append ys xs)) (swapped (λ (z : List Value). z ≡ vs) (values_in ys) (values_in xs) vs (subst (λ z. Contains z vs) (values_append xs ys) h))

module _ (il : Il) (n : ℕ) (longest : ℕ) (q : Sought Output (List Value)) where
  -- what was found, with what is added to it, in order and by values
  pub Finds-added : ((o : Output) (vs : List Value) → q.Is o vs → o.values ≡ vs) → ((o : Output) (vs : List Value) (w : q.Wanted vs) → o.values ≡ vs → q.Is o vs)
      → (found others more : List Output) → Finds il n longest q (found ++ others) → AreAdded others found more → Finds il n longest q more
  Finds-added values_are is found others more f added = record {
    sound = all_hold q.Right more (λ o c. each_holds q.Right (found ++ others) o f.sound (swapped q.Right found others o (added.among o c)));
    complete = λ vs wanted. made vs wanted more (one_has more vs (added.kept vs (swapped_values found others vs (has_values (found ++ others) vs (valued vs (found ++ others) (f.complete vs wanted))))));
    calm = f.calm;
    shallow = f.shallow;
  }
    where
      valued : (vs : List Value) (xs : List Output) → Exists (λ o. q.Is o vs) xs → Exists (λ (o : Output). o.values ≡ vs) xs
      valued vs [] h = absurd h
      valued vs (x ∷ xs) (inl h) = inl (values_are x vs h)
      valued vs (x ∷ xs) (inr h) = inr (valued vs xs h)

      made : (vs : List Value) → q.Wanted vs → (xs : List Output) → Exists (λ (o : Output). o.values ≡ vs) xs → Exists (λ o. q.Is o vs) xs
      made vs wanted [] h = absurd h
      made vs wanted (x ∷ xs) (inl h) = inl (is x vs wanted h)
      made vs wanted (x ∷ xs) (inr h) = inr (made vs wanted xs h)
