-- The groups that are ready: one is added, or the least is taken off.
use Rattle.std.proofs.Common.{◌≡◌, ◌⊎◌, ◌↔◌, inl, inr, refl, sym, ◌∙◌, subst, ℕ, ◌<◌, List, Bool, true, false, cond, All, Contains, Less, nat_cmp, BTreeSet}
use Rattle.std.specs.Cmp.{nat_cmp_total}
use Rattle.std.specs.BTreeSet.{contains, Updates}
use Rattle.std.specs.BTreeMap.{is_at}
use Rattle.std.specs.BTreeMap.Range.{IsLtBy}
use Rattle.std.proofs.lemmas.Cmp.{ranked}
use Rattle.std.proofs.lemmas.List.Elements.{All-contains}
use Rattle.std.proofs.lemmas.Map.Lookups.{exact_unsigned}
use Rattle.std.proofs.lemmas.Map.Views.{btree_set_contains_iff, tells_apart}
use Rattle.st_graph.specs.Graph.{Stands}
use Rattle.st_deps.proofs.TableLemmas.{contains-stands, stands-contains}

-- the first key is less than the others
pub ready-least : (keys : List ℕ) (group : ℕ) → All (IsLtBy nat_cmp group) keys → (a : ℕ) → Stands keys a → group < a
ready-least keys group all a s = ranked group a Less (sym (All-contains (IsLtBy nat_cmp group) keys a all (stands-contains keys a s)))

-- the keys with one more
pub ready-more : (old new : BTreeSet ℕ) (group : ℕ) → Updates nat_cmp old new group true → (a : ℕ) → Stands new.keys a ↔ (Stands old.keys a ⊎ (a ≡ group))
ready-more old new group u a = (λ s. from ((has new a).1 (stands-contains new.keys a s)), to)
  where
    has : (s : BTreeSet ℕ) (k : ℕ) → (contains nat_cmp s k ≡ true) ↔ Contains s.keys k
    has s k = btree_set_contains_iff nat_cmp_total exact_unsigned s k

    from-by : (b : Bool) → is_at (nat_cmp group) a ≡ b → cond b true (contains nat_cmp old a) ≡ true → Stands old.keys a ⊎ (a ≡ group)
    from-by true h e = inr (sym (tells_apart exact_unsigned group a h))
    from-by false h e = inl (contains-stands old.keys a ((has old a).0 e))

    from : contains nat_cmp new a ≡ true → Stands old.keys a ⊎ (a ≡ group)
    from e = from-by (is_at (nat_cmp group) a) refl (sym (u.0 a) ∙ e)

    to-by : (b : Bool) → contains nat_cmp old a ≡ true → cond b true (contains nat_cmp old a) ≡ true
    to-by true e = refl
    to-by false e = e

    to : Stands old.keys a ⊎ (a ≡ group) → Stands new.keys a
    to (inl s) = contains-stands new.keys a ((has new a).0 (u.0 a ∙ to-by (is_at (nat_cmp group) a) ((has old a).1 (stands-contains old.keys a s))))
    to (inr q) = subst (Stands new.keys) (sym q) (contains-stands new.keys group ((has new group).0 u.1))
