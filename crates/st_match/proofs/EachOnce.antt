-- Environments that are sorted, and of which neighbours that are equal are dropped, are there each once.
use Rattle.std.proofs.Common.{◌≡◌, ◌↔◌, ℕ, ◌<◌, refl, sym, ◌∙◌, ap, subst, List, [], ◌∷◌, length, get_or, Bool, true, arith}
use Rattle.std.specs.Prelude.{◌≢◌, AllPairs, Contains}
use Rattle.std.specs.Borrow.{Bor}
use Rattle.std.specs.Cmp.{eq_by_cmp_equiv}
use Rattle.std.specs.List.{All, AllByRecursion, dedup}
use Rattle.std.specs.List.Sorted.{IsPermutation, IsSorted, IsStrictlySortedBy}
use Rattle.std.specs.Ordering.{eq_by_cmp, is_eq}
use Rattle.std.specs.declared.cmp.Ordering.{Ordering}
use Rattle.std.specs.declared.cmp.Ordering.TheVariants.{Less as Below, Equal, Greater}
use Rattle.std.proofs.lemmas.List.Elements.{All-from_recursion}
use Rattle.std.proofs.lemmas.List.Kept.{AllPairs-cons, Contains-dedup, Contains-from_dedup, IsStrictlySortedBy-dedup}
use Rattle.std.proofs.lemmas.List.Sorted.{Contains-permutation, IsPermutation-sym}
use Rattle.st_il.specs.declared.value.Env.{Env}
use Rattle.st_il.specs.Order.{env_cmp}
use Rattle.st_il.proofs.OrderLaws.{env_cmp_order}
use Rattle.st_match.specs.inner.Found.{AreEachOnce}

Equal-from : (o : Ordering) → is_eq o ≡ true → o ≡ Equal
Equal-from Below e = absurd (cc)
Equal-from Equal e = refl
Equal-from Greater e = absurd (cc)

same_means : (a b : Env) → eq_by_cmp env_cmp a b ≡ true → a ≡ b
same_means a b e = (env_cmp_order.equal a b).0 (Equal-from (env_cmp a b) e)

apart : (a b : Env) → env_cmp a b ≡ Below → a ≢ b
apart a b less same = let tied : Below ≡ Equal = sym less ∙ (env_cmp_order.equal a b).1 same in absurd (cc)

strictly_apart : (envs : List Env) → IsStrictlySortedBy env_cmp envs → AllPairs (λ (a b : Env). a ≢ b) envs
unfolding IsStrictlySortedBy
strictly_apart [] s = λ i j d less more. absurd (omega (arith, less, more))
strictly_apart (env ∷ envs) s =
    let below : All (λ b. env_cmp env b ≡ Below) envs = All-from_recursion (λ b. env_cmp env b ≡ Below) envs s.0 in
    AllPairs-cons (λ (a b : Env). a ≢ b) env envs (λ k d inside. apart env (get_or envs k d) (below k d inside)) (strictly_apart envs s.1)

pub AreEachOnce-dedup : (envs sorted each : List Env) → IsPermutation envs sorted → IsSorted env_cmp sorted → each ≡ dedup (eq_by_cmp env_cmp) sorted → AreEachOnce envs each
AreEachOnce-dedup envs sorted each p s is = subst (AreEachOnce envs) (sym is) (record {
  same = λ env. (
    λ c. Contains-permutation sorted envs env (IsPermutation-sym envs sorted p) (Contains-from_dedup (eq_by_cmp env_cmp) sorted env c),
    λ c. Contains-dedup (eq_by_cmp_equiv env_cmp_order.total) same_means sorted env (Contains-permutation envs sorted env p c),
  );
  once = strictly_apart (dedup (eq_by_cmp env_cmp) sorted) (IsStrictlySortedBy-dedup env_cmp_order.total (λ a b. refl) sorted s);
})

-- the same of a row that is taken apart, and put together again
pub AreEachOnce-kept : (envs taken sorted each kept : List Env) → taken ≡ envs → IsPermutation taken sorted → IsSorted env_cmp sorted → each ≡ dedup (eq_by_cmp env_cmp) sorted → kept ≡ each → AreEachOnce envs kept
AreEachOnce-kept envs taken sorted each kept same p s is put =
    subst (λ z. AreEachOnce z kept) same (AreEachOnce-dedup taken sorted kept p s (put ∙ is))
