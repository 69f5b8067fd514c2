use Rattle.std.proofs.Common.{◌≡◌, rules, ap}
use Rattle.std.specs.Ordering.{eq_by_cmp, is_lt}
use Rattle.std.proofs.lemmas.Fn.{always_returns_same, dedup_same}
use Rattle.std.proofs.lemmas.List.Sorted.{ranks_by}
use Rattle.st_il.specs.Order.{env_cmp}
use Rattle.st_il.proofs.OrderLaws.{env_cmp_order}
use Rattle.st_match.proofs.EachOnce.{AreEachOnce-kept}
use Rattle.st_match.proofs.environment.each_once.Goals as goal

pub returns : goal.returns
returns c =
    let sorted = c.sort_unstable_by.ensures.sorted (λ a b. is_lt (env_cmp a b)) (ranks_by env_cmp_order.total (λ a. a))
    (always_returns_same _ (λ a r. is_lt r ≡ is_lt (env_cmp a.0.now a.1.0.now)) _ (λ a r f' k. search rules)) in
    let kept = dedup_same _ (eq_by_cmp env_cmp) _ (λ x y b f' x' y' k. search rules) _ _ c.dedup_by.ensures.filtered in
    AreEachOnce-kept c.args.envs c.into_vec-envs.result.items c.sort_unstable_by.new.self.items c.dedup_by.new.self.items c.from_vec.result c.into_vec-envs.ensures c.sort_unstable_by.ensures.permutation sorted kept c.from_vec.ensures
