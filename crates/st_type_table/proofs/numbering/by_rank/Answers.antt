use Rattle.std.proofs.Common.{◌∙◌, arith, rules}
use Rattle.std.proofs.lemmas.List.Sorted.{IsNonDecreasingBy-from_sort_by_key}
use Rattle.st_type_table.specs.inner.Kept.{rank_of}
use Rattle.st_type_table.proofs.NumberingLemmas.{all-names}
use Rattle.st_type_table.proofs.numbering.by_rank.Goals as goal

pub returns-clause-all : goal.returns-clause-all
returns-clause-all c = all-names c.args.entries.now.entries c.as_slice-keys.result.now c.loop-at.at c.loop-at.names.items c.sort_by_key.new.self.items
    (c.as_slice-keys.ensures ∙ c.keys.ensures.rest) (let h = c.loop-at-test.false in omega (arith, h)) c.loop-at.invariant c.sort_by_key.ensures.permutation

pub returns-clause-ordered : goal.returns-clause-ordered
returns-clause-ordered c = IsNonDecreasingBy-from_sort_by_key (λ b. rank_of c.args.entries.now.entries b.now) _ c.in_ok-sort_by_key.ensures.sorted (λ a r q k. search rules)
