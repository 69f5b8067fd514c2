use Rattle.std.proofs.Common.{sym, subst, ℕ, List, ◌++◌, ◌∷◌, [], take, take_all, slice_index_or}
use Rattle.st_graph.proofs.Positions.{take-more}
use Rattle.st_deps.specs.inner.Ranks.{AreMet, AreRanks}
use Rattle.st_deps.proofs.RanksLemmas.{met-more, ranks_are}
use Rattle.st_deps.proofs.ranks.ranks_of.Goals as goal

pub loop-number-preserved : goal.loop-number-preserved
loop-number-preserved c =
    let k = c.loop-number.number-index in
    let item = slice_index_or c.args.numbers.now c.loop-number.number-index 0 in
    subst (λ (z : List ℕ). AreMet z c.rank_of.new.met.keys c.push.new.self.items) (sym (take-more c.args.numbers.now k 0 c.loop-number-test.true))
    (subst (λ (z : List ℕ). AreMet (take k c.args.numbers.now ++ item ∷ []) c.rank_of.new.met.keys z) (sym c.in_ok-push.ensures.items)
    (met-more (take k c.args.numbers.now) c.loop-number.met.keys c.loop-number.ranks.items c.loop-number.invariant item c.in_ok-rank_of.field-0 c.rank_of.new.met.keys c.in_ok-rank_of.ensures.met
    c.in_ok-rank_of.ensures.rank))

pub returns : goal.returns
returns c =
    subst (λ (n : ℕ). AreRanks c.args.numbers.now c.loop-number.ranks.items n) (sym c.len.ensures.len)
    (ranks_are c.args.numbers.now c.loop-number.met.keys c.loop-number.ranks.items
    (subst (λ (z : List ℕ). AreMet z c.loop-number.met.keys c.loop-number.ranks.items) (take_all c.loop-number.number-index c.args.numbers.now c.loop-number-test.false) c.loop-number.invariant))
