use Rattle.std.proofs.Common.{◌≡◌, ap, ◌∙◌, length, arith}
use Rattle.std.proofs.lemmas.List.{length-map}
use Rattle.st_il.specs.Names.{has_name}
use Rattle.st_order.specs.Known.{at}
use Rattle.st_order.specs.inner.Index.{names_in}
use Rattle.st_modes.specs.inner.Reaching.{cited_under}
use Rattle.st_modes.specs.inner.Targets.{or_number}
use Rattle.st_modes.proofs.TargetParts.{spread-split, target-more}
use Rattle.st_modes.proofs.targets.add_target.Goals as goal

pub behind-met-requires : goal.behind-met-requires
behind-met-requires c =
    let old : length (names_in c.args.found.now.keys) ≡ length c.args.found.now.keys = length-map c.args.found.now.keys (λ key. key.now) in
    let new : length (names_in c.spread.new.found.keys) ≡ length c.spread.new.found.keys = length-map c.spread.new.found.keys (λ key. key.now) in
    let counted = c.len-before.ensures.len in
    let longer = c.in_ok-spread.ensures.longer in
    omega arith

pub returns : goal.returns
returns c targets n h =
    let old : length (names_in c.args.found.now.keys) ≡ length c.args.found.now.keys = length-map c.args.found.now.keys (λ key. key.now) in
    let counted = c.len-before.ensures.len in
    let count : c.len-before.result ≡ length (names_in c.args.found.now.keys) = omega (arith, old, counted) in
    let citing = cited_under c.args.citing.now.entries in
    let split = spread-split citing c.args.target.now c.args.found.now.keys c.spread.new.found.keys c.behind-met.result.now c.len-before.result count c.behind-met.ensures c.in_ok-spread.ensures in
    target-more citing (names_in c.args.found.now.keys) c.args.target.now targets (names_in c.spread.new.found.keys) (names_in c.behind-met.result.now) c.args.firsts.now.entries c.put_all.new.firsts.entries h c.in_ok-spread.ensures split
    (λ q. c.in_ok-put_all.ensures q ∙ ap (or_number (at c.args.firsts.now.entries q) (has_name (names_in c.behind-met.result.now) q)) n)
