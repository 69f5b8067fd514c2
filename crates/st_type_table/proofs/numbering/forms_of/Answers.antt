use Rattle.std.proofs.Common.{◌≡◌, ◌+◌, ◌<◌, suc, length, refl, subst, arith}
use Rattle.std.proofs.lemmas.Option.{slice_get_read}
use Rattle.st_type_table.specs.inner.Kept.{defs_of}
use Rattle.st_type_table.proofs.NumberingLemmas.{HaveNumbers, have-more, all-numbered}
use Rattle.st_type_table.proofs.NamesNumberedLemmas.{names-ready}
use Rattle.st_type_table.proofs.numbering.forms_of.Goals as goal

pub number_named-requires-clause-ready : goal.number_named-requires-clause-ready
number_named-requires-clause-ready c =
    let h = c.loop-at-test.true in
    let f = c.len-at-end.ensures in
    let o = c.in_ok-names.names.ok.0 in
    let less : c.loop-at.at < length c.in_ok-names.names.items = omega (arith, h, f, o) in
    names-ready c.args.entries.now.entries c.requires c.loop-at.numbers.entries c.in_ok-names.names.items c.loop-at.at c.index.result.now
    (slice_get_read c.in_ok-names.names.items (length c.in_ok-names.names.items) c.loop-at.at c.index.result.now refl less c.index.ensures)
    c.in_ok-names.ensures.all c.in_ok-names.ensures.ordered c.loop-at.invariant.1

pub loop-at-preserved : goal.loop-at-preserved
loop-at-preserved c =
    let h = c.loop-at-test.true in
    let f = c.len-at-end.ensures in
    let o = c.in_ok-names.names.ok.0 in
    let less : c.loop-at.at < length c.in_ok-names.names.items = omega (arith, h, f, o) in
    let next : suc c.loop-at.at ≡ c.loop-at.at + 1 = omega arith in (
      c.in_ok-number_named.ensures.right,
      subst (HaveNumbers (defs_of c.args.entries.now.entries) c.number_named.new.numbers.entries c.in_ok-names.names.items) next
          (have-more (defs_of c.args.entries.now.entries) c.loop-at.numbers.entries c.number_named.new.numbers.entries c.in_ok-names.names.items c.loop-at.at c.index.result.now
          (slice_get_read c.in_ok-names.names.items (length c.in_ok-names.names.items) c.loop-at.at c.index.result.now refl less c.index.ensures)
          c.in_ok-number_named.ensures.keeps c.in_ok-number_named.ensures.has c.loop-at.invariant.1),
    )

pub returns : goal.returns
returns c =
    let h = c.loop-at-test.false in
    let f = c.len-at-end.ensures in
    let o = c.in_ok-names.names.ok.0 in
    all-numbered (defs_of c.args.entries.now.entries) c.loop-at.numbers.entries c.loop-at.list.keys c.in_ok-names.names.items c.loop-at.at (omega (arith, h, f, o))
    c.in_ok-names.ensures.all c.loop-at.invariant.0 c.loop-at.invariant.1
