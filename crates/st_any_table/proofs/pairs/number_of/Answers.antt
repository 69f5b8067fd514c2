use Rattle.std.proofs.Common.{sym, ap, ◌∙◌, arith, length, [], ◌∷◌, ◌++◌, Some, rules}
use Rattle.std.specs.Prelude.{slice_get}
use Rattle.st_type_table.proofs.PartLemmas.{read-at}
use Rattle.st_any_table.proofs.PairsLemmas.{Grows-refl, Grows-one, at-end}
use Rattle.st_any_table.proofs.pairs.number_of.Goals as goal

pub returns-then-is_pair-clause-grows : goal.returns-then-is_pair-clause-grows
returns-then-is_pair-clause-grows c = Grows-refl c.args.pairs.now

pub returns-then-is_pair-clause-number : goal.returns-then-is_pair-clause-number
returns-then-is_pair-clause-number c =
    let h = c.loop-at-test.true in
    let l = c.len-number.ensures in
    let s = ap length c.as_slice.ensures in
    ap (λ ps. slice_get ps c.loop-at.at) (sym c.as_slice.ensures) ∙ read-at c.as_slice.result.now c.loop-at.at _ (omega (arith, h, l, s)) c.index-as_slice-at.is ∙ ap Some (c.if-is_pair.ensures.0 (search rules))

pub returns-clause-grows : goal.returns-clause-grows
returns-clause-grows c = Grows-one c.args.pairs.now c.push.new.self c.of.result c.in_ok-push.ensures.ok

pub returns-clause-number : goal.returns-clause-number
returns-clause-number c = ap (λ ps. slice_get ps c.len-number.result) c.in_ok-push.ensures.ok ∙ ap (slice_get (c.args.pairs.now ++ c.of.result ∷ [])) c.len-number.ensures ∙ at-end c.args.pairs.now c.of.result ∙ ap Some c.of.ensures
