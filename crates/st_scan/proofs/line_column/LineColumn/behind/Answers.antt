use Rattle.std.proofs.Common.{ap, sym, subst, ◌∙◌, ◌≡◌, ◌++◌, ◌∷◌, [], ◌+◌, take, get_or, arith, append_assoc}
use Rattle.std.proofs.lemmas.List.{take_more, take_all}
use Rattle.st_scan.specs.Places.{IsBehind}
use Rattle.st_scan.proofs.line_column.LineColumn.behind.Goals as goal

pub loop-byte-preserved : goal.loop-byte-preserved
loop-byte-preserved c = record {
  same = λ before h.
      let i = c.loop-byte.byte-index in
      let bytes = c.args.bytes.now in
      let step : (before ++ take i bytes) ++ get_or bytes i 0 ∷ [] ≡ before ++ take (i + 1) bytes =
      append_assoc before (take i bytes) (get_or bytes i 0 ∷ []) ∙ ap (λ u. before ++ u) (sym (take_more bytes i 0 c.loop-byte-test.true)) in
      subst (λ u. IsBehind u c.behind_byte-here.result) step (c.behind_byte-here.ensures.same (before ++ take i bytes) (c.loop-byte.invariant.same before h));
  lines = omega arith;
  columns = omega arith;
}

pub returns-clause-same : goal.returns-clause-same
returns-clause-same c = λ before h. subst (λ u. IsBehind (before ++ u) c.loop-byte.here) (take_all _ _ (omega arith)) (c.loop-byte.invariant.same before h)
