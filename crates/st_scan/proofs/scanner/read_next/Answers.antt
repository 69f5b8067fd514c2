use Rattle.std.proofs.Common.{refl, sym, ap, subst, ◌≡◌, ◌≤◌, ◌-◌, ◌==◌, false, length, take, drop, arith}
use Rattle.std.proofs.lemmas.Bool.{eqb-false}
use Rattle.std.proofs.lemmas.List.{take_rest, length-drop, length-take-le, take-append-drop}
use Rattle.st_scan.specs.inner.Steps.{StopsNext, IsAt}
use Rattle.st_scan.specs.Tokens.{Next}
use Rattle.st_num.specs.declared.token.Token.{Token}
use Rattle.st_scan.proofs.Steps.{gap_short, token_next, at_here, at_moves, left_shorter, stops_next}
use Rattle.st_scan.proofs.scanner.read_next.Goals as goal

pub overflow_sub-gap : goal.overflow_sub-gap
overflow_sub-gap c = subst (λ u. length u ≤ length c.args.rest.now) (sym c.skip_gap-here.ensures) (gap_short c.args.rest.now)

pub span-requires-clause-lines : goal.span-requires-clause-lines
span-requires-clause-lines c =
    let short : length c.skip_gap-here.result.now ≤ length c.args.rest.now = subst (λ u. length u ≤ length c.args.rest.now) (sym c.skip_gap-here.ensures) (gap_short c.args.rest.now) in
    let empty : (length c.skip_gap-here.result.now == 0) ≡ false = sym c.if-is_empty.ensures in
    let some = eqb-false _ _ empty in
    omega (arith, short, some, c.behind-place.ensures.lines, length-take-le (length c.args.rest.now - length c.skip_gap-here.result.now) c.args.rest.now (omega arith))

pub span-requires-clause-columns : goal.span-requires-clause-columns
span-requires-clause-columns c =
    let short : length c.skip_gap-here.result.now ≤ length c.args.rest.now = subst (λ u. length u ≤ length c.args.rest.now) (sym c.skip_gap-here.ensures) (gap_short c.args.rest.now) in
    let empty : (length c.skip_gap-here.result.now == 0) ≡ false = sym c.if-is_empty.ensures in
    let some = eqb-false _ _ empty in
    omega (arith, short, some, c.behind-place.ensures.columns, length-take-le (length c.args.rest.now - length c.skip_gap-here.result.now) c.args.rest.now (omega arith))

pub returns-in-Ok : goal.returns-in-Ok
returns-in-Ok c = λ whole at.
    let here = c.skip_gap-here.result.now in
    let reading = c.in-Ok.reading in
    let taken = left_shorter here reading c.in-Ok.ensures in
    let short : length here ≤ length c.args.rest.now = subst (λ u. length u ≤ length c.args.rest.now) (sym c.skip_gap-here.ensures) (gap_short c.args.rest.now) in
    let there : IsAt whole here c.behind-place.result = at_here c.args.file whole c.args.rest.now here c.args.place c.behind-place.result c.skip_gap-here.ensures at c.behind-place.ensures.same in
    let left : take (length here - reading.length) (drop reading.length here) ≡ drop reading.length here = take_rest here reading.length in
    let token : Token = record { at = c.span.result; touching = (length c.args.rest.now - length here) == 0; kind = reading.kind } in
    record {
      next = subst (λ u. Next c.args.file whole c.args.rest.now token u) (sym left)
          (token_next c.args.file whole c.args.rest.now here c.args.place c.behind-place.result c.skip_gap-here.ensures at c.behind-place.ensures.same reading token c.span.result c.span.ensures refl refl refl c.in-Ok.ensures);
      at = subst (λ u. IsAt whole u c.behind.result) (sym left)
          (at_moves whole here (take reading.length here) (drop reading.length here) c.behind-place.result c.behind.result there (sym (take-append-drop reading.length here)) (c.behind.ensures.same _ there.behind));
      shorter = omega (arith, taken.0, taken.1, short, ap length left, length-drop reading.length here);
    }

pub returns-in-Err : goal.returns-in-Err
returns-in-Err c = λ whole at. subst (StopsNext c.args.rest.now) (sym c.farther.ensures) (stops_next _ _ c.in-Err.stop c.skip_gap-here.ensures c.in-Err.ensures)
