use Rattle.std.proofs.Common.{sym, ◌∙◌, ap}
use Rattle.st_il.proofs.TagParts.{ends_there, goes_there}
use Rattle.st_order.specs.inner.Arrow.{taken}
use Rattle.st_order.proofs.ArrowParts.{shorter, scan-low, scan-fails, scan-goes_on, scan-ends}
use Rattle.st_order.proofs.arrow.sides_of.Goals as goal

pub returns-in_default : goal.returns-in_default
returns-in_default c =
    let t = sym (ap (taken c.parts.scan) c.piece_of-piece.ensures) ∙ sym c.take-found.ensures ∙ c.in_default.is in
    scan-fails c.parts.scan c.parts.rest.now c.cut.result.0.now c.args.tag.now c.cut.ensures.front c.parts.invariant.same c.cut.result.1 c.cut.ensures.whole t

pub returns-in_default-behind : goal.returns-in_default-behind
returns-in_default-behind c =
    let t = sym (ap (taken c.parts.scan) c.piece_of-piece.ensures) ∙ sym c.take-found.ensures ∙ c.in-Some.is in
    let e = ends_there c.cut.result.1 c.parts.rest.now c.cut.result.0.now c.in_default-behind.is c.cut.ensures.whole in
    c.sides_at.ensures ∙ scan-ends c.parts.scan c.parts.rest.now c.cut.result.0.now c.args.tag.now c.cut.ensures.front c.parts.invariant.same c.in-Some.next e t

pub parts-preserved : goal.parts-preserved
parts-preserved c =
    let t = sym (ap (taken c.parts.scan) c.piece_of-piece.ensures) ∙ sym c.take-found.ensures ∙ c.in-Some.is in
    let e = goes_there c.cut.result.1 c.in-Some-behind.others c.parts.rest.now c.cut.result.0.now c.in-Some-behind.is c.cut.ensures.whole in
    let low = scan-low c.parts.scan c.in-Some.next _ c.parts.rest.now c.cut.result.0.now c.in-Some-behind.others.now _ t e c.parts.invariant.depth c.parts.invariant.holes in
    record {
      same = scan-goes_on c.parts.scan c.parts.rest.now c.cut.result.0.now c.args.tag.now c.cut.ensures.front c.parts.invariant.same c.in-Some.next c.in-Some-behind.others.now e t;
      depth = low.0;
      holes = low.1;
    }

pub parts-smaller : goal.parts-smaller
parts-smaller c =
    shorter c.parts.rest.now c.cut.result.0.now c.in-Some-behind.others.now
    (goes_there c.cut.result.1 c.in-Some-behind.others c.parts.rest.now c.cut.result.0.now c.in-Some-behind.is c.cut.ensures.whole)
