use Rattle.std.proofs.Common.{sym, ap, ◌∙◌, arith}
use Rattle.st_scan.specs.Gaps.{gap, comment}
use Rattle.st_scan.proofs.Gaps.{comment_ends, comment_closes, comment_opens, comment_goes}
use Rattle.st_scan.proofs.gap.skip_comment.Goals as goal

pub returns-then-open-eq0-clause-same : goal.returns-then-open-eq0-clause-same
returns-then-open-eq0-clause-same c = λ start.
    c.comment.invariant.same start ∙ ap (λ n. gap (comment start n) c.comment.rest.now) c.if-open-eq0.true
    ∙ comment_ends start _ _ _ _ _ c.in_ok-first.ensures.cases.0 c.in_ok-second.ensures.cases.0 (sym c.closes.ensures ∙ c.if-closes.true)

pub comment-preserved-then-closes : goal.comment-preserved-then-closes
comment-preserved-then-closes c = record {
  same = λ start. c.comment.invariant.same start ∙ comment_closes start c.comment.open _ _ _ _ _ c.in_ok-first.ensures.cases.0 c.in_ok-second.ensures.cases.0 (sym c.closes.ensures ∙ c.if-closes.true) (omega arith);
  shorter = omega (arith, c.in_ok-first.ensures.cases.1, c.in_ok-second.ensures.cases.1);
}

pub comment-preserved-then-opens : goal.comment-preserved-then-opens
comment-preserved-then-opens c = record {
  same = λ start. c.comment.invariant.same start ∙ comment_opens start c.comment.open _ _ _ _ _ c.in_ok-first.ensures.cases.0 c.in_ok-second.ensures.cases.0 (sym c.closes.ensures ∙ c.if-closes.false) (sym c.opens.ensures ∙ c.if-opens.true);
  shorter = omega (arith, c.in_ok-first.ensures.cases.1, c.in_ok-second.ensures.cases.1);
}

pub comment-preserved : goal.comment-preserved
comment-preserved c = record {
  same = λ start. c.comment.invariant.same start ∙ comment_goes start c.comment.open _ _ _ _ _ c.in_ok-first.ensures.cases.0 c.in_ok-second.ensures.cases.0 (sym c.closes.ensures ∙ c.if-closes.false) (sym c.opens.ensures ∙ c.if-opens.false);
  shorter = omega (arith, c.in_ok-first.ensures.cases.1);
}
