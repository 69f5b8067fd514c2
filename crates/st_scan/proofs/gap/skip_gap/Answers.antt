use Rattle.std.proofs.Common.{sym, ◌∙◌}
use Rattle.st_scan.proofs.Gaps.{gap_empty, gap_blank, gap_last, gap_line, gap_comment, gap_ends}
use Rattle.st_scan.proofs.gap.skip_gap.Goals as goal

pub returns-in_default : goal.returns-in_default
returns-in_default c = gap_empty _ c.in_default.ensures.cases ∙ c.between.invariant

pub between-preserved-then-is_blank : goal.between-preserved-then-is_blank
between-preserved-then-is_blank c = sym (gap_blank _ _ _ c.in-Some.ensures.cases.0 (sym c.is_blank.ensures ∙ c.if-is_blank.true)) ∙ c.between.invariant

pub returns-in_default-split_first : goal.returns-in_default-split_first
returns-in_default-split_first c = gap_last _ _ _ c.in-Some.ensures.cases.0 c.in_default-split_first.ensures.cases (sym c.is_blank.ensures ∙ c.if-is_blank.false) ∙ c.between.invariant

pub between-preserved-then-starts_line : goal.between-preserved-then-starts_line
between-preserved-then-starts_line c =
    sym c.skip_line-rest.ensures.same
    ∙ sym (gap_line _ _ _ _ _ c.in-Some.ensures.cases.0 c.in-Some-split_first.ensures.cases.0 (sym c.is_blank.ensures ∙ c.if-is_blank.false) (sym c.starts_line.ensures ∙ c.if-starts_line.true))
    ∙ c.between.invariant

pub returns-in_default-skip_comment : goal.returns-in_default-skip_comment
returns-in_default-skip_comment c =
    sym (c.in_default-skip_comment.ensures.same _)
    ∙ sym (gap_comment _ _ _ _ _ c.in-Some.ensures.cases.0 c.in-Some-split_first.ensures.cases.0 (sym c.is_blank.ensures ∙ c.if-is_blank.false) (sym c.starts_line.ensures ∙ c.if-starts_line.false) (sym c.opens.ensures ∙ c.if-opens.true))
    ∙ c.between.invariant

pub between-preserved : goal.between-preserved
between-preserved c =
    sym (c.in-Some-skip_comment.ensures.same _)
    ∙ sym (gap_comment _ _ _ _ _ c.in-Some.ensures.cases.0 c.in-Some-split_first.ensures.cases.0 (sym c.is_blank.ensures ∙ c.if-is_blank.false) (sym c.starts_line.ensures ∙ c.if-starts_line.false) (sym c.opens.ensures ∙ c.if-opens.true))
    ∙ c.between.invariant

pub returns-else-opens : goal.returns-else-opens
returns-else-opens c =
    gap_ends _ _ _ _ _ c.in-Some.ensures.cases.0 c.in-Some-split_first.ensures.cases.0 (sym c.is_blank.ensures ∙ c.if-is_blank.false) (sym c.starts_line.ensures ∙ c.if-starts_line.false) (sym c.opens.ensures ∙ c.if-opens.false)
    ∙ c.between.invariant
