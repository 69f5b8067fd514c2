use Rattle.std.proofs.Common.{sym, ◌∙◌, true≢false, inl, inr}
use Rattle.st_ilcheck.proofs.shape.are_ordered.Goals as goal

pub returns : goal.returns
returns c = (
  λ y. inr (c.in_ok-whole.ensures.0 y),
  λ h. elim h [ inl n ↦ absurd (true≢false (sym (c.in_ok-natural.ensures.1 n) ∙ c.if-natural.false)) | inr i ↦ c.in_ok-whole.ensures.1 i ],
)
