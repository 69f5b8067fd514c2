use Rattle.std.proofs.Common.{sym, ◌∙◌, true≢false, inl, inr}
use Rattle.st_ilcheck.proofs.declaring.is_mode.Goals as goal

pub returns : goal.returns
returns c = (
  λ y. inr (sym c.len.ensures ∙ (c.is_length.ensures.0 y ∙ c.len-2.ensures)),
  λ h. elim h [ inl e ↦ absurd (true≢false (sym (c.if-is_empty.ensures.1 e))) | inr l ↦ c.is_length.ensures.1 (c.len.ensures ∙ (l ∙ sym c.len-2.ensures)) ],
)
