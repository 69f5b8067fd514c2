use Rattle.std.proofs.Common.{refl, sym, subst, inl, inr, rules}
use Rattle.st_type_table.specs.inner.Graph.{IsOne}
use Rattle.st_any_table.proofs.flats.add_number.Goals as goal

pub returns-then-is_one : goal.returns-then-is_one
returns-then-is_one c = inl (subst (λ ns. IsOne ns c.args.number) c.as_slice.ensures (c.if-is_one.ensures.0 (search rules)), refl)

pub returns : goal.returns
returns c = inr (λ h. let f = c.if-is_one.ensures.1 (subst (λ ns. IsOne ns c.args.number) (sym c.as_slice.ensures) h) in cc, c.in_ok-push.ensures.ok)
