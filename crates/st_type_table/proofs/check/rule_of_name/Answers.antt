use Rattle.std.proofs.Common.{◌≡◌, refl, sym, inl, inr, true, false}
use Rattle.st_type_table.proofs.PositionLemmas.{unplaced}
use Rattle.st_type_table.proofs.CheckLemmas.{is-declared}
use Rattle.st_type_table.proofs.check.rule_of_name.Goals as goal

pub returns-then-is_numbered : goal.returns-then-is_numbered
returns-then-is_numbered c = inr (
  is-declared c.args.defs.now c.args.name.now c.in-Some.position (sym c.in-Some.ensures),
  ((λ h. h ((c.requires c.args.name.now c.in-Some.position (inl refl) (sym c.in-Some.ensures)).0 (c.if-is_numbered.ensures.0 refl))), refl),
)

pub returns-else-is_numbered : goal.returns-else-is_numbered
returns-else-is_numbered c = (
  is-declared c.args.defs.now c.args.name.now c.in-Some.position (sym c.in-Some.ensures),
  λ l. let e : false ≡ true = c.if-is_numbered.ensures.1 ((c.requires c.args.name.now c.in-Some.position (inl refl) (sym c.in-Some.ensures)).1 l) in cc,
)

pub returns-in-None : goal.returns-in-None
returns-in-None c = inl ((λ h. h (unplaced c.args.defs.now c.args.name.now (sym c.in-None.ensures))), refl)
