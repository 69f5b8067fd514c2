use Rattle.std.proofs.Common.{◌≡◌, refl, sym, ◌∙◌, inl, inr, true, false}
use Rattle.st_type_table.proofs.PositionLemmas.{unplaced}
use Rattle.st_type_table.proofs.CheckLemmas.{is-declared}
use Rattle.st_type_table.proofs.check.check_included.Goals as goal

pub returns-in_default : goal.returns-in_default
returns-in_default c = inl ((λ h. h (unplaced c.args.defs.now c.args.name.now (sym c.in_default.ensures))), c.whole.ensures)

pub returns-then-is_numbered : goal.returns-then-is_numbered
returns-then-is_numbered c = inr (
  is-declared c.args.defs.now c.args.name.now c.in-Some.position (sym c.in-Some.ensures),
  inl ((λ h. h ((c.requires.numbers c.args.name.now c.in-Some.position (inl refl) (sym c.in-Some.ensures)).0 (c.if-is_numbered.ensures.0 refl))), c.whole-then-is_numbered.ensures),
)

pub returns-then-not-branch : goal.returns-then-not-branch
returns-then-not-branch c = inr (
  is-declared c.args.defs.now c.args.name.now c.in-Some.position (sym c.in-Some.ensures),
  inr (
    (λ l. let e : false ≡ true = c.if-is_numbered.ensures.1 ((c.requires.numbers c.args.name.now c.in-Some.position (inl refl) (sym c.in-Some.ensures)).1 l) in cc),
    inl ((λ v. let m = c.in_ok-is_variant.ensures.1 v in let e : false ≡ true = sym c.if-not-branch.true ∙ m in cc), c.whole-then-not-branch.ensures),
  ),
)

pub returns : goal.returns
returns c = (
  is-declared c.args.defs.now c.args.name.now c.in-Some.position (sym c.in-Some.ensures),
  (
    (λ l. let e : false ≡ true = c.if-is_numbered.ensures.1 ((c.requires.numbers c.args.name.now c.in-Some.position (inl refl) (sym c.in-Some.ensures)).1 l) in cc),
    (c.in_ok-is_variant.ensures.0 c.if-not-branch.false, tt),
  ),
)
