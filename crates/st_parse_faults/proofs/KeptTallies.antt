-- Tallies of which none passes a number keep the limits.
use Rattle.std.proofs.Common.{◌≡◌, List, [], ◌∷◌, Bool, true, false, ◌||◌, nat_lt, refl, arith}
use Rattle.std.specs.List.{AllByRecursion, list_any}
use Rattle.st_num.specs.declared.limit.TheConstants.{MOST_PARTS, MOST_SIGNS}
use Rattle.st_parse_faults.specs.declared.tally.Tally.{Tally}
use Rattle.st_parse_faults.specs.inner.Limits.{tally_passes}
use Rattle.st_parse_faults.specs.inner.Roles.{TallyKept}

pub neither : (a b : Bool) → (a || b) ≡ false → (a ≡ false) × (b ≡ false)
neither false b e = (refl, e)
neither true b e = absurd (cc)

pub tally_kept : (y : Tally) → tally_passes y ≡ false → TallyKept y
tally_kept y e =
    let d = neither ((nat_lt MOST_PARTS y.parts || nat_lt MOST_PARTS y.elements) || nat_lt MOST_SIGNS y.signs) (nat_lt MOST_SIGNS y.row) e in
    let c = neither (nat_lt MOST_PARTS y.parts || nat_lt MOST_PARTS y.elements) (nat_lt MOST_SIGNS y.signs) d.0 in
    let b = neither (nat_lt MOST_PARTS y.parts) (nat_lt MOST_PARTS y.elements) c.0 in
    (grind (arith, b.0), grind (arith, b.1), grind (arith, c.1), grind (arith, d.1))

pub none_passes : (ys : List Tally) → list_any tally_passes ys ≡ false → AllByRecursion TallyKept ys
none_passes [] e = tt
none_passes (y ∷ ys) e =
    let a = neither (tally_passes y) (list_any tally_passes ys) e in
    (tally_kept y a.0, none_passes ys a.1)
