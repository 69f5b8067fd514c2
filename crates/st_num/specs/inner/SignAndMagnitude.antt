-- A sign and a magnitude are those of their number, where it is no negative zero.
use Rattle.std.proofs.Common.{◌≡◌, refl, ℕ, zero, suc, Bool, true, false, ◌<◌, arith}
use Rattle.std.specs.Prelude.{unsigned_abs}
use Rattle.st_num.specs.Number.{signed, below_zero}
use Rattle.st_num.specs.declared.num.Num.TheInside.{Inside}

-- the code's number with this sign and magnitude
abbrev with_fields : Bool → ℕ → Inside
with_fields sign size = record { negative = sign; magnitude = size }

-- the code's number whose fields are read back from the whole number that they make
abbrev of_number : Bool → ℕ → Inside
of_number sign size =
    record { negative = below_zero (signed sign size); magnitude = unsigned_abs (signed sign size) }

-- the fields that are read back are the same, where they are no negative zero
same_fields : (sign : Bool) (size : ℕ) → (sign ≡ true → 0 < size)
    → of_number sign size ≡ with_fields sign size
same_fields false size positive = refl
same_fields true zero positive = absurd (omega (arith, positive refl))
same_fields true (suc size) positive = refl

-- a number of the code is read back from the whole number that it stands for
pub fields_back : (n : Inside) → (n.negative ≡ true → 0 < n.magnitude)
    → of_number n.negative n.magnitude ≡ n
fields_back n positive = same_fields n.negative n.magnitude positive
