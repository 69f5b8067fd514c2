-- Numbers: the whole numbers whose magnitude is below 2 ^ 128, and what their operations give.
use Rattle.std.specs.Prelude.{ℕ, ◌^◌, ◌<◌, Bool, true, false, Option, Some, None, nat_lt, nat_eq, if◌then◌else◌, ℤ, pos, negsuc, neg_ℤ, ◌+ℤ◌, ◌-ℤ◌, ◌*ℤ◌, unsigned_abs, int_div, int_rem}
use Rattle.std.specs.Int.{int_pow}

-- its size is below 2 ^ 128, as that of each number of the language
abbrev pub IsNumber : ℤ → Type 0
IsNumber z = unsigned_abs z < 2 ^ 128

-- the number of a sign, which is true for a minus, and a magnitude
abbrev pub signed : Bool → ℕ → ℤ
signed false n = pos n
signed true n = neg_ℤ (pos n)

-- whether the number is below zero
abbrev pub below_zero : ℤ → Bool
below_zero (pos n) = false
below_zero (negsuc n) = true

-- a whole number as the value of an operation, where it is in range
abbrev pub in_range : ℤ → Option ℤ
in_range z = if nat_lt (unsigned_abs z) (2 ^ 128) then Some z else None

-- the sum, where it is in range
abbrev pub sum : ℤ → ℤ → Option ℤ
sum a b = in_range (a +ℤ b)

-- the difference, where it is in range
abbrev pub difference : ℤ → ℤ → Option ℤ
difference a b = in_range (a -ℤ b)

-- the product, where it is in range
abbrev pub product : ℤ → ℤ → Option ℤ
product a b = in_range (a *ℤ b)

-- the remainder of division toward zero, which has the sign of a, where b is not zero
abbrev pub remainder : ℤ → ℤ → Option ℤ
remainder a b = if nat_eq (unsigned_abs b) 0 then None else in_range (int_rem a b)

-- the quotient, where b is not zero and nothing remains
abbrev pub quotient : ℤ → ℤ → Option ℤ
quotient a b = if nat_eq (unsigned_abs b) 0 then None
    else (if nat_eq (unsigned_abs (int_rem a b)) 0 then in_range (int_div a b) else None)

-- the power, where the exponent is not negative; with the exponent 0 it is 1
abbrev pub power : ℤ → ℤ → Option ℤ
power a (pos n) = in_range (int_pow a n)
power a (negsuc n) = None
