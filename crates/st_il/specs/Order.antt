-- The order of values: by kind, and values of one kind part by part; and that of environments, by their entries.
use Rattle.std.specs.Prelude.{◌≡◌, ◌↔◌, ℕ, List, Option, Some, None}
use Rattle.std.specs.Ordering.{nat_cmp, int_cmp, bool_cmp, ordering_then}
use Rattle.std.specs.Cmp.{IsTotalOrder}
use Rattle.std.specs.Cmp.Lexicographic.{slice_cmp}
use Rattle.std.specs.declared.cmp.Ordering.{Ordering}
use Rattle.std.specs.declared.cmp.Ordering.TheVariants.{Less as Below, Equal, Greater}
use Rattle.st_il.specs.declared.value.Env.{Env}
use Rattle.st_il.specs.declared.value.Value.{Value, out-Value, fold-Value}
use Rattle.st_il.specs.declared.value.Value.TheOpen.{Value-F}

-- the number of a value's kind, by which kinds are ordered
abbrev pub kind_of : {X : Type 0} → Value-F X → ℕ
kind_of (Value-F.Bool b) = 0
kind_of (Value-F.Num n) = 1
kind_of (Value-F.Text text) = 2
kind_of (Value-F.Case tag parts) = 3
kind_of (Value-F.Fields fields) = 4
kind_of (Value-F.Tuple parts) = 5
kind_of (Value-F.List parts) = 6
kind_of (Value-F.Opt part) = 7

-- the order of texts and tags, by their bytes; of two of which one begins the other the shorter is
-- first
abbrev pub text_cmp : List ℕ → List ℕ → Ordering
text_cmp = slice_cmp nat_cmp

module _ {X : Type 0} (part_cmp : X → Value → Ordering) where
  -- the order of two fields, by name and then by value
  abbrev pub field_cmp : List ℕ × X → List ℕ × Value → Ordering
  field_cmp field other = ordering_then (text_cmp field.0 other.0) (part_cmp field.1 other.1)

  -- the order of two options; the empty one is first
  abbrev pub option_cmp : Option X → Option Value → Ordering
  option_cmp None None = Equal
  option_cmp None (Some other) = Below
  option_cmp (Some part) None = Greater
  option_cmp (Some part) (Some other) = part_cmp part other

  -- the order of two values, where `part_cmp` compares their parts
  abbrev pub level_cmp : Value-F X → Value-F Value → Ordering
  level_cmp (Value-F.Bool truth) (Value-F.Bool other) = bool_cmp truth other
  level_cmp (Value-F.Num number) (Value-F.Num other) = int_cmp number other
  level_cmp (Value-F.Text text) (Value-F.Text other) = text_cmp text other
  level_cmp (Value-F.Case tag parts) (Value-F.Case other others) =
      ordering_then (text_cmp tag other) (slice_cmp part_cmp parts others)
  level_cmp (Value-F.Fields fields) (Value-F.Fields others) = slice_cmp field_cmp fields others
  level_cmp (Value-F.Tuple parts) (Value-F.Tuple others) = slice_cmp part_cmp parts others
  level_cmp (Value-F.List parts) (Value-F.List others) = slice_cmp part_cmp parts others
  level_cmp (Value-F.Opt part) (Value-F.Opt other) = option_cmp part other
  level_cmp level other = nat_cmp (kind_of level) (kind_of other)

-- what compares a value that is given with another
abbrev pub Compares : Type 0
Compares = Value → Ordering

-- a level whose parts can be compared with other values is compared with one
abbrev pub compare_at : Value-F Compares → Compares
compare_at level other = level_cmp (λ part. part) level (out-Value other)

-- the order of values
abbrev pub value_cmp : Value → Value → Ordering
value_cmp = fold-Value Compares compare_at

-- the order of lists of values: the first pair that is not equal decides, and else the lengths do
abbrev pub values_cmp : List Value → List Value → Ordering
values_cmp = slice_cmp value_cmp

-- the order of lists of fields, likewise
abbrev pub fields_cmp : List (List ℕ × Value) → List (List ℕ × Value) → Ordering
fields_cmp = slice_cmp (field_cmp value_cmp)

-- the order of environments, by their entries
abbrev pub env_cmp : Env → Env → Ordering
env_cmp a b = fields_cmp a.entries b.entries

-- a value stands before another
abbrev pub Less : Value → Value → Type 0
Less a b = value_cmp a b ≡ Below

-- the comparison is a total order, and answers Equal exactly at equal values
pub record IsOrder {A : Type 0} (compares : A → A → Ordering) : Type 0 where
  pub total : IsTotalOrder compares
  pub equal : (a b : A) → (compares a b ≡ Equal) ↔ (a ≡ b)
