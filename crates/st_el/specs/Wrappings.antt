-- Whether a part suits its context, and what is written round it otherwise.
use Rattle.std.specs.Prelude.{ℕ, List, [], codes, Bool, true, false, not, ◌&&◌, nat_le, if◌then◌else◌}
use Rattle.st_num.specs.Signs.{level, prefix_level}
use Rattle.st_num.specs.declared.mark.Mark.TheVariants.{Tilde, Minus}
use Rattle.st_el.specs.declared.expression.Count.TheOpen.{Node-F}
use Rattle.st_el.specs.declared.context.Around.{Around}
use Rattle.st_el.specs.declared.context.Around.TheVariants.{Arithmetic, Caret as BehindCaret}
use Rattle.st_el.specs.declared.context.Behind.{Behind}
use Rattle.st_el.specs.declared.context.Behind.TheVariants.{Other, Dot, Plus}
use Rattle.st_el.specs.declared.context.Context.{Context}
use Rattle.st_el.specs.declared.context.Wrapping.{Wrapping}
use Rattle.st_el.specs.declared.context.Wrapping.TheVariants.{Bare, Parens, Dollar}
use Rattle.st_el.specs.Contexts.{sequence_level, operand_level, in_parens}

-- what is known of a part: whether it begins with a bar where this is behind it, and its texts
pub record Printed : Type 0 where
  pub begins_with_bar : Behind → Bool
  pub at : Context → List ℕ

-- how an iteration stands behind a part: what it is to the part, and how it is written
pub record IterationText : Type 0 where
  pub behind : Behind
  pub text : List ℕ

-- one level of an expression, with its parts printed
abbrev pub Level : Type 0
Level = Node-F IterationText Printed (List ℕ) Printed

-- how tightly a level holds together
abbrev pub level_of : Level → ℕ
level_of (Node-F.Seq parts) = sequence_level
level_of (Node-F.Infix left sign right) = level sign
level_of (Node-F.Binary left sign right) = level sign
level_of (Node-F.Not e) = prefix_level Tilde
level_of (Node-F.Neg e) = prefix_level Minus
level_of node = operand_level

-- what is behind a part is the `+` of an iteration
abbrev pub is_plus : Behind → Bool
is_plus Plus = true
is_plus behind = false

-- An atom with a dot behind it would be read as one longer atom, and two signs `+` as `++`.
abbrev pub takes_in : Behind → Level → Bool
takes_in Dot (Node-F.Atom name) = true
takes_in Plus (Node-F.Iter e mark) = is_plus mark.behind
takes_in behind node = false

-- an operand begins with a bar where it is a length, or the operand at its front does
abbrev pub has_bar : Level → Bool
has_bar (Node-F.Len e) = true
has_bar (Node-F.Dot e field) = e.begins_with_bar Dot
has_bar (Node-F.Node::At e at) = e.begins_with_bar Other
has_bar (Node-F.Node::Slice e from length) = e.begins_with_bar Other
has_bar (Node-F.Update e path part) = e.begins_with_bar Other
has_bar (Node-F.Extend e path part) = e.begins_with_bar Other
has_bar (Node-F.Iter e mark) = e.begins_with_bar mark.behind
has_bar node = false

-- the signs of a level are those of arithmetic, which stand in `$( )` alone
abbrev pub is_arithmetic : Level → Bool
is_arithmetic (Node-F.Binary left sign right) = nat_le 15 (level sign)
is_arithmetic (Node-F.Neg e) = true
is_arithmetic node = false

-- a level is a number, a variable or `$( )`, which may stand behind `^`
abbrev pub is_count : Level → Bool
is_count (Node-F.Number n) = true
is_count (Node-F.Name name) = true
is_count (Node-F.Arith e) = true
is_count node = false

-- a level is tight enough for its context, and neither what is behind it nor a bar is misread
abbrev pub suits : Context → Level → Bool
suits context node =
    nat_le context.least (level_of node)
    && not (takes_in context.behind node)
    && not (context.bar_closes && has_bar node)

-- what is written round a part in arithmetic, behind `^` or elsewhere
abbrev pub wrapping_in : Around → Context → Level → Wrapping
wrapping_in BehindCaret context node = if is_count node then Bare else Dollar
wrapping_in Arithmetic context node = if suits context node then Bare else Parens
wrapping_in around context node =
    if is_arithmetic node then Dollar else if suits context node then Bare else Parens

-- what is written round a part in its context
abbrev pub wrapping : Context → Level → Wrapping
wrapping context node = wrapping_in context.around context node

-- ---- what is written round it

-- what a wrapping begins with
abbrev pub opening : Wrapping → List ℕ
opening Bare = []
opening Parens = codes "("
opening Dollar = codes "$("

-- what a wrapping ends with
abbrev pub ending : Wrapping → List ℕ
ending Bare = []
ending wrapping = codes ")"

-- what is round the inside of a wrapping
abbrev pub around_in : Wrapping → Around → Around
around_in Bare around = around
around_in Parens around = in_parens around
around_in Dollar around = Arithmetic
