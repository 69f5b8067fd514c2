-- Notations with their types as holes: the levels of signs, atoms, and which trees are notations.
use Rattle.std.specs.Prelude.{◌≡◌, ℕ, ◌≤◌, Bool, true, false, ◌||◌, IsTrue, List, [], ◌∷◌, ◌++◌, length, if◌then◌else◌, ◌==◌}
use Rattle.std.specs.Char.{is_ascii_uppercase, is_ascii_digit}
use Rattle.std.specs.List.{AllByRecursion}
use Rattle.st_num.specs.Signs.{level, left_of, right_of, is_notation}
use Rattle.st_num.specs.declared.mark.Mark.{Mark}
use Rattle.st_num.specs.declared.mark.Mark.TheVariants.{Turnstile, CloseParen, CloseBracket, CloseBrace, TickParen, TickBracket, TickBrace}
use Rattle.st_il.specs.declared.template.Enclosure.{Enclosure}
use Rattle.st_il.specs.declared.template.Enclosure.TheVariants.{Parens, Brackets, Braces}
use Rattle.st_il.specs.declared.template.Role.{Role}
use Rattle.st_il.specs.declared.template.Role.TheVariants.{Divides, Opens, Closes, Other}
use Rattle.st_il.specs.declared.template.Template.{Template}
use Rattle.st_il.specs.declared.template.Template.TheVariants as template

-- ---- signs

-- what a sign is for in a notation
abbrev pub role_of : Mark → Role
role_of TickParen = Opens Parens
role_of TickBracket = Opens Brackets
role_of TickBrace = Opens Braces
role_of CloseParen = Closes Parens
role_of CloseBracket = Closes Brackets
role_of CloseBrace = Closes Braces
role_of sign = if is_notation sign then Divides (level sign) else Other

-- a sign of this role stands in notations
abbrev pub is_role : Role → Bool
is_role Other = false
is_role _ = true

-- whether the sign stands in notations
abbrev pub has_role : Mark → Bool
has_role sign = is_role (role_of sign)

-- the plain bracket that closes an enclosure
abbrev pub closing_of : Enclosure → Mark
closing_of Parens = CloseParen
closing_of Brackets = CloseBracket
closing_of Braces = CloseBrace

-- the bracket that closes what a sign of this role opens
abbrev pub closing_by : Mark → Role → Mark
closing_by sign (Opens enclosure) = closing_of enclosure
closing_by sign _ = sign

-- the bracket that closes what this one opens
abbrev pub closing : Mark → Mark
closing opening = closing_by opening (role_of opening)

-- ---- notations

-- a capital, a digit, `_` or `'`
abbrev pub is_name_byte : ℕ → Bool
is_name_byte byte = is_ascii_uppercase byte || is_ascii_digit byte || byte == 95 || byte == 39

-- a name of capitals, as CONST or I32
abbrev pub IsUpName : List ℕ → Type 0
IsUpName [] = ⊥
IsUpName (byte ∷ bytes) =
    IsTrue (is_ascii_uppercase byte) × AllByRecursion (λ b. IsTrue (is_name_byte b)) bytes

-- a name of capitals, or several joined by dots, as LOCAL.GET
pub data IsAtom : List ℕ → Type 0 where
  single : {atom : List ℕ} → IsUpName atom → IsAtom atom
  dotted : {atom : List ℕ} (first rest : List ℕ) → atom ≡ first ++ 46 ∷ rest → IsUpName first
      → IsAtom rest → IsAtom atom

mutual
  -- the template is a notation, and may stand where this level or a tighter one is due
  pub data IsNotation : ℕ → Template → Type 0 where
    atom : {n : ℕ} {t : Template} (name : List ℕ) → t ≡ template.Atom name → IsAtom name
        → IsNotation n t
    hole : {n : ℕ} {t : Template} → t ≡ template.Hole → IsNotation n t
    bracket : {n : ℕ} {t : Template} (opening : Mark) (enclosure : Enclosure) (inside : Template)
        → t ≡ template.Bracket opening inside → role_of opening ≡ Opens enclosure
        → IsNotation 7 inside → IsNotation n t
    sequence : {n : ℕ} {t : Template} (parts : List Template)
        → n ≤ 14 → t ≡ template.Seq parts → AreElements parts → 2 ≤ length parts → IsNotation n t
    -- two sides of a sign
    divided : {n : ℕ} {t : Template} (level : ℕ) (left : Template) (sign : Mark) (right : Template)
        → n ≤ level → t ≡ template.Infix left sign right → role_of sign ≡ Divides level
        → IsNotation (left_of level) left → IsNotation (right_of level) right → IsNotation n t
    -- a sign whose left side is absent
    without_left : {n : ℕ} {t : Template} (right : Template)
        → n ≤ 7 → t ≡ template.Infix (template.Seq []) Turnstile right → IsNotation 8 right
        → IsNotation n t

  -- Elements of a sequence are atoms, holes and brackets.
  pub data AreElements : List Template → Type 0 where
    none : AreElements []
    more : {t : Template} {ts : List Template} → IsNotation 15 t → AreElements ts
        → AreElements (t ∷ ts)
