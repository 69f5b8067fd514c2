-- How each token of a source is written in LaTeX.
use Rattle.std.specs.Prelude.{ℕ, List, [], ◌∷◌, ◌++◌, flat_map, codes, Bool, true, false, ◌==◌, if◌then◌else◌}
use Rattle.std.specs.List.{list_any}
use Rattle.std.specs.Fmt.{decimal}
use Rattle.st_num.specs.Signs.{spelling}
use Rattle.st_num.specs.Texts.{escaped}
use Rattle.st_num.specs.declared.mark.Mark.{Mark}
use Rattle.st_num.specs.declared.mark.Mark.TheVariants.{Turnstile, ReverseTurnstile, SquigglyArrowStar, SquigglyArrow, Subtype, Supertype, Approximately, Arrow, Ellipsis, PlusPlus, ExtendBy, NotEqual, LessOrEqual, GreaterOrEqual, ElementOf, Tilde, And, Or, Implies, Equivalent, Star, Backslash, OpenBrace, CloseBrace, OpenArith, TickParen, TickBracket, TickBrace}

-- a token, with the blank before it
abbrev pub token : List ℕ → List ℕ
token written = codes " " ++ written

-- how a sign is written; `*` and `\` are those of arithmetic
abbrev pub sign_text : Mark → List ℕ
sign_text Turnstile = codes "\\vdash"
sign_text ReverseTurnstile = codes "\\dashv"
sign_text SquigglyArrow = codes "\\leadsto"
sign_text SquigglyArrowStar = codes "\\leadsto^{\\ast}"
sign_text Approximately = codes "\\approx"
sign_text Arrow = codes "\\to"
sign_text Subtype = codes "\\mathrel{<:}"
sign_text Supertype = codes "\\mathrel{:>}"
sign_text PlusPlus = codes "\\oplus"
sign_text ExtendBy = codes "\\mathrel{=\\oplus}"
sign_text Ellipsis = codes "\\dots"
sign_text NotEqual = codes "\\neq"
sign_text LessOrEqual = codes "\\leq"
sign_text GreaterOrEqual = codes "\\geq"
sign_text ElementOf = codes "\\in"
sign_text Tilde = codes "\\neg"
sign_text And = codes "\\wedge"
sign_text Or = codes "\\vee"
sign_text Implies = codes "\\Rightarrow"
sign_text Equivalent = codes "\\Leftrightarrow"
sign_text Star = codes "\\cdot"
sign_text Backslash = codes "\\bmod"
sign_text OpenBrace = codes "\\{"
sign_text CloseBrace = codes "\\}"
sign_text TickParen = codes "("
sign_text TickBracket = codes "["
sign_text TickBrace = codes "\\{"
sign_text OpenArith = codes "("
sign_text sign = spelling sign

-- a sign as a token
abbrev pub sign : Mark → List ℕ
sign mark = token (sign_text mark)

-- ---- names and words

-- a character of a name: `_` is `\_`
abbrev pub name_byte : ℕ → List ℕ
name_byte byte = if byte == 95 then codes "\\_" else byte ∷ []

-- a name in the braces of a command, which is given with its `{`
abbrev pub named : List ℕ → List ℕ → List ℕ
named command name = command ++ flat_map name_byte name ++ codes "}"

-- the name of a variable, a syntax or a type
abbrev pub variable : List ℕ → List ℕ
variable name = token (named (codes "\\mathit{") name)

-- an atom, or the name of a field in a record
abbrev pub atom : List ℕ → List ℕ
atom name = token (named (codes "\\mathsf{") name)

-- the name of a field behind a dot
abbrev pub dotted : List ℕ → List ℕ
dotted name = token (named (codes ".\\mathsf{") name)

-- the name of a relation, a rule or a fragment
abbrev pub label : List ℕ → List ℕ
label name = token (named (codes "\\text{") name)

-- the name of a function, without its `$`
abbrev pub function : List ℕ → List ℕ
function name = token (named (codes "\\mathrm{") name)

-- a truth value
abbrev pub truth : Bool → List ℕ
truth true = token (codes "\\text{true}")
truth false = token (codes "\\text{false}")

-- ---- texts

-- LaTeX reads this byte otherwise than as itself
abbrev pub is_special : ℕ → Bool
is_special byte = list_any (λ other. byte == other) (codes "\\{}$&#^_%~")

-- a byte of a text: as `\char`, its decimal code and a blank where it is special
abbrev pub text_byte : ℕ → List ℕ
text_byte byte = if is_special byte then codes "\\char" ++ decimal byte ++ codes " " else byte ∷ []

-- a text: its characters, first with the escapes of a source and then with codes
abbrev pub text : List ℕ → List ℕ
text bytes = token (codes "\\texttt{" ++ flat_map text_byte (flat_map escaped bytes) ++ codes "}")
