-- The text of an expression is read back as this expression.
use Rattle.std.specs.Prelude.{◌≡◌, ℕ, List, [], ◌∷◌, All, Contains}
use Rattle.st_num.specs.declared.token.Token.{Token}
use Rattle.st_scan.specs.Tokens.{Tokens}
use Rattle.st_el.specs.declared.expression.Exp.{Exp}
use Rattle.st_el.specs.SourceText.{source_text}
use Rattle.st_el.specs.Plain.{plain_exp}
use Rattle.st_parse.specs.ExpressionSource.{ParseExps}

-- the token is one of a file
pub record IsOfFile (token : Token) : Type 0 where
  pub number : ℕ
  pub file : List ℕ
  pub tokens : List Token
  pub scanned : Tokens number file tokens
  pub among : Contains tokens token

-- Each of these tokens is one of a file. Those of one file are, and of several one behind another.
abbrev pub AreOfFiles : List Token → Type 0
AreOfFiles tokens = All IsOfFile tokens

-- The tokens mean one expression: this one, places, parentheses and `$( )` aside.
abbrev pub MeanAgain : List (List ℕ) → List Token → Exp → Type 0
MeanAgain names tokens e =
    (f : Exp) × ParseExps names tokens (f ∷ []) × (plain_exp f ≡ plain_exp e)

-- Its text is scanned, and whatever tokens it is scanned to mean it.
pub record ReadBack (names : List (List ℕ)) (number : ℕ) (e : Exp) : Type 0 where
  pub tokens : List Token
  pub scanned : Tokens number (source_text e) tokens
  pub means : (written : List Token) → Tokens number (source_text e) written
      → MeanAgain names written e
