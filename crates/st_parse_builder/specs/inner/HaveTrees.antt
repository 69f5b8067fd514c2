-- Parts that all have a tree, and where those come from.
use Rattle.std.specs.Prelude.{◌≡◌, List, [], ◌∷◌, Option, Some, None, ⊤, option_and_then}
use Rattle.st_el.specs.declared.expression.Exp.{Exp}
use Rattle.st_grammar.specs.declared.action.Action.{Action}
use Rattle.st_parse_builder.specs.declared.built.Built.{Built}
use Rattle.st_parse_builder.specs.declared.piece.Piece.{Piece}
use Rattle.st_parse_builder.specs.declared.piece.Piece.TheVariants.{Done}
use Rattle.st_parse_builder.specs.declared.notation_piece.NotationPiece.{NotationPiece}
use Rattle.st_parse_builder.specs.inner.Building as pieces
use Rattle.st_parse_builder.specs.inner.NotationBuilding as notations

-- Each of the parts has a tree, and these are they.
abbrev pub HaveTrees : {P : Type 0} → List (Built P) → List P → Type 0
HaveTrees [] [] = ⊤
HaveTrees (p ∷ ps) (t ∷ ts) = (p.tree ≡ Some t) × HaveTrees ps ts
HaveTrees ps ts = ⊥

-- Where each part behind an action has a tree, each before it had one, and the action makes those
-- of these.
abbrev pub TreesCome : Action → List (Built Piece) → List (Built Piece) → Type 0
TreesCome a before behind =
    (u : List Piece) → HaveTrees behind u
    → (s : List Piece) × HaveTrees before s × (pieces.applied a s ≡ Some u)

-- the same of types and notations
abbrev pub NotationTreesCome : Action → List (Built NotationPiece) → List (Built NotationPiece)
    → Type 0
NotationTreesCome a before behind =
    (u : List NotationPiece) → HaveTrees behind u
    → (s : List NotationPiece) × HaveTrees before s × (notations.applied a s ≡ Some u)

-- the one expression on the stack
abbrev pub lone_exp : List Piece → Option Exp
lone_exp (Done e ∷ []) = Some e
lone_exp s = None

-- the expression that actions build
abbrev pub exp_built : List Action → Option Exp
exp_built actions = option_and_then lone_exp (pieces.run actions [])
