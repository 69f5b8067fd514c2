-- Modes: which holes of a relation are inputs, by its hints.
use Rattle.std.specs.Prelude.{◌≡◌, ℕ, ◌≤◌, Bool, List, [], ◌∷◌, length, map, filter, codes, if◌then◌else◌}
use Rattle.st_num.specs.declared.token.Token.{Token}
use Rattle.st_num.specs.declared.token.TokenKind.{TokenKind}
use Rattle.st_num.specs.declared.token.TokenKind.TheVariants.{Low}
use Rattle.st_el.specs.declared.definition.Hint.{Hint}
use Rattle.st_el.specs.Erasure.{is_mode}

-- an input is written `in`, and an output `out`
abbrev pub mode_kind : Bool → TokenKind
mode_kind input = Low (if input then codes "in" else codes "out")

-- the words say of each of so many holes, one or more, whether it is an input
pub record AreModeWords (words : List Token) (holes : ℕ) (mode : List Bool) : Type 0 where
  pub some : 1 ≤ holes
  pub number : length words ≡ holes
  pub spelled : map (λ word. word.kind) words ≡ map mode_kind mode

-- The hints of a relation with so many holes give this mode: no hint is named `mode`, and the mode
-- is empty, or one hint is, and its words are the mode.
pub data IsMode (hints : List Hint) (holes : ℕ) (mode : List Bool) : Type 0 where
  none : filter is_mode hints ≡ [] → mode ≡ [] → IsMode hints holes mode
  one : (hint : Hint) → filter is_mode hints ≡ hint ∷ [] → AreModeWords hint.words holes mode
      → IsMode hints holes mode
