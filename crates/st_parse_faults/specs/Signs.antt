-- The signs between two sides and the postfix signs of a tree.
use Rattle.std.specs.Prelude.{ℕ, ◌+◌, List, [], ◌∷◌, Bool, true, false, ◌&&◌, if◌then◌else◌}
use Rattle.st_num.specs.declared.mark.Mark.{Mark}
use Rattle.st_num.specs.declared.mark.Mark.TheVariants as mark
use Rattle.st_num.specs.declared.token.Token.{Token}
use Rattle.st_grammar.specs.declared.sort.Leaf.TheVariants.{Atom as atom}
use Rattle.st_grammar.specs.declared.sort.Sort.{Sort}
use Rattle.st_grammar.specs.declared.sort.Sort.TheVariants.{Notation as notation}
use Rattle.st_grammar.specs.Terminals.{Terminal, dot}
use Rattle.st_grammar.specs.Trees.{Tree, operand, post, times, bracket, led, Lead, left, ahead, items, Trees, none, more, Heading, plain, length, arguments, index, segment, update, below, Path, head, field, part}
use Rattle.st_grammar.specs.Grammar.{is_label}

-- outside notations the tree is an atom, of one name or of several with dots that touch
abbrev pub is_atom : Tree → Bool
is_atom (operand atom x) = true
is_atom (post t (dot x)) = is_atom t && x.touching
is_atom t = false

-- A dot goes on with the name of an atom, and is no postfix sign: in a notation it always does.
abbrev pub goes_on : Sort → Tree → Token → Bool
goes_on notation t x = true
goes_on σ t x = is_atom t && x.touching

-- what stands directly behind a tree is no postfix sign
abbrev pub is_in_name : Sort → Tree → Terminal → Bool
is_in_name σ t (dot x) = goes_on σ t x
is_in_name σ t l = false

-- one more, where this does not hold
abbrev pub unless : Bool → ℕ → ℕ
unless true n = n
unless false n = n + 1

-- the postfix signs in a row behind an operand, in a sort of part
abbrev mutual
  -- the postfix signs that a tree ends with, in a row; a path counts as one
  pub posts : Sort → Tree → ℕ
  posts σ (operand k x) = 0
  posts σ (post t l) = unless (is_in_name σ t l) (posts σ t)
  posts σ (times t m x c) = posts σ t + 1
  posts σ (bracket h ts c) = heading_posts σ h
  posts σ (led g t) = 0

  -- the postfix signs in a row that a bracket ends; none where it begins an operand itself
  pub heading_posts : Sort → Heading → ℕ
  heading_posts σ (plain k o) = 0
  heading_posts σ (length o) = 0
  heading_posts σ (arguments f o) = 0
  heading_posts σ (index t o) = posts σ t + 1
  heading_posts σ (segment p o) = path_posts σ p
  heading_posts σ (update p m x) = path_posts σ p
  heading_posts σ (below o i m x) = 0

  -- the postfix signs in a row that a path ends, which counts as one
  pub path_posts : Sort → Path → ℕ
  path_posts σ (head t o) = posts σ t + 1
  path_posts σ (field p x) = path_posts σ p
  path_posts σ (part p o ts c) = path_posts σ p

-- the sign is `|-`, which stands between two sides also where the left one is absent
abbrev pub is_turnstile : Mark → Bool
is_turnstile mark.Turnstile = true
is_turnstile m = false

-- how many signs between two sides a sign without a left side counts for
abbrev pub ahead_signs : Mark → ℕ
ahead_signs m = if is_turnstile m then 1 else 0

-- the first number for the bars of a length, and the second for any other bracket
abbrev pub in_bars : Heading → ℕ → ℕ → ℕ
in_bars (length o) m n = m
in_bars h m n = n

-- the signs between two sides, outside brackets; the bars of a length are no brackets
abbrev mutual
  -- the signs between two sides in a tree
  pub signs : Tree → ℕ
  signs (operand k x) = 0
  signs (post t l) = signs t
  signs (times t m x c) = signs t
  signs (bracket h ts c) = in_bars h (all_signs ts) (heading_signs h)
  signs (led g t) = lead_signs g + signs t

  -- the signs between two sides in what stands before the parts of a bracket
  pub heading_signs : Heading → ℕ
  heading_signs (plain k o) = 0
  heading_signs (length o) = 0
  heading_signs (arguments f o) = 0
  heading_signs (index t o) = signs t
  heading_signs (segment p o) = path_signs p
  heading_signs (update p m x) = path_signs p
  heading_signs (below o i m x) = 0

  -- the signs between two sides in the operand on which a path stands
  pub path_signs : Path → ℕ
  path_signs (head t o) = signs t
  path_signs (field p x) = path_signs p
  path_signs (part p o ts c) = path_signs p

  -- the signs between two sides in what leads to a last part, with its own
  pub lead_signs : Lead → ℕ
  lead_signs (left l m x) = signs l + 1
  lead_signs (ahead m x) = ahead_signs m
  lead_signs (items ts) = all_signs ts

  -- the signs between two sides in all of these parts
  pub all_signs : Trees → ℕ
  all_signs none = 0
  all_signs (more ts pre t) = all_signs ts + signs t

-- these tokens end with the name of a field
abbrev pub ends_with_label : List Terminal → Bool
ends_with_label [] = false
ends_with_label (l ∷ []) = is_label l
ends_with_label (k ∷ l ∷ pre) = ends_with_label (l ∷ pre)
