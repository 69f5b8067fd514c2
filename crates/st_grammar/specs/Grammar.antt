-- Which trees the grammar allows in each sort of part.
use Rattle.std.specs.Prelude.{◌≡◌, ℕ, ◌+◌, ◌≤◌, List, [], ◌∷◌, ◌++◌, map, Bool, true, false, not, ◌&&◌}
use Rattle.st_num.specs.declared.mark.Mark.{Mark}
use Rattle.st_num.specs.declared.token.Token.{Token}
use Rattle.st_grammar.specs.declared.sort.Style.{Style}
use Rattle.st_grammar.specs.declared.sort.Style.TheVariants.{Lone as lone, Parts as parts, Fields as fields, Ends as ends, Run as run}
use Rattle.st_grammar.specs.declared.sort.Leaf.TheVariants.{Low as low, Basic as basic, Variable as variable, Atom as atom, Function as function}
use Rattle.st_grammar.specs.declared.sort.Bracket.{Bracket}
use Rattle.st_grammar.specs.declared.sort.Bracket.TheVariants.{Round as round, Square as square, Brace as brace}
use Rattle.st_grammar.specs.declared.sort.Closing.{Closing}
use Rattle.st_grammar.specs.declared.sort.Closing.TheVariants.{ByBar as by_bar}
use Rattle.st_grammar.specs.declared.sort.Sort.{Sort}
use Rattle.st_grammar.specs.declared.sort.Sort.TheVariants.{Expression as expression, Arithmetic as arithmetic, Notation as notation, Typ as typ, Count as count, Bound as bound}
use Rattle.st_grammar.specs.Terminals.{Terminal, leaf, dot, sign, opening, closing, terminal}
use Rattle.st_num.specs.Signs.{level as level_of, prefix_level}
use Rattle.st_grammar.specs.Levels.{takes, encloses, inside, computes, is_expression, is_count, juxtaposes, sequence_level, tight, has_level, left_of, right_of, prefix_right, is_iteration_sign, is_type_iteration_sign, is_caret, is_comma, is_colon, is_less, is_change}
use Rattle.st_grammar.specs.Trees.{Tree, operand, post, times, bracket, led, Lead, left, ahead, items, Trees, none, more, Heading, plain, length, arguments, index, segment, update, below, Path, head, field, part, text}

-- ---- lists of parts

-- how the parts in a bracket that stands in such a part are set off from one another
abbrev pub bracket_style : Bracket → Sort → Style
bracket_style round arithmetic = lone
bracket_style round σ = parts
bracket_style brace σ = fields
bracket_style k σ = lone

-- how the parts behind a tree and `[` are set off: in arithmetic there is one alone
abbrev pub index_style : Sort → Style
index_style arithmetic = lone
index_style σ = ends

-- how the parts that stand behind this heading are set off from one another
abbrev pub style : Sort → Heading → Style
style σ (plain k o) = bracket_style k σ
style σ (length o) = lone
style σ (arguments f o) = parts
style σ (index t o) = index_style σ
style σ (segment p o) = ends
style σ (update p m x) = lone
style σ (below o i m x) = lone

-- the sort of what stands in a bracket, by the sort of the part in which the bracket stands
abbrev pub sort_in : Sort → Heading → Sort
sort_in σ (plain k o) = inside σ k
sort_in σ (length o) = expression true
sort_in σ (arguments f o) = expression false
sort_in σ (index t o) = expression false
sort_in σ (segment p o) = expression false
sort_in σ (update p m x) = expression false
sort_in σ (below o i m x) = bound

-- the least level of a part in such a bracket
abbrev pub least_in : Heading → ℕ
least_in (index t o) = 13
least_in (segment p o) = 13
least_in h = 1

-- the name of a field
abbrev pub is_label : Terminal → Bool
is_label (leaf atom x) = true
is_label (leaf variable x) = true
is_label l = false

-- These tokens set off a next part from those before it.
abbrev pub SetsOff : Style → Trees → List Terminal → Type 0
SetsOff lone none pre = pre ≡ []
SetsOff lone (more ts q t) pre = ⊥
SetsOff parts none pre = pre ≡ []
SetsOff parts (more ts q t) pre =
    (m : Mark) × (x : Token) × (pre ≡ sign m x ∷ []) × (is_comma m ≡ true)
SetsOff fields none pre = (l : Terminal) × (pre ≡ l ∷ []) × (is_label l ≡ true)
SetsOff fields (more ts q t) pre =
    (m : Mark) × (x : Token) × (l : Terminal) × (pre ≡ sign m x ∷ l ∷ []) × (is_comma m ≡ true)
    × (is_label l ≡ true)
SetsOff ends none pre = pre ≡ []
SetsOff ends (more none q t) pre =
    (m : Mark) × (x : Token) × (pre ≡ sign m x ∷ []) × (is_colon m ≡ true)
SetsOff ends (more (more ts q t) r u) pre = ⊥
SetsOff run ts pre = pre ≡ []

-- There is a part in the bracket, unless it holds arguments.
abbrev pub IsFilled : Heading → Trees → Type 0
IsFilled h (more ts pre t) = Unit {0}
IsFilled (arguments f o) none = Unit {0}
IsFilled h none = ⊥

-- how many parts these are
abbrev pub size : Trees → ℕ
size none = 0
size (more ts pre t) = size ts + 1

-- ---- what may follow

-- the tree is the name of a function
abbrev pub is_function : Tree → Bool
is_function (operand function x) = true
is_function t = false

-- A bar opens a length in such a part, where it doesn't close one.
abbrev pub opens_length : Closing → Sort → Bool
opens_length by_bar (expression b) = not b
opens_length c σ = false

-- The token begins a next element of a sequence behind this one. Directly in bars a bar closes,
-- and a parenthesis that touches a function begins its arguments.
abbrev pub follows : Sort → Tree → Terminal → Bool
follows σ u (leaf k x) = juxtaposes σ
follows σ u (opening square x) = false
follows σ u (opening round x) = juxtaposes σ && not (is_function u && x.touching)
follows σ u (opening k x) = juxtaposes σ
follows σ u (closing c x) = opens_length c σ
follows σ u l = false

-- the first of these tokens begins a next element of a sequence behind this one
abbrev pub text_follows : Sort → Tree → List Terminal → Bool
text_follows σ u [] = false
text_follows σ u (l ∷ w) = follows σ u l

-- the tokens may stand behind the elements of a sequence
abbrev pub FollowsAll : Sort → Trees → List Terminal → Type 0
FollowsAll σ none w = Unit {0}
FollowsAll σ (more ts pre u) w = text_follows σ u w ≡ true

-- in a notation the tree is a type, which may be iterated
abbrev pub is_type : Tree → Bool
is_type (operand low x) = true
is_type (operand basic x) = true
is_type (bracket (plain round o) ts c) = true
is_type (post t (sign m x)) = is_type t
is_type t = false

-- in a notation the tree is an atom, also one of several names
abbrev pub is_atom : Tree → Bool
is_atom (operand atom x) = true
is_atom (operand variable x) = true
is_atom (post t (dot x)) = is_atom t
is_atom t = false

-- the iteration sign or dot may stand behind the tree, in this sort of part
abbrev pub may_post : Sort → Tree → Terminal → Bool
may_post (expression b) t (dot x) = true
may_post (expression b) t (sign m x) = is_iteration_sign m
may_post arithmetic t (dot x) = true
may_post notation t (dot x) = is_atom t && x.touching
may_post notation t (sign m x) = is_type_iteration_sign m && is_type t
may_post typ t (sign m x) = is_type_iteration_sign m
may_post σ t l = false

-- ---- trees

-- the level of what leads to a last part: that of its sign, or of a sequence
abbrev pub lead_level : Lead → ℕ
lead_level (left l m x) = level_of m
lead_level (ahead m x) = prefix_level m
lead_level (items ts) = sequence_level

-- the least level of what stands behind what leads to it
abbrev pub wanted : Lead → ℕ
wanted (left l m x) = right_of m
wanted (ahead m x) = prefix_right m
wanted (items ts) = tight

-- the level of a tree: that of what leads to its last part, and else the tightest
abbrev pub level : Tree → ℕ
level (operand k x) = tight
level (post t l) = tight
level (times t m x c) = tight
level (bracket h ts c) = tight
level (led g t) = lead_level g

-- the bracket is an operand by itself; a step of a path is none
abbrev pub is_operand : Heading → Bool
is_operand (segment p o) = false
is_operand h = true

-- a step stands behind the `[` of the path
abbrev pub has_step : Path → Bool
has_step (head t o) = false
has_step p = true

-- The tokens may stand behind what leads to a last part.
abbrev pub MayEnd : Sort → Lead → List Terminal → Type 0
MayEnd σ (items ts) w = FollowsAll σ ts w
MayEnd σ g w = Unit {0}

-- In a sequence the tokens may stand behind the elements before them.
abbrev pub MayFollow : Sort → Style → Trees → List Terminal → Type 0
MayFollow σ run ts w = FollowsAll σ ts w
MayFollow σ y ts w = Unit {0}

-- what the grammar allows in a sort of part
abbrev mutual
  -- the grammar allows the tree in this sort of part
  pub Fits : Sort → Tree → Type 0
  Fits σ (operand k x) = takes σ k ≡ true
  Fits σ (post t l) = (may_post σ t l ≡ true) × Fits σ t × (tight ≤ level t)
  Fits σ (times t m x c) =
      (is_caret m ≡ true) × (is_expression σ ≡ true) × Fits σ t × (tight ≤ level t) × Fits count c
  Fits σ (bracket h ts c) =
      (is_operand h ≡ true) × HeadingFits σ h × EachFits (sort_in σ h) (style σ h) (least_in h) ts
      × IsFilled h ts
  Fits σ (led g t) = LeadFits σ g × Fits σ t × (wanted g ≤ level t) × MayEnd σ g (text t)

  -- the grammar allows what leads to a last part
  pub LeadFits : Sort → Lead → Type 0
  LeadFits σ (left l m x) = (has_level σ (level_of m) ≡ true) × Fits σ l × (left_of m ≤ level l)
  LeadFits σ (ahead m x) = has_level σ (prefix_level m) ≡ true
  LeadFits σ (items ts) = (juxtaposes σ ≡ true) × EachFits σ run tight ts × (1 ≤ size ts)

  -- the grammar allows each part: it is set off so, and has at least this level
  pub EachFits : Sort → Style → ℕ → Trees → Type 0
  EachFits σ y n none = Unit {0}
  EachFits σ y n (more ts pre t) =
      EachFits σ y n ts × SetsOff y ts pre × Fits σ t × (n ≤ level t) × MayFollow σ y ts (text t)

  -- the grammar allows what stands before the parts that a bracket holds
  pub HeadingFits : Sort → Heading → Type 0
  HeadingFits σ (plain k o) = encloses σ k ≡ true
  HeadingFits σ (length o) = computes σ ≡ true
  HeadingFits σ (arguments f o) = (computes σ ≡ true) × (o.touching ≡ true)
  HeadingFits σ (index t o) = (computes σ ≡ true) × Fits σ t × (tight ≤ level t)
  HeadingFits σ (segment p o) = PathFits σ p
  HeadingFits σ (update p m x) = PathFits σ p × (has_step p ≡ true) × (is_change m ≡ true)
  HeadingFits σ (below o i m x) = (is_count σ ≡ true) × (is_less m ≡ true)

  -- the grammar allows the path
  pub PathFits : Sort → Path → Type 0
  PathFits σ (head t o) = (is_expression σ ≡ true) × Fits σ t × (tight ≤ level t)
  PathFits σ (field p x) = PathFits σ p
  PathFits σ (part p o ts c) = PathFits σ p × EachFits (expression false) ends 13 ts × (1 ≤ size ts)

-- the tokens are those of this tree
pub record Parse (σ : Sort) (us : List Terminal) (t : Tree) : Type 0 where
  pub fits : Fits σ t
  pub spelled : us ≡ text t

-- some tokens behind these make a tree, where these names are declared by `var`
abbrev pub Viable : List (List ℕ) → Sort → List Terminal → Type 0
Viable names σ us = (rest : List Token) × (t : Tree) × Parse σ (us ++ map (terminal names) rest) t
