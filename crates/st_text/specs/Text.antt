-- Text trees: words, quoted texts and lists in parentheses, each of one spelling.
use Rattle.std.specs.Prelude.{◌≡◌, ℕ, ◌+◌, ◌≤◌, max, List, [], ◌∷◌, ◌++◌, length, flat_map, Bool, true, ◌&&◌, ◌||◌, ◌==◌, nat_le, if◌then◌else◌, ◌⊎◌}
use Rattle.std.specs.List.{list_all}
use Rattle.st_num.specs.declared.limit.TheConstants.{MOST_PARENTHESES}
use Rattle.st_num.specs.Texts.{IsText}

mutual
  -- a tree: a word, a quoted text, or a list of trees in parentheses
  pub data TextTree : Type 0 where
    word : List ℕ → TextTree
    quote : List ℕ → TextTree
    list : TextTrees → TextTree

  -- a row of trees, one after another
  pub data TextTrees : Type 0 where
    none : TextTrees
    more : TextTree → TextTrees → TextTrees

-- the letter that is written for a byte behind a backslash, or 0 where the byte stands for itself
abbrev pub escape_letter : ℕ → ℕ
escape_letter b =
    if b == 34 || b == 92 then b else if b == 10 then 110 else if b == 9 then 116 else 0

-- how a byte is written between quotes
unfoldable pub escaped : ℕ → List ℕ
escaped b = if escape_letter b == 0 then b ∷ [] else 92 ∷ escape_letter b ∷ []

-- the bytes between quotes, with their escapes
abbrev pub quoted : List ℕ → List ℕ
quoted s = 34 ∷ (flat_map escaped s ++ 34 ∷ [])

-- one space stands between the trees of a row
abbrev mutual
  -- the text of a tree
  pub text : TextTree → List ℕ
  text (word w) = w
  text (quote s) = quoted s
  text (list ts) = 40 ∷ (row_text ts ++ 41 ∷ [])

  -- the text of a row: the texts of its trees with one space between them
  pub row_text : TextTrees → List ℕ
  row_text none = []
  row_text (more t ts) = text t ++ behind ts

  -- what stands behind a tree of a row
  pub behind : TextTrees → List ℕ
  behind none = []
  behind (more t ts) = 32 ∷ (text t ++ behind ts)

-- how many parentheses are open at once
abbrev mutual
  -- how many parentheses are open at once in a tree, at most
  pub depth : TextTree → ℕ
  depth (word w) = 0
  depth (quote s) = 0
  depth (list ts) = row_depth ts + 1

  -- how many are open at once in a row, at most
  pub row_depth : TextTrees → ℕ
  row_depth none = 0
  row_depth (more t ts) = max (depth t) (row_depth ts)

-- a letter, a digit, or one of `*+-?^_'`
abbrev pub is_word_byte : ℕ → Bool
is_word_byte b =
    (nat_le 97 b && nat_le b 122) || (nat_le 65 b && nat_le b 90) || (nat_le 48 b && nat_le b 57)
    || b == 42 || b == 43 || b == 45 || b == 63 || b == 94 || b == 95 || b == 39

-- the bytes are a word: one or more that a word may have
abbrev pub IsWord : List ℕ → Type 0
IsWord w = (1 ≤ length w) × (list_all is_word_byte w ≡ true)

-- its words are words, and its quoted texts are texts
abbrev mutual
  -- a tree whose words and quoted texts can be written
  pub IsSpelled : TextTree → Type 0
  IsSpelled (word w) = IsWord w
  IsSpelled (quote s) = IsText s
  IsSpelled (list ts) = AreSpelled ts

  -- a row of such trees
  pub AreSpelled : TextTrees → Type 0
  AreSpelled none = Unit {0}
  AreSpelled (more t ts) = IsSpelled t × AreSpelled ts

-- the tree has a text, in which not too many parentheses are open at once
pub record HasText (t : TextTree) : Type 0 where
  pub spelled : IsSpelled t
  pub shallow : depth t ≤ MOST_PARENTHESES

-- each tree of the row has a text
pub record HaveTexts (ts : TextTrees) : Type 0 where
  pub spelled : AreSpelled ts
  pub shallow : row_depth ts ≤ MOST_PARENTHESES

-- the bytes are the text of this tree
pub record TreeText (t : TextTree) (bytes : List ℕ) : Type 0 where
  pub has : HasText t
  pub is : bytes ≡ text t

-- the bytes are the texts of these trees, with one space between them
pub record RowText (ts : TextTrees) (bytes : List ℕ) : Type 0 where
  pub have : HaveTexts ts
  pub is : bytes ≡ row_text ts

-- nothing, a space, a closing parenthesis or a line feed: what may stand behind a text
abbrev pub Ends : List ℕ → Type 0
Ends [] = Unit {0}
Ends (b ∷ rest) = (b ≡ 32) ⊎ (b ≡ 41) ⊎ (b ≡ 10)

-- the text of this tree stands at the front of the bytes, and the rest is behind it
pub record FrontText (t : TextTree) (bytes rest : List ℕ) : Type 0 where
  pub has : HasText t
  pub is : bytes ≡ text t ++ rest
  pub ends : Ends rest
