-- The texts of the lines of a small specification, piece by piece.
use Rattle.std.proofs.Common.{◌≡◌, ℕ, List, [], ◌∷◌, ◌++◌, length, sym, subst, ◌∙◌, codes, append_assoc, arith}
use Rattle.std.specs.List.{flat_map}
use Rattle.std.proofs.Common.{Bool, true, false, true≢false, ◌==◌}
use Rattle.std.proofs.lemmas.List.{append_cancel_left, nil_from_length}
use Rattle.st_il.specs.declared.small.SmallRule.{SmallRule}
use Rattle.st_il.specs.Small.{IsLower, IsUpper}
use Rattle.st_small.specs.SmallText.{alternative_text, relation_line, rule_line}
use Rattle.st_small.specs.inner.SmallForm.{Stops}

-- what stands behind a front is one thing
pub peel : (front xs rs ss : List ℕ) → xs ≡ front ++ rs → xs ≡ front ++ ss → rs ≡ ss
peel front xs rs ss p q = append_cancel_left front rs ss (sym p ∙ q)

-- the fixed texts stop words
pub Stops-lower-colon : Stops IsLower (codes ": ")
Stops-lower-colon h = omega (arith, h.0)

pub Stops-upper-colon : Stops IsUpper (codes ": ")
Stops-upper-colon h = omega (arith, h.0)

pub Stops-arrow : Stops IsUpper (codes " ~> ")
Stops-arrow h = omega (arith, h.0)

pub Stops-line : Stops IsUpper (codes "\n")
Stops-line h = omega (arith, h.0)

-- a text of nine parts, grouped from the end
nine : (a b c d e f g h i s : List ℕ) → a ++ b ++ c ++ d ++ e ++ f ++ g ++ h ++ i ++ s ≡ a ++ (b ++ (c ++ (d ++ (e ++ (f ++ (g ++ (h ++ (i ++ s))))))))
nine a b c d e f g h i s = simp append_assoc

-- what stands behind `rule R/` on a rule line, and behind the line
abbrev pub rule_words : SmallRule → List ℕ → List ℕ
rule_words rule rest = rule.name ++ (codes ": " ++ (rule.from ++ (codes " ~> " ++ (rule.to ++ (codes "\n" ++ rest)))))

pub rule_line_parts : (relation : List ℕ) (rule : SmallRule) (rest : List ℕ)
    → rule_line relation rule ++ rest ≡ codes "rule " ++ (relation ++ (codes "/" ++ rule_words rule rest))
rule_line_parts relation rule rest =
    nine (codes "rule ") relation (codes "/") rule.name (codes ": ") rule.from (codes " ~> ") rule.to (codes "\n") rest

-- what stands behind `rule `, behind the relation and behind `/`
module _ (relation bytes behind_word behind_relation : List ℕ) (rule : SmallRule) (rest : List ℕ)
    (e : bytes ≡ rule_line relation rule ++ rest) (one : bytes ≡ codes "rule " ++ behind_word) where
  pub rule_relation : behind_word ≡ relation ++ (codes "/" ++ rule_words rule rest)
  rule_relation = peel (codes "rule ") bytes _ _ one (e ∙ rule_line_parts relation rule rest)

  pub rule_slash : behind_word ≡ relation ++ behind_relation → behind_relation ≡ codes "/" ++ rule_words rule rest
  rule_slash two = peel relation behind_word _ _ two rule_relation

  pub rule_name : behind_word ≡ relation ++ behind_relation → (words : List ℕ) → behind_relation ≡ codes "/" ++ words → words ≡ rule_words rule rest
  rule_name two words three = peel (codes "/") behind_relation _ _ three (rule_slash two)

-- the pieces of a rule line make its text
pub rule_made : (relation bytes r1 r2 r3 r4 r5 rest : List ℕ) (rule : SmallRule)
    → bytes ≡ codes "rule " ++ r1 → r1 ≡ relation ++ r2 → r2 ≡ codes "/" ++ r3 → r3 ≡ rule.name ++ (codes ": " ++ r4)
    → r4 ≡ rule.from ++ (codes " ~> " ++ r5) → r5 ≡ rule.to ++ (codes "\n" ++ rest) → bytes ≡ rule_line relation rule ++ rest
rule_made relation bytes r1 r2 r3 r4 r5 rest rule e1 e2 e3 e4 e5 e6 =
    let whole = rule_line_parts relation rule rest in cc

-- the end of a line and what stands behind it
abbrev pub IsLineEnd : List ℕ → Type 0
IsLineEnd tail = (rest : List ℕ) × (tail ≡ codes "\n" ++ rest)

-- no letter stands behind an atom
pub Stops-alternatives : (atoms : List (List ℕ)) (tail : List ℕ) → IsLineEnd tail → Stops IsUpper (flat_map alternative_text atoms ++ tail)
Stops-alternatives [] tail end = subst (Stops IsUpper) (sym end.1) Stops-line
Stops-alternatives (atom ∷ atoms) tail end = Stops-arrow

-- the end of a line begins with no alternative
pub no_alternative : (rest alternative : List ℕ) → rest ≡ codes " | " ++ alternative → IsLineEnd rest → ⊥
no_alternative rest alternative e end = let clash = sym e ∙ end.1 in cc

pub atom_front : (rest alternative atom : List ℕ) (more : List (List ℕ)) (tail : List ℕ) → rest ≡ codes " | " ++ alternative
    → rest ≡ alternative_text atom ++ (flat_map alternative_text more ++ tail) → alternative ≡ atom ++ (flat_map alternative_text more ++ tail)
atom_front rest alternative atom more tail p e = peel (codes " | ") rest alternative _ p e

-- a text of seven parts, grouped from the end
seven : (a b c d e f g s : List ℕ) → a ++ b ++ c ++ d ++ e ++ f ++ g ++ s ≡ a ++ (b ++ (c ++ (d ++ (e ++ (f ++ (g ++ s))))))
seven a b c d e f g s = simp append_assoc

-- what stands behind the name of the relation and `: `, and behind the line
abbrev pub relation_types : List ℕ → List ℕ → List ℕ
relation_types syntax rest = syntax ++ (codes " ~> " ++ (syntax ++ (codes "\n" ++ rest)))

pub relation_line_parts : (relation syntax rest : List ℕ)
    → relation_line relation syntax ++ rest ≡ codes "relation " ++ (relation ++ (codes ": " ++ relation_types syntax rest))
relation_line_parts relation syntax rest =
    seven (codes "relation ") relation (codes ": ") syntax (codes " ~> ") syntax (codes "\n") rest

-- what stands behind `relation `
pub relation_name : (bytes relation syntax rest after : List ℕ) → bytes ≡ relation_line relation syntax ++ rest → bytes ≡ codes "relation " ++ after
    → after ≡ relation ++ (codes ": " ++ relation_types syntax rest)
relation_name bytes relation syntax rest after e one = peel (codes "relation ") bytes _ _ one (e ∙ relation_line_parts relation syntax rest)

-- no text is behind the last rule line
abbrev pub IsNothing : List ℕ → Type 0
IsNothing tail = tail ≡ []

-- rules of the same words are the same
pub same_rule : (rule other : SmallRule) → rule.name ≡ other.name → rule.from ≡ other.from → rule.to ≡ other.to → rule ≡ other
same_rule rule other name from to = λ i. record { name = name i; from = from i; to = to i }

-- what `is_empty` answers
pub not_empty : {X : Type 0} (xs : List X) (answer : Bool) → answer ≡ (length xs == 0) → answer ≡ false → xs ≡ [] → ⊥
not_empty [] answer p f e = true≢false (sym p ∙ f)
not_empty (x ∷ xs) answer p f e = cc

pub is_nothing : {X : Type 0} (xs : List X) (answer : Bool) → answer ≡ (length xs == 0) → answer ≡ true → xs ≡ []
is_nothing xs answer p t = nil_from_length xs (grind arith)

-- a rule line is not nothing
pub not_rule : (relation rest text : List ℕ) (rule : SmallRule) → rest ≡ [] → rest ≡ rule_line relation rule ++ text → ⊥
not_rule relation rest text rule none e = let clash = sym none ∙ e in cc
