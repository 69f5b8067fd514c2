-- The text of a small specification, piece by piece.
use Rattle.std.proofs.Common.{◌≡◌, ℕ, List, ◌++◌, sym, ap, ◌∙◌, codes, append_assoc}
use Rattle.std.specs.List.{flat_map}
use Rattle.st_il.specs.declared.small.Small.{Small}
use Rattle.st_small.specs.SmallText.{alternative_text, relation_line, rule_line, text_of}

-- specifications of the same parts are the same
pub same_small : (s t : Small) → s.syntax ≡ t.syntax → s.atoms ≡ t.atoms → s.relation ≡ t.relation → s.rules ≡ t.rules → s ≡ t
same_small s t syntax atoms relation rules =
    λ i. record { syntax = syntax i; atoms = atoms i; relation = relation i; rules = rules i }

-- what stands behind the alternatives
abbrev pub text_behind : Small → List ℕ
text_behind s = relation_line s.relation s.syntax ++ flat_map (rule_line s.relation) s.rules

-- a text of seven parts, grouped as the reader takes them
grouped : (a b c d e f g : List ℕ) → a ++ b ++ c ++ d ++ e ++ f ++ g ≡ a ++ (b ++ (c ++ (d ++ (e ++ (f ++ g)))))
grouped a b c d e f g = simp append_assoc

pub text_parts : (s : Small)
    → text_of s ≡ codes "syntax " ++ (s.syntax ++ (codes " =" ++ (flat_map alternative_text s.atoms ++ (codes "\n" ++ text_behind s))))
text_parts s =
    grouped (codes "syntax ") s.syntax (codes " =") (flat_map alternative_text s.atoms) (codes "\n") (relation_line s.relation s.syntax)
    (flat_map (rule_line s.relation) s.rules)

-- the pieces make the text
pub text_made : (bytes r1 r2 r3 : List ℕ) (s : Small) → bytes ≡ codes "syntax " ++ (s.syntax ++ (codes " =" ++ r1))
    → r1 ≡ flat_map alternative_text s.atoms ++ (codes "\n" ++ r2) → r2 ≡ relation_line s.relation s.syntax ++ r3
    → r3 ≡ flat_map (rule_line s.relation) s.rules → bytes ≡ text_of s
text_made bytes r1 r2 r3 s e1 e2 e3 e4 =
    e1 ∙ ap (λ r. codes "syntax " ++ (s.syntax ++ (codes " =" ++ r))) (e2 ∙ ap (λ r. flat_map alternative_text s.atoms ++ (codes "\n" ++ r)) (e3 ∙ ap (λ r. relation_line s.relation s.syntax ++ r) e4))
    ∙ sym (text_parts s)
