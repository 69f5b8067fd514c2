-- A specification of words that passes each check is small.
use Rattle.std.proofs.Common.{◌≡◌, ℕ, ◌≤◌, Bool, false, List, length, Result, Ok, Err, ◌↔◌, ◌==◌, arith}
use Rattle.std.specs.Prelude.{IfOk, IsTrue}
use Rattle.std.specs.List.{All, Contains}
use Rattle.st_il.specs.declared.small.Small.{Small}
use Rattle.st_il.specs.declared.small.SmallRule.{SmallRule}
use Rattle.st_il.specs.Small.{IsSmallRule, IsSmall, AreDistinct, reserved, rule_names}
use Rattle.st_small.specs.inner.Names.{GoesBetween}
use Rattle.st_small.specs.inner.Words.{HasLowerName, HasWords}

pub rules_are_small : (atoms : List (List ℕ)) (rules : List SmallRule) → All HasLowerName rules → All (GoesBetween atoms) rules → All (IsSmallRule atoms) rules
rules_are_small atoms rules words between k d within =
    record { name = words k d within; from = (between k d within).0; to = (between k d within).1 }

pub small_rules_go : (atoms : List (List ℕ)) (rules : List SmallRule) → All (IsSmallRule atoms) rules → All (GoesBetween atoms) rules
small_rules_go atoms rules small k d within = ((small k d within).from, (small k d within).to)

pub small_has_words : (s : Small) → IsSmall s → HasWords s
small_has_words s small = record {
  syntax = small.syntax;
  relation = small.relation;
  atoms = small.atoms;
  rules = λ k d within. (small.rules k d within).name;
}

pub small_made : (s : Small) → HasWords s → (Contains reserved s.syntax → ⊥) → 1 ≤ length s.atoms → length s.atoms ≤ 4095 → length s.rules ≤ 65533
    → AreDistinct s.atoms → All (GoesBetween s.atoms) s.rules → AreDistinct (rule_names s.rules) → IsSmall s
small_made s words unreserved some few few_rules distinct between distinct_rules = record {
  syntax = words.syntax;
  unreserved = unreserved;
  atoms = words.atoms;
  some = some;
  few = few;
  distinct = distinct;
  relation = words.relation;
  rules = rules_are_small s.atoms s.rules words.rules between;
  few_rules = few_rules;
  distinct_rules = distinct_rules;
}

-- an answer that tells one fact tells another that it implies and is implied by
pub answers_also : {E : Type 0} (r : Result Bool E) (P Q : Type 0) → (P → Q) → (Q → P) → IfOk r (λ b. IsTrue b ↔ P) → IfOk r (λ b. IsTrue b ↔ Q)
answers_also (Ok b) P Q there back told = (λ h. there (told.0 h), λ q. told.1 (back q))
answers_also (Err e) P Q there back told = told

-- what `is_empty` answers
pub some_of : {X : Type 0} (xs : List X) (answer : Bool) → answer ≡ (length xs == 0) → answer ≡ false → 1 ≤ length xs
some_of xs answer told not_empty = grind arith
