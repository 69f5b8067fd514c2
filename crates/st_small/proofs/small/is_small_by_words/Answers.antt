use Rattle.std.proofs.Common.{◌≡◌, ◌≤◌, List, ℕ, length, sym, ◌∙◌, subst, true≢false}
use Rattle.std.specs.List.{All, Contains}
use Rattle.st_il.specs.declared.small.SmallRule.{SmallRule as Rule}
use Rattle.st_il.specs.Small.{IsSmall, AreDistinct, reserved, rule_names}
use Rattle.st_small.specs.inner.Names.{names_of, GoesBetween}
use Rattle.st_small.proofs.SmallWords.{small_made, small_rules_go, answers_also, some_of}
use Rattle.st_small.proofs.small.is_small_by_words.Goals as goal

pub returns : goal.returns
returns c =
    let set = rw c.in-Some.is at c.in_ok-set.ensures in
    let atoms : c.as_slice-atoms.result.now ≡ c.args.small.now.atoms = c.as_slice-atoms.ensures in
    let rules : c.as_slice-rules.result.now ≡ c.args.small.now.rules = c.as_slice-rules.ensures in
    let between = c.have_known_atoms.ensures.0 c.if-not-have_known_atoms.false in
    let between-atoms : All (GoesBetween c.args.small.now.atoms) c.args.small.now.rules =
    subst (λ (xs : List (List ℕ)). All (GoesBetween xs) c.args.small.now.rules) (set.1 ∙ atoms)
    (subst (λ (rs : List Rule). All (GoesBetween (names_of c.in-Some.set.keys)) rs) rules between) in
    answers_also c.have_distinct_names.result (AreDistinct (rule_names c.as_slice-rules.result.now)) (IsSmall c.args.small.now)
    (λ distinct.
    small_made c.args.small.now c.requires
    (λ h. true≢false (sym (c.is_reserved.ensures.1 (subst (λ (word : List ℕ). Contains reserved word) (sym c.as_slice.ensures) h)) ∙ c.if-is_reserved.false))
    (subst (λ (xs : List (List ℕ)). 1 ≤ length xs) atoms (some_of _ _ c.is_empty.ensures c.if-is_empty.false))
    (subst (λ (xs : List (List ℕ)). length xs ≤ 4095) atoms c.if-atoms-gt-MOST_ATOMS.false)
    (subst (λ (rs : List Rule). length rs ≤ 65533) rules c.if-rules-gt-MOST_RULES.false)
    (subst (λ (xs : List (List ℕ)). AreDistinct xs) atoms set.0)
    between-atoms
    (subst (λ (rs : List Rule). AreDistinct (rule_names rs)) rules distinct))
    (λ small. subst (λ (rs : List Rule). AreDistinct (rule_names rs)) (sym rules) small.distinct_rules)
    c.have_distinct_names.ensures

pub returns-then-not-have_known_atoms : goal.returns-then-not-have_known_atoms
returns-then-not-have_known_atoms c =
    let set = rw c.in-Some.is at c.in_ok-set.ensures in
    let atoms : c.as_slice-atoms.result.now ≡ c.args.small.now.atoms = c.as_slice-atoms.ensures in
    let rules : c.as_slice-rules.result.now ≡ c.args.small.now.rules = c.as_slice-rules.ensures in (
      λ h. absurd (true≢false (sym h)),
      λ small.
          absurd (true≢false (sym (c.have_known_atoms.ensures.1
          (subst (λ (rs : List Rule). All (GoesBetween (names_of c.in-Some.set.keys)) rs) (sym rules)
          (subst (λ (xs : List (List ℕ)). All (GoesBetween xs) c.args.small.now.rules) (sym (set.1 ∙ atoms))
          (small_rules_go c.args.small.now.atoms c.args.small.now.rules small.rules)))) ∙ c.if-not-have_known_atoms.true)),
    )
