use Rattle.std.proofs.Common.{◌≡◌, ◌≢◌, ◌+◌, Bool, true, false, true≢false, List, [], ◌∷◌, length, refl, sym, ap, ◌∙◌, arith, ◌==◌}
use Rattle.st_text.specs.declared.fault.TextFault.TheVariants.{Malformed}
use Rattle.st_ilread.proofs.IlTexts.{lines_step, lines_end, stops, no_line_left, line_refused}
use Rattle.st_ilread.proofs.il.read_lines.Goals as goal

-- what `is_empty` answers of bytes
not_empty : {X : Type 0} (xs : List X) (answer : Bool) → answer ≡ (length xs == 0) → answer ≡ false → xs ≢ []
not_empty xs answer told other same = true≢false (sym (told ∙ ap (λ ys. length ys == 0) same) ∙ other)

empty_of : {X : Type 0} (xs : List X) (answer : Bool) → answer ≡ (length xs == 0) → answer ≡ true → xs ≡ []
empty_of [] answer told is = refl
empty_of (x ∷ xs) answer told is = grind arith

pub returns-in_default : goal.returns-in_default
returns-in_default c =
    stops _ _ _ _ c.lines.invariant (no_line_left _ (not_empty _ _ c.is_empty.ensures c.lines-test.true) c.in_default.ensures) (c.malformed_line.ensures ∙ ap (λ n. Malformed (n + 1)) c.len.ensures)

pub returns-in_default-2 : goal.returns-in_default-2
returns-in_default-2 c =
    stops _ _ _ _ c.lines.invariant (line_refused _ _ _ (not_empty _ _ c.is_empty.ensures c.lines-test.true) c.in-Some.ensures.0 c.in-Some.ensures.1 (rw c.in_default-2.is at c.in_ok-definition.ensures)) (c.malformed_line-in_default-2.ensures ∙ ap (λ n. Malformed (n + 1)) c.len-in_default-2.ensures)

pub lines-preserved : goal.lines-preserved
lines-preserved c =
    lines_step _ _ _ _ _ _ _ c.lines.invariant c.in-Some.ensures.1 (rw c.in-Some-2.is at c.in_ok-definition.ensures) c.in_ok-push.ensures.ok

pub returns : goal.returns
returns c = lines_end _ _ _ c.lines.invariant (empty_of _ _ c.is_empty.ensures c.lines-test.false)
