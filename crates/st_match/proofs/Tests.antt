-- What a test that fails says of a fact, and facts of several lists.
use Rattle.std.proofs.Common.{◌≡◌, ◌↔◌, sym, ◌∙◌, List, [], ◌∷◌, ◌++◌, Bool, false}
use Rattle.std.specs.Prelude.{IsTrue}
use Rattle.std.specs.List.{All}
use Rattle.std.proofs.lemmas.List.Elements.{All-nil, All-cons, All-head, All-tail}
use Rattle.st_semantics.proofs.Names.{true_false}

-- a test that the fact would pass fails, so that the answer is no
pub refused : (P : Type 0) (b : Bool) → b ≡ false → (P → IsTrue b) → IsTrue false ↔ P
refused P b is h = (λ f. absurd (true_false (sym f)), λ p. sym is ∙ h p)

-- what holds of each of two lists together holds of each of both
pub All-parts : {X : Type 0} (P : X → Type 0) (xs ys : List X) → All P (xs ++ ys) → All P xs × All P ys
All-parts P [] ys h = (All-nil P, h)
All-parts P (x ∷ xs) ys h = let r = All-parts P xs ys (All-tail P x (xs ++ ys) h) in (All-cons P x xs (All-head P x (xs ++ ys) h) r.0, r.1)
