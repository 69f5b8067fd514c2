-- Several questions, as they are asked one after another.
use Rattle.std.specs.Prelude.{◌≡◌, ◌⊎◌, List, [], ◌∷◌, map}
use Rattle.st_elab_table.specs.declared.decls.Decls.{Decls}
use Rattle.st_elab_table.specs.declared.decls.Scope.{Scope}
use Rattle.st_elab_table.specs.Questions.{Question, Made, Breach, Gives, Fails}
use Rattle.st_elab_table.specs.Elaboration.{Answered}

-- these are the answers to the questions, in order
abbrev pub Asked : Decls → Scope → List Question → List Made → Type 0
Asked D S [] [] = Unit {0}
Asked D S (q ∷ qs) (m ∷ ms) = Answered D S q (Gives m) × Asked D S qs ms
Asked D S [] (m ∷ ms) = ⊥
Asked D S (q ∷ qs) [] = ⊥

-- one question is answered by this breach, and those before it are answered without one
abbrev pub Breaks : Decls → Scope → List Question → Breach → Type 0
Breaks D S [] b = ⊥
Breaks D S (q ∷ qs) b =
    Answered D S q (Fails b) ⊎ ((m : Made) × Answered D S q (Gives m) × Breaks D S qs b)

-- these parts stand in the answers to the questions
pub record AskedAs (D : Decls) (S : Scope) (qs : List Question) (A : Type 0) (part : Made → A)
    (xs : List A) : Type 0 where
  pub mades : List Made
  pub asked : Asked D S qs mades
  pub parts : map part mades ≡ xs
