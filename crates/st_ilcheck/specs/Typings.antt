-- The type of an expression, and the rules that are broken in it.
use Rattle.std.specs.Prelude.{◌≡◌, List, [], ◌∷◌, ◌++◌, Option, IsTrue}
use Rattle.st_il.specs.declared.definition.Il.{Il}
use Rattle.st_il.specs.declared.definition.Listed.{Listed}
use Rattle.st_il.specs.declared.expression.IlExp.{IlExp, out-IlExp}
use Rattle.st_il.specs.declared.ty.Ty.{Ty}
use Rattle.st_il.specs.declared.type_rule.TypeRule.{TypeRule}
use Rattle.st_il.specs.declared.type_rule.TypeRule.TheVariants.{T11, T14}
use Rattle.st_il.specs.Definitions.{syntaxes}
use Rattle.st_semantics.specs.OperationTypes.{Level}
use Rattle.st_ilcheck.specs.Parts.{Part, parts_of}
use Rattle.st_ilcheck.specs.FoundTypes.{origin, TypeFrom}
use Rattle.st_ilcheck.specs.Naming.{names_kept}
use Rattle.st_ilcheck.specs.Rules.{Asks, AsksOfPath, rule_of, Told}

-- the rules that are broken at a level whose parts have these types
pub record BreaksHere (il : Il) (ls : List Listed) (level : Level) (os : List (Option Ty))
    (broken : List TypeRule) : Type 0 where
  pub by_form : List TypeRule
  pub by_path : List TypeRule
  pub by_names : List TypeRule
  pub form : Told (rule_of level) (Asks il level os) by_form
  pub path : Told T11 (AsksOfPath (syntaxes il) level os) by_path
  pub names : Told T14 (IsTrue (names_kept ls level)) by_names
  pub whole : broken ≡ by_form ++ (by_path ++ by_names)

mutual
  -- Of an expression, where the variables are listed so, that type is found, or none; and these
  -- rules are broken, first in its parts and then by itself.
  pub data HasTyping (il : Il) : List Listed → IlExp → Option Ty → List TypeRule → Type 0 where
    typing : {ls : List Listed} {e : IlExp} {o : Option Ty} {broken : List TypeRule}
        (os : List (Option Ty)) (inside here : List TypeRule)
        → HaveTypings il (parts_of ls e) os inside
        → TypeFrom (syntaxes il) (origin il ls (out-IlExp e)) os o
        → BreaksHere il ls (out-IlExp e) os here → broken ≡ inside ++ here
        → HasTyping il ls e o broken

  -- of each of these parts the type in its place is found, and these rules are broken in them
  pub data HaveTypings (il : Il) : List Part → List (Option Ty) → List TypeRule → Type 0 where
    none : HaveTypings il [] [] []
    more : {p : Part} {ps : List Part} {o : Option Ty} {os : List (Option Ty)}
        {broken : List TypeRule} (first rest : List TypeRule) → HasTyping il p.0 p.1 o first
        → HaveTypings il ps os rest → broken ≡ first ++ rest
        → HaveTypings il (p ∷ ps) (o ∷ os) broken
