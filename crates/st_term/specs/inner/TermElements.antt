-- Values of terms as the code makes them, part by part.
use Rattle.std.specs.Prelude.{◌≡◌, ℕ, List, [], ◌++◌, length, map, Some, None}
use Rattle.st_il.specs.declared.definition.SyntaxDef.{SyntaxDef}
use Rattle.st_il.specs.declared.expression.IlExp.{IlExp}
use Rattle.st_il.specs.declared.expression.ListItem.{ListItem, out-ListItem}
use Rattle.st_il.specs.declared.ty.Ty.{Ty}
use Rattle.st_il.specs.declared.ty.Ty.TheVariants as ty
use Rattle.st_il.specs.declared.value.Value.{Value}
use Rattle.st_il.specs.declared.value.Value.TheVariants as value
use Rattle.st_type_table.specs.Cases.{HasFields}
use Rattle.st_type_table.specs.Meaning.{Means}
use Rattle.st_semantics.specs.declared.outcome.Outcome.TheVariants.{Val}
use Rattle.st_semantics.specs.Operands.{item_exp}
use Rattle.st_semantics.specs.Forms.{spliced_at, spliced, building}
use Rattle.st_term.specs.TermValue.{IsTermValue, AreTermValues}

-- an item of a list stands for these elements, whatever stands behind them
pub record StandsFor (defs : List SyntaxDef) (item : ListItem) (elements : List Value) : Type 0 where
  pub value : Value
  pub has : IsTermValue defs (item_exp item) value
  pub stands : (rest : List Value)
      → spliced_at (out-ListItem item) value rest ≡ Some (elements ++ rest)

-- the items of a list make these elements
pub record AreElements (defs : List SyntaxDef) (items : List ListItem) (elements : List Value)
    : Type 0 where
  pub values : List Value
  pub have : AreTermValues defs (map item_exp items) values
  pub make : spliced items values ≡ Some elements

-- values so far, with those of the expressions that are left, are the values of all
abbrev pub ValuesContinue : List SyntaxDef → List IlExp → List IlExp → List Value → Type 0
ValuesContinue defs all left so_far =
    (more : List Value) → AreTermValues defs left more → AreTermValues defs all (so_far ++ more)

-- elements so far, with those of the items that are left, are the elements of all
abbrev pub ElementsContinue : List SyntaxDef → List ListItem → List ListItem → List Value → Type 0
ElementsContinue defs all left so_far =
    (more : List Value) → AreElements defs left more → AreElements defs all (so_far ++ more)

-- the named type has as many fields as there are values, and this is the record of these
pub record IsRecordOf (defs : List SyntaxDef) (type : List ℕ) (vs : List Value) (v : Value)
    : Type 0 where
  pub declared : List (List ℕ × Ty)
  pub fields : HasFields defs (ty.Name type) declared
  pub counted : length vs ≡ length declared
  pub built : building declared vs ≡ Val v

-- the value of a part that was left out: an empty list or an empty option
pub data IsLeftOut (defs : List SyntaxDef) (t : Ty) (v : Value) : Type 0 where
  list : (element : Ty) → Means defs t (ty.List element) → v ≡ value.List [] → IsLeftOut defs t v
  option : (element : Ty) → Means defs t (ty.Opt element) → v ≡ value.Opt None → IsLeftOut defs t v
