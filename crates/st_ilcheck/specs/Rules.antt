-- What the rules T3 to T14 ask of an expression, by the types that are found of its parts. A part
-- without a type has none that a rule could ask for.
use Rattle.std.specs.Prelude.{◌≡◌, ◌⊎◌, List, [], ◌∷◌, Option, Some, None}
use Rattle.st_il.specs.declared.definition.FunDef.{FunDef}
use Rattle.st_il.specs.declared.definition.Il.{Il}
use Rattle.st_il.specs.declared.definition.SyntaxDef.{SyntaxDef}
use Rattle.st_il.specs.declared.expression.IlExp.TheOpen.{IlExp-F, ListItem-F}
use Rattle.st_il.specs.declared.expression.ListItem.{ListItem, out-ListItem}
use Rattle.st_il.specs.declared.expression.PathSeg.{PathSeg}
use Rattle.st_il.specs.declared.ty.Ty.{Ty}
use Rattle.st_il.specs.declared.ty.Ty.TheVariants as ty
use Rattle.st_il.specs.declared.type_rule.TypeRule.{TypeRule}
use Rattle.st_il.specs.declared.type_rule.TypeRule.TheVariants.{T2, T3, T4, T5, T6, T7, T8, T9, T10, T11, T12, T13, T14}
use Rattle.st_type_table.specs.declared.entry.CaseDef.{CaseDef}
use Rattle.st_type_table.specs.Meaning.{Means}
use Rattle.st_type_table.specs.Cases.{HasCases, HasFields, operands_of}
use Rattle.st_type_table.specs.Joins.{Joins}
use Rattle.st_type_table.specs.Same.{Same}
use Rattle.st_type_table.specs.Sub.{Sub}
use Rattle.st_il.specs.Names.{Name}
use Rattle.st_il.specs.Definitions.{syntaxes}
use Rattle.st_semantics.specs.OperationTypes.{Level, number_type, PathType}
use Rattle.st_semantics.specs.Typing.{function_named}
use Rattle.st_ilcheck.specs.FoundTypes.{first_type, last_type, IsFieldOf, IsElementOf}

-- the parts but for the first
abbrev pub behind_first : List (Option Ty) → List (Option Ty)
behind_first [] = []
behind_first (o ∷ os) = os

-- the parts but for the last
abbrev pub before_last : List (Option Ty) → List (Option Ty)
before_last [] = []
before_last (o ∷ []) = []
before_last (o ∷ p ∷ os) = o ∷ before_last (p ∷ os)

-- there is a part for each of these, and stands so to it
abbrev pub AreEach : {A : Type 0} → (A → Option Ty → Type 0) → List A → List (Option Ty) → Type 0
AreEach R [] [] = Unit {0}
AreEach R [] (o ∷ os) = ⊥
AreEach R (x ∷ xs) [] = ⊥
AreEach R (x ∷ xs) (o ∷ os) = R x o × AreEach R xs os

module _ (defs : List SyntaxDef) where
  -- ---- types that are found, and types that are asked

  -- a type was found, and is equal to this one through aliases
  abbrev pub Is : Option Ty → Ty → Type 0
  Is None t = ⊥
  Is (Some u) t = Same defs u t

  -- every part has this type
  abbrev pub AllAre : Ty → List (Option Ty) → Type 0
  AllAre t [] = Unit {0}
  AllAre t (o ∷ os) = Is o t × AllAre t os

  -- there is a part for each of these types, and has it
  abbrev pub Are : List Ty → List (Option Ty) → Type 0
  Are ts os = AreEach (λ t o. Is o t) ts os

  -- both have types, which are equal
  abbrev pub AreEqual : Option Ty → Option Ty → Type 0
  AreEqual None p = ⊥
  AreEqual (Some t) None = ⊥
  AreEqual (Some t) (Some u) = Same defs t u

  -- it is a list
  abbrev pub IsList : Option Ty → Type 0
  IsList None = ⊥
  IsList (Some t) = (u : Ty) × IsElementOf defs t u

  -- it is a list of elements of this type
  abbrev pub IsListOf : Option Ty → Ty → Type 0
  IsListOf None u = ⊥
  IsListOf (Some t) u = (x : Ty) × (IsElementOf defs t x × Same defs x u)

  -- each has a type
  abbrev pub AllTyped : List (Option Ty) → Type 0
  AllTyped [] = Unit {0}
  AllTyped (None ∷ os) = ⊥
  AllTyped (Some t ∷ os) = AllTyped os

  -- ---- T5: an order comparison has two operands of one number type
  abbrev pub AreOrdered : List (Option Ty) → Type 0
  AreOrdered os = AllAre ty.Nat os ⊎ AllAre ty.Int os

  -- ---- T6: `member` has an element and a list of its type
  abbrev pub IsMember : Option Ty → Option Ty → Type 0
  IsMember None p = ⊥
  IsMember (Some t) p = IsListOf p t

  -- ---- T7: the type of a case is a variant, of which a case has the tag, with these operand types
  pub record IsCaseOf (t : Ty) (tag : Name) (os : List (Option Ty)) : Type 0 where
    pub cases : List CaseDef
    pub operands : List Ty
    pub has : HasCases defs t cases
    pub found : operands_of cases tag ≡ Some operands
    pub typed : Are operands os

  -- ---- T8: a record has each declared field in order, with a part of its type
  pub record IsRecordOf (t : Ty) (os : List (Option Ty)) : Type 0 where
    pub declared : List (Name × Ty)
    pub has : HasFields defs t declared
    pub typed : AreEach (λ (d : Name × Ty) o. Is o d.1) declared os

  -- ---- T8: `dot` names a field of a record
  abbrev pub HasField : Name → Option Ty → Type 0
  HasField name None = ⊥
  HasField name (Some t) = (u : Ty) × IsFieldOf defs name t u

  -- ---- T9: a path leads through fields and lists from a type to another
  abbrev pub LeadsTo : List PathSeg → Ty → Ty → Type 0
  LeadsTo path t w = (ts : List Ty) × PathType defs path t ts w

  -- what is set has the type of the place that the path leads to
  abbrev pub IsSet : List PathSeg → Option Ty → Option Ty → Type 0
  IsSet path None new = ⊥
  IsSet path (Some t) new = (w : Ty) × (LeadsTo path t w × Is new w)

  -- the path leads to a list, and what is put behind it is a list of that type
  abbrev pub IsExtended : List PathSeg → Option Ty → Option Ty → Type 0
  IsExtended path None more = ⊥
  IsExtended path (Some t) more =
      (w : Ty) × (LeadsTo path t w × (IsList (Some w) × Is more w))

  -- ---- T9: `join` has two equal record types that can be joined
  abbrev pub AreJoined : Option Ty → Option Ty → Type 0
  AreJoined None p = ⊥
  AreJoined (Some t) p = Joins defs t × AreEqual (Some t) p

  -- ---- T10: a part of a list is one element, or a list of them
  abbrev pub IsItem : {E K L S : Type 0} → Ty → ListItem-F E K L S → Option Ty → Type 0
  IsItem t (ListItem-F.One e) o = Is o t
  IsItem t (ListItem-F.All e) o = IsListOf o t

  -- each part of a list is
  abbrev pub AreItems : Ty → List ListItem → List (Option Ty) → Type 0
  AreItems t items os = AreEach (λ (i : ListItem) o. IsItem t (out-ListItem i) o) items os

  -- ---- T10: `absent` is of a list or option type
  abbrev pub IsListOrOption : Ty → Type 0
  IsListOrOption t =
      ((u : Ty) × Means defs t (ty.List u)) ⊎ ((u : Ty) × Means defs t (ty.Opt u))

  -- ---- T13: what is injected has a type below this one, and not equal to it
  abbrev pub IsBelow : Option Ty → Ty → Type 0
  IsBelow None t = ⊥
  IsBelow (Some u) t = Sub defs u t × (Same defs u t → ⊥)

-- ---- the table

-- T12: a call has an operand of the declared type for each that is declared
pub record IsCallOf (il : Il) (fun : Name) (os : List (Option Ty)) : Type 0 where
  pub declared : FunDef
  pub found : function_named il fun ≡ Some declared
  pub typed : Are (syntaxes il) declared.params os

-- what the rule of an expression asks of its parts
abbrev pub Asks : Il → Level → List (Option Ty) → Type 0
-- T4: logic is over `bool`
Asks il (IlExp-F.Not e) os = AllAre (syntaxes il) ty.Bool os
Asks il (IlExp-F.And e g) os = AllAre (syntaxes il) ty.Bool os
Asks il (IlExp-F.Or e g) os = AllAre (syntaxes il) ty.Bool os
Asks il (IlExp-F.Imp e g) os = AllAre (syntaxes il) ty.Bool os
Asks il (IlExp-F.Iff e g) os = AllAre (syntaxes il) ty.Bool os
-- T5: arithmetic at a number type has operands of it, `pow` an exponent `nat`
Asks il (IlExp-F.Neg e) os = AllAre (syntaxes il) ty.Int os
Asks il (IlExp-F.Add n e g) os = AllAre (syntaxes il) (number_type n) os
Asks il (IlExp-F.Sub n e g) os = AllAre (syntaxes il) (number_type n) os
Asks il (IlExp-F.Mul n e g) os = AllAre (syntaxes il) (number_type n) os
Asks il (IlExp-F.Div n e g) os = AllAre (syntaxes il) (number_type n) os
Asks il (IlExp-F.Rem n e g) os = AllAre (syntaxes il) (number_type n) os
Asks il (IlExp-F.Pow n e g) os = Are (syntaxes il) (number_type n ∷ ty.Nat ∷ []) os
Asks il (IlExp-F.Lt e g) os = AreOrdered (syntaxes il) os
Asks il (IlExp-F.Gt e g) os = AreOrdered (syntaxes il) os
Asks il (IlExp-F.Le e g) os = AreOrdered (syntaxes il) os
Asks il (IlExp-F.Ge e g) os = AreOrdered (syntaxes il) os
-- T6: equality has operands of equal type
Asks il (IlExp-F.Eq e g) os = AreEqual (syntaxes il) (first_type os) (last_type os)
Asks il (IlExp-F.Ne e g) os = AreEqual (syntaxes il) (first_type os) (last_type os)
Asks il (IlExp-F.Member e g) os = IsMember (syntaxes il) (first_type os) (last_type os)
-- T7
Asks il (IlExp-F.Case type tag es) os = IsCaseOf (syntaxes il) (ty.Name type) tag os
-- T8
Asks il (IlExp-F.Fields type es) os = IsRecordOf (syntaxes il) (ty.Name type) os
Asks il (IlExp-F.Dot e name) os = HasField (syntaxes il) name (first_type os)
-- T9
Asks il (IlExp-F.Set e path g) os = IsSet (syntaxes il) path (first_type os) (last_type os)
Asks il (IlExp-F.Extend e path g) os =
    IsExtended (syntaxes il) path (first_type os) (last_type os)
Asks il (IlExp-F.Join e g) os = AreJoined (syntaxes il) (first_type os) (last_type os)
-- T10: a tuple and an option have parts with types, `cat` two equal list types
Asks il (IlExp-F.Tuple es) os = AllTyped (syntaxes il) os
Asks il (IlExp-F.Present e) os = AllTyped (syntaxes il) os
Asks il (IlExp-F.List t items) os = AreItems (syntaxes il) t items os
Asks il (IlExp-F.Cat e g) os =
    IsList (syntaxes il) (first_type os)
    × AreEqual (syntaxes il) (first_type os) (last_type os)
Asks il (IlExp-F.Absent t) os = IsListOrOption (syntaxes il) t
-- T11: `len`, `at` and `slice` take a list, and positions and lengths of type `nat`
Asks il (IlExp-F.Len e) os = IsList (syntaxes il) (first_type os)
Asks il (IlExp-F.IlExp::At e g) os =
    IsList (syntaxes il) (first_type os) × AllAre (syntaxes il) ty.Nat (behind_first os)
Asks il (IlExp-F.IlExp::Slice e g h) os =
    IsList (syntaxes il) (first_type os) × AllAre (syntaxes il) ty.Nat (behind_first os)
-- T12
Asks il (IlExp-F.Call fun es) os = IsCallOf il fun os
-- T13
Asks il (IlExp-F.Up t e) os = IsBelow (syntaxes il) (first_type os) t
-- T14: the count of an iteration is `nat`
Asks il (IlExp-F.Iter how xs body) os = AllAre (syntaxes il) ty.Nat (before_last os)
-- a literal, a variable and an empty option have no parts
Asks il _ os = Unit {0}

-- the rule of an expression
abbrev pub rule_of : Level → TypeRule
rule_of (IlExp-F.Not e) = T4
rule_of (IlExp-F.And e g) = T4
rule_of (IlExp-F.Or e g) = T4
rule_of (IlExp-F.Imp e g) = T4
rule_of (IlExp-F.Iff e g) = T4
rule_of (IlExp-F.Neg e) = T5
rule_of (IlExp-F.Add n e g) = T5
rule_of (IlExp-F.Sub n e g) = T5
rule_of (IlExp-F.Mul n e g) = T5
rule_of (IlExp-F.Div n e g) = T5
rule_of (IlExp-F.Rem n e g) = T5
rule_of (IlExp-F.Pow n e g) = T5
rule_of (IlExp-F.Lt e g) = T5
rule_of (IlExp-F.Gt e g) = T5
rule_of (IlExp-F.Le e g) = T5
rule_of (IlExp-F.Ge e g) = T5
rule_of (IlExp-F.Eq e g) = T6
rule_of (IlExp-F.Ne e g) = T6
rule_of (IlExp-F.Member e g) = T6
rule_of (IlExp-F.Case type tag es) = T7
rule_of (IlExp-F.Fields type es) = T8
rule_of (IlExp-F.Dot e name) = T8
rule_of (IlExp-F.Set e path g) = T9
rule_of (IlExp-F.Extend e path g) = T9
rule_of (IlExp-F.Join e g) = T9
rule_of (IlExp-F.Tuple es) = T10
rule_of (IlExp-F.List t items) = T10
rule_of (IlExp-F.Cat e g) = T10
rule_of (IlExp-F.Empty t) = T10
rule_of (IlExp-F.Present e) = T10
rule_of (IlExp-F.Absent t) = T10
rule_of (IlExp-F.Len e) = T11
rule_of (IlExp-F.IlExp::At e g) = T11
rule_of (IlExp-F.IlExp::Slice e g h) = T11
rule_of (IlExp-F.Call fun es) = T12
rule_of (IlExp-F.Up t e) = T13
rule_of (IlExp-F.Iter how xs body) = T14
rule_of (IlExp-F.Var x) = T2
-- a literal
rule_of _ = T3

-- T11: the positions and lengths in a path are of type `nat`
abbrev pub AsksOfPath : List SyntaxDef → Level → List (Option Ty) → Type 0
AsksOfPath defs (IlExp-F.Set e path g) os = AllAre defs ty.Nat (before_last (behind_first os))
AsksOfPath defs (IlExp-F.Extend e path g) os = AllAre defs ty.Nat (before_last (behind_first os))
AsksOfPath defs _ os = Unit {0}

-- a rule is broken exactly where what it asks is false
abbrev pub Told : TypeRule → Type 0 → List TypeRule → Type 0
Told rule P broken = (P × (broken ≡ [])) ⊎ ((P → ⊥) × (broken ≡ rule ∷ []))
