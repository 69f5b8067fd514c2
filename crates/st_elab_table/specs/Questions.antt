-- Questions about expressions, and the steps in which a row of the table answers one.
use Rattle.std.specs.Prelude.{ℕ, List, [], ◌∷◌, Bool}
use Rattle.st_num.specs.declared.span.Span.{Span}
use Rattle.st_num.specs.declared.rule.RuleId.{RuleId}
use Rattle.st_el.specs.declared.expression.Exp.{Exp}
use Rattle.st_il.specs.declared.ty.Ty.{Ty}
use Rattle.st_il.specs.declared.expression.IlExp.{IlExp}
use Rattle.st_notation.specs.Fits.{Filling}
use Rattle.st_dims.specs.declared.within.Within.{Within}

-- How an expression is asked: whether it stands in parentheses, and at which variants it is being
-- asked already, itself and no part of it. Parentheses round it do not count.
pub record Manner : Type 0 where
  pub in_parentheses : Bool
  pub passed : List (List ℕ)

-- What is asked of a part, inside of this.
-- The place is that of a breach at the part itself: of its parentheses, where it has any.
pub data Question : Type 0 where
  -- what the expression is at a type
  check : (w : Within) (at : Span) (p : Manner) (e : Exp) (t : Ty) → Question
  -- what the expression is, and its type
  infer : (w : Within) (at : Span) (e : Exp) → Question
  -- what an item of a sequence at the list type t with this element type is
  item : (w : Within) (t element : Ty) (e : Exp) → Question
  -- what fills a hole of this type; at which variants an expression in it is being asked already
  hole : (w : Within) (at : Span) (passed : List (List ℕ)) (filling : Filling) (t : Ty) → Question

-- What a part is elaborated to: an expression of this type;
-- for an item, whether all its elements are items.
pub record Made : Type 0 where
  pub exp : IlExp
  pub ty : Ty
  pub spliced : Bool

-- the place of a part, and the rule that it breaks
pub record Breach : Type 0 where
  pub at : Span
  pub rule : RuleId

-- what a question is answered with: what the part is made to, or the first breach in it
pub data Answer : Type 0 where
  Gives : (m : Made) → Answer
  Fails : (b : Breach) → Answer

-- a condition on types
pub data Condition : Type 0 where
  -- they are equal through aliases
  are_same : (a b : Ty) → Condition
  -- the first is a subtype of the second
  is_below : (a b : Ty) → Condition
  -- it is a variant
  is_variant : (t : Ty) → Condition
  -- it is a record type that can be joined
  can_join : (t : Ty) → Condition

-- a case of a variant that an expression is, by the name of the type as it was asked,
-- what fills its holes, and whether a hole takes the whole of the expression
pub record Chosen : Type 0 where
  pub name : List ℕ
  pub tag : List ℕ
  pub operands : List Ty
  pub fillings : List Filling
  pub whole : Bool

-- How a question is answered.
pub data Step : Type 0 where
  -- at once
  Ends : (a : Answer) → Step
  -- by what follows from the answer to a question that is asked first; a breach there is the answer
  Asks : (q : Question) (next : Made → Step) → Step
  -- by the one where the condition holds, and else by the other
  Tests : (c : Condition) (holds fails : Step) → Step
  -- by what follows from what the type means
  Opens : (t : Ty) (next : Ty → Step) → Step
  -- by what follows from the case of the type that the expression is, or where it is none
  Fills : (t : Ty) (e : Exp) (next : Chosen → Step) (unfit : Step) → Step

-- several questions, from left to right
abbrev pub asks : List Question → (List Made → Step) → Step
asks [] next = next []
asks (q ∷ qs) next = Asks q (λ m. asks qs (λ ms. next (m ∷ ms)))
