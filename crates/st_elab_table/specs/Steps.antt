-- Steps that the rows of the table are made of.
use Rattle.std.specs.Prelude.{ℕ, List, [], ◌∷◌, map, Bool, true, false, if◌then◌else◌}
use Rattle.st_num.specs.declared.span.Span.{Span}
use Rattle.st_num.specs.declared.rule.RuleId.{RuleId}
use Rattle.st_num.specs.declared.rule.RuleId.TheVariants.{Y1, Y5}
use Rattle.st_el.specs.declared.expression.Exp.{Exp}
use Rattle.st_il.specs.declared.ty.Ty.{Ty, out-Ty}
use Rattle.st_il.specs.declared.ty.Ty.TheVariants as ty
use Rattle.st_il.specs.declared.ty.Ty.TheOpen.{Ty-F}
use Rattle.st_il.specs.declared.ty.NumTy.{NumTy}
use Rattle.st_il.specs.declared.ty.NumTy.TheVariants as number
use Rattle.st_il.specs.declared.expression.IlExp.{IlExp}
use Rattle.st_il.specs.declared.expression.IlExp.TheVariants as il
use Rattle.st_il.specs.declared.expression.ListItem.TheVariants as part
use Rattle.st_notation.specs.Fits.{Filling}
use Rattle.st_dims.specs.declared.within.Within.{Within}
use Rattle.st_elab_table.specs.Forms.{place}
use Rattle.st_elab_table.specs.Questions.{Manner, Question, check, infer, hole, Made, Gives, Fails, are_same, is_below, can_join, Step, Ends, Asks, Tests, Opens}

-- the answer is that this rule is broken at this place
abbrev pub breach : Span → RuleId → Step
breach at rule = Ends (Fails (record { at = at; rule = rule }))

-- an expression of this type that is one element, not spliced
abbrev pub made : IlExp → Ty → Made
made x t = record { exp = x; ty = t; spliced = false }

-- the answer is this expression of this type
abbrev pub give : IlExp → Ty → Step
give x t = Ends (Gives (made x t))

-- the answer to another question is the answer
abbrev pub pass : Question → Step
pass q = Asks q (λ m. Ends (Gives m))

-- an expression by itself: in no parentheses, and asked at no variant so far
abbrev pub by_itself : Manner
by_itself = record { in_parentheses = false; passed = [] }

-- the same expression, in parentheses
abbrev pub enclosed : Manner → Manner
enclosed p = record { in_parentheses = true; passed = p.passed }

-- the question what the expression by itself is at a type
abbrev pub asked : Within → Exp → Ty → Question
asked w e t = check w (place e) by_itself e t

-- the question what the expression by itself is, and its type
abbrev pub found : Within → Exp → Question
found w e = infer w (place e) e

-- the questions what each expression is at its type
abbrev pub each_asked : Within → List Exp → List Ty → List Question
each_asked w [] ts = []
each_asked w (e ∷ es) [] = []
each_asked w (e ∷ es) (t ∷ ts) = asked w e t ∷ each_asked w es ts

-- The questions what fills each hole, at the type of the hole;
-- what is in it is being asked at these variants already.
abbrev pub holes_behind : Within → Span → List (List ℕ) → List Filling → List Ty → List Question
holes_behind w at passed [] ts = []
holes_behind w at passed (f ∷ fs) [] = []
holes_behind w at passed (f ∷ fs) (t ∷ ts) = hole w at passed f t ∷ holes_behind w at passed fs ts

-- the same where what is in the holes is asked at no variant so far
abbrev pub holes : Within → Span → List Filling → List Ty → List Question
holes w at fs ts = holes_behind w at [] fs ts

-- the expression that a part was made to
abbrev pub exp_of : Made → IlExp
exp_of m = m.exp

-- the type of what a part was made to
abbrev pub ty_of : Made → Ty
ty_of m = m.ty

-- the expressions that several parts were made to
abbrev pub exps : List Made → List IlExp
exps ms = map exp_of ms

-- ---- types

-- the form of a type is that of a list or an option
abbrev pub is_collection_at : Ty-F Ty → Bool
is_collection_at (Ty-F.List t) = true
is_collection_at (Ty-F.Opt t) = true
is_collection_at _ = false

-- the type is a list or an option
abbrev pub is_collection : Ty → Bool
is_collection t = is_collection_at (out-Ty t)

-- what follows from the element type, where this is the form of a list type; Y5 here where not
abbrev pub list_at : Span → (Ty → Step) → Ty-F Ty → Step
list_at at next (Ty-F.List element) = next element
list_at at next _ = breach at Y5

-- what follows from the element type of a list type; Y5 here where it is none
abbrev pub as_list : Span → Ty → (Ty → Step) → Step
as_list at t next = Opens t (λ u. list_at at next (out-Ty u))

-- what follows from `nat` or `int`, where this is the form of one; Y5 here where not
abbrev pub number_at : Span → (NumTy → Step) → Ty-F Ty → Step
number_at at next Ty-F.Nat = next number.Nat
number_at at next Ty-F.Int = next number.Int
number_at at next _ = breach at Y5

-- what follows from a number type; Y5 here where it is none
abbrev pub as_number : Span → Ty → (NumTy → Step) → Step
as_number at t next = Opens t (λ u. number_at at next (out-Ty u))

-- The larger of two types, that of the left side where each is below the other; or none is larger.
abbrev pub larger : Ty → Ty → (Ty → Step) → Step → Step
larger a b next none = Tests (is_below b a) (next a) (Tests (is_below a b) (next b) none)

-- ---- injections

-- what is found, injected into a type above its own where it is not of that type
abbrev pub raised : Made → Ty → (IlExp → Step) → Step
raised m t next = Tests (are_same m.ty t) (next m.exp) (next (il.Up t m.exp))

-- a number of the first type, injected into the second
abbrev pub injected : NumTy → NumTy → IlExp → IlExp
injected number.Nat number.Int x = il.Up ty.Int x
injected m n x = x

-- the type of arithmetic on two numbers of these types
abbrev pub wider : NumTy → NumTy → NumTy
wider number.Nat n = n
wider number.Int n = number.Int

-- the type of these numbers
abbrev pub number_type : NumTy → Ty
number_type number.Nat = ty.Nat
number_type number.Int = ty.Int

-- ---- one element

-- the list of this one element
abbrev pub list_of_one : Ty → IlExp → IlExp
list_of_one element x = il.List element (part.One x ∷ [])

-- what is found, as one element of this type, in a list or an option of the type t
abbrev pub lifted_to : Span → Made → Ty → Ty → (IlExp → IlExp) → Step
lifted_to at m t element lift =
    Opens element (λ v. if is_collection v then breach at Y1
    else Tests (is_below m.ty element) (raised m element (λ x. give (lift x) t)) (breach at Y1))

-- what is found, as one element of the type t, where that is the form of a list or an option;
-- Y1 here where not
abbrev pub lifted_at : Span → Made → Ty → Ty-F Ty → Step
lifted_at at m t (Ty-F.List element) = lifted_to at m t element (list_of_one element)
lifted_at at m t (Ty-F.Opt element) = lifted_to at m t element il.Present
lifted_at at m t _ = breach at Y1

-- What is found, at the type t:
-- as it is, injected into a type above its own, or as one element of a list or an option.
abbrev pub fitted : Span → Ty → Made → Step
fitted at t m =
    Tests (are_same m.ty t) (give m.exp t)
    (Tests (is_below m.ty t) (give (il.Up t m.exp) t)
    (Opens t (λ u. lifted_at at m t (out-Ty u))))

-- ---- `++`

-- how `++` puts two expressions of the type t together, where it has this form;
-- Y5 here where it does not
abbrev pub joined_at : Span → Ty → ((IlExp → IlExp → IlExp) → Step) → Ty-F Ty → Step
joined_at at t next (Ty-F.List element) = next il.Cat
joined_at at t next _ = Tests (can_join t) (next il.Join) (breach at Y5)

-- how `++` puts two expressions of this type together; Y5 here where it does not
abbrev pub as_joined : Span → Ty → ((IlExp → IlExp → IlExp) → Step) → Step
as_joined at t next = Opens t (λ u. joined_at at t next (out-Ty u))
