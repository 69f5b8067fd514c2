-- The table: expressions at list and option types, and what fills holes.
use Rattle.std.specs.Prelude.{ℕ, List, [], ◌∷◌, length, map, Bool, true, false, not, ◌&&◌, if◌then◌else◌, nat_le}
use Rattle.st_num.specs.declared.span.Span.{Span}
use Rattle.st_num.specs.declared.rule.RuleId.TheVariants.{Y1, Y2}
use Rattle.st_el.specs.declared.expression.Exp.{Exp}
use Rattle.st_el.specs.declared.expression.Node.{Node}
use Rattle.st_el.specs.declared.expression.Count.{Count, out-Count}
use Rattle.st_el.specs.declared.expression.Count.TheOpen.{Count-F}
use Rattle.st_el.specs.declared.expression.Seg.{Seg}
use Rattle.st_il.specs.declared.ty.Ty.{Ty, out-Ty}
use Rattle.st_il.specs.declared.ty.Ty.TheVariants as ty
use Rattle.st_il.specs.declared.ty.Ty.TheOpen.{Ty-F}
use Rattle.st_il.specs.declared.expression.IlExp.{IlExp}
use Rattle.st_il.specs.declared.expression.IlExp.TheVariants as il
use Rattle.st_il.specs.declared.expression.Iteration.{Iteration}
use Rattle.st_il.specs.declared.expression.Iteration.TheVariants as times
use Rattle.st_il.specs.declared.expression.ListItem.{ListItem}
use Rattle.st_il.specs.declared.expression.ListItem.TheVariants as part
use Rattle.st_il.specs.Occurrences.{occurs}
use Rattle.st_notation.specs.Fits.{Filling, one, run, missing}
use Rattle.st_elab_table.specs.declared.decls.Scope.{Scope}
use Rattle.st_dims.specs.declared.within.Within.{Within}
use Rattle.st_elab_table.specs.Forms.{place, is_spliced, is_told_by_type, goes_over_list}
use Rattle.st_dims.specs.Around.{inside}
use Rattle.st_elab_table.specs.Iterations.{iterated}
use Rattle.st_elab_table.specs.Questions.{Manner, check, item, Made, Gives, is_below, Step, Ends, Asks, Tests, Opens, asks}
use Rattle.st_elab_table.specs.Steps.{breach, made, give, pass, asked, found, is_collection, raised, list_of_one, as_joined}

-- ---- lists and options

-- the expression as one element of the type x, in a list or an option of the type t
abbrev pub element : Within → Span → Manner → Exp → Ty → Ty → (IlExp → IlExp) → Step
element w at p e t x lift =
    Opens x (λ v. if is_collection v then breach at Y1
    else Asks (check w at p e x) (λ m. give (lift m.exp) t))

-- any other expression: one element of a list or an option, or Y1
abbrev pub other_row : Within → Span → Manner → Exp → Ty → Ty-F Ty → Step
other_row w at p e t (Ty-F.List x) = element w at p e t x (list_of_one x)
other_row w at p e t (Ty-F.Opt x) = element w at p e t x il.Present
other_row w at p e t _ = breach at Y1

-- `eps` at the type t: the empty list or the empty option; Y1 at any other type
abbrev pub eps_row : Span → Ty → Ty-F Ty → Step
eps_row at t (Ty-F.List x) = give (il.List x []) t
eps_row at t (Ty-F.Opt x) = give (il.Empty x) t
eps_row at t _ = breach at Y1

-- `++` at the type t, at which both sides are asked; Y5 where `++` does not put it together
abbrev pub concatenation_row : Within → Span → Exp → Exp → Ty → Step
concatenation_row w at l r t =
    as_joined at t
    (λ join. Asks (asked w l t) (λ a. Asks (asked w r t) (λ b. give (join a.exp b.exp) t)))

-- how often an iteration goes; the count stands outside of it
abbrev pub counted_at : Within → Count-F Count Node Seg Exp → (Iteration → Step) → Step
counted_at w Count-F.Star next = next times.Star
counted_at w Count-F.Plus next = next times.Plus
counted_at w Count-F.Quest next = next times.Quest
counted_at w (Count-F.Times n) next = Asks (asked w n ty.Nat) (λ m. next (times.Times m.exp))
counted_at w (Count-F.Below i n) next = Asks (asked w n ty.Nat) (λ m. next (times.Below i m.exp))

-- an iteration with this body, of this type
abbrev pub iteration : Scope → Within → Count → IlExp → Ty → Step
iteration S w c body t =
    counted_at w (out-Count c)
    (λ k. give (il.Iter k (iterated S w c (λ name. occurs name body)) body) t)

-- an iteration of the type t, whose body is asked at the element type x
abbrev pub body_row : Scope → Within → Exp → Count → Ty → Ty → Step
body_row S w b c x t = Asks (asked (inside w c) b x) (λ m. iteration S w c m.exp t)

-- an iteration: by `* + ^` at a list, by `?` at an option
abbrev pub iteration_row : Scope → Within → Span → Manner → Exp → Exp → Count → Ty → Ty-F Ty → Step
iteration_row S w at p e b c t (Ty-F.List x) =
    if goes_over_list (out-Count c) then body_row S w b c x t
    else other_row w at p e t (Ty-F.List x)
iteration_row S w at p e b c t (Ty-F.Opt x) =
    if goes_over_list (out-Count c) then other_row w at p e t (Ty-F.Opt x) else body_row S w b c x t
iteration_row S w at p e b c t y = other_row w at p e t y

-- ---- sequences

-- what is made, as an item of a list: one element, or all elements where it is spliced
abbrev pub item_of : Made → ListItem
item_of m = if m.spliced then part.All m.exp else part.One m.exp

-- the items of a sequence at a list type t of these elements
abbrev pub sequence : Within → Span → List Exp → Ty → Ty → Step
sequence w at es t x =
    Opens x (λ v. if is_collection v then breach at Y2
    else asks (map (item w t x) es) (λ ms. give (il.List x (map item_of ms)) t))

-- all elements of what is made are items
abbrev pub splice : Made → Step
splice m = Ends (Gives (record { exp = m.exp; ty = m.ty; spliced = true }))

-- An inferable item: one element where its type is below the element type,
-- and spliced where it is below the list type.
abbrev pub found_item : Span → Ty → Ty → Made → Step
found_item at t x m =
    Tests (is_below m.ty x) (raised m x (λ y. give y x))
    (Tests (is_below m.ty t) (raised m t (λ y. splice (made y t))) (breach at Y1))

-- An item: all elements of what is spliced, or one element, which is asked at the element type.
abbrev pub item_row : Within → Ty → Ty → Exp → Step
item_row w t x e =
    if is_spliced e then Asks (asked w e t) splice
    else if is_told_by_type e then Asks (found w e) (found_item (place e) t x)
    else pass (asked w e x)

-- two elements or more, not in parentheses
abbrev pub is_run : List Exp → Bool → Bool
is_run es p = nat_le 2 (length es) && not p

-- ---- holes

-- a run of two or more elements: a sequence at a list type, and Y1 at any other
abbrev pub run_at : Within → Span → List Exp → Ty → Ty-F Ty → Step
run_at w at es t (Ty-F.List x) = sequence w at es t x
run_at w at es t _ = breach at Y1

-- A run in a hole: of none it is left out, of one it is that element; two and more are a sequence.
abbrev pub run_row : Within → Span → List (List ℕ) → List Exp → Ty → Step
run_row w at passed [] t = give (il.Absent t) t
run_row w at passed (e ∷ []) t =
    pass (check w (place e) (record { in_parentheses = true; passed = passed }) e t)
run_row w at passed (e ∷ f ∷ es) t = Opens t (λ u. run_at w at (e ∷ f ∷ es) t (out-Ty u))

-- what fills a hole of the type t: one expression, a run of elements, or nothing
abbrev pub hole_row : Within → Span → List (List ℕ) → Filling → Ty → Step
hole_row w at passed (one e) t =
    pass (check w (place e) (record { in_parentheses = false; passed = passed }) e t)
hole_row w at passed (run es) t = run_row w at passed es t
hole_row w at passed missing t = give (il.Absent t) t
