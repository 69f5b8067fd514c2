-- The type of an iteration, and which variables it names.
use Rattle.std.specs.Prelude.{ℕ, List, length, map, filter, Bool, not, ◌&&◌, nat_lt}
use Rattle.st_num.specs.Names.{is_among}
use Rattle.st_num.specs.declared.dim.Kind.{Kind}
use Rattle.st_num.specs.declared.dim.Kind.TheVariants as kind
use Rattle.st_el.specs.declared.expression.Count.{Count, out-Count}
use Rattle.st_il.specs.declared.ty.Ty.{Ty}
use Rattle.st_il.specs.declared.ty.Ty.TheVariants as ty
use Rattle.st_dims.specs.declared.within.Within.{Within}
use Rattle.st_dims.specs.Around.{kind_at, inside}
use Rattle.st_elab_table.specs.declared.decls.Scope.{Scope}

-- a list or an option of this type
abbrev pub of_kind : Kind → Ty → Ty
of_kind kind.List t = ty.List t
of_kind kind.Opt t = ty.Opt t

-- the type of an iteration whose body has this type
abbrev pub iterated_type : Count → Ty → Ty
iterated_type c t = of_kind (kind_at (out-Count c)) t

-- ---- the variables that an iteration names

-- a variable of a scope: its name, its type, and the iterations that it varies over
abbrev pub Variable : Type 0
Variable = List ℕ × Ty × List Kind

-- With so many iterations round it, an iteration goes over the variables that occur in its body
-- whose dimension is longer, but for indices.
abbrev pub is_iterated : ℕ → List (List ℕ) → (List ℕ → Bool) → Variable → Bool
is_iterated depth indices occurs v =
    nat_lt depth (length v.2) && not (is_among v.0 indices) && occurs v.0

-- the names of the variables that an iteration inside of so many others goes over
abbrev pub iterated_in : List Variable → ℕ → List (List ℕ) → (List ℕ → Bool) → List (List ℕ)
iterated_in variables depth indices occurs =
    map (λ (v : Variable). v.0) (filter (is_iterated depth indices occurs) variables)

-- the variables that an iteration in this names, by those that occur in its body, in the order of
-- the scope
abbrev pub iterated : Scope → Within → Count → (List ℕ → Bool) → List (List ℕ)
iterated S w c occurs = iterated_in S.variables (length w.kinds) (inside w c).indices occurs
