-- What stands round a part of an expression or premise: the iterations and their indices.
use Rattle.std.specs.Prelude.{ℕ, List, [], ◌∷◌, ◌++◌}
use Rattle.st_num.specs.declared.dim.Kind.{Kind}
use Rattle.st_num.specs.declared.dim.Kind.TheVariants as kind
use Rattle.st_el.specs.declared.expression.Count.{Count, out-Count}
use Rattle.st_el.specs.declared.expression.Count.TheOpen.{Count-F}
use Rattle.st_dims.specs.declared.within.Within.{Within}

-- what an iteration makes of its body: an option, or else a list
abbrev pub kind_at : {C N S E : Type 0} → Count-F C N S E → Kind
kind_at Count-F.Quest = kind.Opt
kind_at _ = kind.List

-- the index of an iteration, where it has one
abbrev pub index_at : {C N S E : Type 0} → Count-F C N S E → List (List ℕ)
index_at (Count-F.Below index count) = index ∷ []
index_at _ = []

-- what stands round a part that is in no iteration
abbrev pub outside : Within
outside = record { kinds = []; indices = [] }

-- what stands round the body of an iteration of this kind and with this index
abbrev pub entered : Kind → List (List ℕ) → Within → Within
entered kind index w = record { kinds = w.kinds ++ kind ∷ []; indices = w.indices ++ index }

-- what stands round the body of an iteration that has this round it
abbrev pub inside : Within → Count → Within
inside w c = entered (kind_at (out-Count c)) (index_at (out-Count c)) w
