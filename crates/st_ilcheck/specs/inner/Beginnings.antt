-- Kinds that begin with those of a dimension, told one by one.
use Rattle.std.specs.Prelude.{◌≡◌, List, [], ◌∷◌}
use Rattle.st_num.specs.declared.dim.Kind.{Kind}

-- the first kinds of these are those, one by one
abbrev pub BeginsBy : List Kind → List Kind → Type 0
BeginsBy [] kinds = Unit {0}
BeginsBy (k ∷ dim) [] = ⊥
BeginsBy (k ∷ dim) (o ∷ kinds) = (k ≡ o) × BeginsBy dim kinds
