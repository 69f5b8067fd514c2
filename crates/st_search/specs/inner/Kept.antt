-- What is kept of a language between searches.
use Rattle.std.specs.Prelude.{◌≡◌, List}
use Rattle.st_il.specs.declared.definition.Il.{Il}
use Rattle.st_il.specs.declared.definition.SyntaxDef.{SyntaxDef}
use Rattle.st_order.specs.declared.masks.Directions.{Directions}
use Rattle.st_order.specs.Known.{AreDirections}
use Rattle.st_algo.specs.declared.algorithm.Algos.{Algos}
use Rattle.st_search.specs.Searchable.{IsSearchable}

-- the language can be searched with these types and algorithms, and the directions are its own
pub record IsKept (il : Il) (types : List SyntaxDef) (algos : Algos) (directions : Directions)
    : Type 0 where
  pub searchable : IsSearchable il types algos
  pub directions_are : AreDirections directions
  pub same : directions.il.now ≡ il
