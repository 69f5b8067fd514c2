-- What a definition cites, as it is found.
use Rattle.std.specs.Prelude.{◌≡◌, All}
use Rattle.st_il.specs.declared.definition.Il.{Il}
use Rattle.st_il.specs.declared.definition.IlDef.{IlDef}
use Rattle.st_ilcheck.specs.declared.cited.Citations.{Citations}
use Rattle.st_ilcheck.specs.declared.declaring.Declared.{Declared}
use Rattle.st_ilcheck.specs.Declarations.{cited, IsOnceIn, IsTag, syntax_names, relation_names, function_names}

-- that is what a definition cites
pub record AreCited (d : IlDef) (c : Citations) : Type 0 where
  pub syntaxes : c.syntaxes ≡ (cited d).syntaxes
  pub relations : c.relations ≡ (cited d).relations
  pub functions : c.functions ≡ (cited d).functions
  pub tagged : c.tags ≡ (cited d).tags

-- the names that are cited are among those that are declared, once, and the tags are templates
pub record AreCitedOnce (whole : Declared) (c : Citations) : Type 0 where
  pub syntaxes : All (IsOnceIn whole.syntaxes) c.syntaxes
  pub relations : All (IsOnceIn whole.relations) c.relations
  pub functions : All (IsOnceIn whole.functions) c.functions
  pub tagged : All IsTag c.tags

-- the names that a definition cites are declared in the language, once, and its tags are templates
pub record CitesOnce (il : Il) (d : IlDef) : Type 0 where
  pub syntaxes_once : All (IsOnceIn (syntax_names il.defs)) (cited d).syntaxes
  pub relations_once : All (IsOnceIn (relation_names il.defs)) (cited d).relations
  pub functions_once : All (IsOnceIn (function_names il.defs)) (cited d).functions
  pub tagged : All IsTag (cited d).tags
