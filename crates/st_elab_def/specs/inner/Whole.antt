-- How the whole internal language is put together.
use Rattle.std.specs.Prelude.{◌≡◌, ℕ, List, [], ◌∷◌, ◌++◌, reverse, flat_map, if◌then◌else◌}
use Rattle.std.specs.Borrow.{Bor}
use Rattle.st_el.specs.declared.definition.Def.{Def}
use Rattle.st_il.specs.declared.definition.IlDef.{IlDef}
use Rattle.st_elab_table.specs.declared.decls.Decls.{Decls}
use Rattle.st_elab_def.specs.declared.elaborated.Elaborated.{Elaborated}
use Rattle.st_elab_def.specs.declared.heads.Known.{Known}
use Rattle.st_elab_def.specs.declared.assembly.Assembly.{Assembly}
use Rattle.st_elab_def.specs.Definitions.{Definition, number_of}
use Rattle.st_elab_def.specs.DeclsOf.{declared_by}
use Rattle.st_elab_def.specs.Elaboration.{ElabDefs}
use Rattle.st_elab_def.specs.Fragments.{has_fragment, is_later}
use Rattle.st_elab_def.specs.Phases.{on_content}
use Rattle.st_elab_def.specs.inner.Heads.{Finds, KnowsRules}
use Rattle.st_ilcheck.specs.Index.{has}
use Rattle.st_elab_def.specs.inner.Joining.{joined_of}
use Rattle.st_elab_def.specs.inner.Walk.{AllPassAt}

-- The names are those of the syntaxes with a fragment among these definitions.
abbrev pub KnowsFragments : List Def → List (Bor (List ℕ)) → Type 0
KnowsFragments before names = (q : List ℕ) → has names q ≡ has_fragment q before

-- a definition more, which comes from that of this number
abbrev pub with_one : Elaborated → IlDef → ℕ → Elaborated
with_one e def number = record {
  il = record { defs = e.il.defs ++ def ∷ [] };
  sources = e.sources ++ number ∷ [];
}

-- What a definition stands for is added, behind which this is declared.
pub record PlacesOne (D : Decls) (d : Definition) (rest declared : List IlDef)
    (old new : Elaborated) : Type 0 where
  pub rest_is : reverse declared ≡ rest
  pub added : List IlDef
  pub defs : new.il.defs ≡ old.il.defs ++ added
  pub elaborated : ElabDefs D (joined_of d) added
  pub sources : new.sources ≡ old.sources ++ (if is_later d then [] else number_of d ∷ [])

-- The assembly has come to this definition, behind which this is declared.
pub record ComesTo (D : Decls) (known : Known) (d : Definition) (rest : List IlDef) (a : Assembly)
    : Type 0 where
  pub finds : Finds D known
  pub rules : KnowsRules d.before a.rules.keys
  pub fragments : KnowsFragments d.before a.fragments.keys
  pub declared : reverse a.declared ≡ flat_map declared_by (joined_of d) ++ rest

-- What the definition asks passes, and what it stands for is added.
pub record Adds (D : Decls) (d : Definition) (rest : List IlDef) (old new : Assembly)
    : Type 0 where
  pub passes : AllPassAt D (on_content d)
  pub rules : KnowsRules (d.before ++ d.def ∷ []) new.rules.keys
  pub fragments : KnowsFragments (d.before ++ d.def ∷ []) new.fragments.keys
  pub places : PlacesOne D d rest new.declared old.made new.made
