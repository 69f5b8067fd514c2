-- What a definition that is no later fragment stands for.
use Rattle.std.specs.Prelude.{◌≡◌, List, map, filter, flat_map, not, Some, None}
use Rattle.st_el.specs.Erasure.{joined, joined_at, alternatives}
use Rattle.st_el.specs.declared.definition.Def.{Def}
use Rattle.st_el.specs.declared.definition.DefNode.{DefNode}
use Rattle.st_el.specs.declared.definition.DefNode.TheVariants.{Syntax}
use Rattle.st_il.specs.declared.definition.IlDef.{IlDef}
use Rattle.st_elab_table.specs.declared.decls.Decls.{Decls}
use Rattle.st_elab_def.specs.declared.elaborated.Elaborated.{Elaborated}
use Rattle.st_elab_def.specs.Definitions.{Definition, number_of}
use Rattle.st_elab_def.specs.Fragments.{is_later}
use Rattle.st_elab_def.specs.Phases.{on_content, phase}
use Rattle.st_elab_def.specs.Breaches.{AllPass}
use Rattle.st_elab_def.specs.Elaboration.{ElabDef, ElabDefs}
use Rattle.st_elab_def.specs.inner.Walk.{AllPassAt}

-- the definition, with the alternatives of the fragments behind it where it is one
abbrev pub joined_one : DefNode → List Def → DefNode
joined_one (Syntax name None body) behind = Syntax name None body
joined_one (Syntax name (Some fragment) body) behind =
    Syntax name None (joined body (alternatives name behind))
joined_one node behind = node

-- what a definition stands for
abbrev pub joined_of : Definition → List Def
joined_of d = joined_at d.before d.def d.behind

-- the definition in the internal language, where it is no later fragment; and what it asks passes
pub record ElabOne (D : Decls) (d : Definition) (x : IlDef) : Type 0 where
  pub elaborated : ElabDef D (record d.def { node = joined_one d.def.node d.behind }) x
  pub passes : AllPassAt D (on_content d)

-- The definitions are elaborated, and what they ask passes.
pub record AreContents (D : Decls) (ds : List Definition) (e : Elaborated) : Type 0 where
  pub passes : AllPass D (phase on_content ds)
  pub elaborated : ElabDefs D (flat_map joined_of ds) e.il.defs
  pub sources : e.sources ≡ map number_of (filter (λ (d : Definition). not (is_later d)) ds)
