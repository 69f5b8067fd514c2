-- How far a walk through the bodies of a source has come.
use Rattle.std.specs.Prelude.{[], ◌≡◌, ◌<◌, ◌≤◌, ◌+◌, ◌^◌, ℕ, List, ◌∷◌, ◌++◌, length, drop, take, flat_map, slice_get, true, false, Option, Some, None}
use Rattle.st_num.specs.declared.span.Span.{Span}
use Rattle.st_el.specs.Erasure.{alternatives_in, joined_behind}
use Rattle.st_el.specs.declared.definition.Body.{Body}
use Rattle.st_el.specs.declared.definition.Body.TheVariants.{Alias, Cases, Fields}
use Rattle.st_el.specs.declared.definition.Def.{Def}
use Rattle.st_el.specs.declared.definition.DefNode.{DefNode}
use Rattle.st_el.specs.declared.definition.DefNode.TheVariants.{Syntax}
use Rattle.st_il.specs.declared.definition.Alternative.{Alternative}
use Rattle.st_il.specs.declared.definition.SyntaxBody.{SyntaxBody}
use Rattle.st_il.specs.declared.definition.SyntaxBody.TheVariants as body
use Rattle.st_type_table.specs.Breach.{FindsAt}
use Rattle.st_elab_law.specs.Agreement.{syntaxes}
use Rattle.st_elab_table.specs.declared.decls.Decls.{Decls}
use Rattle.st_elab_def.specs.declared.bodies.Source.{Source}
use Rattle.st_elab_def.specs.declared.bodies.Walk.{Walk}
use Rattle.st_elab_def.specs.declared.parts.Begun.{Begun}
use Rattle.st_elab_def.specs.Conditions.{joining}
use Rattle.st_elab_def.specs.Declarations.{is_declared_before}
use Rattle.st_elab_def.specs.Definitions.{Definition}
use Rattle.st_elab_def.specs.DeclsOf.{alternative_of, declared_by, decls_of}
use Rattle.st_elab_def.specs.Fragments.{has_fragment}
use Rattle.st_elab_def.specs.Phases.{Placed, placed, names_in, on_alias_name, on_alternatives, on_fields, on_body, alternatives_before}
use Rattle.st_ilcheck.specs.Index.{at}
use Rattle.st_elab_def.specs.inner.Last.{is_past}
use Rattle.st_elab_def.specs.inner.Walk.{standing, AllPassAt}

-- the syntax of this number has this name and body
abbrev pub IsSyntax : Decls → ℕ → List ℕ → SyntaxBody → Type 0
IsSyntax D number name b = slice_get D.types number ≡ Some (record { name = name; body = b })

-- the alternatives that a body has itself
abbrev pub own : Body → List Alternative
own b = flat_map alternative_of (alternatives_in b)

-- what is asked of the parts of a body, whose alternatives stand behind these
abbrev pub parts_asked : Span → List ℕ → List Alternative → Body → List Placed
parts_asked at name before (Alias t) = flat_map (on_alias_name name) (names_in t)
parts_asked at name before (Cases dots cases more) = on_alternatives name before cases
parts_asked at name before (Fields fields) = on_fields at [] fields

-- what is asked of a syntax of this body, whose alternatives stand behind these
abbrev pub body_asked : Definition → List ℕ → Option (List ℕ) → List Alternative → Body
    → List Placed
body_asked d name fragment before b =
    placed d.def.at (joining d name fragment b) ∷ parts_asked d.def.at name before b

-- the first alternatives of the syntax of this number pass: these, which are so many
pub record HaveBeen (D : Decls) (syntax : ℕ) (alternatives : List Alternative) (to : ℕ) : Type 0
  where
    pub asked : FindsAt D.types syntax 0 to None
    pub count : length alternatives ≡ to

-- where a body has alternatives, those before and its own pass, and are so many
abbrev pub Advances : Decls → ℕ → List Alternative → Body → ℕ → Type 0
Advances D syntax before (Cases dots cases more) to =
    HaveBeen D syntax (before ++ flat_map alternative_of cases) to
Advances D syntax before b to = Unit {0}

-- What is asked of a body passes, with the alternatives up to this number.
pub record BodyPasses (D : Decls) (ps : List Placed) (syntax : ℕ) (before : List Alternative)
    (b : Body) (to : ℕ) : Type 0 where
  pub passes : AllPassAt D ps
  pub advances : Advances D syntax before b to

-- The alternatives of the fragments before pass, of a syntax with fragments before and behind.
pub record HasBegun (D : Decls) (before behind : List Def) (name : List ℕ) (b : Begun) : Type 0
  where
    pub there : IsSyntax D b.syntax name
        (body.Variant (alternatives_before name before ++ alternatives_before name behind))
    pub been : HaveBeen D b.syntax (alternatives_before name before) b.alternatives

-- This is kept of the syntax of this name, where it has fragments before.
abbrev pub IsBegun : Decls → List Def → List Def → List ℕ → Option Begun → Type 0
IsBegun D before behind name None = has_fragment name before ≡ false
IsBegun D before behind name (Some b) =
    (has_fragment name before ≡ true)
    × (has_fragment name behind ≡ true → HasBegun D before behind name b)

-- The walk has come behind the first of these definitions.
pub record HasCome (D : Decls) (before behind : List Def) (walk : Walk) : Type 0 where
  pub ahead : drop walk.next D.types
      ≡ syntaxes (flat_map declared_by (joined_behind before behind))
  pub begun : (name : List ℕ) → IsBegun D before behind name (at walk.begun.entries name)
  pub few : walk.next ≤ length before

-- the definition of this number
abbrev pub here_of : List Def → ℕ → Def → Definition
here_of defs number def = standing (take number defs) def (drop (number + 1) defs)

-- The walk has come to this definition, of this number.
pub record ComesTo (source : Source) (number : ℕ) (def : Def) (walk : Walk) : Type 0 where
  pub syntaxes : source.bodies ≡ (decls_of source.defs.now).types
  pub declared : is_declared_before (here_of source.defs.now number def) ≡ false
  pub behind : (name : List ℕ) → has_fragment name (drop (number + 1) source.defs.now)
      ≡ is_past number (at source.last.entries name)
  pub within : length (take number source.defs.now) < 2 ^ 32
  pub come : HasCome (decls_of source.defs.now) (take number source.defs.now)
      (def ∷ drop (number + 1) source.defs.now) walk

-- What is asked of the definition passes, and the walk has come behind it.
pub record GoesBy (D : Decls) (d : Definition) (walk : Walk) : Type 0 where
  pub passes : AllPassAt D (on_body d)
  pub come : HasCome D (d.before ++ d.def ∷ []) d.behind walk

-- the definition is no syntax
abbrev pub IsNoSyntax : DefNode → Type 0
IsNoSyntax (Syntax name fragment b) = ⊥
IsNoSyntax node = Unit {0}
