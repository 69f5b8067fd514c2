-- The walk through the bodies of a source, definition by definition.
use Rattle.std.proofs.Common.{[], ◌≡◌, sym, ap, ◌∙◌, subst, ℕ, ◌+◌, ◌<◌, ◌^◌, Some, List, length, take, drop, get_or, arith}
use Rattle.std.specs.Prelude.{Result, Ok, Err}
use Rattle.std.proofs.lemmas.Grind.{common_steps}
use Rattle.std.proofs.lemmas.Option.{slice_get-get_or}
use Rattle.st_num.specs.declared.fault.Fault.{Fault}
use Rattle.st_num.specs.declared.fault.Fault.TheVariants as fault
use Rattle.st_dims.proofs.Lists.{next_taken}
use Rattle.st_el.specs.declared.definition.Def.{Def}
use Rattle.st_elab_table.specs.declared.decls.Decls.{Decls}
use Rattle.st_elab_rows.specs.Told.{Told}
use Rattle.st_elab_rows.proofs.Builds.{Told-found, from_place}
use Rattle.st_elab_def.specs.declared.bodies.Source.{Source}
use Rattle.st_elab_def.specs.declared.bodies.Walk.{Walk}
use Rattle.st_elab_def.specs.declared.breach.DefFault.{DefFault}
use Rattle.st_elab_def.specs.Definitions.{Definition, definitions}
use Rattle.st_elab_def.specs.DeclsOf.{decls_of}
use Rattle.st_elab_def.specs.Phases.{on_declaration, on_body, phase}
use Rattle.st_elab_def.specs.Breaches.{AllPass}
use Rattle.st_elab_def.specs.inner.Bodies.{HasCome, here_of, ComesTo, GoesBy}
use Rattle.st_ilcheck.specs.Index.{at}
use Rattle.st_elab_def.specs.inner.Last.{KnowsLast}
use Rattle.st_elab_def.specs.inner.Walk.{AllPassAt, FirstBreachAt, Checks, numbered}
use Rattle.st_elab_def.proofs.ComesTo.{new-at}
use Rattle.st_elab_def.proofs.ContentLemmas.{told_both}

module _ (source : Source) (i : ℕ) (def : Def) (h : i < length source.defs.now) (is : def ≡ get_or source.defs.now i def) where
  abbrev D : Decls
  D = decls_of source.defs.now

  abbrev defs : List Def
  defs = source.defs.now

  pub comes-to : (walk : Walk) → source.bodies ≡ D.types → KnowsLast defs source.last.entries → length defs < 2 ^ 32
      → AllPass D (phase on_declaration (definitions defs)) → HasCome D (take i defs) (drop i defs) walk → ComesTo source i def walk
  comes-to walk syntaxes last few declared come = record {
    syntaxes = syntaxes;
    declared = new-at D [] defs i def (slice_get-get_or defs i def h ∙ ap Some (sym is)) declared;
    behind = λ name. last name i;
    within = few-before;
    come = subst (λ ds. HasCome D (take i defs) ds walk) (from_place defs i def h is) come;
  }
    where
      few-before : length (take i defs) < 2 ^ 32
      few-before = grind (arith, common_steps)

  pub come-next : (walk : Walk) → GoesBy D (here_of defs i def) walk → HasCome D (take (i + 1) defs) (drop (i + 1) defs) walk
  come-next walk g = subst (λ ds. HasCome D ds (drop (i + 1) defs) walk) (sym (next_taken defs i def h is)) g.come

pub goes-checks : {A : Type 0} (D : Decls) (d : Definition) (walk : Walk) (r : Result A Fault)
    → Told (λ (x : A). GoesBy D d walk) (FirstBreachAt D (on_body d)) r → Checks D (on_body d) r
goes-checks {A} D d walk r h =
    told_both (λ (x : A). GoesBy D d walk) (λ (x : A). AllPassAt D (on_body d)) (FirstBreachAt D (on_body d)) (FirstBreachAt D (on_body d)) r (λ x g. g.passes) (λ b k. k) h

-- an answer with a number is a value where the answer is
pub numbered-found : {A : Type 0} (number : ℕ) (r : Result A Fault) (s : Result A DefFault) (x : A) → s ≡ numbered number r → s ≡ Ok x → r ≡ Ok x
numbered-found number (Ok y) s x is was = let same : Ok y ≡ Ok x = sym is ∙ was in cc
numbered-found number (Err (fault.Refused at rule)) s x is was = let same : numbered number (Err (fault.Refused at rule)) ≡ Ok x = sym is ∙ was in cc
numbered-found number (Err fault.Memory) s x is was = let same : numbered number (Err fault.Memory) ≡ Ok x = sym is ∙ was in cc

pub goes-found : {A : Type 0} (D : Decls) (d : Definition) (walk : Walk) (r : Result A Fault) (x : A) → r ≡ Ok x
    → Told (λ (x : A). GoesBy D d walk) (FirstBreachAt D (on_body d)) r → GoesBy D d walk
goes-found {A} D d walk r x is h = Told-found (λ (x : A). GoesBy D d walk) (FirstBreachAt D (on_body d)) r x is h
