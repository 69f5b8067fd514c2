-- The four phases, one behind another.
use Rattle.std.proofs.Common.{sym, subst, List, []}
use Rattle.st_el.specs.declared.definition.Def.{Def}
use Rattle.st_elab_table.specs.declared.decls.Decls.{Decls}
use Rattle.st_elab_def.specs.declared.breach.Breach.{Breach}
use Rattle.st_elab_def.specs.declared.elaborated.Elaborated.{Elaborated}
use Rattle.st_elab_def.specs.Breaches.{AllPass, FirstBreach, IsBreach}
use Rattle.st_elab_def.specs.Definitions.{definitions}
use Rattle.st_elab_def.specs.DeclsOf.{decls_of}
use Rattle.st_elab_def.specs.Elaboration.{ElabDefs, IsElaborated}
use Rattle.st_elab_def.specs.Phases.{Question, phase, on_declaration, on_body, on_signature, on_content}
use Rattle.st_elab_def.specs.inner.Joining.{AreContents}
use Rattle.st_elab_def.proofs.PlacesOne.{joined-definitions}
use Rattle.st_elab_def.proofs.Leaves.{AllPass-append, FirstBreach-front, FirstBreach-behind}

module _ (defs : List Def) where
  abbrev D : Decls
  D = decls_of defs

  abbrev declarations_asked : List Question
  declarations_asked = phase on_declaration (definitions defs)

  abbrev bodies_asked : List Question
  bodies_asked = phase on_body (definitions defs)

  abbrev signatures_asked : List Question
  signatures_asked = phase on_signature (definitions defs)

  abbrev contents_asked : List Question
  contents_asked = phase on_content (definitions defs)

  pub breach_in_declarations : (b : Breach) → FirstBreach D declarations_asked b → IsBreach defs b
  breach_in_declarations b h = FirstBreach-front D declarations_asked _ b h

  module _ (declared : AllPass D declarations_asked) where
    pub breach_in_bodies : (b : Breach) → FirstBreach D bodies_asked b → IsBreach defs b
    breach_in_bodies b h = FirstBreach-behind D declarations_asked _ b declared (FirstBreach-front D bodies_asked _ b h)

    module _ (bodied : AllPass D bodies_asked) where
      pub breach_in_signatures : (b : Breach) → FirstBreach D signatures_asked b → IsBreach defs b
      breach_in_signatures b h =
          FirstBreach-behind D declarations_asked _ b declared (FirstBreach-behind D bodies_asked _ b bodied (FirstBreach-front D signatures_asked _ b h))

      module _ (signed : AllPass D signatures_asked) where
        pub breach_in_contents : (b : Breach) → FirstBreach D contents_asked b → IsBreach defs b
        breach_in_contents b h =
            FirstBreach-behind D declarations_asked _ b declared
            (FirstBreach-behind D bodies_asked _ b bodied (FirstBreach-behind D signatures_asked _ b signed (FirstBreach-front D contents_asked [] b h)))

        pub elaborated_whole : (e : Elaborated) → AreContents D (definitions defs) e → IsElaborated defs e
        elaborated_whole e contents = record {
          sound = AllPass-append D declarations_asked _ declared (AllPass-append D bodies_asked _ bodied (AllPass-append D signatures_asked _ signed (AllPass-append D contents_asked [] contents.passes tt)));
          definitions = subst (λ ds. ElabDefs D ds e.il.defs) (sym (joined-definitions [] defs)) contents.elaborated;
          sources = contents.sources;
        }
