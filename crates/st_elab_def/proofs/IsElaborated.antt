-- What is told of the phases is told of the whole source.
use Rattle.std.proofs.Common.{◌≡◌, sym, subst, List}
use Rattle.std.specs.Prelude.{Result, Ok, Err}
use Rattle.st_el.specs.declared.definition.Def.{Def}
use Rattle.st_elab_table.specs.declared.decls.Decls.{Decls}
use Rattle.st_elab_def.specs.declared.breach.Breach.{Breach}
use Rattle.st_elab_def.specs.declared.breach.DefFault.{DefFault}
use Rattle.st_elab_def.specs.declared.breach.DefFault.TheVariants.{Refused, Memory}
use Rattle.st_elab_def.specs.declared.elaborated.Elaborated.{Elaborated}
use Rattle.st_elab_def.specs.Answers.{Told, Answers, IsGiven, IsRefused}
use Rattle.st_elab_def.specs.Breaches.{AllPass, FirstBreach, IsBreach}
use Rattle.st_elab_def.specs.Definitions.{definitions}
use Rattle.st_elab_def.specs.DeclsOf.{decls_of}
use Rattle.st_elab_def.specs.Elaboration.{IsElaborated}
use Rattle.st_elab_def.specs.Phases.{Question, phase, on_declaration, on_body, on_signature, on_content}
use Rattle.st_elab_def.specs.inner.Joining.{AreContents}
use Rattle.st_elab_def.specs.inner.Walk.{ChecksAll}
use Rattle.st_elab_def.proofs.Single.{IsElaborated-single, IsBreach-single, IsElaborated-IsBreach}
use Rattle.st_elab_def.proofs.Phases.{breach_in_contents, elaborated_whole}

-- what passed
pub all-passed : {A : Type 0} (D : Decls) (qs : List Question) (r : Result A DefFault) (x : A) → r ≡ Ok x → ChecksAll D qs r → AllPass D qs
all-passed D qs r x is h = subst (ChecksAll D qs) is h

module _ (defs : List Def) where
  abbrev D : Decls
  D = decls_of defs

  -- the first breach of a phase
  pub stops : {A : Type 0} (qs : List Question) (r : Result A DefFault) (t : Result Elaborated DefFault) (e : DefFault) → r ≡ Err e → t ≡ Err e
      → ((b : Breach) → FirstBreach D qs b → IsBreach defs b) → ChecksAll D qs r → Answers defs t
  stops qs r t (Refused b) is out first h = subst (Answers defs) (sym out) (first b (subst (ChecksAll D qs) is h))
  stops qs r t Memory is out first h = subst (Answers defs) (sym out) tt

  -- the phase of contents ends the walk
  pub closes : (r : Result Elaborated DefFault) → AllPass D (phase on_declaration (definitions defs)) → AllPass D (phase on_body (definitions defs)) → AllPass D (phase on_signature (definitions defs))
      → Told (AreContents D (definitions defs)) (FirstBreach D (phase on_content (definitions defs))) r → Answers defs r
  closes (Ok e) declared bodied signed h = elaborated_whole defs declared bodied signed e h
  closes (Err (Refused b)) declared bodied signed h = breach_in_contents defs declared bodied signed b h
  closes (Err Memory) declared bodied signed h = tt

-- what is answered is the internal language, where there is one
pub answers-gives : (defs : List Def) (x : Elaborated) (r : Result Elaborated DefFault) → IsElaborated defs x → Answers defs r → IsGiven x r
answers-gives defs x (Ok y) h k = IsElaborated-single defs y x k h
answers-gives defs x (Err (Refused b)) h k = IsElaborated-IsBreach defs x b h k
answers-gives defs x (Err Memory) h k = tt

-- what is answered is the breach, where there is one
pub answers-refuses : (defs : List Def) (b : Breach) (r : Result Elaborated DefFault) → IsBreach defs b → Answers defs r → IsRefused b r
answers-refuses defs b (Ok x) h k = IsElaborated-IsBreach defs x b k h
answers-refuses defs b (Err (Refused other)) h k = IsBreach-single defs other b k h
answers-refuses defs b (Err Memory) h k = tt
