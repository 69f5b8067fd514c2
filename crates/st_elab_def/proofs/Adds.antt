-- One definition is added to what is assembled.
use Rattle.std.proofs.Common.{◌≡◌, sym, ap, ◌∙◌, subst, ℕ, ◌+◌, ◌<◌, List, length, take, drop, get_or}
use Rattle.std.specs.Prelude.{Result, Ok, Err, Option}
use Rattle.st_num.specs.declared.fault.Fault.{Fault}
use Rattle.st_el.specs.declared.definition.Def.{Def}
use Rattle.st_il.specs.declared.definition.IlDef.{IlDef}
use Rattle.st_elab_rows.specs.Told.{Told}
use Rattle.st_elab_table.specs.declared.decls.Decls.{Decls}
use Rattle.st_elab_def.specs.declared.assembly.Assembly.{Assembly}
use Rattle.st_elab_def.specs.declared.breach.Breach.{Breach}
use Rattle.st_elab_def.specs.declared.breach.DefFault.{DefFault}
use Rattle.st_elab_def.specs.declared.breach.DefFault.TheVariants.{Refused, Memory}
use Rattle.st_elab_def.specs.declared.heads.Known.{Known}
use Rattle.st_elab_def.specs.Answers.{Told as ToldOfAll}
use Rattle.st_elab_def.specs.Breaches.{FirstBreach}
use Rattle.st_elab_def.specs.Definitions.{Definition, number_of, definitions}
use Rattle.st_elab_def.specs.Phases.{on_content, phase}
use Rattle.st_elab_def.specs.inner.Contents.{MakesContent}
use Rattle.st_elab_def.specs.inner.Heads.{Finds}
use Rattle.st_elab_def.specs.inner.Walk.{standing, FirstBreachAt, asked_of, numbered}
use Rattle.st_elab_def.specs.inner.Whole.{ComesTo, Adds}
use Rattle.st_elab_def.proofs.HasCome.{breach-told, HasCome, goes-on, declared_behind}
use Rattle.st_elab_def.proofs.PlacesOne.{declared_here}
use Rattle.st_elab_def.proofs.Leaves.{numbered-told, AllPass-of, Leaves-next, Leaves-stop}

-- want of memory says nothing
pub memory-told : {A : Type 0} (P : A → Type 0) (F : Breach → Type 0) (r : Result A DefFault) (e : DefFault) → r ≡ Err e → e ≡ Memory → ToldOfAll P F r
memory-told P F r e is none = subst (ToldOfAll P F) (sym (is ∙ ap Err none)) tt

-- the first breach in the content of a definition
pub content-stops : {A : Type 0} (D : Decls) (d : Definition) (number : ℕ) (P : A → Type 0) (r : Result (Option IlDef) Fault) (s : Result (Option IlDef) DefFault) (t : Result A DefFault) (e : DefFault)
    → number ≡ number_of d → s ≡ numbered number r → s ≡ Err e → t ≡ Err e → Told (MakesContent D d) (FirstBreachAt D (on_content d)) r
    → ToldOfAll P (FirstBreach D (asked_of on_content d)) t
content-stops D d number P r s t e here is was out h =
    breach-told (MakesContent D d) P (FirstBreach D (asked_of on_content d)) s t e was out
    (subst (ToldOfAll (MakesContent D d) (FirstBreach D (asked_of on_content d))) (sym is) (numbered-told D on_content d number (MakesContent D d) r here h))

-- what is told of an answer that is Ok
pub found-told : {A : Type 0} (P : A → Type 0) (F : Breach → Type 0) (r : Result A DefFault) (x : A) → r ≡ Ok x → ToldOfAll P F r → P x
found-told P F r x is h = subst (ToldOfAll P F) is h

module _ (D : Decls) (known : Known) (defs : List Def) (i : ℕ) (def : Def) (h : i < length defs) (is : def ≡ get_or defs i def) (old : Assembly)
    (come : HasCome D defs i old.rules.keys old.fragments.keys old.declared old.made) where
  abbrev here : Definition
  here = standing (take i defs) def (drop (i + 1) defs)

  -- the walk has come to the definition
  pub comes : Finds D known → ComesTo D known here (declared_behind D defs i def h is) old
  comes finds = record {
    finds = finds;
    rules = come.rules;
    fragments = come.fragments;
    declared = declared_here D defs i def h is old.declared come.declared;
  }

  -- and goes on behind it
  pub adds-next : (new : Assembly) → Adds D here (declared_behind D defs i def h is) old new → HasCome D defs (i + 1) new.rules.keys new.fragments.keys new.declared new.made
  adds-next new adds =
      goes-on D defs i def h is old.rules.keys new.rules.keys old.fragments.keys new.fragments.keys old.declared new.declared old.made new.made come adds.rules adds.fragments
      (Leaves-next D on_content defs i def h is come.left (AllPass-of D here (on_content here) adds.passes)) adds.places

  -- or it has the first breach
  pub adds-stop : {A B : Type 0} (P : A → Type 0) (Q : B → Type 0) (r : Result A DefFault) (t : Result B DefFault) (e : DefFault) → r ≡ Err e → t ≡ Err e
      → ToldOfAll P (FirstBreach D (asked_of on_content here)) r → ToldOfAll Q (FirstBreach D (phase on_content (definitions defs))) t
  adds-stop P Q r t (Refused b) was out k =
      subst (ToldOfAll Q (FirstBreach D (phase on_content (definitions defs)))) (sym out)
      (Leaves-stop D on_content defs i def h is come.left b (subst (ToldOfAll P (FirstBreach D (asked_of on_content here))) was k))
  adds-stop P Q r t Memory was out k = subst (ToldOfAll Q (FirstBreach D (phase on_content (definitions defs)))) (sym out) tt
