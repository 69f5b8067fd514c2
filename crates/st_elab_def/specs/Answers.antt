-- What the elaboration of a source answers, and which sources have templates.
use Rattle.std.specs.Prelude.{◌≡◌, List, Result, Ok, Err, ⊤}
use Rattle.std.specs.List.{AllByRecursion}
use Rattle.st_el.specs.declared.definition.Body.{Body}
use Rattle.st_el.specs.declared.definition.Body.TheVariants.{Cases}
use Rattle.st_el.specs.declared.definition.Def.{Def}
use Rattle.st_el.specs.declared.definition.DefNode.{DefNode}
use Rattle.st_el.specs.declared.definition.DefNode.TheVariants.{Syntax, Relation}
use Rattle.st_el.specs.declared.notation.Notation.{Notation}
use Rattle.st_il.specs.Template.{IsTemplate}
use Rattle.st_elab_sig.specs.Signatures.{template_of}
use Rattle.st_elab_def.specs.declared.breach.Breach.{Breach}
use Rattle.st_elab_def.specs.declared.breach.DefFault.{DefFault}
use Rattle.st_elab_def.specs.declared.breach.DefFault.TheVariants.{Refused, Memory}
use Rattle.st_elab_def.specs.declared.elaborated.Elaborated.{Elaborated}
use Rattle.st_elab_def.specs.Breaches.{IsBreach}
use Rattle.st_elab_def.specs.Elaboration.{IsElaborated}

-- P holds of what is given and F of a breach; want of memory says nothing
abbrev pub Told : {A : Type 0} → (A → Type 0) → (Breach → Type 0) → Result A DefFault → Type 0
Told P F (Ok x) = P x
Told P F (Err (Refused b)) = F b
Told P F (Err Memory) = ⊤

-- The result is the internal language of the source, or its first breach.
abbrev pub Answers : List Def → Result Elaborated DefFault → Type 0
Answers defs r = Told (IsElaborated defs) (IsBreach defs) r

-- the result is this, but for want of memory
abbrev pub IsGiven : {A : Type 0} → A → Result A DefFault → Type 0
IsGiven x r = Told (λ y. y ≡ x) (λ b. ⊥) r

-- the result is this breach, but for want of memory
abbrev pub IsRefused : {A : Type 0} → Breach → Result A DefFault → Type 0
IsRefused b r = Told (λ y. ⊥) (λ c. c ≡ b) r

-- There is at most one internal language or one first breach, and not both.
pub record HasOneOutcome (defs : List Def) : Type 0 where
  pub one : (x y : Elaborated) → IsElaborated defs x → IsElaborated defs y → x ≡ y
  pub one_breach : (b c : Breach) → IsBreach defs b → IsBreach defs c → b ≡ c
  pub not_both : (x : Elaborated) (b : Breach) → IsElaborated defs x → IsBreach defs b → ⊥

-- ---- templates

-- the notation has a template
abbrev pub HasTemplate : Notation → Type 0
HasTemplate n = IsTemplate (template_of n)

-- the notations of all alternatives of a body have templates
abbrev pub BodyHasTemplates : Body → Type 0
BodyHasTemplates (Cases before cases after) = AllByRecursion HasTemplate cases
BodyHasTemplates body = ⊤

-- the notations in what is defined have templates
abbrev pub NodeHasTemplates : DefNode → Type 0
NodeHasTemplates (Syntax name fragment body) = BodyHasTemplates body
NodeHasTemplates (Relation name n) = HasTemplate n
NodeHasTemplates node = ⊤

-- the notations of relations and alternatives are templates
abbrev pub HasTemplates : List Def → Type 0
HasTemplates = AllByRecursion (λ (def : Def). NodeHasTemplates def.node)
