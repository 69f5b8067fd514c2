-- A tag, by the template that it has.
use Rattle.std.proofs.Common.{◌≡◌, ◌↔◌, sym, ap, ◌∙◌, ℕ, Bool}
use Rattle.std.specs.Prelude.{IsTrue}
use Rattle.st_il.specs.declared.template.Template.{Template}
use Rattle.st_il.specs.Template.{HasTag, HasOneTemplate, holes}
use Rattle.st_ilcheck.specs.Declarations.{Tagged, IsTag}

pub tag-kept : (tagged : Tagged) (t : Template) (n : ℕ) (kept : Bool) → HasTag t tagged.0 → HasOneTemplate tagged.0 → n ≡ holes t → (IsTrue kept ↔ (n ≡ tagged.1)) → IsTrue kept ↔ IsTag tagged
tag-kept tagged t n kept h one e k = (
  λ y. record { template = t; tag = h; filled = sym e ∙ k.0 y },
  λ g. k.1 (e ∙ (ap holes (one t g.template h g.tag) ∙ g.filled)),
)

pub tag-none : (tagged : Tagged) → ((t : Template) → HasTag t tagged.0 → ⊥) → IsTag tagged → ⊥
tag-none tagged n g = n g.template g.tag
