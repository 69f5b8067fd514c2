use Rattle.std.proofs.Common.{rules, ap}
use Rattle.std.specs.Prelude.{Some}
use Rattle.st_type_table.specs.Meaning.{recorded}
use Rattle.st_any_table.proofs.HeadsLemmas.{joining-at, not-joining}
use Rattle.st_any_table.proofs.joining.is_joining.Goals as goal

pub returns-in-Fields : goal.returns-in-Fields
returns-in-Fields c = joining-at c.args.defs.now c.args.joins.now c.requires.joins c.args.position c.nth.result.now c.in-Fields.field-0 c.is_ranked.result c.nth.ensures c.in-Fields.is c.is_ranked.ensures

pub returns-in-Alias : goal.returns-in-Alias
returns-in-Alias c = (λ f. search rules, λ h. absurd (not-joining c.args.defs.now c.args.position c.nth.result.now c.nth.ensures (ap (λ b. recorded (Some b)) c.in-Alias.is) h))

pub returns-in-Variant : goal.returns-in-Variant
returns-in-Variant c = (λ f. search rules, λ h. absurd (not-joining c.args.defs.now c.args.position c.nth.result.now c.nth.ensures (ap (λ b. recorded (Some b)) c.in-Variant.is) h))
