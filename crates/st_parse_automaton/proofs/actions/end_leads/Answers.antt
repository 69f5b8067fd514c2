use Rattle.std.proofs.Common.{rules, ◌≡◌, ◌∷◌, reverse, sym, ◌∙◌}
use Rattle.std.proofs.lemmas.List.{reverse-append}
use Rattle.st_parse_automaton.proofs.Lowering.{acts_go}
use Rattle.st_parse_automaton.proofs.actions.end_leads.Goals as goal

pub open-preserved : goal.open-preserved
open-preserved c =
    let r : reverse c.open.rest.now ≡ c.in-Some.frame.now ∷ reverse c.in-Some.front.now = search (rules, reverse-append) in
    acts_go c.args.level c.in-Some.frame.now (reverse c.in-Some.front.now) (reverse c.open.rest.now) c.in-Some-closes.lead c.open.actions c.end_lead.new.actions r (sym c.closes.ensures ∙ c.in-Some-closes.is) c.in_ok-end_lead.ensures ∙ c.open.invariant
