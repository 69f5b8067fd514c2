use Rattle.std.specs.Borrow.{Bor}
use Rattle.std.proofs.Common.{eqb, List, ℕ, sym, ◌∙◌}
use Rattle.std.specs.Cmp.Lexicographic.{pointwise}
use Rattle.st_small.proofs.NameSets.{any_name, Decides-same}
use Rattle.st_small.proofs.names.has_name.Goals as goal

pub returns : goal.returns
returns c =
    let d = any_name (λ (key : Bor (List ℕ)). pointwise eqb c.args.name.now key.now) c.args.name.now (Decides-same c.args.name.now) c.args.names.now.keys in
    (λ h. d.0 (sym c.contains.ensures ∙ h), λ h. c.contains.ensures ∙ d.1 h)
