-- The tokens of premises.
use Rattle.std.specs.Prelude.{ℕ, List, ◌++◌, codes}
use Rattle.st_el.specs.declared.definition.Prem.{Prem, Prem-F, fold-Prem}
use Rattle.st_el.specs.declared.definition.PremNode.{PremNode, fold-PremNode}
use Rattle.st_el.specs.declared.definition.PremNode.TheOpen.{PremNode-F}
use Rattle.st_latex.specs.Tokens.{token, label}
use Rattle.st_latex.specs.Parts.{enclosed}
use Rattle.st_latex.specs.Expressions.{latex_exp, latex_count}

-- the tokens of what a premise is, without its `--`
abbrev pub prem_node_at : PremNode-F (List ℕ) (List ℕ) → List ℕ
prem_node_at (PremNode-F.If e) = token (codes "\\text{if}") ++ latex_exp e
prem_node_at (PremNode-F.Goal name e) = label name ++ token (codes ":") ++ latex_exp e
prem_node_at PremNode-F.Otherwise = token (codes "\\text{otherwise}")
prem_node_at (PremNode-F.Each prem count) =
    enclosed (codes "(") prem (codes ")") ++ latex_count count

-- a premise has the tokens of what it is
abbrev pub prem_at : Prem-F (List ℕ) (List ℕ) → List ℕ
prem_at prem = prem.node

-- the tokens of a premise, without its `--`
abbrev pub latex_prem : Prem → List ℕ
latex_prem = fold-Prem (List ℕ) (List ℕ) prem_node_at prem_at

-- the tokens of what a premise is, from the source tree
abbrev pub latex_prem_node : PremNode → List ℕ
latex_prem_node = fold-PremNode (List ℕ) (List ℕ) prem_node_at prem_at
