use Rattle.std.proofs.Common.{sym, ap, ◌∙◌, ℕ, List, ◌≡◌}
use Rattle.std.proofs.lemmas.Result.{IfOk-weaker}
use Rattle.st_any_table.specs.inner.Heads.{heads_of}
use Rattle.st_type_table.specs.inner.Graph.{one_position}
use Rattle.st_any_table.proofs.heads.heads_of.Goals as goal

pub returns-in-Alias : goal.returns-in-Alias
returns-in-Alias c = IfOk-weaker c.row_of.result (λ (row : List ℕ). row ≡ one_position c.head_of.result) (λ (row : List ℕ). row ≡ heads_of c.args.defs.now c.args.body.now)
    (λ row e. e ∙ c.head_of.ensures ∙ sym (ap (heads_of c.args.defs.now) c.in-Alias.is)) c.row_of.ensures
