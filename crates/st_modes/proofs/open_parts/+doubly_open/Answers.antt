use Rattle.std.proofs.Common.{refl, sym, ◌∙◌}
use Rattle.st_modes.proofs.LengthParts.{open_path, open_last}
use Rattle.st_modes.proofs.open_parts.+doubly_open.Goals as goal

pub is_doubly_open-returns-then-is_any_step_doubly_open : goal.is_doubly_open-returns-then-is_any_step_doubly_open
is_doubly_open-returns-then-is_any_step_doubly_open t c =
    open_path c.args.exp.now c.in-Set.x c.in-Set.y c.get-in-Set.result.now c.in-Set.y c.in-Set.path c.as_slice-in-Set.result.now c.in-Set.is c.get-in-Set.ensures refl c.as_slice-in-Set.ensures
    (sym c.is_any_step_doubly_open.ensures ∙ c.if-is_any_step_doubly_open.true)

pub is_doubly_open-returns-else-is_any_step_doubly_open : goal.is_doubly_open-returns-else-is_any_step_doubly_open
is_doubly_open-returns-else-is_any_step_doubly_open t c =
    c.is_doubly_open-in-Set-2.ensures
    ∙ open_last c.args.exp.now c.in-Set.x c.in-Set.y c.get-in-Set.result.now c.get-in-Set-2.result.now c.in-Set.path c.as_slice-in-Set.result.now c.in-Set.is c.get-in-Set.ensures c.get-in-Set-2.ensures c.as_slice-in-Set.ensures
    (sym c.is_doubly_open-in-Set.ensures ∙ c.if-is_doubly_open-4.false) (sym c.is_any_step_doubly_open.ensures ∙ c.if-is_any_step_doubly_open.false)
