use Rattle.st_iltext.proofs.ValueLevels.{record_tree}
use Rattle.st_iltext.proofs.value.+value.Goals as goal

pub value_tree-returns-in_ok-push_fields-in-Fields : goal.value_tree-returns-in_ok-push_fields-in-Fields
value_tree-returns-in_ok-push_fields-in-Fields t c =
    record_tree _ _ _ _ _ c.in_ok-push_fields-in-Fields.ensures c.in_ok-trees-in-Fields.ensures c.as_slice-in-Fields.ensures c.in-Fields.is
