use Rattle.std.proofs.Common.{refl, ap, codes, ◌∙◌, Err, arith}
use Rattle.std.proofs.lemmas.Result.{err_from_is_err_and}
use Rattle.st_text.proofs.Bytes.{heads}
use Rattle.st_iltext.specs.Expressions.{ty_tree}
use Rattle.st_iltext.specs.Written.{ty_written}
use Rattle.st_iltext.proofs.Depths.{tree_below}
use Rattle.st_iltext.proofs.Rows.{so_far_none}
use Rattle.st_iltext.proofs.TyReading.{one_part, more_parts, ty_long, list_is, option_is, tuple_none, tuple_short, tuple_is, passed_ty, passed_tys}
use Rattle.st_iltext.proofs.type_reader.+read.Goals as goal

pub read_list_type-returns-then-not-is_empty : goal.read_list_type-returns-then-not-is_empty
read_list_type-returns-then-not-is_empty t c =
    (refl, ty_long (codes "l") _ (λ e. omega (arith, heads e)) (more_parts _ _ _ _ c.in-Some.ensures.cases.0 c.is_empty.ensures c.if-not-is_empty.true))

pub read_list_type-returns : goal.read_list_type-returns
read_list_type-returns t c =
    list_is _ _ _ _ (one_part _ _ _ _ c.in-Some.ensures.cases.0 c.is_empty.ensures c.if-not-is_empty.false) c.in_ok-element.ensures c.in_ok-new.ensures

pub read_option_type-returns-then-not-is_empty : goal.read_option_type-returns-then-not-is_empty
read_option_type-returns-then-not-is_empty t c =
    (refl, ty_long (codes "o") _ (λ e. omega (arith, heads e)) (more_parts _ _ _ _ c.in-Some.ensures.cases.0 c.is_empty.ensures c.if-not-is_empty.true))

pub read_option_type-returns : goal.read_option_type-returns
read_option_type-returns t c =
    option_is _ _ _ _ (one_part _ _ _ _ c.in-Some.ensures.cases.0 c.is_empty.ensures c.if-not-is_empty.false) c.in_ok-element.ensures c.in_ok-new.ensures

pub read_tuple_type-returns-in_err-types : goal.read_tuple_type-returns-in_err-types
read_tuple_type-returns-in_err-types t c =
    let failed = err_from_is_err_and c.from_residual.result c.from_residual.ensures.1 in
    passed_ty _ _ _ _ _ (tuple_none _) c.in_err-types.ensures (failed.1 ∙ ap Err failed.2)

pub read_tuple_type-returns-then-len-lt2 : goal.read_tuple_type-returns-then-len-lt2
read_tuple_type-returns-then-len-lt2 t c = (refl, tuple_short _ _ c.in_ok-types.ensures (omega arith))

pub read_tuple_type-returns : goal.read_tuple_type-returns
read_tuple_type-returns t c = tuple_is _ _ c.in_ok-types.ensures (omega arith)

pub read_tys-read_ty-requires : goal.read_tys-read_ty-requires
read_tys-read_ty-requires t c =
    let below = tree_below c.args.trees.now c.loop-tree.tree-index c.tree-item.result (omega arith) c.tree-item.is in
    (omega (arith, below), tt)

pub read_tys-returns-in_err-read_ty : goal.read_tys-returns-in_err-read_ty
read_tys-returns-in_err-read_ty t c =
    let failed = err_from_is_err_and c.from_residual.result c.from_residual.ensures.1 in
    passed_tys _ _ _ _ _ (so_far_none ty_tree ty_written c.args.trees.now c.loop-tree.tree-index c.tree-item.result (omega arith) c.tree-item.is) c.in_err-read_ty.ensures (failed.1 ∙ ap Err failed.2)
