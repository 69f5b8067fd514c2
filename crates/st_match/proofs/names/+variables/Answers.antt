use Rattle.std.proofs.Common.{◌≡◌, ◌++◌, OnOk, subst}
use Rattle.st_match.proofs.PatternVariables.{vars-List, added-Cat, added-Iter}
use Rattle.st_match.proofs.names.+variables.Goals as goal

pub push_vars-returns-in-List : goal.push_vars-returns-in-List
push_vars-returns-in-List t c =
    subst (λ z. OnOk c.push_item_vars.result (c.push_item_vars.new.names ≡ c.args.names.now ++ z))
    (vars-List c.args.pattern.now c.in-List.field-0 c.in-List.items c.as_slice-in-List.result.now c.in-List.is c.as_slice-in-List.ensures) c.push_item_vars.ensures

pub push_vars-returns-in_ok-push_vars-in-Cat : goal.push_vars-returns-in_ok-push_vars-in-Cat
push_vars-returns-in_ok-push_vars-in-Cat t c =
    subst (λ z. OnOk c.push_vars-in-Cat.result (c.push_vars-in-Cat.new.names ≡ z))
    (added-Cat c.args.pattern.now c.in-Cat.left c.in-Cat.right c.get.result.now c.get-in-Cat.result.now c.args.names.now c.push_vars.new.names c.in-Cat.is c.get.ensures c.get-in-Cat.ensures c.in_ok-push_vars-in-Cat.ensures)
    c.push_vars-in-Cat.ensures

pub push_vars-returns-in_ok-push_vars-in-Iter : goal.push_vars-returns-in_ok-push_vars-in-Iter
push_vars-returns-in_ok-push_vars-in-Iter t c =
    subst (λ z. OnOk c.push_others.result (c.push_others.new.names ≡ z))
    (added-Iter c.args.pattern.now c.in-Iter.how c.in-Iter.list c.as_slice-in-Iter.result.now c.as_slice-in-Iter-2.result.now c.in-Iter.body c.get-in-Iter.result.now c.args.names.now c.push_count_vars.new.names c.push_names.new.names
    c.push_vars-in-Iter.new.names c.new-inner.result c.in-Iter.is c.as_slice-in-Iter.ensures c.get-in-Iter.ensures c.in_ok-push_count_vars-in-Iter.ensures c.in_ok-push_names-in-Iter.ensures c.new-inner.ensures
    c.in_ok-push_vars-in-Iter.ensures c.as_slice-in-Iter-2.ensures)
    c.push_others.ensures
