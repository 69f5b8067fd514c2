use Rattle.std.proofs.Common.{◌≡◌, sym, ap, ◌∙◌, subst, suc, length, take, arith, ◌-◌}
use Rattle.st_type_table.specs.inner.Search.{MarksAll}
use Rattle.st_type_table.proofs.PartLemmas.{read-at}
use Rattle.st_type_table.proofs.SearchLemmas.{search-step}
use Rattle.st_type_table.proofs.search.follow.Goals as goal

pub search-preserved : goal.search-preserved
search-preserved c =
    let some = c.search-test.true in
    let e = c.len.ensures in
    let o = c.search.todo.ok.0 in
    let f = c.len-in-search.ensures in
    let size : length c.search.todo.items ≡ suc (length c.search.todo.items - 1) = omega (arith, some, e, o) in
    let n : length c.search.todo.items - 1 ≡ c.len-in-search.result - 1 = omega (arith, f, o) in
    let cut : c.truncate.new.self.items ≡ take (length c.search.todo.items - 1) c.search.todo.items = c.truncate.ensures.items ∙ ap (λ k. take k c.search.todo.items) (sym n) in
    search-step c.args.graph.now c.args.back.now c.requires.reversed c.args.target c.search.marks c.mark_all.new.marks c.search.todo.items c.mark_all.new.todo.items c.index-back-position.result
    (length c.search.todo.items - 1) c.last_waiting-position.result c.search.invariant size c.last_waiting-position.ensures.last
    (read-at c.args.back.now c.last_waiting-position.result c.index-back-position.result c.last_waiting-position.ensures.within c.index-back-position.is)
    (subst (λ r. MarksAll r c.search.marks (take (length c.search.todo.items - 1) c.search.todo.items) c.mark_all.new.marks c.mark_all.new.todo.items) c.as_slice.ensures
    (subst (λ t. MarksAll c.as_slice.result.now c.search.marks t c.mark_all.new.marks c.mark_all.new.todo.items) cut c.in_ok-mark_all.ensures))
