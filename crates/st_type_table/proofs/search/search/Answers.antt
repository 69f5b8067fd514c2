use Rattle.std.proofs.Common.{◌∙◌, ap, set, true, ◌++◌, ◌∷◌, [], length, false, arith}
use Rattle.std.proofs.lemmas.List.{length-replicate}
use Rattle.st_type_table.proofs.SearchLemmas.{search-start, search-whole}
use Rattle.st_type_table.proofs.search.search.Goals as goal

pub follow-requires-clause-search : goal.follow-requires-clause-search
follow-requires-clause-search c =
    let l = c.requires.within in
    let e = ap length c.requires.none ∙ length-replicate (length c.args.graph.now) false in
    search-start c.args.graph.now c.args.target _ c.push.new.self.items (ap (λ ms. set ms c.args.target true) c.requires.none)
    (c.in_ok-push.ensures.items ∙ ap (λ xs. xs ++ c.args.target ∷ []) c.new-todo.ensures.items) (omega (arith, l, e))

pub returns : goal.returns
returns c = search-whole c.args.graph.now c.args.target c.follow.new.marks c.in_ok-follow.ensures
