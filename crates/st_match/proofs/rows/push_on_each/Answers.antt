use Rattle.std.proofs.Common.{◌≡◌, ◌+◌, sym, ◌∙◌, ap, subst, List, [], ◌∷◌, ◌++◌, map, take, drop, slice_set}
use Rattle.std.proofs.lemmas.List.Edits.{map_over_more}
use Rattle.st_il.specs.declared.value.Env.{Env}
use Rattle.st_match.proofs.rows.push_on_each.Goals as goal

pub loop-i-preserved : goal.loop-i-preserved
loop-i-preserved c =
    let longer = λ (row : List Env). row ++ c.args.env.now ∷ [] in
    let pushed : c.push.new.self ≡ c.index-rows-i.result ++ c.args.env.now ∷ [] = c.in_ok-push.ensures.ok ∙ (ap (λ z. z ++ c.in_ok-last.last ∷ []) (sym c.index-rows-i.is) ∙ ap (λ z. c.index-rows-i.result ++ z ∷ []) c.in_ok-last.ensures) in
    subst (λ z. slice_set c.loop-i.rows c.loop-i.i z ≡ map longer (take (c.loop-i.i + 1) c.args.rows.now) ++ drop (c.loop-i.i + 1) c.args.rows.now) (sym pushed)
    (map_over_more longer c.args.rows.now c.loop-i.rows c.loop-i.i c.index-rows-i.result c.loop-i-test.true c.loop-i.invariant c.index-rows-i.is)
