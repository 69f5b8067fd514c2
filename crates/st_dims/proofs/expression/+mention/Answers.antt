use Rattle.st_el.specs.declared.expression.Count.TheFolds.{the_lemmas}
use borrow.Author.Tests.{tests}
use Rattle.std.proofs.Common.{rules, arith}
use Rattle.std.proofs.lemmas.Grind.{common_steps, pieces, elements}
use Rattle.std.proofs.Common.{◌≡◌, List, ◌++◌, map, ap, sym, ◌∙◌, subst, OnOk}
use Rattle.st_el.specs.declared.expression.Node.TheVariants as v
use Rattle.st_dims.specs.declared.mention.Mention.{Mention}
use Rattle.st_dims.specs.Mentions.{mentions_exp, mentions_seg, seen_in, count_meaning, fields_seen, field_mentions}
use Rattle.st_dims.proofs.Counts.{marked_round}
use Rattle.st_dims.proofs.Nodes.{node-At, node-Slice, node-Change, node-Iter, node-Fields, two_end, three_end, iterated_end}
use Rattle.st_dims.proofs.expression.+mention.Goals as goal

pub mention_node-returns-in-Fields : goal.mention_node-returns-in-Fields
mention_node-returns-in-Fields t c =
    let P : List Mention → Type 0 = λ seen. OnOk c.mention_fields.result (c.mention_fields.new.mentions.items ≡ c.args.mentions.now.items ++ seen) in
    subst P (ap (λ fields. fields_seen (map field_mentions fields) c.args.within.now) c.as_slice.ensures ∙ sym (node-Fields c.args.node.now c.in-Fields.fields c.args.at c.args.within.now c.in-Fields.is)) c.mention_fields.ensures

pub mention_node-returns-in_ok-mention_exp-in-At : goal.mention_node-returns-in_ok-mention_exp-in-At
mention_node-returns-in_ok-mention_exp-in-At t c =
    let P : List Mention → Type 0 = λ items. OnOk c.mention_exp-in-At.result (c.mention_exp-in-At.new.mentions.items ≡ items) in
    let is = c.in-At.is ∙ ap (λ e. v.At e c.in-At.from) (sym c.get.ensures) ∙ ap (λ e. v.At c.get.result.now e) (sym c.get-in-At.ensures) in
    subst P (two_end _ _ _ _ _ c.in_ok-mention_exp-in-At.ensures (node-At c.args.node.now _ _ c.args.at c.args.within.now is)) c.mention_exp-in-At.ensures

pub mention_node-returns-in_ok-mention_exp-in-Slice-2 : goal.mention_node-returns-in_ok-mention_exp-in-Slice-2
mention_node-returns-in_ok-mention_exp-in-Slice-2 t c =
    let P : List Mention → Type 0 = λ items. OnOk c.mention_exp-in-Slice-3.result (c.mention_exp-in-Slice-3.new.mentions.items ≡ items) in
    let is = c.in-Slice.is ∙ ap (λ e. v.Slice e c.in-Slice.from c.in-Slice.length) (sym c.get-in-Slice.ensures)
    ∙ ap (λ e. v.Slice c.get-in-Slice.result.now e c.in-Slice.length) (sym c.get-in-Slice-2.ensures)
    ∙ ap (λ e. v.Slice c.get-in-Slice.result.now c.get-in-Slice-2.result.now e) (sym c.get-in-Slice-3.ensures) in
    subst P (three_end _ _ _ _ _ _ _ c.in_ok-mention_exp-in-Slice.ensures c.in_ok-mention_exp-in-Slice-2.ensures (node-Slice c.args.node.now _ _ _ c.args.at c.args.within.now is)) c.mention_exp-in-Slice-3.ensures

pub mention_node-returns-in_ok-mention_path-in-Update : goal.mention_node-returns-in_ok-mention_path-in-Update
mention_node-returns-in_ok-mention_path-in-Update t c =
    let w = c.args.within.now in
    let P : List Mention → Type 0 = λ items. OnOk c.mention_exp-in-Update-2.result (c.mention_exp-in-Update-2.new.mentions.items ≡ items) in
    let seen = node-Change c.args.node.now _ _ _ c.args.at w c.in-Update.is
    ∙ ap (λ e. mentions_exp e w ++ seen_in (map mentions_seg c.in-Update.path) w ++ mentions_exp c.in-Update.part w) (sym c.get-in-Update.ensures)
    ∙ ap (λ p. mentions_exp c.get-in-Update.result.now w ++ seen_in (map mentions_seg p) w ++ mentions_exp c.in-Update.part w) (sym c.as_slice-in-Update.ensures)
    ∙ ap (λ e. mentions_exp c.get-in-Update.result.now w ++ seen_in (map mentions_seg c.as_slice-in-Update.result.now) w ++ mentions_exp e w) (sym c.get-in-Update-2.ensures) in
    subst P (three_end _ _ _ _ _ _ _ c.in_ok-mention_exp-in-Update.ensures c.in_ok-mention_path-in-Update.ensures seen) c.mention_exp-in-Update-2.ensures

pub mention_node-returns-in_ok-add_body-in-Iter : goal.mention_node-returns-in_ok-add_body-in-Iter
mention_node-returns-in_ok-add_body-in-Iter t c =
    let P : List Mention → Type 0 = λ items. OnOk c.mention_count.result (c.mention_count.new.mentions.items ≡ items) in
    let is = c.in-Iter.is ∙ ap (λ e. v.Iter e c.in-Iter.count) (sym c.get-in-Iter.ensures) in
    let body = c.in_ok-mention_exp-in-Iter.ensures ∙ ap (λ items. items ++ mentions_exp c.get-in-Iter.result.now c.in_ok-inside-in-Iter.inside) c.new-inner.ensures.items in
    subst P (iterated_end (count_meaning c.in-Iter.count) (mentions_exp c.get-in-Iter.result.now) c.args.at c.args.within.now _ _ _ _ (c.in_ok-inside-in-Iter.ensures ∙ sym (marked_round c.args.within.now c.in-Iter.count)) body c.in_ok-add_body-in-Iter.ensures
    ∙ ap (λ seen. c.args.mentions.now.items ++ seen) (sym (node-Iter c.args.node.now _ _ c.args.at c.args.within.now is))) c.mention_count.ensures

pub mention_exps-returns : goal.mention_exps-returns
mention_exps-returns t c = search (tests, rules, the_lemmas, common_steps)

pub mention_fields-returns : goal.mention_fields-returns
mention_fields-returns t c = search (tests, rules, the_lemmas, common_steps)

pub mention_path-returns : goal.mention_path-returns
mention_path-returns t c = search (tests, rules, the_lemmas, common_steps)
