use Rattle.std.proofs.Common.{◌≡◌, ◌<◌, ◌++◌, ◌∷◌, [], sym, ap, ◌∙◌, take, drop, length, get_or, nat_eq, None, add-one, arith}
use Rattle.std.specs.Cmp.Lexicographic.{pointwise}
use Rattle.std.specs.Map.{lookup}
use Rattle.std.proofs.lemmas.Option.{slice_get-get_or}
use Rattle.indexmap.proofs.CallerLemmas.{insert_entry-new}
use Rattle.st_type_table.specs.inner.Kept.{kept_of}
use Rattle.st_type_table.proofs.BuildLemmas.{sound-new}
use Rattle.st_type_table.proofs.FillLemmas.{lookup-none, kept-next, take-all, drop-front, drop-none}
use Rattle.st_type_table.proofs.build.fill.Goals as goal

pub loop-at-preserved : goal.loop-at-preserved
loop-at-preserved c =
    let there = c.nth-def.ensures in
    let within : c.loop-at.at < length c.args.defs.now = let h = c.loop-at-test.true in let l = c.len-at-end.ensures in omega (arith, h, l) in
    let fits : c.loop-at.at < length c.args.ranks.now = let e = c.requires.ranks in omega (arith, e, within) in
    let front = drop-front c.args.flats c.loop-at.at c.in-Some.flat c.next.new.left.items (sym c.loop-at.invariant.rest ∙ c.in-Some.ensures) in
    let join_fits : c.loop-at.at < length c.args.joins.now = let e = c.requires.joins in omega (arith, e, within) in
    let named : c.in_ok-name.name ≡ c.nth-def.result.now.name = c.in_ok-name.ensures in
    let none : lookup (pointwise nat_eq c.in_ok-name.name) c.loop-at.map.entries ≡ None =
    ap (λ es. lookup (pointwise nat_eq c.in_ok-name.name) es) c.loop-at.invariant.entries
    ∙ ap (λ n. lookup (pointwise nat_eq n) (take c.loop-at.at (kept_of c.args.defs.now c.args.ranks.now c.args.flats c.args.joins.now))) named
    ∙ lookup-none c.args.defs.now c.args.ranks.now c.args.flats c.args.joins.now c.loop-at.at c.nth-def.result.now.name (sound-new c.args.defs.now c.requires.sound c.loop-at.at c.nth-def.result.now there) in
    record {
      entries = c.in_ok-insert.ensures ∙ insert_entry-new (pointwise nat_eq) c.loop-at.map c.in_ok-name.name c.in_ok-entry.entry none
          ∙ ap (λ es. es ++ (c.in_ok-name.name, c.in_ok-entry.entry) ∷ []) c.loop-at.invariant.entries
          ∙ (λ i. take c.loop-at.at (kept_of c.args.defs.now c.args.ranks.now c.args.flats c.args.joins.now) ++ (named i, c.in_ok-entry.ensures i) ∷ [])
          ∙ sym (kept-next c.args.defs.now c.args.ranks.now c.args.flats c.args.joins.now c.loop-at.at c.nth-def.result.now (get_or c.args.ranks.now c.loop-at.at 0) c.in-Some.flat (get_or c.args.joins.now c.loop-at.at 0)
          there (slice_get-get_or c.args.ranks.now c.loop-at.at 0 fits) front.0
          (slice_get-get_or c.args.joins.now c.loop-at.at 0 join_fits))
          ∙ ap (λ n. take n (kept_of c.args.defs.now c.args.ranks.now c.args.flats c.args.joins.now)) (sym (add-one c.loop-at.at));
      rest = sym front.1 ∙ ap (λ n. drop n c.args.flats) (sym (add-one c.loop-at.at));
    }

pub returns-in_default : goal.returns-in_default
returns-in_default c =
    let a = drop-none c.args.flats c.loop-at.at (sym c.loop-at.invariant.rest ∙ c.in_default.ensures) in
    let h = c.loop-at-test.true in
    let l = c.len-at-end.ensures in
    let e = c.requires.flats in
    absurd (omega (arith, a, h, l, e))

pub returns : goal.returns
returns c = c.loop-at.invariant.entries ∙ take-all c.args.defs.now c.args.ranks.now c.args.flats c.args.joins.now c.loop-at.at (let h = c.loop-at-test.false in let l = c.len-at-end.ensures in omega (arith, h, l))
