use Rattle.std.proofs.Common.{◌≡◌, ◌↔◌, ◌⊎◌, inl, inr, true, sym, refl, subst, rules, arith}
use Rattle.std.specs.Prelude.{IsTrue}
use Rattle.st_il.specs.declared.ty.Ty.{out-Ty}
use Rattle.st_type_table.specs.Breach.{IsSound}
use Rattle.st_type_table.specs.Same.{Same}
use Rattle.st_type_table.specs.inner.Forms.{is_name}
use Rattle.st_type_table.specs.inner.Kept.{defs_of}
use Rattle.st_type_table.proofs.Measure.{Means-total, item-within}
use Rattle.st_type_table.proofs.SameNumberLemmas.{alike-same, means-itself}
use Rattle.st_type_table.proofs.SameLemmas.{same-arm, SameAll-length, SameAll-at, SameAll-end}
use Rattle.st_type_table.proofs.same.+same.Goals as goal
use Rattle.st_type_table.proofs.same.+same.Goals.{same-then-is_name-via-then-is_name, same-then-is_name-via-else-is_name+then-is_name-2}

pub same-returns-then-is_name-clause-exact : goal.same-returns-then-is_name-clause-exact
same-returns-then-is_name-clause-exact t c =
    let defs = defs_of c.table.inside.entries.entries in
    let one : (is_name (out-Ty c.args.a.now) ≡ true) ⊎ (is_name (out-Ty c.args.b.now) ≡ true) = elim c.then-is_name.branch [
      | same-then-is_name-via-then-is_name w ↦ inl (sym w.if-is_name.ensures)
      | same-then-is_name-via-else-is_name+then-is_name-2 w ↦ inr (sym w.if-is_name-2.ensures)
    ] in
    subst (λ d. IsTrue c.are_alike.result ↔ Same d c.args.a.now c.args.b.now) c.table.view_is
    (alike-same defs c.table.inside.forms.numbers.entries c.table.inside.forms.list.keys c.table.invariant.numbered (Means-total defs c.table.invariant.settled.sound)
    c.args.a.now c.args.b.now c.are_alike.result one c.are_alike.ensures)

pub same-returns-then-is_name-clause-sound : goal.same-returns-then-is_name-clause-sound
same-returns-then-is_name-clause-sound t c = subst IsSound c.table.view_is c.table.invariant.settled.sound

pub same-returns-clause-exact : goal.same-returns-clause-exact
same-returns-clause-exact t c =
    same-arm c.args.table.now (Means-total c.args.table.now (subst IsSound c.table.view_is c.table.invariant.settled.sound)) c.args.a.now c.args.b.now c.args.a.now c.args.b.now _ _ c.same_at.result
    (means-itself c.args.table.now c.args.a.now (sym c.if-is_name.ensures)) (means-itself c.args.table.now c.args.b.now (sym c.if-is_name-2.ensures)) refl refl c.same_at.ensures

pub same-returns-clause-sound : goal.same-returns-clause-sound
same-returns-clause-sound t c = subst IsSound c.table.view_is c.table.invariant.settled.sound

pub same_all-returns-then-ones-others : goal.same_all-returns-then-ones-others
same_all-returns-then-ones-others t c = (
  λ f. search rules,
  λ s. absurd (c.if-ones-others.true (SameAll-length c.args.table.now _ _ s)),
)

pub same_all-same-requires : goal.same_all-same-requires
same_all-same-requires t c =
    let f = item-within c.args.table.now c.args.ones.now c.loop-i.i c.index-ones-i.result c.loop-i-test.true (sym c.index-ones-i.is) in
    (omega (arith, f, c.decreases), tt)

pub same_all-returns-then-not-same : goal.same_all-returns-then-not-same
same_all-returns-then-not-same t c =
    let k = SameAll-at c.args.table.now c.args.ones.now c.args.others.now c.loop-i.i c.index-ones-i.result c.index-others-i.result c.loop-i-test.true (omega arith) c.index-ones-i.is c.index-others-i.is in
    (λ f. search rules, λ s. c.if-not-same.ensures.exact.1 (k.0 (c.loop-i.invariant.1 s)).0)

pub same_all-loop-i-preserved : goal.same_all-loop-i-preserved
same_all-loop-i-preserved t c =
    let k = SameAll-at c.args.table.now c.args.ones.now c.args.others.now c.loop-i.i c.index-ones-i.result c.index-others-i.result c.loop-i-test.true (omega arith) c.index-ones-i.is c.index-others-i.is in
    (λ s. c.loop-i.invariant.0 (k.1 (c.if-not-same.ensures.exact.0 (search rules), s)), λ s. (k.0 (c.loop-i.invariant.1 s)).1)

pub same_all-returns : goal.same_all-returns
same_all-returns t c = (λ u. c.loop-i.invariant.0 (SameAll-end c.args.table.now c.args.ones.now c.args.others.now c.loop-i.i c.loop-i-test.false (omega arith)), λ s. search rules)
