use Rattle.std.proofs.Common.{sym, ap, ◌∙◌, subst, ℕ, List, [], length, map, slice_get, slice_index_or, arith}
use Rattle.std.proofs.lemmas.Option.{slice_get-get_or}
use Rattle.st_graph.specs.Graph.{IsWithin}
use Rattle.st_deps.specs.Cited.{Name}
use Rattle.st_deps.specs.Definitions.{declared, Cites}
use Rattle.st_deps.specs.Groups.{AreGroups}
use Rattle.st_deps.specs.GroupNumbers.{AreGroupNumbers}
use Rattle.st_deps.specs.Table.{IsTable}
use Rattle.st_deps.specs.inner.Ranks.{AreRanks}
use Rattle.st_deps.specs.inner.Listing.{IsFalling, IsOrder}
use Rattle.st_deps.specs.inner.Members.{AreMembers}
use Rattle.st_deps.proofs.GroupNumbersLemmas.{table-within, numbers_are}
use Rattle.st_deps.proofs.GroupsLemmas.{ranks-fall, ranks-within, order-within, groups_are}
use Rattle.st_deps.proofs.members.groups.Goals as goal

pub numbering-requires : goal.numbering-requires
numbering-requires c =
    record { graph = subst IsWithin (sym c.as_slice.ensures) (table-within c.args.il.now c.in_ok-table.table.rows c.in_ok-table.ensures.rows) }

pub condensation-requires : goal.condensation-requires
condensation-requires c =
    let a = ap length c.deref-2.ensures.value in
    let b = c.in_ok-ranks.ensures.size in
    let d = ap length c.deref.ensures.value in
    let e = c.in_ok-components.ensures.size in
    let f = ap length (c.as_slice.ensures ∙ sym c.as_slice-2.ensures) in
    record {
      size = omega (arith, a, b, d, e, f);
      within = λ i k h. c.in_ok-ranks.ensures.within i k (ap (λ (z : List ℕ). slice_get z i) (sym c.deref-2.ensures.value) ∙ h);
    }

pub order_of-requires : goal.order_of-requires
order_of-requires c =
    let il = c.args.il.now in
    let one : IsTable c.args.il.now c.as_slice.result.now = subst (IsTable c.args.il.now) (sym c.as_slice.ensures) c.in_ok-table.ensures.rows in
    let table : IsTable c.args.il.now c.as_slice-2.result.now = subst (IsTable c.args.il.now) (sym c.as_slice-2.ensures) c.in_ok-table.ensures.rows in
    let numbered : AreGroupNumbers c.args.il.now c.in_ok-components.components.numbers.items = numbers_are c.args.il.now c.as_slice.result.now one c.in_ok-components.components.numbers.items _ c.in_ok-components.ensures in
    let ranked : AreRanks c.in_ok-components.components.numbers.items c.deref-2.result.now c.in_ok-ranks.count =
    subst (λ (z : List ℕ). AreRanks z c.deref-2.result.now c.in_ok-ranks.count) c.deref.ensures.value
    (subst (λ (z : List ℕ). AreRanks c.deref.result.now z c.in_ok-ranks.count) (sym c.deref-2.ensures.value) c.in_ok-ranks.ensures) in
    record {
      within = subst IsWithin (sym c.deref-3.ensures.value) (ranks-within il c.in_ok-components.components.numbers.items c.deref-2.result.now c.in_ok-ranks.count numbered ranked c.as_slice-2.result.now c.in_ok-rows.rows.items table c.in_ok-rows.ensures);
      falling = subst IsFalling (sym c.deref-3.ensures.value) (ranks-fall il c.in_ok-components.components.numbers.items c.deref-2.result.now c.in_ok-ranks.count numbered ranked c.as_slice-2.result.now c.in_ok-rows.rows.items table c.in_ok-rows.ensures);
    }

pub members_of-requires : goal.members_of-requires
members_of-requires c =
    let il = c.args.il.now in
    let one : IsTable c.args.il.now c.as_slice.result.now = subst (IsTable c.args.il.now) (sym c.as_slice.ensures) c.in_ok-table.ensures.rows in
    let table : IsTable c.args.il.now c.as_slice-2.result.now = subst (IsTable c.args.il.now) (sym c.as_slice-2.ensures) c.in_ok-table.ensures.rows in
    let numbered : AreGroupNumbers c.args.il.now c.in_ok-components.components.numbers.items = numbers_are c.args.il.now c.as_slice.result.now one c.in_ok-components.components.numbers.items _ c.in_ok-components.ensures in
    let ranked : AreRanks c.in_ok-components.components.numbers.items c.deref-2.result.now c.in_ok-ranks.count =
    subst (λ (z : List ℕ). AreRanks z c.deref-2.result.now c.in_ok-ranks.count) c.deref.ensures.value
    (subst (λ (z : List ℕ). AreRanks c.deref.result.now z c.in_ok-ranks.count) (sym c.deref-2.ensures.value) c.in_ok-ranks.ensures) in
    let a = ap length c.deref-4.ensures.value in
    let b = ap length c.deref-2.ensures.value in
    let d = ranked.size in
    let e = numbered.size in
    let f = ap length (c.as_slice-3.ensures ∙ c.in_ok-table.ensures.names) in
    record {
      size = omega (arith, a, b, d, e, f);
      within = λ i k h. c.in_ok-ranks.ensures.within i k (ap (λ (z : List ℕ). slice_get z i) (sym c.deref-4.ensures.value) ∙ h);
    }

pub in_order-requires : goal.in_order-requires
in_order-requires c =
    let il = c.args.il.now in
    let one : IsTable c.args.il.now c.as_slice.result.now = subst (IsTable c.args.il.now) (sym c.as_slice.ensures) c.in_ok-table.ensures.rows in
    let table : IsTable c.args.il.now c.as_slice-2.result.now = subst (IsTable c.args.il.now) (sym c.as_slice-2.ensures) c.in_ok-table.ensures.rows in
    let numbered : AreGroupNumbers c.args.il.now c.in_ok-components.components.numbers.items = numbers_are c.args.il.now c.as_slice.result.now one c.in_ok-components.components.numbers.items _ c.in_ok-components.ensures in
    let ranked : AreRanks c.in_ok-components.components.numbers.items c.deref-2.result.now c.in_ok-ranks.count =
    subst (λ (z : List ℕ). AreRanks z c.deref-2.result.now c.in_ok-ranks.count) c.deref.ensures.value
    (subst (λ (z : List ℕ). AreRanks c.deref.result.now z c.in_ok-ranks.count) (sym c.deref-2.ensures.value) c.in_ok-ranks.ensures) in
    let ordered : IsOrder c.in_ok-rows.rows.items c.in_ok-order.order.items = subst (λ (z : List (List ℕ)). IsOrder z c.in_ok-order.order.items) c.deref-3.ensures.value c.in_ok-order.ensures in
    λ k d less.
    let l = order-within il c.in_ok-components.components.numbers.items c.deref-2.result.now c.in_ok-ranks.count numbered ranked c.as_slice-2.result.now c.in_ok-rows.rows.items table c.in_ok-rows.ensures c.in_ok-order.order.items ordered (slice_index_or c.deref-6.result.now k d)
    (k, ap (λ (z : List ℕ). slice_get z k) (sym c.deref-6.ensures.value) ∙ slice_get-get_or c.deref-6.result.now k d less) in
    let m = c.in_ok-members.ensures.size in
    let z = ap length c.deref-5.ensures.value in omega (arith, l, m, z)

pub returns : goal.returns
returns c =
    let il = c.args.il.now in
    let one : IsTable c.args.il.now c.as_slice.result.now = subst (IsTable c.args.il.now) (sym c.as_slice.ensures) c.in_ok-table.ensures.rows in
    let table : IsTable c.args.il.now c.as_slice-2.result.now = subst (IsTable c.args.il.now) (sym c.as_slice-2.ensures) c.in_ok-table.ensures.rows in
    let numbered : AreGroupNumbers c.args.il.now c.in_ok-components.components.numbers.items = numbers_are c.args.il.now c.as_slice.result.now one c.in_ok-components.components.numbers.items _ c.in_ok-components.ensures in
    let ranked : AreRanks c.in_ok-components.components.numbers.items c.deref-2.result.now c.in_ok-ranks.count =
    subst (λ (z : List ℕ). AreRanks z c.deref-2.result.now c.in_ok-ranks.count) c.deref.ensures.value
    (subst (λ (z : List ℕ). AreRanks c.deref.result.now z c.in_ok-ranks.count) (sym c.deref-2.ensures.value) c.in_ok-ranks.ensures) in
    let ordered : IsOrder c.in_ok-rows.rows.items c.in_ok-order.order.items = subst (λ (z : List (List ℕ)). IsOrder z c.in_ok-order.order.items) c.deref-3.ensures.value c.in_ok-order.ensures in
    let named : AreMembers (declared c.args.il.now) c.deref-2.result.now c.in_ok-ranks.count c.in_ok-members.members.items =
    subst (λ (z : List Name). AreMembers z c.deref-2.result.now c.in_ok-ranks.count c.in_ok-members.members.items) (c.as_slice-3.ensures ∙ c.in_ok-table.ensures.names)
    (subst (λ (z : List ℕ). AreMembers c.as_slice-3.result.now z c.in_ok-ranks.count c.in_ok-members.members.items) (c.deref-4.ensures.value ∙ sym c.deref-2.ensures.value) c.in_ok-members.ensures) in
    subst (AreGroups (Cites il) (declared il))
    (sym (c.in_ok-groups.ensures ∙ ap (λ (z : List (List Name)). map (λ (k : ℕ). slice_index_or z k []) c.deref-6.result.now) c.deref-5.ensures.value
    ∙ ap (map (λ (k : ℕ). slice_index_or c.in_ok-members.members.items k [])) c.deref-6.ensures.value))
    (groups_are il c.in_ok-components.components.numbers.items c.deref-2.result.now c.in_ok-ranks.count numbered ranked c.as_slice-2.result.now c.in_ok-rows.rows.items table c.in_ok-rows.ensures c.in_ok-order.order.items ordered c.in_ok-members.members.items named)
