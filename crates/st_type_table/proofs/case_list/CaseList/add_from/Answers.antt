use Rattle.std.proofs.Common.{sym, ap, ◌∙◌, subst, length, get_or, arith}
use Rattle.st_type_table.specs.Keys.{HasKey}
use Rattle.st_type_table.specs.inner.CaseKeys.{AddsCase}
use Rattle.st_type_table.proofs.CaseKeyLemmas.{AreKeys-length, AreKeys-at}
use Rattle.st_type_table.proofs.PartLemmas.{read-at}
use Rattle.st_type_table.proofs.case_list.CaseList.add_from.Goals as goal

pub bounds-keys-at : goal.bounds-keys-at
bounds-keys-at c =
    let a = AreKeys-length c.args.other.now.items c.args.other.now.keys c.requires.other.keys in
    let b = ap length c.as_slice-keys.ensures in
    let h = c.requires.within in
    omega (arith, a, b, h)

pub add_with-requires-clause-key : goal.add_with-requires-clause-key
add_with-requires-clause-key c = subst (HasKey c.index-cases-at.result.tag) (sym c.view-key.ensures)
    (AreKeys-at c.args.other.now.items c.args.other.now.keys c.args.at c.index-cases-at.result c.index-keys-at.result c.requires.other.keys c.requires.within
    (c.index-cases-at.is ∙ ap (λ xs. get_or xs c.args.at c.index-cases-at.result) c.as_slice-cases.ensures)
    (c.index-keys-at.is ∙ ap (λ xs. get_or xs c.args.at c.index-keys-at.result) c.as_slice-keys.ensures))

pub returns-clause-added : goal.returns-clause-added
returns-clause-added c = (
  c.index-cases-at.result,
  (
    read-at c.args.other.now.items c.args.at c.index-cases-at.result c.requires.within (c.index-cases-at.is ∙ ap (λ xs. get_or xs c.args.at c.index-cases-at.result) c.as_slice-cases.ensures),
    subst (λ ts. AddsCase c.args.self.now.items c.add_with.new.self.items (record { tag = c.index-cases-at.result.tag; operands = ts }) c.in_ok-added.added) c.as_slice-operands.ensures c.in_ok-added.ensures.added,
  ),
)
