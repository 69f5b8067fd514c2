use Rattle.std.proofs.Common.{◌≡◌, subst, length, arith, ◌-◌, Some}
use Rattle.std.specs.Prelude.{slice_get}
use Rattle.st_type_table.proofs.PartLemmas.{read-at}
use Rattle.st_type_table.proofs.search.last_waiting.Goals as goal

pub returns-clause-within : goal.returns-clause-within
returns-clause-within c =
    let e = c.len.ensures in
    let o = c.args.todo.now.ok.0 in
    let s = c.requires.some in
    let last : slice_get c.args.todo.now.items (c.len.result - 1) ≡ Some c.index.result.now = read-at c.args.todo.now.items (c.len.result - 1) c.index.result.now (omega (arith, e, o, s)) c.index.ensures in
    let l = (c.requires.search.waiting c.index.result.now (c.len.result - 1, last)).0 in
    let z = c.requires.reversed.size in
    omega (arith, l, z)

pub returns-clause-last : goal.returns-clause-last
returns-clause-last c =
    let e = c.len.ensures in
    let o = c.args.todo.now.ok.0 in
    let s = c.requires.some in
    let n : c.len.result - 1 ≡ length c.args.todo.now.items - 1 = omega (arith, e, o) in
    subst (λ k. slice_get c.args.todo.now.items k ≡ Some c.index.result.now) n (read-at c.args.todo.now.items (c.len.result - 1) c.index.result.now (omega (arith, e, o, s)) c.index.ensures)
