use Rattle.std.proofs.Common.{arith, ◌≡◌, ◌≤◌, ◌<◌, ◌^◌, ◌-◌, ◌+◌, ◌*◌, refl, subst, suc}
use Rattle.st_search.specs.Answers.{goal_of}
use Rattle.st_search.specs.inner.Search.{IsSolved}
use Rattle.st_search.proofs.Solved.{one_left, solved_found, solved_fault}
use Rattle.st_search.proofs.search.+fn-solve-run_relation+solve.Goals as goal

pub returns-then-left-eq1-clause-solved : goal.returns-then-left-eq1-clause-solved
returns-then-left-eq1-clause-solved t c = one_left c.args.search.now.setting.index.now c.args.search.now.setting.depth (goal_of c.args.relation.now c.args.inputs.now) c.args.left c.in_ok-chain.chain c.if-left-eq1.true c.in_ok-chain.ensures

pub run_relation-found-requires-clause-callable : goal.run_relation-found-requires-clause-callable
run_relation-found-requires-clause-callable t c =
    let one : 1 ≤ c.args.left - 1 = omega (arith, c.requires.left, c.if-left-eq1.false) in
    let falls : 2 * (c.args.left - 1) + 1 < t = omega (arith, c.requires.left, c.decreases) in
    record { at = λ a. (falls, (c.requires.search, one)) }

pub overflow_add-longest : goal.overflow_add-longest
overflow_add-longest t c =
    let one : 1 ≤ c.args.left - 1 = omega (arith, c.requires.left, c.if-left-eq1.false) in
    let short = c.in-Ok.ensures.short (c.args.left - 1) one (λ relation inputs r made. subst (λ z. IsSolved c.args.search.now.setting.index.now c.args.search.now.setting.depth (c.args.left - 1) (goal_of z inputs) r) made.1 made.2.1) in
    let small : c.args.left < 2 ^ 32 = c.ranges.left.fits in
    let fewer : c.in-Ok.found.longest + 1 < 2 ^ 32 = omega (arith, short, small) in
    record { fits = fewer }

pub returns-in-Ok-clause-solved : goal.returns-in-Ok-clause-solved
returns-in-Ok-clause-solved t c =
    let one : 1 ≤ c.args.left - 1 = omega (arith, c.requires.left, c.if-left-eq1.false) in
    let is : c.args.left ≡ suc (c.args.left - 1) = omega (arith, c.requires.left) in
    let short = c.in-Ok.ensures.short (c.args.left - 1) one (λ relation inputs r made. subst (λ z. IsSolved c.args.search.now.setting.index.now c.args.search.now.setting.depth (c.args.left - 1) (goal_of z inputs) r) made.1 made.2.1) in
    solved_found c.args.search.now.setting.index.now c.args.search.now.setting.depth (goal_of c.args.relation.now c.args.inputs.now) c.args.left (c.args.left - 1) is c.in-Ok.found.longest (c.in-Ok.found.longest + 1) (record { items = c.in-Ok.found.items; longest = c.in-Ok.found.longest + 1 }) short refl refl
    (c.in-Ok.ensures.found (c.args.left - 1) (λ relation inputs r made. subst (λ z. IsSolved c.args.search.now.setting.index.now c.args.search.now.setting.depth (c.args.left - 1) (goal_of z inputs) r) made.1 made.2.1))

pub returns-in_ok-fault_before-in-Err-clause-solved : goal.returns-in_ok-fault_before-in-Err-clause-solved
returns-in_ok-fault_before-in-Err-clause-solved t c =
    let is : c.args.left ≡ suc (c.args.left - 1) = omega (arith, c.requires.left) in
    solved_fault c.args.search.now.setting.index.now c.args.search.now.setting.depth (goal_of c.args.relation.now c.args.inputs.now) c.args.left (c.args.left - 1) is c.in-Err.fault c.in_ok-fault_before-in-Err.field-0 c.in_ok-fault_before-in-Err.ensures
    (c.in-Err.ensures.ends (c.args.left - 1) (λ relation inputs r made. subst (λ z. IsSolved c.args.search.now.setting.index.now c.args.search.now.setting.depth (c.args.left - 1) (goal_of z inputs) r) made.1 made.2.1))
