use Rattle.std.proofs.Common.{◌≡◌, List, ℕ, ◌++◌, codes, ap, sym, ◌∙◌, subst, OnOk}
use Rattle.st_prose.specs.Sentences.{listed, exp_text, exps_text, mark_text, sentence}
use Rattle.st_prose.proofs.SentenceParts.{sentence-Let, sentence-Goal, sentence-Loop, let_parts, goal_parts, loop_parts}
use Rattle.st_prose.proofs.step.+print_step.Goals as goal

pub returns-in_ok-print_one-in-Let : goal.returns-in_ok-print_one-in-Let
returns-in_ok-print_one-in-Let t c =
    let P : List ℕ → Type 0 = λ text. OnOk c.print_one-in-Let-2.result (c.print_one-in-Let-2.new.out.items ≡ text) in
    let pattern : List ℕ = exp_text c.args.index.now c.in-Let.pattern in
    subst P
    (ap (λ z. z ++ (pattern ++ codes ".")) c.in_ok-print_one-in-Let.ensures
    ∙ let_parts c.args.out.now.items (codes "Match the value of ") (exp_text c.args.index.now c.in-Let.exp) (codes " with ") pattern (codes ".")
    ∙ ap (λ z. c.args.out.now.items ++ z) (sym (sentence-Let c.args.index.now c.args.step.now c.in-Let.pattern c.in-Let.exp c.in-Let.is)))
    c.print_one-in-Let-2.ensures

pub returns-in_ok-print_all-in-Goal : goal.returns-in_ok-print_all-in-Goal
returns-in_ok-print_all-in-Goal t c =
    let P : List ℕ → Type 0 = λ text. OnOk c.print_all-in-Goal-2.result (c.print_all-in-Goal-2.new.out.items ≡ text) in
    let inputs : List ℕ = exps_text c.args.index.now c.in-Goal.inputs in
    let outputs : List ℕ = exps_text c.args.index.now c.in-Goal.outputs in
    subst P
    (ap (λ z. z ++ (outputs ++ codes ".")) (c.in_ok-print_all-in-Goal.ensures ∙ ap (λ z. z ++ (codes " for " ++ inputs ++ codes " and match it with ")) c.in_ok-print_goal-in-Goal.ensures)
    ∙ goal_parts c.args.out.now.items (codes "Find a result of ") c.in-Goal.relation (codes " for ") inputs (codes " and match it with ") outputs (codes ".")
    ∙ ap (λ z. c.args.out.now.items ++ z) (sym (sentence-Goal c.args.index.now c.args.step.now c.in-Goal.relation c.in-Goal.inputs c.in-Goal.outputs c.in-Goal.is)))
    c.print_all-in-Goal-2.ensures

pub returns-in_ok-print_loop-in-Loop : goal.returns-in_ok-print_loop-in-Loop
returns-in_ok-print_loop-in-Loop t c =
    let P : List ℕ → Type 0 = λ text. OnOk c.print_step.result (c.print_step.new.out.items ≡ text) in
    let inner : List ℕ = sentence c.args.index.now c.in-Loop.inner in
    let front : List (List ℕ) → List ℕ = λ names. codes "For " ++ listed names ++ codes " under " ++ mark_text c.args.index.now c.in-Loop.how ++ codes ": " in
    subst P
    (ap (λ z. c.print_loop.new.out.items ++ sentence c.args.index.now z) c.get.ensures
    ∙ ap (λ z. z ++ inner) (c.in_ok-print_loop-in-Loop.ensures ∙ ap (λ names. c.args.out.now.items ++ front names) c.as_slice.ensures)
    ∙ loop_parts c.args.out.now.items (codes "For ") (listed c.in-Loop.names) (codes " under ") (mark_text c.args.index.now c.in-Loop.how) (codes ": ") inner
    ∙ ap (λ z. c.args.out.now.items ++ z) (sym (sentence-Loop c.args.index.now c.args.step.now c.in-Loop.how c.in-Loop.names c.in-Loop.inner c.in-Loop.is)))
    c.print_step.ensures
