use Rattle.std.proofs.Common.{ap, ◌∙◌, ◌++◌}
use Rattle.st_elab_def.proofs.ContentLemmas.{ok_both}
use Rattle.st_elab_def.proofs.Gathered.{fragment-declares, untaken-take, untaken-skip, own-declares}
use Rattle.st_elab_def.proofs.joining.push_declared.Goals as goal

pub returns-in-Some-clause-pushed : goal.returns-in-Some-clause-pushed
returns-in-Some-clause-pushed c =
    ok_both c.push_fragment.result
    (λ pushed before behind h. pushed ∙ ap (λ xs. c.args.out.now ++ xs)
    (fragment-declares before behind c.args.def.now c.in-Some.found.0.now c.in-Some.ensures.0 c.in-Some.found.1.now c.args.parts.now.entries c.in-Some.ensures.1 h))
    c.push_fragment.ensures.pushed

pub returns-in-Some-clause-left : goal.returns-in-Some-clause-left
returns-in-Some-clause-left c =
    ok_both c.push_fragment.result
    (λ taken before behind h. untaken-take before behind c.args.def.now c.in-Some.found.0.now c.in-Some.ensures.0 c.in-Some.found.1.now c.args.parts.now.entries c.push_fragment.new.parts.entries c.in-Some.ensures.1 h taken)
    c.push_fragment.ensures.taken

pub returns-in-None-clause-pushed : goal.returns-in-None-clause-pushed
returns-in-None-clause-pushed c =
    ok_both c.push_own.result
    (λ pushed before behind h. pushed ∙ ap (λ xs. c.args.out.now ++ xs) (own-declares before behind c.args.def.now c.in-None.ensures))
    c.push_own.ensures

pub returns-in-None-clause-left : goal.returns-in-None-clause-left
returns-in-None-clause-left c =
    ok_both c.push_own.result
    (λ pushed before behind h. untaken-skip before behind c.args.def.now c.args.def.now.node c.args.parts.now.entries (λ i. c.args.def.now.node) c.in-None.ensures h)
    c.push_own.ensures
