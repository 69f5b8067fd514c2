use Rattle.std.proofs.Common.{◌≡◌, ◌++◌, true, sym, ◌∙◌, ap, subst}
use Rattle.st_il.specs.Names.{all_known}
use Rattle.st_il.specs.Definitions.{syntaxes}
use Rattle.st_semantics.specs.Environments.{names_of}
use Rattle.st_semantics.specs.Formed.{IsFormed}
use Rattle.st_semantics.specs.Patterns.{is_pattern, binds}
use Rattle.st_semantics.specs.Variables.{vars}
use Rattle.st_eval.specs.inner.Known.{names_now}
use Rattle.st_eval.specs.Meeting.{IsEquated}
use Rattle.st_eval.proofs.Equations.{bound_is, pattern_bound, some_equation, left_bound, right_bound, left_formed, equated_is}
use Rattle.st_eval.proofs.condition.meet_condition.Goals as goal

pub returns-then-bound : goal.returns-then-bound
returns-then-bound g c = λ bound p is only can.
    c.in_ok-met.ensures bound p is
    (sym (bound_is c.args.setting.now.index.now bound c.args.variables.now c.args.env.now c.args.exp.now only can (vars c.args.exp.now))
    ∙ (sym (c.in_ok-bound.ensures ∙ ap (λ z. all_known z (vars c.args.exp.now)) (ap names_now c.as_slice.ensures ∙ c.in_ok-known.ensures)) ∙ c.if-bound.true)) only

pub is_bound-requires-in-Eq : goal.is_bound-requires-in-Eq
is_bound-requires-in-Eq g c =
    (syntaxes c.args.setting.now.index.now, subst (IsFormed (syntaxes c.args.setting.now.index.now)) (sym c.get.ensures) (left_formed c.args.setting.now.index.now c.requires.can.0 c.args.variables.now c.args.env.now c.args.exp.now c.requires.can.1 c.requires.can.2 c.in-Eq.left c.in-Eq.right c.in-Eq.is (sym (c.in_ok-bound.ensures ∙ ap (λ z. all_known z (vars c.args.exp.now)) (ap names_now c.as_slice.ensures ∙ c.in_ok-known.ensures)) ∙ c.if-bound.false)))

pub equation-requires-clause-side : goal.equation-requires-clause-side
equation-requires-clause-side g c =
    let eq = left_bound c.args.setting.now.index.now c.requires.can.0 c.args.variables.now c.args.env.now c.args.exp.now c.requires.can.1 c.requires.can.2 c.in-Eq.left c.in-Eq.right c.in-Eq.is (sym (c.in_ok-bound.ensures ∙ ap (λ z. all_known z (vars c.args.exp.now)) (ap names_now c.as_slice.ensures ∙ c.in_ok-known.ensures)) ∙ c.if-bound.false) (sym (c.in_ok-first-in-Eq.ensures ∙ (ap (λ z. all_known z (vars c.get.result.now)) (ap names_now c.as_slice-in-Eq.ensures ∙ c.in_ok-known.ensures) ∙ ap (λ z. all_known (names_of c.args.env.now) (vars z)) c.get.ensures)) ∙ c.if-first.true) in
    subst (IsFormed (syntaxes c.args.setting.now.index.now)) (sym c.get-then-first.ensures) eq.side_formed

pub equation-requires-clause-pattern : goal.equation-requires-clause-pattern
equation-requires-clause-pattern g c =
    let eq = left_bound c.args.setting.now.index.now c.requires.can.0 c.args.variables.now c.args.env.now c.args.exp.now c.requires.can.1 c.requires.can.2 c.in-Eq.left c.in-Eq.right c.in-Eq.is (sym (c.in_ok-bound.ensures ∙ ap (λ z. all_known z (vars c.args.exp.now)) (ap names_now c.as_slice.ensures ∙ c.in_ok-known.ensures)) ∙ c.if-bound.false) (sym (c.in_ok-first-in-Eq.ensures ∙ (ap (λ z. all_known z (vars c.get.result.now)) (ap names_now c.as_slice-in-Eq.ensures ∙ c.in_ok-known.ensures) ∙ ap (λ z. all_known (names_of c.args.env.now) (vars z)) c.get.ensures)) ∙ c.if-first.true) in
    subst (λ z. is_pattern z ≡ true) (sym c.get-then-first-2.ensures) eq.matched

pub equation-requires-clause-formed : goal.equation-requires-clause-formed
equation-requires-clause-formed g c =
    let eq = left_bound c.args.setting.now.index.now c.requires.can.0 c.args.variables.now c.args.env.now c.args.exp.now c.requires.can.1 c.requires.can.2 c.in-Eq.left c.in-Eq.right c.in-Eq.is (sym (c.in_ok-bound.ensures ∙ ap (λ z. all_known z (vars c.args.exp.now)) (ap names_now c.as_slice.ensures ∙ c.in_ok-known.ensures)) ∙ c.if-bound.false) (sym (c.in_ok-first-in-Eq.ensures ∙ (ap (λ z. all_known z (vars c.get.result.now)) (ap names_now c.as_slice-in-Eq.ensures ∙ c.in_ok-known.ensures) ∙ ap (λ z. all_known (names_of c.args.env.now) (vars z)) c.get.ensures)) ∙ c.if-first.true) in
    subst (IsFormed (syntaxes c.args.setting.now.index.now)) (sym c.get-then-first-2.ensures) eq.pattern_formed

pub equation-requires-clause-bound : goal.equation-requires-clause-bound
equation-requires-clause-bound g c =
    let eq = left_bound c.args.setting.now.index.now c.requires.can.0 c.args.variables.now c.args.env.now c.args.exp.now c.requires.can.1 c.requires.can.2 c.in-Eq.left c.in-Eq.right c.in-Eq.is (sym (c.in_ok-bound.ensures ∙ ap (λ z. all_known z (vars c.args.exp.now)) (ap names_now c.as_slice.ensures ∙ c.in_ok-known.ensures)) ∙ c.if-bound.false) (sym (c.in_ok-first-in-Eq.ensures ∙ (ap (λ z. all_known z (vars c.get.result.now)) (ap names_now c.as_slice-in-Eq.ensures ∙ c.in_ok-known.ensures) ∙ ap (λ z. all_known (names_of c.args.env.now) (vars z)) c.get.ensures)) ∙ c.if-first.true) in
    subst (λ z. all_known (names_of c.args.env.now ++ binds z) (vars z) ≡ true) (sym c.get-then-first-2.ensures) (pattern_bound c.args.setting.now.index.now c.requires.can.0 c.args.variables.now c.args.env.now c.args.exp.now c.requires.can.1 c.requires.can.2 c.in-Eq.left c.in-Eq.right eq)

pub returns-then-first : goal.returns-then-first
returns-then-first g c = λ bound p is only can.
    equated_is c.args.setting.now.index.now c.requires.setting.single c.args.setting.now.depth bound c.args.variables.now c.args.env.now p c.args.exp.now c.in-Eq.left c.in-Eq.right c.in_ok-met-in-Eq.met is
    (left_bound c.args.setting.now.index.now bound c.args.variables.now c.args.env.now c.args.exp.now only can c.in-Eq.left c.in-Eq.right c.in-Eq.is (sym (c.in_ok-bound.ensures ∙ ap (λ z. all_known z (vars c.args.exp.now)) (ap names_now c.as_slice.ensures ∙ c.in_ok-known.ensures)) ∙ c.if-bound.false) (sym (c.in_ok-first-in-Eq.ensures ∙ (ap (λ z. all_known z (vars c.get.result.now)) (ap names_now c.as_slice-in-Eq.ensures ∙ c.in_ok-known.ensures) ∙ ap (λ z. all_known (names_of c.args.env.now) (vars z)) c.get.ensures)) ∙ c.if-first.true)) only
    (subst (λ z. IsEquated c.args.setting.now.index.now c.args.setting.now.depth c.args.variables.now c.args.env.now z c.in-Eq.right c.in_ok-met-in-Eq.met) c.get-then-first.ensures (subst (λ z. IsEquated c.args.setting.now.index.now c.args.setting.now.depth c.args.variables.now c.args.env.now c.get-then-first.result.now z c.in_ok-met-in-Eq.met) c.get-then-first-2.ensures c.in_ok-met-in-Eq.ensures))

pub equation-requires-else-first-clause-side : goal.equation-requires-else-first-clause-side
equation-requires-else-first-clause-side g c =
    let eq = right_bound c.args.setting.now.index.now c.requires.can.0 c.args.variables.now c.args.env.now c.args.exp.now c.requires.can.1 c.requires.can.2 c.in-Eq.left c.in-Eq.right c.in-Eq.is (sym (c.in_ok-bound.ensures ∙ ap (λ z. all_known z (vars c.args.exp.now)) (ap names_now c.as_slice.ensures ∙ c.in_ok-known.ensures)) ∙ c.if-bound.false) (sym (c.in_ok-first-in-Eq.ensures ∙ (ap (λ z. all_known z (vars c.get.result.now)) (ap names_now c.as_slice-in-Eq.ensures ∙ c.in_ok-known.ensures) ∙ ap (λ z. all_known (names_of c.args.env.now) (vars z)) c.get.ensures)) ∙ c.if-first.false) in
    subst (IsFormed (syntaxes c.args.setting.now.index.now)) (sym c.get-else-first.ensures) eq.side_formed

pub equation-requires-else-first-clause-pattern : goal.equation-requires-else-first-clause-pattern
equation-requires-else-first-clause-pattern g c =
    let eq = right_bound c.args.setting.now.index.now c.requires.can.0 c.args.variables.now c.args.env.now c.args.exp.now c.requires.can.1 c.requires.can.2 c.in-Eq.left c.in-Eq.right c.in-Eq.is (sym (c.in_ok-bound.ensures ∙ ap (λ z. all_known z (vars c.args.exp.now)) (ap names_now c.as_slice.ensures ∙ c.in_ok-known.ensures)) ∙ c.if-bound.false) (sym (c.in_ok-first-in-Eq.ensures ∙ (ap (λ z. all_known z (vars c.get.result.now)) (ap names_now c.as_slice-in-Eq.ensures ∙ c.in_ok-known.ensures) ∙ ap (λ z. all_known (names_of c.args.env.now) (vars z)) c.get.ensures)) ∙ c.if-first.false) in
    subst (λ z. is_pattern z ≡ true) (sym c.get-else-first-2.ensures) eq.matched

pub equation-requires-else-first-clause-formed : goal.equation-requires-else-first-clause-formed
equation-requires-else-first-clause-formed g c =
    let eq = right_bound c.args.setting.now.index.now c.requires.can.0 c.args.variables.now c.args.env.now c.args.exp.now c.requires.can.1 c.requires.can.2 c.in-Eq.left c.in-Eq.right c.in-Eq.is (sym (c.in_ok-bound.ensures ∙ ap (λ z. all_known z (vars c.args.exp.now)) (ap names_now c.as_slice.ensures ∙ c.in_ok-known.ensures)) ∙ c.if-bound.false) (sym (c.in_ok-first-in-Eq.ensures ∙ (ap (λ z. all_known z (vars c.get.result.now)) (ap names_now c.as_slice-in-Eq.ensures ∙ c.in_ok-known.ensures) ∙ ap (λ z. all_known (names_of c.args.env.now) (vars z)) c.get.ensures)) ∙ c.if-first.false) in
    subst (IsFormed (syntaxes c.args.setting.now.index.now)) (sym c.get-else-first-2.ensures) eq.pattern_formed

pub equation-requires-else-first-clause-bound : goal.equation-requires-else-first-clause-bound
equation-requires-else-first-clause-bound g c =
    let eq = right_bound c.args.setting.now.index.now c.requires.can.0 c.args.variables.now c.args.env.now c.args.exp.now c.requires.can.1 c.requires.can.2 c.in-Eq.left c.in-Eq.right c.in-Eq.is (sym (c.in_ok-bound.ensures ∙ ap (λ z. all_known z (vars c.args.exp.now)) (ap names_now c.as_slice.ensures ∙ c.in_ok-known.ensures)) ∙ c.if-bound.false) (sym (c.in_ok-first-in-Eq.ensures ∙ (ap (λ z. all_known z (vars c.get.result.now)) (ap names_now c.as_slice-in-Eq.ensures ∙ c.in_ok-known.ensures) ∙ ap (λ z. all_known (names_of c.args.env.now) (vars z)) c.get.ensures)) ∙ c.if-first.false) in
    subst (λ z. all_known (names_of c.args.env.now ++ binds z) (vars z) ≡ true) (sym c.get-else-first-2.ensures) (pattern_bound c.args.setting.now.index.now c.requires.can.0 c.args.variables.now c.args.env.now c.args.exp.now c.requires.can.1 c.requires.can.2 c.in-Eq.right c.in-Eq.left eq)

pub returns-in-Eq : goal.returns-in-Eq
returns-in-Eq g c = λ bound p is only can.
    equated_is c.args.setting.now.index.now c.requires.setting.single c.args.setting.now.depth bound c.args.variables.now c.args.env.now p c.args.exp.now c.in-Eq.right c.in-Eq.left c.in_ok-met-in-Eq-2.met is
    (right_bound c.args.setting.now.index.now bound c.args.variables.now c.args.env.now c.args.exp.now only can c.in-Eq.left c.in-Eq.right c.in-Eq.is (sym (c.in_ok-bound.ensures ∙ ap (λ z. all_known z (vars c.args.exp.now)) (ap names_now c.as_slice.ensures ∙ c.in_ok-known.ensures)) ∙ c.if-bound.false) (sym (c.in_ok-first-in-Eq.ensures ∙ (ap (λ z. all_known z (vars c.get.result.now)) (ap names_now c.as_slice-in-Eq.ensures ∙ c.in_ok-known.ensures) ∙ ap (λ z. all_known (names_of c.args.env.now) (vars z)) c.get.ensures)) ∙ c.if-first.false)) only
    (subst (λ z. IsEquated c.args.setting.now.index.now c.args.setting.now.depth c.args.variables.now c.args.env.now z c.in-Eq.left c.in_ok-met-in-Eq-2.met) c.get-else-first.ensures (subst (λ z. IsEquated c.args.setting.now.index.now c.args.setting.now.depth c.args.variables.now c.args.env.now c.get-else-first.result.now z c.in_ok-met-in-Eq-2.met) c.get-else-first-2.ensures c.in_ok-met-in-Eq-2.ensures))

pub returns : goal.returns
returns g c = λ bound p is only can.
    absurd (some_equation c.args.setting.now.index.now bound c.args.variables.now c.args.env.now c.args.exp.now only can (sym (c.in_ok-bound.ensures ∙ ap (λ z. all_known z (vars c.args.exp.now)) (ap names_now c.as_slice.ensures ∙ c.in_ok-known.ensures)) ∙ c.if-bound.false) c.in_default.not-Eq)
