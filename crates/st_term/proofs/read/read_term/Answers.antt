use Rattle.std.proofs.Common.{rules, subst}
use Rattle.st_elab_rows.specs.Told.{Told}
use Rattle.st_term.specs.Reading.{IsTermOf, TermBreach, IsTerm, IsTermBreach}
use Rattle.st_term.proofs.Outcomes.{told_given, told_refused, reading_one}
use Rattle.st_term.proofs.TermOutcomes.{term_one}
use Rattle.st_term.proofs.Readings.{text_stops, reading_stops}
use Rattle.st_term.proofs.read.read_term.Goals as goal

pub returns-in_err-exps-clause-told : goal.returns-in_err-exps-clause-told
returns-in_err-exps-clause-told c =
    let D = c.args.decls.now in
    let holes = c.args.holes.now in
    let bytes = c.args.bytes.now in
    text_stops D bytes (IsTermOf D holes) (TermBreach D holes) c.expressions.result c.from_residual.result c.in_err-exps.field-0.0 c.in_err-exps.was (search rules) c.expressions.ensures

pub returns-in_err-exps-clause-gives : goal.returns-in_err-exps-clause-gives
returns-in_err-exps-clause-gives c =
    let D = c.args.decls.now in
    let holes = c.args.holes.now in
    let bytes = c.args.bytes.now in
    let only = reading_one D bytes (IsTermOf D holes) (TermBreach D holes) (term_one D holes) in
    let told : Told (IsTerm D holes bytes) (IsTermBreach D holes bytes) c.from_residual.result =
    text_stops D bytes (IsTermOf D holes) (TermBreach D holes) c.expressions.result c.from_residual.result c.in_err-exps.field-0.0 c.in_err-exps.was (search rules) c.expressions.ensures in
    λ x g. told_given (IsTerm D holes bytes) (IsTermBreach D holes bytes) c.from_residual.result x only told g

pub returns-in_err-exps-clause-refuses : goal.returns-in_err-exps-clause-refuses
returns-in_err-exps-clause-refuses c =
    let D = c.args.decls.now in
    let holes = c.args.holes.now in
    let bytes = c.args.bytes.now in
    let only = reading_one D bytes (IsTermOf D holes) (TermBreach D holes) (term_one D holes) in
    let told : Told (IsTerm D holes bytes) (IsTermBreach D holes bytes) c.from_residual.result =
    text_stops D bytes (IsTermOf D holes) (TermBreach D holes) c.expressions.result c.from_residual.result c.in_err-exps.field-0.0 c.in_err-exps.was (search rules) c.expressions.ensures in
    λ b g. told_refused (IsTerm D holes bytes) (IsTermBreach D holes bytes) c.from_residual.result b only told g

pub returns-in_err-values-clause-told : goal.returns-in_err-values-clause-told
returns-in_err-values-clause-told c =
    let D = c.args.decls.now in
    let holes = c.args.holes.now in
    let bytes = c.args.bytes.now in
    reading_stops D bytes (IsTermOf D holes) (TermBreach D holes) c.in_ok-exps.exps c.term_of.result c.from_residual-in_err-values.result c.in_err-values.field-0.0 c.in_ok-exps.ensures c.in_err-values.was (search rules)
    (subst (λ z. Told (IsTermOf D holes z) (TermBreach D holes z) c.term_of.result) c.as_slice.ensures c.term_of.ensures)

pub returns-in_err-values-clause-gives : goal.returns-in_err-values-clause-gives
returns-in_err-values-clause-gives c =
    let D = c.args.decls.now in
    let holes = c.args.holes.now in
    let bytes = c.args.bytes.now in
    let only = reading_one D bytes (IsTermOf D holes) (TermBreach D holes) (term_one D holes) in
    let told : Told (IsTerm D holes bytes) (IsTermBreach D holes bytes) c.from_residual-in_err-values.result =
    reading_stops D bytes (IsTermOf D holes) (TermBreach D holes) c.in_ok-exps.exps c.term_of.result c.from_residual-in_err-values.result c.in_err-values.field-0.0 c.in_ok-exps.ensures c.in_err-values.was (search rules)
    (subst (λ z. Told (IsTermOf D holes z) (TermBreach D holes z) c.term_of.result) c.as_slice.ensures c.term_of.ensures) in
    λ x g. told_given (IsTerm D holes bytes) (IsTermBreach D holes bytes) c.from_residual-in_err-values.result x only told g

pub returns-in_err-values-clause-refuses : goal.returns-in_err-values-clause-refuses
returns-in_err-values-clause-refuses c =
    let D = c.args.decls.now in
    let holes = c.args.holes.now in
    let bytes = c.args.bytes.now in
    let only = reading_one D bytes (IsTermOf D holes) (TermBreach D holes) (term_one D holes) in
    let told : Told (IsTerm D holes bytes) (IsTermBreach D holes bytes) c.from_residual-in_err-values.result =
    reading_stops D bytes (IsTermOf D holes) (TermBreach D holes) c.in_ok-exps.exps c.term_of.result c.from_residual-in_err-values.result c.in_err-values.field-0.0 c.in_ok-exps.ensures c.in_err-values.was (search rules)
    (subst (λ z. Told (IsTermOf D holes z) (TermBreach D holes z) c.term_of.result) c.as_slice.ensures c.term_of.ensures) in
    λ b g. told_refused (IsTerm D holes bytes) (IsTermBreach D holes bytes) c.from_residual-in_err-values.result b only told g

pub returns-clause-gives : goal.returns-clause-gives
returns-clause-gives c =
    let D = c.args.decls.now in
    let holes = c.args.holes.now in
    let bytes = c.args.bytes.now in
    let only = reading_one D bytes (IsTermOf D holes) (TermBreach D holes) (term_one D holes) in
    let told : IsTerm D holes bytes c.in_ok-values.values =
    record {
      exps = c.in_ok-exps.exps;
      text = c.in_ok-exps.ensures;
      reads = subst (λ z. IsTermOf D holes z c.in_ok-values.values) c.as_slice.ensures c.in_ok-values.ensures;
    } in
    λ x g. only.one c.in_ok-values.values x told g

pub returns-clause-refuses : goal.returns-clause-refuses
returns-clause-refuses c =
    let D = c.args.decls.now in
    let holes = c.args.holes.now in
    let bytes = c.args.bytes.now in
    let only = reading_one D bytes (IsTermOf D holes) (TermBreach D holes) (term_one D holes) in
    let told : IsTerm D holes bytes c.in_ok-values.values =
    record {
      exps = c.in_ok-exps.exps;
      text = c.in_ok-exps.ensures;
      reads = subst (λ z. IsTermOf D holes z c.in_ok-values.values) c.as_slice.ensures c.in_ok-values.ensures;
    } in
    λ b g. only.not_both c.in_ok-values.values b told g
