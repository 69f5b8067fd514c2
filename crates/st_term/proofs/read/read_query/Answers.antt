use Rattle.std.proofs.Common.{rules, subst}
use Rattle.st_elab_rows.specs.Told.{Told}
use Rattle.st_term.specs.Reading.{IsQueryOf, QueryBreach, IsQuery, IsQueryBreach}
use Rattle.st_term.proofs.Outcomes.{told_given, told_refused, reading_one}
use Rattle.st_term.proofs.TermOutcomes.{query_one}
use Rattle.st_term.proofs.Readings.{text_stops, reading_stops}
use Rattle.st_term.proofs.read.read_query.Goals as goal

pub returns-in_err-exps-clause-told : goal.returns-in_err-exps-clause-told
returns-in_err-exps-clause-told c =
    let D = c.args.decls.now in
    let bytes = c.args.bytes.now in
    text_stops D bytes (IsQueryOf D) (QueryBreach D) c.expressions.result c.from_residual.result c.in_err-exps.field-0.0 c.in_err-exps.was (search rules) c.expressions.ensures

pub returns-in_err-exps-clause-gives : goal.returns-in_err-exps-clause-gives
returns-in_err-exps-clause-gives c =
    let D = c.args.decls.now in
    let bytes = c.args.bytes.now in
    let only = reading_one D bytes (IsQueryOf D) (QueryBreach D) (query_one D) in
    let told : Told (IsQuery D bytes) (IsQueryBreach D bytes) c.from_residual.result =
    text_stops D bytes (IsQueryOf D) (QueryBreach D) c.expressions.result c.from_residual.result c.in_err-exps.field-0.0 c.in_err-exps.was (search rules) c.expressions.ensures in
    λ x g. told_given (IsQuery D bytes) (IsQueryBreach D bytes) c.from_residual.result x only told g

pub returns-in_err-exps-clause-refuses : goal.returns-in_err-exps-clause-refuses
returns-in_err-exps-clause-refuses c =
    let D = c.args.decls.now in
    let bytes = c.args.bytes.now in
    let only = reading_one D bytes (IsQueryOf D) (QueryBreach D) (query_one D) in
    let told : Told (IsQuery D bytes) (IsQueryBreach D bytes) c.from_residual.result =
    text_stops D bytes (IsQueryOf D) (QueryBreach D) c.expressions.result c.from_residual.result c.in_err-exps.field-0.0 c.in_err-exps.was (search rules) c.expressions.ensures in
    λ b g. told_refused (IsQuery D bytes) (IsQueryBreach D bytes) c.from_residual.result b only told g

pub returns-in_err-query-clause-told : goal.returns-in_err-query-clause-told
returns-in_err-query-clause-told c =
    let D = c.args.decls.now in
    let bytes = c.args.bytes.now in
    reading_stops D bytes (IsQueryOf D) (QueryBreach D) c.in_ok-exps.exps c.query_of.result c.from_residual-in_err-query.result c.in_err-query.field-0.0 c.in_ok-exps.ensures c.in_err-query.was (search rules)
    (subst (λ z. Told (IsQueryOf D z) (QueryBreach D z) c.query_of.result) c.as_slice.ensures c.query_of.ensures)

pub returns-in_err-query-clause-gives : goal.returns-in_err-query-clause-gives
returns-in_err-query-clause-gives c =
    let D = c.args.decls.now in
    let bytes = c.args.bytes.now in
    let only = reading_one D bytes (IsQueryOf D) (QueryBreach D) (query_one D) in
    let told : Told (IsQuery D bytes) (IsQueryBreach D bytes) c.from_residual-in_err-query.result =
    reading_stops D bytes (IsQueryOf D) (QueryBreach D) c.in_ok-exps.exps c.query_of.result c.from_residual-in_err-query.result c.in_err-query.field-0.0 c.in_ok-exps.ensures c.in_err-query.was (search rules)
    (subst (λ z. Told (IsQueryOf D z) (QueryBreach D z) c.query_of.result) c.as_slice.ensures c.query_of.ensures) in
    λ x g. told_given (IsQuery D bytes) (IsQueryBreach D bytes) c.from_residual-in_err-query.result x only told g

pub returns-in_err-query-clause-refuses : goal.returns-in_err-query-clause-refuses
returns-in_err-query-clause-refuses c =
    let D = c.args.decls.now in
    let bytes = c.args.bytes.now in
    let only = reading_one D bytes (IsQueryOf D) (QueryBreach D) (query_one D) in
    let told : Told (IsQuery D bytes) (IsQueryBreach D bytes) c.from_residual-in_err-query.result =
    reading_stops D bytes (IsQueryOf D) (QueryBreach D) c.in_ok-exps.exps c.query_of.result c.from_residual-in_err-query.result c.in_err-query.field-0.0 c.in_ok-exps.ensures c.in_err-query.was (search rules)
    (subst (λ z. Told (IsQueryOf D z) (QueryBreach D z) c.query_of.result) c.as_slice.ensures c.query_of.ensures) in
    λ b g. told_refused (IsQuery D bytes) (IsQueryBreach D bytes) c.from_residual-in_err-query.result b only told g

pub returns-clause-gives : goal.returns-clause-gives
returns-clause-gives c =
    let D = c.args.decls.now in
    let bytes = c.args.bytes.now in
    let only = reading_one D bytes (IsQueryOf D) (QueryBreach D) (query_one D) in
    let told : IsQuery D bytes c.in_ok-query.query =
    record {
      exps = c.in_ok-exps.exps;
      text = c.in_ok-exps.ensures;
      reads = subst (λ z. IsQueryOf D z c.in_ok-query.query) c.as_slice.ensures c.in_ok-query.ensures;
    } in
    λ x g. only.one c.in_ok-query.query x told g

pub returns-clause-refuses : goal.returns-clause-refuses
returns-clause-refuses c =
    let D = c.args.decls.now in
    let bytes = c.args.bytes.now in
    let only = reading_one D bytes (IsQueryOf D) (QueryBreach D) (query_one D) in
    let told : IsQuery D bytes c.in_ok-query.query =
    record {
      exps = c.in_ok-exps.exps;
      text = c.in_ok-exps.ensures;
      reads = subst (λ z. IsQueryOf D z c.in_ok-query.query) c.as_slice.ensures c.in_ok-query.ensures;
    } in
    λ b g. only.not_both c.in_ok-query.query b told g
