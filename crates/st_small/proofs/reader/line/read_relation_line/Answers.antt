use Rattle.std.proofs.Common.{codes}
use Rattle.st_small.proofs.ReaderLines.{Stops-upper-colon, peel, relation_name}
use Rattle.st_small.proofs.reader.line.read_relation_line.Goals as goal

pub returns-in_err-rest-2-clause-only : goal.returns-in_err-rest-2-clause-only
returns-in_err-rest-2-clause-only c = λ relation rest word e.
    let e1 = relation_name _ relation c.args.syntax.now rest _ e c.in_ok-rest.ensures in
    let e2 = c.in_ok-relation.ensures.only relation _ word Stops-upper-colon e1 in
    absurd (c.in_err-rest-2.ensures _ e2.1)

pub returns-in_err-rest-3-clause-only : goal.returns-in_err-rest-3-clause-only
returns-in_err-rest-3-clause-only c = λ relation rest word e.
    let e1 = relation_name _ relation c.args.syntax.now rest _ e c.in_ok-rest.ensures in
    let e2 = c.in_ok-relation.ensures.only relation _ word Stops-upper-colon e1 in
    let e3 = peel c.args.syntax.now _ _ _ c.in_ok-rest-2.ensures e2.1 in
    absurd (c.in_err-rest-3.ensures _ e3)

pub returns-in_err-rest-4-clause-only : goal.returns-in_err-rest-4-clause-only
returns-in_err-rest-4-clause-only c = λ relation rest word e.
    let e1 = relation_name _ relation c.args.syntax.now rest _ e c.in_ok-rest.ensures in
    let e2 = c.in_ok-relation.ensures.only relation _ word Stops-upper-colon e1 in
    let e3 = peel c.args.syntax.now _ _ _ c.in_ok-rest-2.ensures e2.1 in
    let e4 = peel (codes " ~> ") _ _ _ c.in_ok-rest-3.ensures e3 in
    absurd (c.in_err-rest-4.ensures _ e4)

pub returns-in_err-rest-5-clause-only : goal.returns-in_err-rest-5-clause-only
returns-in_err-rest-5-clause-only c = λ relation rest word e.
    let e1 = relation_name _ relation c.args.syntax.now rest _ e c.in_ok-rest.ensures in
    let e2 = c.in_ok-relation.ensures.only relation _ word Stops-upper-colon e1 in
    let e3 = peel c.args.syntax.now _ _ _ c.in_ok-rest-2.ensures e2.1 in
    let e4 = peel (codes " ~> ") _ _ _ c.in_ok-rest-3.ensures e3 in
    let e5 = peel c.args.syntax.now _ _ _ c.in_ok-rest-4.ensures e4 in
    absurd (c.in_err-rest-5.ensures _ e5)

pub returns-clause-only : goal.returns-clause-only
returns-clause-only c = λ relation rest word e.
    let e1 = relation_name _ relation c.args.syntax.now rest _ e c.in_ok-rest.ensures in
    let e2 = c.in_ok-relation.ensures.only relation _ word Stops-upper-colon e1 in
    let e3 = peel c.args.syntax.now _ _ _ c.in_ok-rest-2.ensures e2.1 in
    let e4 = peel (codes " ~> ") _ _ _ c.in_ok-rest-3.ensures e3 in
    let e5 = peel c.args.syntax.now _ _ _ c.in_ok-rest-4.ensures e4 in
    (e2.0, peel (codes "\n") _ _ _ c.in_ok-rest-5.ensures e5)
