use Rattle.std.proofs.Common.{refl}
use Rattle.st_ilcheck.proofs.CitedLemmas.{clause-cited}
use Rattle.st_ilcheck.proofs.cited.cited_by_clause.Goals as goal

pub returns : goal.returns
returns c =
    clause-cited c.args.clause.now c.in_ok-contents.contents
    (record { syntaxes = c.in_ok-syntaxes.syntaxes; relations = c.in_ok-relations.relations; functions = c.in_ok-functions.functions; tags = c.in_ok-contents.contents.tags })
    c.in_ok-types.types c.in_ok-own.own c.as_slice.result.now c.as_slice-2.result.now
    c.in_ok-contents.ensures c.as_slice.ensures c.in_ok-types.ensures c.in_ok-syntaxes.ensures c.as_slice-2.ensures c.in_ok-relations.ensures c.in_ok-own.ensures c.in_ok-functions.ensures refl
