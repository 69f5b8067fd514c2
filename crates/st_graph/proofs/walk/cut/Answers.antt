use Rattle.std.proofs.Common.{◌≡◌, ap, ◌∙◌, arith}
use Rattle.st_graph.specs.inner.Walk.{start_of}
use Rattle.st_graph.proofs.Cuts.{cut-more, cut-end}
use Rattle.st_graph.proofs.walk.cut.Goals as goal

pub cutting-preserved : goal.cutting-preserved
cutting-preserved c =
    let s : c.last_start.result ≡ start_of c.cutting.bounds.items = c.last_start.ensures ∙ ap start_of c.deref.ensures.value in
    let t = c.cutting-test.true in
    cut-more c.args.at c.args.bounds.now.items c.cutting.bounds.items c.pop.new.self.items c.pop.result c.cutting.invariant (omega (arith, s, t)) c.pop.ensures.items

pub returns : goal.returns
returns c =
    let s : c.last_start.result ≡ start_of c.cutting.bounds.items = c.last_start.ensures ∙ ap start_of c.deref.ensures.value in
    let t = c.cutting-test.false in
    cut-end c.args.at c.args.bounds.now.items c.cutting.bounds.items c.cutting.invariant c.requires (omega (arith, s, t))
