use Rattle.std.proofs.Common.{rules, refl, sym, ◌+◌, false, Some, take, drop}
use Rattle.st_elab_table.specs.Questions.{Breach}
use Rattle.st_elab_rows.proofs.Builds.{Told-stops}
use Rattle.st_elab_def.specs.DeclsOf.{decls_of}
use Rattle.st_elab_def.specs.Phases.{on_body, alternatives_before}
use Rattle.st_elab_def.specs.inner.Bodies.{body_asked, here_of}
use Rattle.st_elab_def.specs.inner.Walk.{FirstBreachAt}
use Rattle.st_elab_def.proofs.GoesBy.{goes-breach, suits, first-has, first-count, first-there, first-goes}
use Rattle.st_elab_def.proofs.bodies.Source.check_first.Goals as goal

pub returns-in_err-alternatives : goal.returns-in_err-alternatives
returns-in_err-alternatives c =
    let source = c.args.self.now in
    let walk = c.args.walk.now in
    let D = decls_of source.defs.now in
    let number = c.args.number in
    let def = c.args.def.now in
    let d = here_of source.defs.now number def in
    let name = c.args.name.now in
    let piece = c.requires.node.0 in
    let is = c.requires.node.1 in
    let b = c.args.body.now in
    let more = c.goes_on-behind.result in
    let parts = alternatives_before name (take number source.defs.now) in
    let comes = c.requires.comes in
    Told-stops _ _ (λ (x : Breach). FirstBreachAt D (body_asked d name (Some piece) parts b) x) (λ (x : Breach). FirstBreachAt D (on_body d) x)
    c.check_joined.result c.from_residual.result c.in_err-alternatives.field-0.0 c.in_err-alternatives.was (search rules)
    (λ x h. goes-breach source number def walk comes name (Some piece) b is x h)
    (c.check_joined.ensures D d name (Some piece) parts (alternatives_before name (drop (number + 1) source.defs.now)) (sym comes.syntaxes) refl
    (first-count source number def walk comes name piece b is c.requires.first)
    (suits source number def walk comes name piece b is false more (first-has source number def walk comes name piece b is c.requires.first) c.goes_on-behind.ensures)
    (λ on. first-there source number def walk comes name piece b is c.requires.first))

pub returns : goal.returns
returns c =
    let source = c.args.self.now in
    let walk = c.args.walk.now in
    let D = decls_of source.defs.now in
    let number = c.args.number in
    let def = c.args.def.now in
    let d = here_of source.defs.now number def in
    let name = c.args.name.now in
    let piece = c.requires.node.0 in
    let is = c.requires.node.1 in
    let b = c.args.body.now in
    let more = c.goes_on-behind.result in
    let parts = alternatives_before name (take number source.defs.now) in
    let comes = c.requires.comes in
    first-goes source number def walk comes name piece b is c.requires.first (record { next = walk.next + 1; begun = c.put.new.map }) c.in_ok-alternatives.alternatives refl c.in_ok-_none.ensures.more
    (c.in_ok-alternatives.ensures D d name (Some piece) parts (alternatives_before name (drop (number + 1) source.defs.now)) (sym comes.syntaxes) refl
    (first-count source number def walk comes name piece b is c.requires.first)
    (suits source number def walk comes name piece b is false more (first-has source number def walk comes name piece b is c.requires.first) c.goes_on-behind.ensures)
    (λ on. first-there source number def walk comes name piece b is c.requires.first))
