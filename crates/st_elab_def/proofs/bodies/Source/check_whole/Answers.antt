use Rattle.std.proofs.Common.{[], rules, refl, sym, ◌+◌, None, take}
use Rattle.st_elab_table.specs.Questions.{Breach}
use Rattle.st_elab_rows.proofs.Builds.{Told-stops}
use Rattle.st_elab_def.specs.DeclsOf.{decls_of}
use Rattle.st_elab_def.specs.Phases.{on_body, alternatives_before}
use Rattle.st_elab_def.specs.inner.Bodies.{body_asked, here_of}
use Rattle.st_elab_def.specs.inner.Walk.{FirstBreachAt}
use Rattle.st_elab_def.proofs.GoesBy.{goes-breach, whole-count, whole-there, whole-goes}
use Rattle.st_elab_def.proofs.bodies.Source.check_whole.Goals as goal

pub returns-in_err-_whole : goal.returns-in_err-_whole
returns-in_err-_whole c =
    let source = c.args.self.now in
    let D = decls_of source.defs.now in
    let d = here_of source.defs.now c.args.number c.args.def.now in
    let name = c.args.name.now in
    let b = c.args.body.now in
    let parts = alternatives_before name (take c.args.number source.defs.now) in
    let comes = c.requires.comes in
    Told-stops _ _ (λ (x : Breach). FirstBreachAt D (body_asked d name None parts b) x) (λ (x : Breach). FirstBreachAt D (on_body d) x)
    c.check_joined.result c.from_residual.result c.in_err-_whole.field-0.0 c.in_err-_whole.was (search rules)
    (λ x h. goes-breach source c.args.number c.args.def.now c.args.walk.now comes name None b c.requires.node x h)
    (c.check_joined.ensures D d name None parts [] (sym comes.syntaxes) refl (whole-count source c.args.number c.args.def.now c.args.walk.now comes name b c.requires.node) refl
    (λ on. whole-there source c.args.number c.args.def.now c.args.walk.now comes name b c.requires.node))

pub returns : goal.returns
returns c =
    let source = c.args.self.now in
    let walk = c.args.walk.now in
    let D = decls_of source.defs.now in
    let d = here_of source.defs.now c.args.number c.args.def.now in
    let name = c.args.name.now in
    let b = c.args.body.now in
    let parts = alternatives_before name (take c.args.number source.defs.now) in
    let comes = c.requires.comes in
    whole-goes source c.args.number c.args.def.now walk comes name b c.requires.node (record { next = walk.next + 1; begun = walk.begun }) refl refl walk.next c.in_ok-_whole._whole
    (c.in_ok-_whole.ensures D d name None parts [] (sym comes.syntaxes) refl (whole-count source c.args.number c.args.def.now walk comes name b c.requires.node) refl
    (λ on. whole-there source c.args.number c.args.def.now walk comes name b c.requires.node))
