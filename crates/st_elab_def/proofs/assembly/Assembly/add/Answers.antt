use Rattle.std.proofs.Common.{Err, refl, ap, ◌∙◌}
use Rattle.std.proofs.lemmas.Result.{err_from_is_err_and}
use Rattle.st_elab_def.specs.declared.assembly.Assembly.{Assembly}
use Rattle.st_elab_def.specs.inner.Contents.{MakesContent}
use Rattle.st_elab_def.specs.inner.Walk.{standing}
use Rattle.st_elab_def.specs.inner.Whole.{Adds}
use Rattle.st_elab_def.proofs.Adds.{content-stops}
use Rattle.st_elab_def.proofs.HasCome.{made-of, ok-of}
use Rattle.st_elab_def.proofs.assembly.Assembly.add.Goals as goal

pub returns-in_err-made : goal.returns-in_err-made
returns-in_err-made c = λ before behind rest here come.
    let D = c.args.decls.now in
    let d = standing before c.args.def.now behind in
    let failed = err_from_is_err_and c.from_residual-in_err-made.result c.from_residual-in_err-made.ensures.1 in
    let new : Assembly = record { rules = c.content.new.rules; fragments = c.is_later.new.fragments; declared = c.args.self.now.declared; made = c.args.self.now.made } in
    content-stops D d c.args.number (λ done. Adds D d rest c.args.self.now new)
    c.content.result c.numbered.result c.from_residual-in_err-made.result c.in_err-made.field-0.0 here c.numbered.ensures c.in_err-made.was (failed.1 ∙ ap Err failed.2)
    (c.content.ensures.told before behind come.finds come.rules)

pub returns : goal.returns
returns c = λ before behind rest here come.
    let D = c.args.decls.now in
    let d = standing before c.args.def.now behind in
    let is = c.numbered.ensures in
    let was = c.in_ok-made.was in
    let made : MakesContent D d c.in_ok-made.made =
    made-of D d c.args.number c.content.result c.numbered.result c.in_ok-made.made is was (c.content.ensures.told before behind come.finds come.rules) in
    record {
      passes = made.passes;
      rules = ok-of c.args.number c.content.result c.numbered.result c.in_ok-made.made is was c.content.ensures.more before come.rules;
      fragments = c.in_ok-later.ensures.more before c.args.def.now refl come.fragments;
      places = c.in_ok-place.ensures D d rest (c.in_ok-later.ensures.later d refl come.fragments) here made.makes come.declared;
    }
