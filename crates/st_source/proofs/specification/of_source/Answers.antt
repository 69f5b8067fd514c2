use Rattle.std.proofs.Common.{subst, sym}
use Rattle.std.specs.Prelude.{IfOk}
use Rattle.st_elab_def.specs.Answers.{Answers, HasTemplates}
use Rattle.st_elab_def.specs.Elaboration.{IsElaborated}
use Rattle.st_elab_def.specs.Erasing.{ErasesTo}
use Rattle.st_elab_def.specs.Sources.{RepeatNoOtherwise}
use Rattle.st_elab_def.specs.declared.elaborated.Elaborated.{Elaborated}
use Rattle.st_ilcheck.specs.Typed.{Typed}
use Rattle.st_source.proofs.specification.of_source.Goals as goal

pub with_modes-requires : goal.with_modes-requires
with_modes-requires c =
    let same = c.as_slice.ensures in
    let templates = subst HasTemplates (sym same) c.requires.templates in
    let repeats = subst RepeatNoOtherwise (sym same) c.requires.repeats in
    record {
      elaborated = subst (λ ds. IsElaborated ds c.in-Ok.elaborated) same (subst (Answers c.as_slice.result.now) c.in-Ok.is c.elaborate.ensures.answers);
      erased = subst (λ ds. ErasesTo ds c.in-Ok.elaborated) same (subst (λ r. IfOk r (ErasesTo c.as_slice.result.now)) c.in-Ok.is (c.elaborate.ensures.erased templates));
      typed = subst (λ r. IfOk r (λ (e : Elaborated). Typed e.il)) c.in-Ok.is (c.elaborate.ensures.typed templates repeats);
      begin = c.requires.begin;
    }
