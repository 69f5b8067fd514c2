use Rattle.std.proofs.Common.{◌∙◌, refl, ap, ◌++◌, ◌∷◌, [], Err}
use Rattle.st_tool.proofs.Loading.{given_next, fails_next, too_long_next, nothing_given}
use Rattle.st_tool.proofs.loads.load_all.Goals as goal

pub loop-number-init : goal.loop-number-init
loop-number-init g c = record {
  same = refl;
  given = nothing_given _ _ _ _ _ c.new-given.ensures;
}

pub returns-in-Err-Failed-clause-loads : goal.returns-in-Err-Failed-clause-loads
returns-in-Err-Failed-clause-loads g c =
    fails_next _ _ _ _ _ _ _ _ _ _ c.loop-number.invariant.given c.loop-number-test.true c.index-names-number.is c.as_str.ensures
    c.load.ensures.counted _ c.in-Err-Failed.field-0-is c.in-Err-Failed.ensures.marks

pub returns-in-Err-TooLong-clause-loads : goal.returns-in-Err-TooLong-clause-loads
returns-in-Err-TooLong-clause-loads g c =
    too_long_next _ _ _ _ _ _ _ _ _ _ _ c.loop-number.invariant.given c.loop-number-test.true c.index-names-number.is c.as_str.ensures
    c.loop-number.invariant.same (c.in-Err-TooLong.ensures.long (ap Err c.in-Err-TooLong.field-0-is)) c.load.ensures.counted _ c.in-Err-TooLong.field-0-is c.in-Err-TooLong.ensures.marks

pub loop-number-preserved : goal.loop-number-preserved
loop-number-preserved g c = record {
  same = c.load.ensures.same ∙ c.loop-number.invariant.same;
  given = given_next _ _ _ _ _ _ _ _ _ _ _ _ _ c.loop-number.invariant.given c.loop-number-test.true c.index-names-number.is c.as_str.ensures
      c.loop-number.invariant.same c.in-Ok.ensures.short c.in-Ok.ensures.bytes c.load.ensures.counted c.in-Ok.ensures.marks
      (c.in_ok-push-in-Ok.ensures.ok ∙ ap (λ b. c.loop-number.given ++ b ∷ []) c.from_vec.ensures);
}
