use Rattle.std.proofs.Common.{List, [], ◌∷◌, ◌++◌, take, drop}
use Rattle.std.proofs.lemmas.Result.{on_ok_weaker}
use Rattle.st_parse_builder.specs.Variables.{Occurrence, without}
use Rattle.st_parse_builder.proofs.Leaving.{parts_back}
use Rattle.st_parse_builder.proofs.leave.leave_index.Goals as goal

pub returns : goal.returns
returns c =
    on_ok_weaker c.put_back.result
    (λ after. parts_back leaves c.args.seen.now c.take_off.new.seen c.leave_out.new.seen c.put_back.new.seen c.in_ok-bound.bound c.args.to
    c.in_ok-bound.ensures.0 c.in_ok-bound.ensures.1 c.in_ok-leave_out.ensures after)
    c.put_back.ensures
  where
    leaves : List Occurrence → List Occurrence
    leaves os = take c.args.from os ++ without (c.args.index.now ∷ []) (drop c.args.from os)
