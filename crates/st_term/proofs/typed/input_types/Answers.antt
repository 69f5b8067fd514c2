use Rattle.std.proofs.Common.{refl}
use Rattle.std.proofs.lemmas.Option.{slice_get_read}
use Rattle.st_semantics.specs.Directions.{inputs_by}
use Rattle.st_term.proofs.TypedValues.{next_input, all_inputs}
use Rattle.st_term.proofs.typed.input_types.Goals as goal

pub loop-number-preserved : goal.loop-number-preserved
loop-number-preserved c =
    next_input c.args.inputs.now c.args.holes.now c.loop-number.types c.push_input.new.types (inputs_by c.args.inputs.now c.args.holes.now) c.loop-number.number c.index-holes-number.result
    c.loop-number.invariant (slice_get_read c.args.holes.now _ c.loop-number.number c.index-holes-number.result refl c.loop-number-test.true c.index-holes-number.is) c.in_ok-push_input.ensures

pub returns : goal.returns
returns c =
    all_inputs c.args.inputs.now c.args.holes.now c.loop-number.types (inputs_by c.args.inputs.now c.args.holes.now) c.loop-number.number c.loop-number.invariant c.loop-number-test.false
