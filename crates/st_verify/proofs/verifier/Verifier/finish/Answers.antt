use Rattle.std.proofs.Common.{ap}
use Rattle.st_verify.proofs.Judging.{kept_sound}
use Rattle.st_verify.proofs.verifier.Verifier.finish.Goals as goal

pub returns-in-Some-clause-sound : goal.returns-in-Some-clause-sound
returns-in-Some-clause-sound c = λ lines accepts.
    kept_sound c.args.self.now c.self.inside.il c.self.inside.notes (ap (λ v. v.il) c.self.view_is) c.self.invariant lines accepts.notes accepts.read

pub returns-in-None-clause-sound : goal.returns-in-None-clause-sound
returns-in-None-clause-sound c = λ lines accepts.
    kept_sound c.args.self.now c.self.inside.il c.self.inside.notes (ap (λ v. v.il) c.self.view_is) c.self.invariant lines accepts.notes accepts.read

pub returns-in-None-2-clause-sound : goal.returns-in-None-2-clause-sound
returns-in-None-2-clause-sound c = λ lines accepts.
    kept_sound c.args.self.now c.self.inside.il c.self.inside.notes (ap (λ v. v.il) c.self.view_is) c.self.invariant lines accepts.notes accepts.read
