use Rattle.std.proofs.Common.{ap}
use Rattle.st_verify.proofs.Judging.{kept_one, kept_sound}
use Rattle.st_verify.proofs.verifier.Verifier.judge.Goals as goal

pub returns-in-Some-clause-one : goal.returns-in-Some-clause-one
returns-in-Some-clause-one c = kept_one c.args.self.now c.self.inside.il c.self.inside.notes (ap (λ v. v.il) c.self.view_is) c.self.invariant c.args.line.now

pub returns-in-Some-clause-sound : goal.returns-in-Some-clause-sound
returns-in-Some-clause-sound c = kept_sound c.args.self.now c.self.inside.il c.self.inside.notes (ap (λ v. v.il) c.self.view_is) c.self.invariant

pub returns-in-None-clause-one : goal.returns-in-None-clause-one
returns-in-None-clause-one c = kept_one c.args.self.now c.self.inside.il c.self.inside.notes (ap (λ v. v.il) c.self.view_is) c.self.invariant c.args.line.now

pub returns-in-None-clause-sound : goal.returns-in-None-clause-sound
returns-in-None-clause-sound c = kept_sound c.args.self.now c.self.inside.il c.self.inside.notes (ap (λ v. v.il) c.self.view_is) c.self.invariant
