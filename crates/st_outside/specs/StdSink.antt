-- What a sink over a writer shows.
use Rattle.std.specs.Prelude.{ℕ}
use Rattle.st_outside.specs.declared.stdout.StdSink.{StdSink}

-- the writer that a sink writes to
abbrev pub writer_of : {W : Type 0} → StdSink W → W
writer_of sink = sink.writer

-- how many writes failed
abbrev pub faults_of : {W : Type 0} → StdSink W → ℕ
faults_of sink = sink.faults
