-- The faults that the adapters over the real outside met.
use Rattle.std.specs.Prelude.{ℕ, List, map}
use Rattle.std.specs.String.{string_bytes}
use Rattle.outside_io.specs.declared.adapters.DirFiles.{DirFiles}
use Rattle.outside_io.specs.declared.adapters.WriterSink.{WriterSink}

-- the names whose reading failed; `D` and `F` are the types of an open folder and an open file
abbrev pub failed_names : {R D F : Type 0} → DirFiles R D F → List (List ℕ)
failed_names files = map (λ s. string_bytes s) files.failed.items

-- the writer of a sink
abbrev pub writer_of : {W : Type 0} → WriterSink W → W
writer_of sink = sink.writer

-- how many writes failed
abbrev pub faults_of : {W : Type 0} → WriterSink W → ℕ
faults_of sink = sink.faults
