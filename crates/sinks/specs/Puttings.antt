-- What a call puts into a sink of any kind. Assumes nothing.
use Rattle.std.specs.Prelude.{ℕ, List, Result}
use Rattle.sinks.specs.declared.sink.Sink.{Ghosts}
use Rattle.sinks.specs.Sinks.{Put}

-- the run is put, or does not fit and nothing changes
abbrev pub Puts : {S V E : Type 0} (sink : Ghosts S) → List ℕ → (from to : S) → Result V E → Type 0
Puts sink run from to r = Put sink.moved run (sink.state from) (sink.state to) r
