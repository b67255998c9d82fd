-- The rows of a payload, handed on one by one. Assumes nothing.
use Rattle.std.specs.Prelude.{◌≡◌, ℕ, List, length, Ok, Result, MatchResult}
use Rattle.items.specs.Reads.{Outcome, got, fault, then, fold, Takes}
use Rattle.trees.specs.Tree.{SpanField, Payload}
use Rattle.reading.specs.declared.receiver.RowReceiver.{Ghosts}
use Rattle.reading.specs.RowFields.{row_of}

module _ {R : Type 0} (receiver : Ghosts R) where
  -- the rows of a trace, and its end
  abbrev pub hand_trace : receiver.Meaning → List (List SpanField) → receiver.Meaning
  hand_trace m spans = receiver.ended (fold (λ k fields. receiver.rowed k (row_of fields)) m spans)

  -- the rows of a payload are handed on; the answer is the number of its traces, and the place behind it
  abbrev pub HandsOn : {E : Type 0} → Result (ℕ × ℕ) E → (from to : R) → Outcome E Payload → Type 0
  HandsOn r from to o = MatchResult r (λ p. Takes (fold hand_trace) length (receiver.state from) (receiver.state to) (Ok p.0) p.1 o) (λ e. o ≡ fault e)

-- the answer is the number of a payload's traces, and the place behind it
abbrev pub Counts : {E : Type 0} → Result (ℕ × ℕ) E → Outcome E Payload → Type 0
Counts r o = MatchResult r (λ p. then o (λ ts next. got (length ts) next) ≡ got p.0 p.1) (λ e. o ≡ fault e)
