-- What is read from a buffer and told to a receiver. Assumes nothing.
use Rattle.std.specs.Prelude.{◌≡◌, ℕ, List, length, Ok, Result, MatchResult}
use Rattle.items.specs.Reads.{Outcome, fault, Takes}
use Rattle.trees.specs.declared.receiver.Receiver.{Ghosts}
use Rattle.trees.specs.declared.telling.Telling.{Telling}
use Rattle.trees.specs.Steps.{On, tell_payload}
use Rattle.trees.specs.Tree.{Payload}

module _ {R : Type 0} (receiver : Ghosts R) where
  -- one step is told, and nothing is read
  pub record Told (step : On) (from to : Telling R) : Type 0 where
    pub told : receiver.state to.to.now ≡ receiver.act from.buf.window.now (receiver.state from.to.now) step
    pub read : to.buf ≡ from.buf
    pub lender : to.to.ghost_name ≡ from.to.ghost_name

  -- what the outcome at the buffer's place says is worked into the receiver's state by f and answered by g; after a fault place and state are open
  pub record Tells {E A V : Type 0} (f : (receiver.Meaning → On → receiver.Meaning) → receiver.Meaning → A → receiver.Meaning) (g : A → V) (r : Result V E) (from to : Telling R) (one : List ℕ → ℕ → Outcome E A) : Type 0 where
    pub takes : Takes (f (receiver.act from.buf.window.now)) g (receiver.state from.to.now) (receiver.state to.to.now) r to.buf.pos (one from.buf.window.now from.buf.pos)
    pub window : to.buf.window ≡ from.buf.window
    pub lender : to.to.ghost_name ≡ from.to.ghost_name

  -- a payload is told whole; the answer is the number of its traces, and the place behind it
  abbrev pub Loads : {E : Type 0} (window : List ℕ) → Result (ℕ × ℕ) E → (from to : R) → Outcome E Payload → Type 0
  Loads window r from to o = MatchResult r (λ p. Takes (tell_payload (receiver.act window)) length (receiver.state from) (receiver.state to) (Ok p.0) p.1 o) (λ e. o ≡ fault e)
