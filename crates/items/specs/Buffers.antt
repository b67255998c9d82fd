-- What a call sees or reads of a buffer. Assumes nothing.
use Rattle.std.specs.Prelude.{◌≡◌, ℕ, ◌≤◌, List, length, IfOk, Result}
use Rattle.items.specs.declared.behind.Behind.{Behind}
use Rattle.items.specs.declared.buffer.Buffer.{Buffer}
use Rattle.items.specs.Reads.{Outcome, Told, Gives, Says}

module _ {E A B : Type 0} where
  -- what the next item says, told by f, and the place behind it, in the window, are the outcome
  pub record Sees (f : A → B) (r : Result (Behind A) E) (from : Buffer) (one : List ℕ → ℕ → Outcome E B) : Type 0 where
    pub told : Told (λ b. f b.value) (λ b. b.next) r (one from.window.now from.pos)
    pub within : IfOk r (λ b. b.next ≤ length from.window.now)

  -- the answer, told by f, and the new place are the outcome; a fault leaves the place, and the window stays
  pub record Reads (f : A → B) (r : Result A E) (from to : Buffer) (one : List ℕ → ℕ → Outcome E B) : Type 0 where
    pub gives : Gives f r from.pos to.pos (one from.window.now from.pos)
    pub window : to.window ≡ from.window

  -- the same of what is read item by item: after a fault the place is open
  pub record ReadsOn (f : A → B) (r : Result A E) (from to : Buffer) (one : List ℕ → ℕ → Outcome E B) : Type 0 where
    pub says : Says f r to.pos (one from.window.now from.pos)
    pub window : to.window ≡ from.window
