-- What a sink is at a time, and what a run of bytes makes of it. Assumes nothing.
use Rattle.std.specs.Prelude.{◌≡◌, ℕ, ◌+◌, ◌<◌, List, [], ◌++◌, length, IfOk, IfErr, Result}

-- the number of the refusal for want of room
abbrev pub full_number : ℕ
full_number = 10

-- what a sink means, and how many bytes still fit
pub record State (M : Type 0) : Type 0 where
  pub meaning : M
  pub room : ℕ

-- one run and then another is both joined; no bytes move nothing
pub record Laws {M : Type 0} (moved : M → List ℕ → M) : Type 0 where
  pub joins : (m : M) (a b : List ℕ) → moved (moved m a) b ≡ moved m (a ++ b)
  pub rests : (m : M) → moved m [] ≡ m

-- a run that fits: the room falls by its length, and the meaning moves by it
pub record Moves {M : Type 0} (moved : M → List ℕ → M) (run : List ℕ) (from to : State M) : Type 0 where
  pub falls : to.room + length run ≡ from.room
  pub moves : to.meaning ≡ moved from.meaning run

-- a run that is too long for the room
pub record Over {M : Type 0} (run : List ℕ) (from : State M) : Type 0 where
  pub over : from.room < length run

-- a run that is written in one part or in many: it moves the sink, or is too long for it
pub record Sent {M V E : Type 0} (moved : M → List ℕ → M) (run : List ℕ) (from to : State M) (r : Result V E) : Type 0 where
  pub wrote : IfOk r (λ _. Moves moved run from to)
  pub full : IfErr r (λ _. Over run from)

-- one part: where it is too long, it changes nothing
pub record Put {M V E : Type 0} (moved : M → List ℕ → M) (run : List ℕ) (from to : State M) (r : Result V E) : Type 0 where
  pub sent : Sent moved run from to r
  pub kept : IfErr r (λ _. to ≡ from)
