-- A run behind one that fit, where both had room. Assumes nothing.
use Rattle.std.proofs.Common.{ℕ, ◌+◌, ◌≤◌, List, ◌++◌, length, Ok, Err, Result, arith}
use Rattle.sinks.specs.Sinks.{State, Laws, Moves, Put}
use Rattle.sinks.proofs.Runs.{sent_then}

pub put_then : {M V E : Type 0} {moved : M → List ℕ → M} (laws : Laws moved) (a b : List ℕ) (s : State M) {t u : State M} (r : Result V E) → length a + length b ≤ s.room → Moves moved a s t → Put moved b t u r → Put moved (a ++ b) s u r
put_then laws a b s (Ok v) h p q = record { sent = sent_then laws p q.sent; kept = tt }
put_then laws a b s (Err e) h p q = absurd (omega (arith, h, p.falls, q.sent.full.over))
