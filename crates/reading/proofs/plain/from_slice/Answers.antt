use Rattle.std.proofs.Common.{◌≡◌, ℕ, length, Ok, Err, Result, arith}
use Rattle.std.specs.Result.{MatchResult}
use Rattle.items.specs.Reads.{Outcome, got, fault, then, with}
use Rattle.trees.specs.Payloads.{v04}
use Rattle.trees.specs.Tree.{Payload}
use Rattle.reading.specs.Rows.{Counts}
use Rattle.reading.proofs.plain.from_slice.Goals as goal

-- what was handed on aside
counted : {E M : Type 0} (o : Outcome E Payload) (f : Payload → M) (m : M) (n at : ℕ) → then o (λ ts next. got (with (f ts) (length ts)) next) ≡ got (with m n) at → then o (λ ts next. got (length ts) next) ≡ got n at
counted (got ts next) f m n at e = let a : length ts ≡ n = cc in let b : next ≡ at = cc in cc
counted (fault d) f m n at e = let z : ◌≡◌ {A = ℕ} 0 1 = cc in absurd (omega arith)

answered : {M E : Type 0} (f : Payload → M) (m : M) (r : Result (ℕ × ℕ) E) (o : Outcome E Payload) → MatchResult r (λ p. then o (λ ts next. got (with (f ts) (length ts)) next) ≡ got (with m p.0) p.1) (λ e. o ≡ fault e) → Counts r o
answered f m (Ok p) o h = counted o f m p.0 p.1 h
answered f m (Err e) o h = h

pub returns : goal.returns
returns g c = answered (λ ts. tt) tt c.from_slice.result (v04 c.args.window.now) c.from_slice.ensures
