-- A count of bytes. Assumes nothing.
use Rattle.std.proofs.Common.{sym, ap, ◌∙◌, add_assoc, add-zero, length-append}
use Rattle.std.specs.Prelude.{ℕ, ◌+◌, ◌-◌, List, length}
use Rattle.sinks.specs.Sinks.{State, Laws}

-- a run adds its length
abbrev pub counted : ℕ → List ℕ → ℕ
counted n run = n + length run

pub counted_laws : Laws counted
counted_laws = record {
  joins = λ n a b. add_assoc n (length a) (length b) ∙ ap (λ k. n + k) (sym (length-append a b));
  rests = λ n. add-zero n;
}

-- a count of 32 bits
abbrev pub count_state : ℕ → State ℕ
count_state n = record { meaning = n; room = 4294967295 - n }
