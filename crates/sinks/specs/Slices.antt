-- Memory that is written from its start on. Assumes nothing.
use Rattle.std.proofs.Common.{sym, ap, ◌∙◌, append_assoc, append-nil, length-append, drop-drop}
use Rattle.std.specs.Prelude.{ℕ, ◌-◌, List, [], ◌++◌, length, take, drop}
use Rattle.std.specs.Borrow.{GName}
use Rattle.sinks.specs.Sinks.{State, Laws}

-- whose memory it is, the bytes written, and those behind, as they were
pub record Written : Type 0 where
  pub lender : GName
  pub front : List ℕ
  pub behind : List ℕ

-- a run stands behind what was written, in the place of as many bytes
abbrev pub wrote : Written → List ℕ → Written
wrote w run = record { lender = w.lender; front = w.front ++ run; behind = drop (length run) w.behind }

pub wrote_laws : Laws wrote
wrote_laws = record {
  joins = λ w a b i. record { lender = w.lender; front = append_assoc w.front a b i; behind = (drop-drop (length b) (length a) w.behind ∙ ap (λ n. drop n w.behind) (sym (length-append a b))) i };
  rests = λ w i. record { lender = w.lender; front = append-nil w.front i; behind = w.behind };
}

-- memory of which the first bytes are written
abbrev pub slice_state : GName → ℕ → List ℕ → State Written
slice_state lender at bytes = record { meaning = record { lender = lender; front = take at bytes; behind = drop at bytes }; room = length bytes - at }

-- memory of which none is written
abbrev pub started : GName → List ℕ → State Written
started lender bytes = record { meaning = record { lender = lender; front = []; behind = bytes }; room = length bytes }
