-- Who is whose parent in a trace. Assumes nothing.
use Rattle.std.specs.Prelude.{◌≡◌, ℕ, ◌<◌, ◌≤◌, ◌⊎◌, List, length, get_or, take, drop, position, Some, None, Option, ◌==◌, ◌≢◌, slice_index_or}
use Rattle.listing.specs.declared.row.SpanRow.{SpanRow}

-- no span below this place has the number
abbrev pub NoneBelow : List SpanRow → ℕ → ℕ → Type 0
NoneBelow spans id end = (k : ℕ) (d : SpanRow) → k < end → (get_or spans k d).span_id ≢ id

-- the first span with the number, or none where no span has it
abbrev pub IsFirst : List SpanRow → ℕ → Option ℕ → Type 0
IsFirst spans id None = NoneBelow spans id (length spans)
IsFirst spans id (Some i) = (i < length spans) × ((d : SpanRow) → (get_or spans i d).span_id ≡ id) × NoneBelow spans id i

-- the parent of each span is the first span that has its parent number
pub record Parents (spans : List SpanRow) (parents : List (Option ℕ)) : Type 0 where
  pub long : length parents ≡ length spans
  pub parent : (k : ℕ) (d : SpanRow) (o : Option ℕ) → k < length spans → IsFirst spans (get_or spans k d).parent_id (slice_index_or parents k o)

-- the same as a search
abbrev pub first_with : ℕ → List SpanRow → Option ℕ
first_with id spans = position (λ s. s.span_id == id) spans

-- the first answers are the parents, and those behind them are as before
pub record Found (spans : List SpanRow) (entries : ℕ) (old new : List (Option ℕ)) : Type 0 where
  pub memory : length spans ≤ entries
  pub room : length spans ≤ length old
  pub front : Parents spans (take (length spans) new)
  pub behind : drop (length spans) new ≡ drop (length spans) old

-- too few entries or answers, and nothing changed
pub record Few (spans : List SpanRow) (entries : ℕ) (old new : List (Option ℕ)) : Type 0 where
  pub few : (entries < length spans) ⊎ (length old < length spans)
  pub same : new ≡ old
