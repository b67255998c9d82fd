-- Traces: lists of spans with all their fields, texts as bytes, doubles as 64 bits. Assumes nothing.
use Rattle.std.specs.Prelude.{ℕ, Bool, List, ℤ}

-- a value under a key
pub record Held (V : Type 0) : Type 0 where
  pub key : List ℕ
  pub value : V

-- a single value of an attribute, or an element of an array
pub data ArrayValue : Type 0 where
  string : List ℕ → ArrayValue
  boolean : Bool → ArrayValue
  integer : ℤ → ArrayValue
  double : ℕ → ArrayValue

-- the value of an attribute
pub data AnyValue : Type 0 where
  single : ArrayValue → AnyValue
  array : List ArrayValue → AnyValue

pub record Link : Type 0 where
  pub trace_id : ℕ
  pub trace_id_high : ℕ
  pub span_id : ℕ
  pub attributes : List (Held (List ℕ))
  pub tracestate : List ℕ
  pub flags : ℕ

pub record Event : Type 0 where
  pub time_unix_nano : ℕ
  pub name : List ℕ
  pub attributes : List (Held AnyValue)

pub record Span : Type 0 where
  pub service : List ℕ
  pub name : List ℕ
  pub resource : List ℕ
  pub type : List ℕ
  pub trace_id : ℕ
  pub span_id : ℕ
  pub parent_id : ℕ
  pub start : ℤ
  pub duration : ℤ
  pub error : ℤ
  pub meta : List (Held (List ℕ))
  pub metrics : List (Held ℕ)
  pub meta_struct : List (Held (List ℕ))
  pub span_links : List Link
  pub span_events : List Event

abbrev pub Trace : Type 0
Trace = List Span
