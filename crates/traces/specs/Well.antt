-- Well-formed traces: texts are UTF-8, numbers are in range, attribute keys differ. Assumes nothing.
use Rattle.std.specs.Prelude.{◌≡◌, ℕ, ◌^◌, ◌<◌, true, false, List, [], ◌∷◌, length, ℤ, pos, negsuc}
use Rattle.std.specs.List.{AllByRecursion}
use Rattle.std.specs.Str.{bytes_eq}
use Rattle.msgpack.specs.Text.{utf8}
use Rattle.traces.specs.Traces.{Held, ArrayValue, string, boolean, integer, double, AnyValue, single, array, Link, Event, Span, Trace}

-- as many as a length of MessagePack can tell
abbrev pub Few : {A : Type 0} → List A → Type 0
Few xs = length xs < 2 ^ 32

pub record Text (t : List ℕ) : Type 0 where
  pub valid : utf8 t ≡ true
  pub short : Few t

-- integers of 64 and of 32 bits, with a sign
abbrev pub Signed64 : ℤ → Type 0
Signed64 (pos n) = n < 2 ^ 63
Signed64 (negsuc n) = n < 2 ^ 63

abbrev pub Signed32 : ℤ → Type 0
Signed32 (pos n) = n < 2 ^ 31
Signed32 (negsuc n) = n < 2 ^ 31

-- pairs

pub record TextPair (x : Held (List ℕ)) : Type 0 where
  pub key : Text x.key
  pub value : Text x.value

pub record Metric (x : Held ℕ) : Type 0 where
  pub key : Text x.key
  pub value : x.value < 2 ^ 64

pub record BytePart (x : Held (List ℕ)) : Type 0 where
  pub key : Text x.key
  pub value : Few x.value

-- no two keys are the same
abbrev pub Apart : {V : Type 0} → List (Held V) → Type 0
Apart [] = Unit {0}
Apart (x ∷ xs) = AllByRecursion (λ y. bytes_eq x.key y.key ≡ false) xs × Apart xs

-- attributes

abbrev pub kind_of : ArrayValue → ℕ
kind_of (string t) = 0
kind_of (boolean b) = 1
kind_of (integer z) = 2
kind_of (double b) = 3

abbrev pub Value : ArrayValue → Type 0
Value (string t) = Text t
Value (boolean b) = Unit {0}
Value (integer z) = Signed64 z
Value (double b) = b < 2 ^ 64

-- each of the kind of the first
abbrev pub Alike : List ArrayValue → Type 0
Alike [] = Unit {0}
Alike (v ∷ vs) = AllByRecursion (λ w. kind_of w ≡ kind_of v) vs

abbrev pub Any : AnyValue → Type 0
Any (single v) = Value v
Any (array vs) = Few vs × AllByRecursion Value vs × Alike vs

pub record Attribute (x : Held AnyValue) : Type 0 where
  pub key : Text x.key
  pub value : Any x.value

-- records

pub record WellLink (l : Link) : Type 0 where
  pub trace_id : l.trace_id < 2 ^ 64
  pub trace_id_high : l.trace_id_high < 2 ^ 64
  pub span_id : l.span_id < 2 ^ 64
  pub attributes : AllByRecursion TextPair l.attributes
  pub few : Few l.attributes
  pub apart : Apart l.attributes
  pub tracestate : Text l.tracestate
  pub flags : l.flags < 2 ^ 32

pub record WellEvent (e : Event) : Type 0 where
  pub time_unix_nano : e.time_unix_nano < 2 ^ 64
  pub name : Text e.name
  pub attributes : AllByRecursion Attribute e.attributes
  pub few : Few e.attributes
  pub apart : Apart e.attributes

pub record WellSpan (s : Span) : Type 0 where
  pub service : Text s.service
  pub name : Text s.name
  pub resource : Text s.resource
  pub type : Text s.type
  pub trace_id : s.trace_id < 2 ^ 64
  pub span_id : s.span_id < 2 ^ 64
  pub parent_id : s.parent_id < 2 ^ 64
  pub start : Signed64 s.start
  pub duration : Signed64 s.duration
  pub error : Signed32 s.error
  pub meta : AllByRecursion TextPair s.meta
  pub few_meta : Few s.meta
  pub metrics : AllByRecursion Metric s.metrics
  pub few_metrics : Few s.metrics
  pub meta_struct : AllByRecursion BytePart s.meta_struct
  pub few_meta_struct : Few s.meta_struct
  pub span_links : AllByRecursion WellLink s.span_links
  pub few_links : Few s.span_links
  pub span_events : AllByRecursion WellEvent s.span_events
  pub few_events : Few s.span_events

pub record WellTrace (t : Trace) : Type 0 where
  pub spans : AllByRecursion WellSpan t
  pub few : Few t

pub record WellFormed (ts : List Trace) : Type 0 where
  pub traces : AllByRecursion WellTrace ts
  pub few : Few ts
