-- The entries that a payload makes in tables 1 to 9, and the text bytes that it stores. Assumes nothing.
use Rattle.std.specs.Prelude.{ℕ, zero, suc, ◌+◌, List, [], ◌∷◌, ◌++◌, length, ℤ, pos, Some, None, Option}
use Rattle.items.specs.Items.{Piece}
use Rattle.items.specs.Parts.{Shown, text, bytes, index, double}
use Rattle.items.specs.Reads.{fold}
use Rattle.trees.specs.declared.keys.TextKey.TheVariants as text_key
use Rattle.trees.specs.declared.keys.IdKey.TheVariants as id_key
use Rattle.trees.specs.declared.keys.SignedKey.TheVariants as signed_key
use Rattle.trees.specs.declared.keys.PairKey.{PairKey}
use Rattle.trees.specs.declared.keys.PairKey.TheVariants as pair_key
use Rattle.trees.specs.declared.keys.LinkIdKey.TheVariants as link_id_key
use Rattle.trees.specs.Records.{natural}
use Rattle.trees.specs.Steps.{later, valued_by, or_zero}
use Rattle.trees.specs.Tree as tree
use Rattle.trees.specs.Tree.{Single, ElementField, Element, element, AttributeField, Attribute, attribute, Pair, pair, LinkField, EventField, SpanField, Payload}
use Rattle.traces.specs.Traces.{Held, ArrayValue}
use Rattle.traces.specs.Traces as the
use Rattle.traces.specs.Meaning.{latest, keyed, no_piece, said_if, text_pairs, metric_pairs, single_of, text_at, id_at, signed_at, pairs_at, links_at, events_at, link_id_at, link_attributes_at, tracestate_at, flags_at, time_at, event_name_at, event_attributes_at}

-- a list as its first entry and its count; 0 and 0 if it is empty
pub record Run : Type 0 where
  pub first : ℕ
  pub count : ℕ

abbrev pub run : ℕ → ℕ → Run
run first zero = record { first = 0; count = 0 }
run first (suc n) = record { first = first; count = suc n }

pub record SpanRow : Type 0 where
  pub service : List ℕ
  pub name : List ℕ
  pub resource : List ℕ
  pub type : List ℕ
  pub trace_id : ℕ
  pub span_id : ℕ
  pub parent_id : ℕ
  pub start : ℤ
  pub duration : ℤ
  pub error : ℤ
  pub meta : Run
  pub metrics : Run
  pub meta_struct : Run
  pub span_links : Run
  pub span_events : Run

pub record LinkRow : Type 0 where
  pub trace_id : ℕ
  pub trace_id_high : ℕ
  pub span_id : ℕ
  pub attributes : Run
  pub tracestate : List ℕ
  pub flags : ℕ

pub record EventRow : Type 0 where
  pub time_unix_nano : ℕ
  pub name : List ℕ
  pub attributes : Run

-- an attribute's type number and its values; the key stands beside them
pub record Typed : Type 0 where
  pub kind : ℕ
  pub values : Run

-- tables 1 to 9
pub record Tables : Type 0 where
  pub traces : List Run
  pub spans : List SpanRow
  pub texts : List (Held (List ℕ))
  pub metrics : List (Held ℕ)
  pub parts : List (Held (List ℕ))
  pub links : List LinkRow
  pub events : List EventRow
  pub attributes : List (Held Typed)
  pub values : List ArrayValue

abbrev pub empty : Tables
empty = record { traces = []; spans = []; texts = []; metrics = []; parts = []; links = []; events = []; attributes = []; values = [] }

-- more entries behind those of a table

abbrev pub more_traces : Tables → List Run → Tables
more_traces t xs = record { traces = t.traces ++ xs; spans = t.spans; texts = t.texts; metrics = t.metrics; parts = t.parts; links = t.links; events = t.events; attributes = t.attributes; values = t.values }

abbrev pub more_spans : Tables → List SpanRow → Tables
more_spans t xs = record { traces = t.traces; spans = t.spans ++ xs; texts = t.texts; metrics = t.metrics; parts = t.parts; links = t.links; events = t.events; attributes = t.attributes; values = t.values }

abbrev pub more_texts : Tables → List (Held (List ℕ)) → Tables
more_texts t xs = record { traces = t.traces; spans = t.spans; texts = t.texts ++ xs; metrics = t.metrics; parts = t.parts; links = t.links; events = t.events; attributes = t.attributes; values = t.values }

abbrev pub more_metrics : Tables → List (Held ℕ) → Tables
more_metrics t xs = record { traces = t.traces; spans = t.spans; texts = t.texts; metrics = t.metrics ++ xs; parts = t.parts; links = t.links; events = t.events; attributes = t.attributes; values = t.values }

abbrev pub more_parts : Tables → List (Held (List ℕ)) → Tables
more_parts t xs = record { traces = t.traces; spans = t.spans; texts = t.texts; metrics = t.metrics; parts = t.parts ++ xs; links = t.links; events = t.events; attributes = t.attributes; values = t.values }

abbrev pub more_links : Tables → List LinkRow → Tables
more_links t xs = record { traces = t.traces; spans = t.spans; texts = t.texts; metrics = t.metrics; parts = t.parts; links = t.links ++ xs; events = t.events; attributes = t.attributes; values = t.values }

abbrev pub more_events : Tables → List EventRow → Tables
more_events t xs = record { traces = t.traces; spans = t.spans; texts = t.texts; metrics = t.metrics; parts = t.parts; links = t.links; events = t.events ++ xs; attributes = t.attributes; values = t.values }

abbrev pub more_attributes : Tables → List (Held Typed) → List ArrayValue → Tables
more_attributes t xs vs = record { traces = t.traces; spans = t.spans; texts = t.texts; metrics = t.metrics; parts = t.parts; links = t.links; events = t.events; attributes = t.attributes ++ xs; values = t.values ++ vs }

abbrev pub each : {A B : Type 0} → (A → List B) → List A → List B
each f [] = []
each f (x ∷ xs) = f x ++ each f xs

-- of a repeated list the last counts; it starts where its table ended when the field came
abbrev pub if_counted : ℕ → Option ℕ → Run → Run
if_counted first None r = r
if_counted first (Some n) r = run first n

abbrev pub last_run : {F : Type 0} → (Tables → F → Tables) → (Tables → ℕ) → (F → Option ℕ) → Tables → List F → Run → Run
last_run add filled count t [] r = r
last_run add filled count t (f ∷ fs) r = last_run add filled count (add t f) fs (if_counted (filled t) (count f) r)

abbrev pub counted : {A B : Type 0} → (A → List B) → Option A → Option ℕ
counted f None = None
counted f (Some x) = Some (length (f x))

-- links: their attributes are text pairs with keys

abbrev pub link_texts : List Pair → List (Held (List ℕ))
link_texts ps = keyed (text_pairs [] ps)

abbrev pub add_link_field : Tables → LinkField → Tables
add_link_field t (tree.link_id k z) = t
add_link_field t (tree.link_attributes ps) = more_texts t (link_texts ps)
add_link_field t (tree.tracestate p) = t
add_link_field t (tree.flags z) = t

abbrev pub link_row : Tables → List LinkField → LinkRow
link_row t fs = record {
  trace_id = natural (latest (link_id_at link_id_key.TraceId) (pos 0) fs);
  trace_id_high = natural (latest (link_id_at link_id_key.TraceIdHigh) (pos 0) fs);
  span_id = natural (latest (link_id_at link_id_key.SpanId) (pos 0) fs);
  attributes = last_run add_link_field (λ s. length s.texts) (λ f. counted link_texts (link_attributes_at f)) t fs (run 0 0);
  tracestate = (latest tracestate_at no_piece fs).content;
  flags = natural (latest flags_at (pos 0) fs);
}

abbrev pub add_link : Tables → List LinkField → Tables
add_link t fs = more_links (fold add_link_field t fs) (link_row t fs ∷ [])

-- events: values of attributes are all entries, a known key's new values among them

abbrev pub field_values : ElementField → List ArrayValue
field_values (tree.given n) = []
field_values (tree.value v) = single_of v ∷ []

abbrev pub element_values : Element → List ArrayValue
element_values (element a b) = field_values a ++ field_values b

abbrev pub values_by : AttributeField → List ArrayValue
values_by (tree.plain f) = field_values f
values_by (tree.array es) = each element_values es

abbrev pub attribute_values : Attribute → List ArrayValue
attribute_values (attribute k a b) = values_by a ++ values_by b

abbrev pub attribute_row : ℕ → Attribute → Held Typed
attribute_row first (attribute k a b) = record {
  key = k.content;
  value = record { kind = or_zero (later (valued_by a) (valued_by b)); values = run first (length (values_by a ++ values_by b)) };
}

abbrev pub attribute_rows : ℕ → List Attribute → List (Held Typed)
attribute_rows first [] = []
attribute_rows first (x ∷ xs) = attribute_row first x ∷ attribute_rows (first + length (attribute_values x)) xs

abbrev pub event_rows : Tables → List Attribute → List (Held Typed)
event_rows t xs = keyed (attribute_rows (length t.values) xs)

abbrev pub add_event_field : Tables → EventField → Tables
add_event_field t (tree.time z) = t
add_event_field t (tree.event_name p) = t
add_event_field t (tree.event_attributes xs) = more_attributes t (event_rows t xs) (each attribute_values xs)

abbrev pub event_row : Tables → List EventField → EventRow
event_row t fs = record {
  time_unix_nano = natural (latest time_at (pos 0) fs);
  name = (latest event_name_at no_piece fs).content;
  attributes = last_run add_event_field (λ s. length s.attributes) (λ f. counted (λ xs. keyed (attribute_rows 0 xs)) (event_attributes_at f)) t fs (run 0 0);
}

abbrev pub add_event : Tables → List EventField → Tables
add_event t fs = more_events (fold add_event_field t fs) (event_row t fs ∷ [])

-- spans

abbrev pub add_pairs : List Piece → PairKey → Tables → List Pair → Tables
add_pairs words pair_key.Meta t ps = more_texts t (text_pairs words ps)
add_pairs words pair_key.Metrics t ps = more_metrics t (metric_pairs words ps)
add_pairs words pair_key.MetaStruct t ps = more_parts t (text_pairs words ps)
add_pairs words pair_key.LinkAttributes t ps = t

abbrev pub add_field : List Piece → Tables → SpanField → Tables
add_field words t (tree.text k o) = t
add_field words t (tree.id k z) = t
add_field words t (tree.signed k z) = t
add_field words t (tree.pairs k ps) = add_pairs words k t ps
add_field words t (tree.links ls) = fold add_link t ls
add_field words t (tree.events es) = fold add_event t es

abbrev pub span_row : List Piece → Tables → List SpanField → SpanRow
span_row words t fs = record {
  service = said_if words (latest (text_at text_key.Service) None fs);
  name = said_if words (latest (text_at text_key.Name) None fs);
  resource = said_if words (latest (text_at text_key.Resource) None fs);
  type = said_if words (latest (text_at text_key.Type) None fs);
  trace_id = natural (latest (id_at id_key.TraceId) (pos 0) fs);
  span_id = natural (latest (id_at id_key.SpanId) (pos 0) fs);
  parent_id = natural (latest (id_at id_key.ParentId) (pos 0) fs);
  start = latest (signed_at signed_key.Start) (pos 0) fs;
  duration = latest (signed_at signed_key.Duration) (pos 0) fs;
  error = latest (signed_at signed_key.Error) (pos 0) fs;
  meta = last_run (add_field words) (λ s. length s.texts) (λ f. counted (text_pairs words) (pairs_at pair_key.Meta f)) t fs (run 0 0);
  metrics = last_run (add_field words) (λ s. length s.metrics) (λ f. counted (metric_pairs words) (pairs_at pair_key.Metrics f)) t fs (run 0 0);
  meta_struct = last_run (add_field words) (λ s. length s.parts) (λ f. counted (text_pairs words) (pairs_at pair_key.MetaStruct f)) t fs (run 0 0);
  span_links = last_run (add_field words) (λ s. length s.links) (λ f. counted (λ ls. ls) (links_at f)) t fs (run 0 0);
  span_events = last_run (add_field words) (λ s. length s.events) (λ f. counted (λ es. es) (events_at f)) t fs (run 0 0);
}

abbrev pub add_span : List Piece → Tables → List SpanField → Tables
add_span words t fs = more_spans (fold (add_field words) t fs) (span_row words t fs ∷ [])

abbrev pub add_trace : List Piece → Tables → List (List SpanField) → Tables
add_trace words t ss = more_traces (fold (add_span words) t ss) (run (length t.spans) (length ss) ∷ [])

-- the tables after a payload
abbrev pub add_payload : List Piece → Tables → Payload → Tables
add_payload words t ts = fold (add_trace words) t ts

-- text bytes: every text and byte part as often as it is stored, an index none

abbrev pub size : Shown → ℕ
size (text p) = length p.content
size (bytes p) = length p.content
size (index z) = 0
size (double b) = 0

abbrev pub size_if : Option Shown → ℕ
size_if None = 0
size_if (Some x) = size x

abbrev pub total : {A : Type 0} → (A → ℕ) → List A → ℕ
total f [] = 0
total f (x ∷ xs) = f x + total f xs

abbrev pub piece_size : Piece → ℕ
piece_size p = length p.content

abbrev pub key_size : {V : Type 0} → Held V → ℕ
key_size x = length x.key

abbrev pub pair_size : Pair → ℕ
pair_size (pair k None) = 0
pair_size (pair k (Some v)) = size k + size v

-- with keys, a known key is not stored again, and its new value is
abbrev pub value_size : Pair → ℕ
value_size (pair k None) = 0
value_size (pair k (Some v)) = size v

abbrev pub link_field_size : LinkField → ℕ
link_field_size (tree.link_id k z) = 0
link_field_size (tree.link_attributes ps) = total key_size (link_texts ps) + total value_size ps
link_field_size (tree.tracestate p) = piece_size p
link_field_size (tree.flags z) = 0

abbrev pub single_size : ArrayValue → ℕ
single_size (the.string t) = length t
single_size (the.boolean b) = 0
single_size (the.integer z) = 0
single_size (the.double b) = 0

abbrev pub event_field_size : EventField → ℕ
event_field_size (tree.time z) = 0
event_field_size (tree.event_name p) = piece_size p
event_field_size (tree.event_attributes xs) = total key_size (keyed (attribute_rows 0 xs)) + total single_size (each attribute_values xs)

abbrev pub field_size : SpanField → ℕ
field_size (tree.text k o) = size_if o
field_size (tree.id k z) = 0
field_size (tree.signed k z) = 0
field_size (tree.pairs k ps) = total pair_size ps
field_size (tree.links ls) = total (total link_field_size) ls
field_size (tree.events es) = total (total event_field_size) es

-- of a payload with a dictionary, each text of that once
abbrev pub text_bytes : List Piece → Payload → ℕ
text_bytes words ts = total piece_size words + total (total (total field_size)) ts
