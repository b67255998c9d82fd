-- The traces that the tables hold: each list is taken from its table. Assumes nothing.
use Rattle.std.specs.Prelude.{◌+◌, ◌≤◌, cond, List, [], ◌∷◌, map, length, take, drop, pos, ◌==◌}
use Rattle.std.specs.List.{AllByRecursion}
use Rattle.traces.specs.Entries.{Run, SpanRow, LinkRow, EventRow, Typed, Tables}
use Rattle.traces.specs.Traces.{Held, ArrayValue, integer, AnyValue, single, array, Link, Event, Span, Trace}

-- the entries of a list
abbrev pub part : {A : Type 0} → List A → Run → List A
part xs r = take r.count (drop r.first xs)

abbrev pub first_of : List ArrayValue → ArrayValue
first_of [] = integer (pos 0)
first_of (v ∷ vs) = v

-- type number 4 is an array; of any other the one value
abbrev pub resolve_attribute : Tables → Held Typed → Held AnyValue
resolve_attribute t x = record {
  key = x.key;
  value = cond (x.value.kind == 4) (array (part t.values x.value.values)) (single (first_of (part t.values x.value.values)));
}

abbrev pub resolve_link : Tables → LinkRow → Link
resolve_link t r = record {
  trace_id = r.trace_id;
  trace_id_high = r.trace_id_high;
  span_id = r.span_id;
  attributes = part t.texts r.attributes;
  tracestate = r.tracestate;
  flags = r.flags;
}

abbrev pub resolve_event : Tables → EventRow → Event
resolve_event t r = record {
  time_unix_nano = r.time_unix_nano;
  name = r.name;
  attributes = map (resolve_attribute t) (part t.attributes r.attributes);
}

abbrev pub resolve_span : Tables → SpanRow → Span
resolve_span t r = record {
  service = r.service;
  name = r.name;
  resource = r.resource;
  type = r.type;
  trace_id = r.trace_id;
  span_id = r.span_id;
  parent_id = r.parent_id;
  start = r.start;
  duration = r.duration;
  error = r.error;
  meta = part t.texts r.meta;
  metrics = part t.metrics r.metrics;
  meta_struct = part t.parts r.meta_struct;
  span_links = map (resolve_link t) (part t.links r.span_links);
  span_events = map (resolve_event t) (part t.events r.span_events);
}

abbrev pub resolve : Tables → List Trace
resolve t = map (λ r. map (resolve_span t) (part t.spans r)) t.traces

-- each list lies inside its table

abbrev pub Within : {A : Type 0} → List A → Run → Type 0
Within xs r = r.first + r.count ≤ length xs

pub record SpanWithin (t : Tables) (r : SpanRow) : Type 0 where
  pub meta : Within t.texts r.meta
  pub metrics : Within t.metrics r.metrics
  pub meta_struct : Within t.parts r.meta_struct
  pub span_links : Within t.links r.span_links
  pub span_events : Within t.events r.span_events

pub record Closed (t : Tables) : Type 0 where
  pub traces : AllByRecursion (Within t.spans) t.traces
  pub spans : AllByRecursion (SpanWithin t) t.spans
  pub links : AllByRecursion (λ r. Within t.texts r.attributes) t.links
  pub events : AllByRecursion (λ r. Within t.attributes r.attributes) t.events
  pub attributes : AllByRecursion (λ x. Within t.values x.value.values) t.attributes
