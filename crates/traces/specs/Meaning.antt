-- The traces that a syntax tree means. Assumes nothing.
use Rattle.std.specs.Prelude.{ℕ, Bool, true, false, cond, List, [], ◌∷◌, map, ℤ, pos, Some, None, Option, ◌==◌, slice_index_or}
use Rattle.std.specs.Str.{bytes_eq}
use Rattle.items.specs.Items.{Piece}
use Rattle.items.specs.Parts.{Shown, text, bytes, index, double}
use Rattle.items.specs.Reads.{fold}
use Rattle.trees.specs.declared.keys.TextKey.{TextKey}
use Rattle.trees.specs.declared.keys.TextKey.TheVariants as text_key
use Rattle.trees.specs.declared.keys.IdKey.{IdKey}
use Rattle.trees.specs.declared.keys.IdKey.TheVariants as id_key
use Rattle.trees.specs.declared.keys.SignedKey.{SignedKey}
use Rattle.trees.specs.declared.keys.SignedKey.TheVariants as signed_key
use Rattle.trees.specs.declared.keys.PairKey.{PairKey}
use Rattle.trees.specs.declared.keys.PairKey.TheVariants as pair_key
use Rattle.trees.specs.declared.keys.LinkIdKey.{LinkIdKey}
use Rattle.trees.specs.declared.keys.LinkIdKey.TheVariants as link_id_key
use Rattle.trees.specs.Records.{natural}
use Rattle.trees.specs.Steps.{later}
use Rattle.trees.specs.Tree as tree
use Rattle.trees.specs.Tree.{Single, ElementField, Element, element, AttributeField, Attribute, attribute, Pair, pair, LinkField, EventField, SpanField, Payload, Indexed}
use Rattle.traces.specs.Traces.{Held, ArrayValue, AnyValue, Link, Event, Span, Trace}
use Rattle.traces.specs.Traces as the

-- the last of the fields that the choice takes; the value given where it takes none

abbrev pub given_or : {A : Type 0} → Option A → A → A
given_or None z = z
given_or (Some x) z = x

abbrev pub latest : {F A : Type 0} → (F → Option A) → A → List F → A
latest pick z [] = z
latest pick z (f ∷ fs) = latest pick (given_or (pick f) z) fs

-- lists with keys: a known key takes the new value and keeps its place

abbrev pub put : {V : Type 0} → List (Held V) → Held V → List (Held V)
put [] x = x ∷ []
put (y ∷ ys) x = cond (bytes_eq y.key x.key) (record { key = y.key; value = x.value } ∷ ys) (y ∷ put ys x)

abbrev pub keyed : {V : Type 0} → List (Held V) → List (Held V)
keyed xs = fold put [] xs

-- what an item says, an index by the dictionary

abbrev pub no_piece : Piece
no_piece = record { content = []; place = 0; start = 0 }

abbrev pub said : List Piece → Shown → List ℕ
said words (text p) = p.content
said words (bytes p) = p.content
said words (index z) = (slice_index_or words (natural z) no_piece).content
said words (double b) = []

abbrev pub bits : Shown → ℕ
bits (text p) = 0
bits (bytes p) = 0
bits (index z) = 0
bits (double b) = b

-- none is empty
abbrev pub said_if : List Piece → Option Shown → List ℕ
said_if words None = []
said_if words (Some x) = said words x

-- pairs in order of arrival; one whose value is null is dropped
abbrev pub pairs_by : {V : Type 0} → List Piece → (Shown → V) → List Pair → List (Held V)
pairs_by words value [] = []
pairs_by words value (pair k None ∷ ps) = pairs_by words value ps
pairs_by words value (pair k (Some v) ∷ ps) = record { key = said words k; value = value v } ∷ pairs_by words value ps

abbrev pub text_pairs : List Piece → List Pair → List (Held (List ℕ))
text_pairs words ps = pairs_by words (said words) ps

abbrev pub metric_pairs : List Piece → List Pair → List (Held ℕ)
metric_pairs words ps = pairs_by words bits ps

-- attributes

abbrev pub single_of : Single → ArrayValue
single_of (tree.string p) = the.string p.content
single_of (tree.truth b) = the.boolean b
single_of (tree.whole z) = the.integer z
single_of (tree.double b) = the.double b

abbrev pub value_in : ElementField → Option ArrayValue
value_in (tree.given n) = None
value_in (tree.value v) = Some (single_of v)

-- of an accepted element one field is the value
abbrev pub element_of : Element → ArrayValue
element_of (element a b) = given_or (later (value_in a) (value_in b)) (the.integer (pos 0))

abbrev pub some_single : Option ArrayValue → Option AnyValue
some_single None = None
some_single (Some v) = Some (the.single v)

abbrev pub value_by : AttributeField → Option AnyValue
value_by (tree.plain f) = some_single (value_in f)
value_by (tree.array es) = Some (the.array (map element_of es))

abbrev pub attribute_of : Attribute → Held AnyValue
attribute_of (attribute k a b) = record { key = k.content; value = given_or (later (value_by a) (value_by b)) (the.array []) }

-- the value of a field, if it is the field asked for

abbrev pub if : {A : Type 0} → Bool → A → Option A
if true x = Some x
if false x = None

abbrev pub text_number : TextKey → ℕ
text_number text_key.Service = 0
text_number text_key.Name = 1
text_number text_key.Resource = 2
text_number text_key.Type = 3

abbrev pub id_number : IdKey → ℕ
id_number id_key.TraceId = 0
id_number id_key.SpanId = 1
id_number id_key.ParentId = 2

abbrev pub signed_number : SignedKey → ℕ
signed_number signed_key.Start = 0
signed_number signed_key.Duration = 1
signed_number signed_key.Error = 2

abbrev pub pair_number : PairKey → ℕ
pair_number pair_key.Meta = 0
pair_number pair_key.Metrics = 1
pair_number pair_key.MetaStruct = 2
pair_number pair_key.LinkAttributes = 3

abbrev pub link_id_number : LinkIdKey → ℕ
link_id_number link_id_key.TraceId = 0
link_id_number link_id_key.TraceIdHigh = 1
link_id_number link_id_key.SpanId = 2

abbrev pub text_at : TextKey → SpanField → Option (Option Shown)
text_at k (tree.text j o) = if (text_number j == text_number k) o
text_at k (tree.id j z) = None
text_at k (tree.signed j z) = None
text_at k (tree.pairs j ps) = None
text_at k (tree.links ls) = None
text_at k (tree.events es) = None

abbrev pub id_at : IdKey → SpanField → Option ℤ
id_at k (tree.text j o) = None
id_at k (tree.id j z) = if (id_number j == id_number k) z
id_at k (tree.signed j z) = None
id_at k (tree.pairs j ps) = None
id_at k (tree.links ls) = None
id_at k (tree.events es) = None

abbrev pub signed_at : SignedKey → SpanField → Option ℤ
signed_at k (tree.text j o) = None
signed_at k (tree.id j z) = None
signed_at k (tree.signed j z) = if (signed_number j == signed_number k) z
signed_at k (tree.pairs j ps) = None
signed_at k (tree.links ls) = None
signed_at k (tree.events es) = None

abbrev pub pairs_at : PairKey → SpanField → Option (List Pair)
pairs_at k (tree.text j o) = None
pairs_at k (tree.id j z) = None
pairs_at k (tree.signed j z) = None
pairs_at k (tree.pairs j ps) = if (pair_number j == pair_number k) ps
pairs_at k (tree.links ls) = None
pairs_at k (tree.events es) = None

abbrev pub links_at : SpanField → Option (List (List LinkField))
links_at (tree.text j o) = None
links_at (tree.id j z) = None
links_at (tree.signed j z) = None
links_at (tree.pairs j ps) = None
links_at (tree.links ls) = Some ls
links_at (tree.events es) = None

abbrev pub events_at : SpanField → Option (List (List EventField))
events_at (tree.text j o) = None
events_at (tree.id j z) = None
events_at (tree.signed j z) = None
events_at (tree.pairs j ps) = None
events_at (tree.links ls) = None
events_at (tree.events es) = Some es

abbrev pub link_id_at : LinkIdKey → LinkField → Option ℤ
link_id_at k (tree.link_id j z) = if (link_id_number j == link_id_number k) z
link_id_at k (tree.link_attributes ps) = None
link_id_at k (tree.tracestate p) = None
link_id_at k (tree.flags z) = None

abbrev pub link_attributes_at : LinkField → Option (List Pair)
link_attributes_at (tree.link_id j z) = None
link_attributes_at (tree.link_attributes ps) = Some ps
link_attributes_at (tree.tracestate p) = None
link_attributes_at (tree.flags z) = None

abbrev pub tracestate_at : LinkField → Option Piece
tracestate_at (tree.link_id j z) = None
tracestate_at (tree.link_attributes ps) = None
tracestate_at (tree.tracestate p) = Some p
tracestate_at (tree.flags z) = None

abbrev pub flags_at : LinkField → Option ℤ
flags_at (tree.link_id j z) = None
flags_at (tree.link_attributes ps) = None
flags_at (tree.tracestate p) = None
flags_at (tree.flags z) = Some z

abbrev pub time_at : EventField → Option ℤ
time_at (tree.time z) = Some z
time_at (tree.event_name p) = None
time_at (tree.event_attributes xs) = None

abbrev pub event_name_at : EventField → Option Piece
event_name_at (tree.time z) = None
event_name_at (tree.event_name p) = Some p
event_name_at (tree.event_attributes xs) = None

abbrev pub event_attributes_at : EventField → Option (List Attribute)
event_attributes_at (tree.time z) = None
event_attributes_at (tree.event_name p) = None
event_attributes_at (tree.event_attributes xs) = Some xs

-- records: of a repeated field the last counts; absent ones are empty or 0

abbrev pub link_of : List LinkField → Link
link_of fs = record {
  trace_id = natural (latest (link_id_at link_id_key.TraceId) (pos 0) fs);
  trace_id_high = natural (latest (link_id_at link_id_key.TraceIdHigh) (pos 0) fs);
  span_id = natural (latest (link_id_at link_id_key.SpanId) (pos 0) fs);
  attributes = keyed (text_pairs [] (latest link_attributes_at [] fs));
  tracestate = (latest tracestate_at no_piece fs).content;
  flags = natural (latest flags_at (pos 0) fs);
}

abbrev pub event_of : List EventField → Event
event_of fs = record {
  time_unix_nano = natural (latest time_at (pos 0) fs);
  name = (latest event_name_at no_piece fs).content;
  attributes = keyed (map attribute_of (latest event_attributes_at [] fs));
}

abbrev pub span_of : List Piece → List SpanField → Span
span_of words fs = record {
  service = said_if words (latest (text_at text_key.Service) None fs);
  name = said_if words (latest (text_at text_key.Name) None fs);
  resource = said_if words (latest (text_at text_key.Resource) None fs);
  type = said_if words (latest (text_at text_key.Type) None fs);
  trace_id = natural (latest (id_at id_key.TraceId) (pos 0) fs);
  span_id = natural (latest (id_at id_key.SpanId) (pos 0) fs);
  parent_id = natural (latest (id_at id_key.ParentId) (pos 0) fs);
  start = latest (signed_at signed_key.Start) (pos 0) fs;
  duration = latest (signed_at signed_key.Duration) (pos 0) fs;
  error = latest (signed_at signed_key.Error) (pos 0) fs;
  meta = text_pairs words (latest (pairs_at pair_key.Meta) [] fs);
  metrics = metric_pairs words (latest (pairs_at pair_key.Metrics) [] fs);
  meta_struct = text_pairs words (latest (pairs_at pair_key.MetaStruct) [] fs);
  span_links = map link_of (latest links_at [] fs);
  span_events = map event_of (latest events_at [] fs);
}

abbrev pub traces_of : List Piece → Payload → List Trace
traces_of words ts = map (map (span_of words)) ts

-- the traces of a v04 payload, and of a v05 one
abbrev pub v04_traces : Payload → List Trace
v04_traces p = traces_of [] p

abbrev pub v05_traces : Indexed → List Trace
v05_traces p = traces_of p.dictionary p.traces
