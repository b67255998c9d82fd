-- The readings of whole payloads, v04 and v05. Assumes nothing.
use Rattle.std.specs.Prelude.{ℕ, cond, List, [], ◌∷◌, length, pos, Some, None, ◌==◌}
use Rattle.items.specs.declared.fault.DecodeError.TheVariants.{InvalidType, InvalidFormat}
use Rattle.items.specs.declared.fault.ItemFault.{ItemFault}
use Rattle.items.specs.declared.head.Kind.TheVariants as kind
use Rattle.items.specs.declared.item.ItemKind.TheVariants as item_kind
use Rattle.items.specs.Items.{Piece, at_item, a_length, a_text, all_causes}
use Rattle.items.specs.Parts.{an_item}
use Rattle.items.specs.Reads.{Outcome, got, then, raised, times, numbered}
use Rattle.names.specs.declared.keys.SpanKey.{SpanKey}
use Rattle.names.specs.declared.keys.SpanKey.TheVariants as span_key
use Rattle.names.specs.Keys.{key_with, span_name, span_keys}
use Rattle.faults.specs.declared.DictionaryFault.{DictionaryFault}
use Rattle.faults.specs.declared.PayloadFault.{PayloadFault}
use Rattle.faults.specs.declared.SpanFault.{SpanFault}
use Rattle.faults.specs.declared.SpanFault.TheVariants as span_fault
use Rattle.faults.specs.Faults.{as_dictionary, in_dictionary, in_payload, in_span, counted}
use Rattle.trees.specs.declared.keys.TextKey.{TextKey}
use Rattle.trees.specs.declared.keys.TextKey.TheVariants as text_key
use Rattle.trees.specs.declared.keys.IdKey.{IdKey}
use Rattle.trees.specs.declared.keys.IdKey.TheVariants as id_key
use Rattle.trees.specs.declared.keys.SignedKey.{SignedKey}
use Rattle.trees.specs.declared.keys.SignedKey.TheVariants as signed_key
use Rattle.trees.specs.declared.keys.PairKey.TheVariants as pair_key
use Rattle.trees.specs.Records.{into, nullable, a_key, u64_range, i64_range, i32_range, texts_map, metrics_map, parts_map, index_texts_map, index_metrics_map, a_link, an_event}
use Rattle.trees.specs.Tree.{SpanField, text, id, signed, pairs, links, events, Payload, Indexed}

-- v04 spans

-- a text of a span; none for null
abbrev pub text_field : TextKey → List ℕ → ℕ → Outcome ItemFault SpanField
text_field k = nullable (text k None) (λ bytes at. into (λ x. text k (Some x)) (an_item item_kind.Text bytes at))

-- a number without a sign, and one with 64 bits and a sign; 0 for null
abbrev pub id_field : IdKey → List ℕ → ℕ → Outcome ItemFault SpanField
id_field k bytes at = into (id k) (nullable (pos 0) u64_range bytes at)

abbrev pub time_field : SignedKey → List ℕ → ℕ → Outcome ItemFault SpanField
time_field k bytes at = into (signed k) (nullable (pos 0) i64_range bytes at)

abbrev pub so_many : {E A : Type 0} → (ItemFault → SpanFault) → (E → SpanFault) → (List ℕ → ℕ → Outcome E A) → List ℕ → ℕ → Outcome SpanFault (List A)
so_many own within one bytes at = then (raised own (a_length kind.Array (all_causes InvalidType) bytes at)) (λ n at₁. raised within (times n (one bytes) at₁))

abbrev pub field_by : SpanKey → List ℕ → ℕ → Outcome SpanFault SpanField
field_by span_key.Service bytes at = raised span_fault.Own (text_field text_key.Service bytes at)
field_by span_key.Name bytes at = raised span_fault.Own (text_field text_key.Name bytes at)
field_by span_key.Resource bytes at = raised span_fault.Own (text_field text_key.Resource bytes at)
field_by span_key.Type bytes at = raised span_fault.Own (text_field text_key.Type bytes at)
field_by span_key.TraceId bytes at = raised span_fault.Own (id_field id_key.TraceId bytes at)
field_by span_key.SpanId bytes at = raised span_fault.Own (id_field id_key.SpanId bytes at)
field_by span_key.ParentId bytes at = raised span_fault.Own (id_field id_key.ParentId bytes at)
field_by span_key.Start bytes at = raised span_fault.Own (time_field signed_key.Start bytes at)
field_by span_key.Duration bytes at = raised span_fault.Own (time_field signed_key.Duration bytes at)
field_by span_key.Error bytes at = raised span_fault.Own (into (signed signed_key.Error) (nullable (pos 0) i32_range bytes at))
field_by span_key.Meta bytes at = raised span_fault.Own (into (pairs pair_key.Meta) (nullable [] texts_map bytes at))
field_by span_key.Metrics bytes at = raised span_fault.Own (into (pairs pair_key.Metrics) (nullable [] metrics_map bytes at))
field_by span_key.MetaStruct bytes at = raised span_fault.Own (into (pairs pair_key.MetaStruct) (nullable [] parts_map bytes at))
field_by span_key.SpanLinks bytes at = into links (nullable [] (so_many span_fault.Own span_fault.Link a_link) bytes at)
field_by span_key.SpanEvents bytes at = into events (nullable [] (so_many span_fault.Own span_fault.Event an_event) bytes at)

abbrev pub a_field : List ℕ → ℕ → Outcome SpanFault SpanField
a_field bytes at = then (raised span_fault.Own (a_key (λ t. key_with span_name t span_keys) bytes at)) (λ k. field_by k bytes)

abbrev pub a_span : List ℕ → ℕ → Outcome SpanFault (List SpanField)
a_span bytes at = then (raised span_fault.Own (a_length kind.Map (all_causes InvalidFormat) bytes at)) (λ n. times n (a_field bytes))

-- v05 spans: twelve elements in a fixed order, texts by their number in the dictionary of n texts

abbrev pub a_word : ℕ → TextKey → List ℕ → ℕ → Outcome ItemFault SpanField
a_word n k bytes at = into (λ x. text k (Some x)) (an_item (item_kind.Index n) bytes at)

abbrev pub an_array_of : ℕ → List ℕ → ℕ → Outcome ItemFault Unit
an_array_of m bytes at = then (a_length kind.Array (all_causes InvalidFormat) bytes at) (λ n next. cond (n == m) (got tt next) (at_item InvalidFormat at))

abbrev pub an_indexed_span : ℕ → List ℕ → ℕ → Outcome SpanFault (List SpanField)
an_indexed_span n bytes at =
    raised span_fault.Own
    (then (an_array_of 12 bytes at) (λ _ at₀.
    then (a_word n text_key.Service bytes at₀) (λ service at₁.
    then (a_word n text_key.Name bytes at₁) (λ name at₂.
    then (a_word n text_key.Resource bytes at₂) (λ resource at₃.
    then (into (id id_key.TraceId) (u64_range bytes at₃)) (λ trace at₄.
    then (into (id id_key.SpanId) (u64_range bytes at₄)) (λ span at₅.
    then (into (id id_key.ParentId) (u64_range bytes at₅)) (λ parent at₆.
    then (into (signed signed_key.Start) (i64_range bytes at₆)) (λ start at₇.
    then (into (signed signed_key.Duration) (i64_range bytes at₇)) (λ duration at₈.
    then (into (signed signed_key.Error) (i32_range bytes at₈)) (λ error at₉.
    then (into (pairs pair_key.Meta) (index_texts_map n bytes at₉)) (λ meta at₁₀.
    then (into (pairs pair_key.Metrics) (nullable [] (index_metrics_map n) bytes at₁₀)) (λ metrics at₁₁.
    into (λ type. service ∷ name ∷ resource ∷ trace ∷ span ∷ parent ∷ start ∷ duration ∷ error ∷ meta ∷ metrics ∷ type ∷ []) (a_word n text_key.Type bytes at₁₁))))))))))))))

-- traces of spans: a fault carries the number of whole traces before it, and of whole spans before it in its trace

abbrev pub a_trace : (List ℕ → ℕ → Outcome SpanFault (List SpanField)) → ℕ → List ℕ → ℕ → Outcome PayloadFault (List (List SpanField))
a_trace span t bytes at =
    then (raised (λ e. counted t 0 (in_payload e)) (a_length kind.Array (all_causes InvalidFormat) bytes at))
    (λ n. numbered n (λ s at₁. raised (λ e. counted t s (in_span e)) (span bytes at₁)) 0)

abbrev pub traces_of : (List ℕ → ℕ → Outcome SpanFault (List SpanField)) → List ℕ → ℕ → Outcome PayloadFault Payload
traces_of span bytes at =
    then (raised (λ e. counted 0 0 (in_payload e)) (a_length kind.Array (all_causes InvalidFormat) bytes at))
    (λ n. numbered n (λ t. a_trace span t bytes) 0)

-- the v04 reading of a run of bytes
abbrev pub v04 : List ℕ → Outcome PayloadFault Payload
v04 bytes = traces_of a_span bytes 0

abbrev pub a_dictionary : List ℕ → ℕ → Outcome DictionaryFault (List Piece)
a_dictionary bytes at = raised as_dictionary (then (a_length kind.Array (all_causes InvalidFormat) bytes at) (λ n. times n (a_text bytes)))

-- the v05 reading of a run of bytes
abbrev pub v05 : List ℕ → Outcome PayloadFault Indexed
v05 bytes =
    then (raised (λ e. counted 0 0 (in_payload e)) (an_array_of 2 bytes 0)) (λ _ at₁.
    then (raised (λ e. counted 0 0 (in_dictionary e)) (a_dictionary bytes at₁)) (λ d at₂.
    into (λ ts. record { dictionary = d; traces = ts }) (traces_of (an_indexed_span (length d)) bytes at₂)))
