-- The readings of the parts of a payload: maps, attributes, links, events. Assumes nothing.
use Rattle.std.specs.Prelude.{ℕ, zero, suc, ◌+◌, cond, List, [], ◌∷◌, ℤ, pos, negsuc, Some, None, Ok, Err, Option, Result, ◌==◌}
use Rattle.items.specs.declared.fault.DecodeError.{DecodeError}
use Rattle.items.specs.declared.fault.DecodeError.TheVariants.{InvalidType, InvalidFormat}
use Rattle.items.specs.declared.fault.ItemFault.{ItemFault}
use Rattle.items.specs.declared.head.Kind.TheVariants as kind
use Rattle.items.specs.declared.item.ItemKind.{ItemKind}
use Rattle.items.specs.declared.item.ItemKind.TheVariants as item_kind
use Rattle.items.specs.declared.length.Causes.{Causes}
use Rattle.items.specs.Items.{Piece, at_item, a_length, a_text, an_integer, a_double, a_truth, null_at, all_causes, value_causes}
use Rattle.items.specs.Parts.{an_item}
use Rattle.items.specs.Reads.{Outcome, got, then, raised, times}
use Rattle.names.specs.declared.keys.AttributeAnyKey.{AttributeAnyKey}
use Rattle.names.specs.declared.keys.AttributeAnyKey.TheVariants as any_key
use Rattle.names.specs.declared.keys.AttributeArrayKey.{AttributeArrayKey}
use Rattle.names.specs.declared.keys.AttributeArrayKey.TheVariants as element_key
use Rattle.names.specs.declared.keys.SpanEventKey.{SpanEventKey}
use Rattle.names.specs.declared.keys.SpanEventKey.TheVariants as event_key
use Rattle.names.specs.declared.keys.SpanLinkKey.{SpanLinkKey}
use Rattle.names.specs.declared.keys.SpanLinkKey.TheVariants as link_key
use Rattle.names.specs.Keys.{key_with, element_name, element_keys, attribute_with, values_with, link_name, link_keys, event_name, event_keys}
use Rattle.faults.specs.declared.ArrayValueFault.{ArrayValueFault}
use Rattle.faults.specs.declared.AttributeFault.{AttributeFault}
use Rattle.faults.specs.declared.AttributeFault.TheVariants as attribute_fault
use Rattle.faults.specs.declared.EventFault.{EventFault}
use Rattle.faults.specs.declared.EventFault.TheVariants as event_fault
use Rattle.faults.specs.declared.LinkFault.{LinkFault}
use Rattle.faults.specs.Faults.{in_array_value, in_link}
use Rattle.trees.specs.declared.keys.LinkIdKey.TheVariants as link_id_key
use Rattle.trees.specs.Steps.{later, or_zero, given_in, valued_in, given_by, valued_by}
use Rattle.trees.specs.Tree.{string, truth, whole, double, ElementField, given, value, Element, element, AttributeField, plain, array, Attribute, attribute, Pair, pair, LinkField, link_id, link_attributes, tracestate, flags, EventField, time, event_attributes}
use Rattle.trees.specs.Tree as tree

-- the ranges of integers
abbrev pub u8_range : List ℕ → ℕ → Outcome ItemFault ℤ
u8_range = an_integer (pos 0) (pos 255)

abbrev pub u32_range : List ℕ → ℕ → Outcome ItemFault ℤ
u32_range = an_integer (pos 0) (pos 4294967295)

abbrev pub u64_range : List ℕ → ℕ → Outcome ItemFault ℤ
u64_range = an_integer (pos 0) (pos 18446744073709551615)

abbrev pub i32_range : List ℕ → ℕ → Outcome ItemFault ℤ
i32_range = an_integer (negsuc 2147483647) (pos 2147483647)

abbrev pub i64_range : List ℕ → ℕ → Outcome ItemFault ℤ
i64_range = an_integer (negsuc 9223372036854775807) (pos 9223372036854775807)

abbrev pub natural : ℤ → ℕ
natural (pos n) = n
natural (negsuc n) = 0

-- one reading, put into another's words
abbrev pub into : {E A B : Type 0} → (A → B) → Outcome E A → Outcome E B
into f o = then o (λ x next. got (f x) next)

-- null stands for the value given
abbrev pub nullable : {E A : Type 0} → A → (List ℕ → ℕ → Outcome E A) → List ℕ → ℕ → Outcome E A
nullable null read bytes at = cond (null_at bytes at) (got null (at + 1)) (read bytes at)

-- names: a text that is none of them is a fault at that text

abbrev pub known : {K : Type 0} → Piece → ℕ → Option K → Outcome ItemFault K
known p next None = at_item InvalidFormat p.place
known p next (Some k) = got k next

abbrev pub a_key : {K : Type 0} → (List ℕ → Option K) → List ℕ → ℕ → Outcome ItemFault K
a_key find bytes at = then (a_text bytes at) (λ p next. known p next (find p.content))

-- maps of pairs: a length, and so many pairs

abbrev pub a_map : Causes → (List ℕ → ℕ → Outcome ItemFault Pair) → List ℕ → ℕ → Outcome ItemFault (List Pair)
a_map causes one bytes at = then (a_length kind.Map causes bytes at) (λ n. times n (one bytes))

abbrev pub a_pair : ItemKind → ItemKind → List ℕ → ℕ → Outcome ItemFault Pair
a_pair k v bytes at = then (an_item k bytes at) (λ x at₁. into (λ y. pair x (Some y)) (an_item v bytes at₁))

-- text with text, where null drops the pair
abbrev pub text_text : List ℕ → ℕ → Outcome ItemFault Pair
text_text bytes at = then (an_item item_kind.Text bytes at) (λ x at₁. nullable (pair x None) (λ bs at₂. into (λ y. pair x (Some y)) (an_item item_kind.Text bs at₂)) bytes at₁)

abbrev pub texts_map : List ℕ → ℕ → Outcome ItemFault (List Pair)
texts_map = a_map (all_causes InvalidFormat) text_text

abbrev pub metrics_map : List ℕ → ℕ → Outcome ItemFault (List Pair)
metrics_map = a_map value_causes (a_pair item_kind.Text item_kind.Double)

abbrev pub parts_map : List ℕ → ℕ → Outcome ItemFault (List Pair)
parts_map = a_map value_causes (a_pair item_kind.Text item_kind.Bytes)

-- the same with indices below the number of texts in the dictionary
abbrev pub index_texts_map : ℕ → List ℕ → ℕ → Outcome ItemFault (List Pair)
index_texts_map n = a_map (all_causes InvalidFormat) (a_pair (item_kind.Index n) (item_kind.Index n))

abbrev pub index_metrics_map : ℕ → List ℕ → ℕ → Outcome ItemFault (List Pair)
index_metrics_map n = a_map value_causes (a_pair (item_kind.Index n) item_kind.Double)

-- attributes

-- a map of so many fields
abbrev pub fields_of : ℕ → List ℕ → ℕ → Outcome ItemFault Unit
fields_of m bytes at = then (a_length kind.Map (all_causes InvalidType) bytes at) (λ n next. cond (n == m) (got tt next) (at_item InvalidFormat at))

abbrev pub element_field_by : AttributeArrayKey → List ℕ → ℕ → Outcome ItemFault ElementField
element_field_by element_key.Type bytes at = into (λ z. given (natural z)) (u8_range bytes at)
element_field_by element_key.StringValue bytes at = into (λ p. value (string p)) (a_text bytes at)
element_field_by element_key.BoolValue bytes at = into (λ b. value (truth b)) (a_truth InvalidType bytes at)
element_field_by element_key.IntValue bytes at = into (λ z. value (whole z)) (i64_range bytes at)
element_field_by element_key.DoubleValue bytes at = into (λ b. value (double b)) (a_double bytes at)

abbrev pub an_element_field : List ℕ → ℕ → Outcome ItemFault ElementField
an_element_field bytes at = then (a_key (λ t. key_with element_name t element_keys) bytes at) (λ k. element_field_by k bytes)

-- the judgement of a value's type and the type that is given: both have to be there, and to agree
abbrev pub verdict : Option ℕ → Option ℕ → Result ℕ DecodeError
verdict None g = Err InvalidFormat
verdict (Some v) None = Err InvalidFormat
verdict (Some v) (Some g) = cond (g == v) (Ok v) (Err InvalidType)

-- the kind of an array's elements is that of the first
abbrev pub alike : Option ℕ → ℕ → Result ℕ DecodeError
alike None k = Ok k
alike (Some f) k = cond (k == f) (Ok k) (Err InvalidType)

abbrev pub also : Result ℕ DecodeError → (ℕ → Result ℕ DecodeError) → Result ℕ DecodeError
also (Ok k) f = f k
also (Err c) f = Err c

-- a judgement of the map at a place
abbrev pub ruled : ℕ → ℕ → Result ℕ DecodeError → Outcome ItemFault ℕ
ruled at next (Ok k) = got k next
ruled at next (Err c) = at_item c at

abbrev pub element_type : Element → ℕ
element_type (element a b) = or_zero (later (valued_in a) (valued_in b))

abbrev pub an_element : Option ℕ → List ℕ → ℕ → Outcome ArrayValueFault Element
an_element first bytes at =
    raised in_array_value
    (then (fields_of 2 bytes at) (λ _ at₁.
    then (an_element_field bytes at₁) (λ a at₂.
    then (an_element_field bytes at₂) (λ b at₃.
    into (λ _. element a b) (ruled at at₃ (also (verdict (later (valued_in a) (valued_in b)) (later (given_in a) (given_in b))) (alike first)))))))

-- so many elements, each of the first one's kind
abbrev pub elements : ℕ → List ℕ → ℕ → Outcome ArrayValueFault (List Element)
elements zero bytes at = got [] at
elements (suc n) bytes at =
    then (an_element None bytes at) (λ x at₁. into (λ xs. x ∷ xs) (times n (an_element (Some (element_type x)) bytes) at₁))

abbrev pub values_of : List ℕ → ℕ → Outcome AttributeFault (List Element)
values_of bytes at =
    then (raised attribute_fault.Own (fields_of 1 bytes at)) (λ _ at₁.
    then (raised attribute_fault.Own (a_key values_with bytes at₁)) (λ _ at₂.
    then (raised attribute_fault.Own (a_length kind.Array (all_causes InvalidType) bytes at₂)) (λ n at₃.
    raised attribute_fault.ArrayValue (elements n bytes at₃))))

abbrev pub attribute_field_by : AttributeAnyKey → List ℕ → ℕ → Outcome AttributeFault AttributeField
attribute_field_by (any_key.Single k) bytes at = raised attribute_fault.Own (into plain (element_field_by k bytes at))
attribute_field_by any_key.ArrayValue bytes at = into array (nullable [] values_of bytes at)

abbrev pub an_attribute_field : List ℕ → ℕ → Outcome AttributeFault AttributeField
an_attribute_field bytes at = then (raised attribute_fault.Own (a_key attribute_with bytes at)) (λ k. attribute_field_by k bytes)

abbrev pub attribute_value : Piece → List ℕ → ℕ → Outcome AttributeFault Attribute
attribute_value key bytes at =
    then (raised attribute_fault.Own (fields_of 2 bytes at)) (λ _ at₁.
    then (an_attribute_field bytes at₁) (λ a at₂.
    then (an_attribute_field bytes at₂) (λ b at₃.
    raised attribute_fault.Own (into (λ _. attribute key a b) (ruled at at₃ (verdict (later (valued_by a) (valued_by b)) (later (given_by a) (given_by b))))))))

-- events

abbrev pub an_attribute : List ℕ → ℕ → Outcome EventFault Attribute
an_attribute bytes at = then (raised event_fault.Own (a_text bytes at)) (λ k at₁. raised event_fault.Attribute (attribute_value k bytes at₁))

abbrev pub attributes_map : List ℕ → ℕ → Outcome EventFault (List Attribute)
attributes_map bytes at = then (raised event_fault.Own (a_length kind.Map (all_causes InvalidType) bytes at)) (λ n. times n (an_attribute bytes))

abbrev pub event_field_by : SpanEventKey → List ℕ → ℕ → Outcome EventFault EventField
event_field_by event_key.TimeUnixNano bytes at = raised event_fault.Own (into time (u64_range bytes at))
event_field_by event_key.Name bytes at = raised event_fault.Own (into tree.event_name (a_text bytes at))
event_field_by event_key.Attributes bytes at = into event_attributes (attributes_map bytes at)

abbrev pub an_event_field : List ℕ → ℕ → Outcome EventFault EventField
an_event_field bytes at = then (raised event_fault.Own (a_key (λ t. key_with event_name t event_keys) bytes at)) (λ k. event_field_by k bytes)

abbrev pub an_event : List ℕ → ℕ → Outcome EventFault (List EventField)
an_event bytes at = then (raised event_fault.Own (a_length kind.Map (all_causes InvalidType) bytes at)) (λ n. times n (an_event_field bytes))

-- links

abbrev pub link_field_by : SpanLinkKey → List ℕ → ℕ → Outcome ItemFault LinkField
link_field_by link_key.TraceId bytes at = into (link_id link_id_key.TraceId) (u64_range bytes at)
link_field_by link_key.TraceIdHigh bytes at = into (link_id link_id_key.TraceIdHigh) (u64_range bytes at)
link_field_by link_key.SpanId bytes at = into (link_id link_id_key.SpanId) (u64_range bytes at)
link_field_by link_key.Attributes bytes at = into link_attributes (texts_map bytes at)
link_field_by link_key.Tracestate bytes at = into tracestate (a_text bytes at)
link_field_by link_key.Flags bytes at = into flags (u32_range bytes at)

abbrev pub a_link_field : List ℕ → ℕ → Outcome LinkFault LinkField
a_link_field bytes at = raised in_link (then (a_key (λ t. key_with link_name t link_keys) bytes at) (λ k. link_field_by k bytes))

abbrev pub a_link : List ℕ → ℕ → Outcome LinkFault (List LinkField)
a_link bytes at = then (raised in_link (a_length kind.Map (all_causes InvalidType) bytes at)) (λ n. times n (a_link_field bytes))
