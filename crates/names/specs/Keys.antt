-- The fields of each kind of record. Assumes nothing.
use Rattle.std.specs.Prelude.{ℕ, cond, List, [], ◌∷◌, Some, None, Option, option_map, find}
use Rattle.names.specs.declared.table.Name.{Name}
use Rattle.names.specs.declared.table.Name.TheVariants as names
use Rattle.names.specs.declared.keys.AttributeAnyKey.{AttributeAnyKey}
use Rattle.names.specs.declared.keys.AttributeAnyKey.TheVariants as attribute
use Rattle.names.specs.declared.keys.ValuesKey.{ValuesKey}
use Rattle.names.specs.Names.{is_spelled}
use Rattle.names.specs.declared.keys.SpanKey.{SpanKey}
use Rattle.names.specs.declared.keys.SpanKey.TheVariants as span
use Rattle.names.specs.declared.keys.SpanLinkKey.{SpanLinkKey}
use Rattle.names.specs.declared.keys.SpanLinkKey.TheVariants as link
use Rattle.names.specs.declared.keys.SpanEventKey.{SpanEventKey}
use Rattle.names.specs.declared.keys.SpanEventKey.TheVariants as event
use Rattle.names.specs.declared.keys.AttributeArrayKey.{AttributeArrayKey}
use Rattle.names.specs.declared.keys.AttributeArrayKey.TheVariants as element

-- the first of these keys whose name the bytes are (shut, since it is cited at written lists)
unfoldable pub key_with : {K : Type 0} → (K → Name) → List ℕ → List K → Option K
key_with name bytes ks = find (λ k. is_spelled (name k) bytes) ks

-- the fields of a span
abbrev pub span_name : SpanKey → Name
span_name span.Service = names.Service
span_name span.Name = names.Name
span_name span.Resource = names.Resource
span_name span.TraceId = names.TraceId
span_name span.SpanId = names.SpanId
span_name span.ParentId = names.ParentId
span_name span.Start = names.Start
span_name span.Duration = names.Duration
span_name span.Error = names.Error
span_name span.Meta = names.Meta
span_name span.Metrics = names.Metrics
span_name span.Type = names.Type
span_name span.MetaStruct = names.MetaStruct
span_name span.SpanLinks = names.SpanLinks
span_name span.SpanEvents = names.SpanEvents

abbrev pub span_keys : List SpanKey
span_keys = span.Service ∷ span.Name ∷ span.Resource ∷ span.TraceId ∷ span.SpanId ∷ span.ParentId ∷ span.Start ∷ span.Duration ∷ span.Error ∷ span.Meta ∷ span.Metrics ∷ span.Type ∷ span.MetaStruct ∷ span.SpanLinks ∷ span.SpanEvents ∷ []

abbrev pub span_with : List ℕ → Option SpanKey
span_with bytes = key_with span_name bytes span_keys

-- the fields of a link
abbrev pub link_name : SpanLinkKey → Name
link_name link.TraceId = names.TraceId
link_name link.TraceIdHigh = names.TraceIdHigh
link_name link.SpanId = names.SpanId
link_name link.Attributes = names.Attributes
link_name link.Tracestate = names.Tracestate
link_name link.Flags = names.Flags

abbrev pub link_keys : List SpanLinkKey
link_keys = link.TraceId ∷ link.TraceIdHigh ∷ link.SpanId ∷ link.Attributes ∷ link.Tracestate ∷ link.Flags ∷ []

abbrev pub link_with : List ℕ → Option SpanLinkKey
link_with bytes = key_with link_name bytes link_keys

-- the fields of an event
abbrev pub event_name : SpanEventKey → Name
event_name event.TimeUnixNano = names.TimeUnixNano
event_name event.Name = names.Name
event_name event.Attributes = names.Attributes

abbrev pub event_keys : List SpanEventKey
event_keys = event.TimeUnixNano ∷ event.Name ∷ event.Attributes ∷ []

abbrev pub event_with : List ℕ → Option SpanEventKey
event_with bytes = key_with event_name bytes event_keys

-- the fields of an element of an array value
abbrev pub element_name : AttributeArrayKey → Name
element_name element.Type = names.Type
element_name element.StringValue = names.StringValue
element_name element.BoolValue = names.BoolValue
element_name element.IntValue = names.IntValue
element_name element.DoubleValue = names.DoubleValue

abbrev pub element_keys : List AttributeArrayKey
element_keys = element.Type ∷ element.StringValue ∷ element.BoolValue ∷ element.IntValue ∷ element.DoubleValue ∷ []

abbrev pub element_with : List ℕ → Option AttributeArrayKey
element_with bytes = key_with element_name bytes element_keys

-- the field of an attribute: an array, or a field of an element
abbrev pub attribute_with : List ℕ → Option AttributeAnyKey
attribute_with bytes = cond (is_spelled names.ArrayValue bytes) (Some attribute.ArrayValue) (option_map (λ k. attribute.Single k) (element_with bytes))

-- the only field of an array
abbrev pub values_with : List ℕ → Option ValuesKey
values_with bytes = cond (is_spelled names.Values bytes) (Some (record {})) None
