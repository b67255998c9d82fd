-- The names of fields. Assumes nothing.
use Rattle.std.specs.Prelude.{ℕ, ◌+◌, Bool, List, ◌∷◌, length, codes}
use Rattle.std.specs.Str.{bytes_eq}
use Rattle.names.specs.declared.table.Name.{Name}
use Rattle.names.specs.declared.table.Name.TheVariants as names

abbrev pub spelled : Name → List ℕ
spelled names.Service = codes "service"
spelled names.Name = codes "name"
spelled names.Resource = codes "resource"
spelled names.TraceId = codes "trace_id"
spelled names.SpanId = codes "span_id"
spelled names.ParentId = codes "parent_id"
spelled names.Start = codes "start"
spelled names.Duration = codes "duration"
spelled names.Error = codes "error"
spelled names.Meta = codes "meta"
spelled names.Metrics = codes "metrics"
spelled names.Type = codes "type"
spelled names.MetaStruct = codes "meta_struct"
spelled names.SpanLinks = codes "span_links"
spelled names.SpanEvents = codes "span_events"
spelled names.TraceIdHigh = codes "trace_id_high"
spelled names.Attributes = codes "attributes"
spelled names.Tracestate = codes "tracestate"
spelled names.Flags = codes "flags"
spelled names.TimeUnixNano = codes "time_unix_nano"
spelled names.StringValue = codes "string_value"
spelled names.BoolValue = codes "bool_value"
spelled names.IntValue = codes "int_value"
spelled names.DoubleValue = codes "double_value"
spelled names.ArrayValue = codes "array_value"
spelled names.Values = codes "values"

-- a short text: its length in the head byte
abbrev pub written_name : Name → List ℕ
written_name n = (0xA0 + length (spelled n)) ∷ spelled n

abbrev pub is_spelled : Name → List ℕ → Bool
is_spelled n bytes = bytes_eq bytes (spelled n)
