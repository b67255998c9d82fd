-- Faults of records: where each happened, and its number. Assumes nothing.
use Rattle.std.specs.Prelude.{ℕ}
use Rattle.items.specs.declared.fault.ItemFault.{ItemFault}
use Rattle.faults.specs.declared.Record.{Record}
use Rattle.faults.specs.declared.Record.TheVariants as kind
use Rattle.faults.specs.declared.ArrayValueFault.{ArrayValueFault}
use Rattle.faults.specs.declared.AttributeFault.{AttributeFault}
use Rattle.faults.specs.declared.AttributeFault.TheVariants as attribute
use Rattle.faults.specs.declared.DictionaryFault.{DictionaryFault}
use Rattle.faults.specs.declared.EventFault.{EventFault}
use Rattle.faults.specs.declared.EventFault.TheVariants as event
use Rattle.faults.specs.declared.LinkFault.{LinkFault}
use Rattle.faults.specs.declared.PayloadFault.{PayloadFault}
use Rattle.faults.specs.declared.RecordFault.{RecordFault}
use Rattle.faults.specs.declared.SpanFault.{SpanFault}
use Rattle.faults.specs.declared.SpanFault.TheVariants as span

abbrev pub record_number : Record → ℕ
record_number kind.Payload = 0
record_number kind.Dictionary = 1
record_number kind.Span = 2
record_number kind.Link = 3
record_number kind.Event = 4
record_number kind.Attribute = 5
record_number kind.ArrayValue = 6

-- a record's own fault

abbrev pub in_array_value : ItemFault → ArrayValueFault
in_array_value e = record { 0 = e }

abbrev pub in_link : ItemFault → LinkFault
in_link e = record { 0 = e }

abbrev pub as_dictionary : ItemFault → DictionaryFault
as_dictionary e = record { 0 = e }

-- the innermost record of a fault

abbrev pub in_record : Record → ItemFault → RecordFault
in_record kind e = record { «record» = kind; item = e }

abbrev pub in_payload : ItemFault → RecordFault
in_payload e = in_record kind.Payload e

abbrev pub in_dictionary : DictionaryFault → RecordFault
in_dictionary e = in_record kind.Dictionary e.0

abbrev pub in_attribute : AttributeFault → RecordFault
in_attribute (attribute.Own e) = in_record kind.Attribute e
in_attribute (attribute.ArrayValue e) = in_record kind.ArrayValue e.0

abbrev pub in_event : EventFault → RecordFault
in_event (event.Own e) = in_record kind.Event e
in_event (event.Attribute e) = in_attribute e

abbrev pub in_span : SpanFault → RecordFault
in_span (span.Own e) = in_record kind.Span e
in_span (span.Link e) = in_record kind.Link e.0
in_span (span.Event e) = in_event e

-- with the whole traces before it, and the whole spans before it in its trace
abbrev pub counted : ℕ → ℕ → RecordFault → PayloadFault
counted traces spans e = record { fault = e; trace = traces; «span» = spans }
