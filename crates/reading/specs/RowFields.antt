-- The row of a span: its six numbers. Assumes nothing.
use Rattle.std.specs.Prelude.{List, pos}
use Rattle.items.specs.Reads.{fold}
use Rattle.listing.specs.declared.row.SpanRow.{SpanRow}
use Rattle.trees.specs.declared.keys.IdKey.TheVariants as id_key
use Rattle.trees.specs.declared.keys.SignedKey.TheVariants as signed_key
use Rattle.trees.specs.Records.{natural}
use Rattle.trees.specs.Tree.{SpanField, text, id, signed, pairs, links, events}

-- a number that is not there is 0
abbrev pub blank : SpanRow
blank = record { trace_id = 0; span_id = 0; parent_id = 0; start = pos 0; duration = pos 0; error = pos 0 }

-- a field that comes again replaces what came before
abbrev pub with_field : SpanRow → SpanField → SpanRow
with_field r (id id_key.TraceId z) = record { trace_id = natural z; span_id = r.span_id; parent_id = r.parent_id; start = r.start; duration = r.duration; error = r.error }
with_field r (id id_key.SpanId z) = record { trace_id = r.trace_id; span_id = natural z; parent_id = r.parent_id; start = r.start; duration = r.duration; error = r.error }
with_field r (id id_key.ParentId z) = record { trace_id = r.trace_id; span_id = r.span_id; parent_id = natural z; start = r.start; duration = r.duration; error = r.error }
with_field r (signed signed_key.Start z) = record { trace_id = r.trace_id; span_id = r.span_id; parent_id = r.parent_id; start = z; duration = r.duration; error = r.error }
with_field r (signed signed_key.Duration z) = record { trace_id = r.trace_id; span_id = r.span_id; parent_id = r.parent_id; start = r.start; duration = z; error = r.error }
with_field r (signed signed_key.Error z) = record { trace_id = r.trace_id; span_id = r.span_id; parent_id = r.parent_id; start = r.start; duration = r.duration; error = z }
with_field r (text k x) = r
with_field r (pairs k ps) = r
with_field r (links ls) = r
with_field r (events es) = r

abbrev pub row_of : List SpanField → SpanRow
row_of fields = fold with_field blank fields
