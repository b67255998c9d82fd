-- Payloads and what they mean, by computation. Assumes nothing.
use Rattle.std.specs.Prelude.{◌≡◌, ℕ, List, [], ◌∷◌, length, pos, negsuc}
use Rattle.items.specs.Reads.{got}
use Rattle.trees.specs.Payloads.{v04, v05}
use Rattle.trees.specs.Records.{into}
use Rattle.traces.specs.Entries.{add_payload, empty, text_bytes}
use Rattle.traces.specs.Meaning.{v04_traces, v05_traces}
use Rattle.traces.specs.Traces.{Span}

abbrev pub blank : Span
blank = record { service = []; name = []; resource = []; type = []; trace_id = 0; span_id = 0; parent_id = 0; start = pos 0; duration = pos 0; error = pos 0; meta = []; metrics = []; meta_struct = []; span_links = []; span_events = [] }

-- one span with number 7 and duration -1
abbrev pub small : List ℕ
small = 0x91 ∷ 0x91 ∷ 0x82 ∷ 0xA7 ∷ 0x73 ∷ 0x70 ∷ 0x61 ∷ 0x6E ∷ 0x5F ∷ 0x69 ∷ 0x64 ∷ 0x07 ∷ 0xA8 ∷ 0x64 ∷ 0x75 ∷ 0x72 ∷ 0x61 ∷ 0x74 ∷ 0x69 ∷ 0x6F ∷ 0x6E ∷ 0xFF ∷ []

-- the same numbers in v05, under a dictionary of one empty text
abbrev pub indexed : List ℕ
indexed = 0x92 ∷ 0x91 ∷ 0xA0 ∷ 0x91 ∷ 0x91 ∷ 0x9C ∷ 0x00 ∷ 0x00 ∷ 0x00 ∷ 0x05 ∷ 0x06 ∷ 0x07 ∷ 0x00 ∷ 0x00 ∷ 0x00 ∷ 0x80 ∷ 0x80 ∷ 0x00 ∷ []

abbrev pub MeaningExamples : Type 0
MeaningExamples =
    (into v04_traces (v04 small) ≡ got ((record { service = []; name = []; resource = []; type = []; trace_id = 0; span_id = 7; parent_id = 0; start = pos 0; duration = negsuc 0; error = pos 0; meta = []; metrics = []; meta_struct = []; span_links = []; span_events = [] } ∷ []) ∷ []) 22)
    × (into v05_traces (v05 indexed) ≡ got ((record { service = []; name = []; resource = []; type = []; trace_id = 5; span_id = 6; parent_id = 7; start = pos 0; duration = pos 0; error = pos 0; meta = []; metrics = []; meta_struct = []; span_links = []; span_events = [] } ∷ []) ∷ []) 18)
    × (into (λ p. length (add_payload [] empty p).spans) (v04 small) ≡ got 1 22)
    × (into (text_bytes []) (v04 small) ≡ got 0 22)
