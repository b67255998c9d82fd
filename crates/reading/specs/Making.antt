-- A row that is made step by step. Assumes nothing.
use Rattle.std.specs.Borrow.{GName}
use Rattle.std.specs.Prelude.{ℤ, pos, negsuc, unwrap_or}
use Rattle.items.specs.Items.{in_range}
use Rattle.listing.specs.declared.row.SpanRow.{SpanRow}
use Rattle.trees.specs.declared.keys.SignedKey.{SignedKey}
use Rattle.trees.specs.declared.keys.SignedKey.TheVariants as signed_key
use Rattle.trees.specs.Steps.{On, entry, begin_span, on_text, on_id, on_signed, begin_pairs, on_pair, begin_links, begin_link, on_link_id, on_tracestate, on_flags, end_link, begin_events, begin_event, on_time, on_event_name, begin_attributes, on_attribute, on_value, end_attribute, end_event, end_span, end_trace}
use Rattle.trees.specs.Tree.{id, signed}
use Rattle.reading.specs.RowFields.{blank, with_field}

-- a number as a row holds it: an error that has more than 32 bits is 0
abbrev pub held : SignedKey → ℤ → ℤ
held signed_key.Start z = z
held signed_key.Duration z = z
held signed_key.Error z = unwrap_or (in_range (negsuc 2147483647) (pos 2147483647) z) (pos 0)

-- the row of the span that is being read, what was made of the whole ones, and whose it is
pub record Making (M : Type 0) : Type 0 where
  pub row : SpanRow
  pub whole : M
  pub lender : GName

-- a step goes into the row, a number with a sign as far as the row holds it
module _ {M : Type 0} (hold : SignedKey → ℤ → ℤ) (rowed : M → SpanRow → M) (ended : M → M) where
  abbrev pub made_by : Making M → On → Making M
  made_by s begin_span = record { row = blank; whole = s.whole; lender = s.lender }
  made_by s (on_id k z) = record { row = with_field s.row (id k z); whole = s.whole; lender = s.lender }
  made_by s (on_signed k z) = record { row = with_field s.row (signed k (hold k z)); whole = s.whole; lender = s.lender }
  made_by s end_span = record { row = s.row; whole = rowed s.whole s.row; lender = s.lender }
  made_by s end_trace = record { row = s.row; whole = ended s.whole; lender = s.lender }
  made_by s (entry p) = s
  made_by s (on_text k x) = s
  made_by s (begin_pairs k) = s
  made_by s (on_pair k x y) = s
  made_by s begin_links = s
  made_by s begin_link = s
  made_by s (on_link_id k z) = s
  made_by s (on_tracestate p) = s
  made_by s (on_flags z) = s
  made_by s end_link = s
  made_by s begin_events = s
  made_by s begin_event = s
  made_by s (on_time z) = s
  made_by s (on_event_name p) = s
  made_by s begin_attributes = s
  made_by s (on_attribute p) = s
  made_by s (on_value v) = s
  made_by s (end_attribute n) = s
  made_by s end_event = s

-- where it holds every number
module _ {M : Type 0} (rowed : M → SpanRow → M) (ended : M → M) where
  abbrev pub made : Making M → On → Making M
  made = made_by (λ k z. z) rowed ended
