-- How a tree is told, step by step, to what receives it. Assumes nothing.
use Rattle.std.specs.Prelude.{ℕ, List, ℤ, pos, Some, None, Option}
use Rattle.std.specs.Option.{option_map}
use Rattle.items.specs.Items.{Piece}
use Rattle.items.specs.Parts.{Shown, shown, piece_of}
use Rattle.items.specs.Reads.{fold}
use Rattle.trees.specs.declared.keys.TextKey.{TextKey}
use Rattle.trees.specs.declared.keys.IdKey.{IdKey}
use Rattle.trees.specs.declared.keys.SignedKey.{SignedKey}
use Rattle.trees.specs.declared.keys.SignedKey.TheVariants as signed_key
use Rattle.trees.specs.declared.keys.PairKey.{PairKey}
use Rattle.trees.specs.declared.keys.LinkIdKey.{LinkIdKey}
use Rattle.trees.specs.declared.step.Step.{Step}
use Rattle.trees.specs.declared.step.Step.TheVariants as step
use Rattle.trees.specs.declared.step.AttributeArrayValue.{AttributeArrayValue}
use Rattle.trees.specs.declared.step.AttributeArrayValue.TheVariants as single
use Rattle.trees.specs.declared.step.ValueType.{ValueType}
use Rattle.trees.specs.declared.step.ValueType.TheVariants as value_type
use Rattle.trees.specs.declared.keys.PairKey.TheVariants.{LinkAttributes}
use Rattle.trees.specs.Tree.{type_number, Single, string, truth, whole, double, ElementField, given, value, Element, element, AttributeField, plain, array, Attribute, attribute, Pair, pair, LinkField, link_id, link_attributes, tracestate, flags, EventField, time, event_name, event_attributes, SpanField, text, id, signed, pairs, links, events, Payload, Indexed}

-- a step of a reading
pub data On : Type 0 where
  entry : Piece → On
  begin_span : On
  on_text : TextKey → Option Shown → On
  on_id : IdKey → ℤ → On
  on_signed : SignedKey → ℤ → On
  begin_pairs : PairKey → On
  on_pair : PairKey → Shown → Shown → On
  begin_links : On
  begin_link : On
  on_link_id : LinkIdKey → ℤ → On
  on_tracestate : Piece → On
  on_flags : ℤ → On
  end_link : On
  begin_events : On
  begin_event : On
  on_time : ℤ → On
  on_event_name : Piece → On
  begin_attributes : On
  on_attribute : Piece → On
  on_value : Single → On
  end_attribute : ℕ → On
  end_event : On
  end_span : On
  end_trace : On

-- the number of a value's type
abbrev pub type_code : ValueType → ℕ
type_code value_type.String = 0
type_code value_type.Boolean = 1
type_code value_type.Integer = 2
type_code value_type.Double = 3
type_code value_type.Array = 4

-- a single value, with bytes in place of references
abbrev pub single_of : AttributeArrayValue → Single
single_of (single.String p) = string (piece_of p)
single_of (single.Boolean b) = truth b
single_of (single.Integer z) = whole z
single_of (single.Double b) = double b

-- what a step of the program says
abbrev pub on_step : Step → On
on_step (step.Entry p) = entry (piece_of p)
on_step (step.Text k x) = on_text k (option_map shown x)
on_step (step.Pair k x y) = on_pair k (shown x) (shown y)
on_step (step.Tracestate p) = on_tracestate (piece_of p)
on_step (step.EventName p) = on_event_name (piece_of p)
on_step (step.Attribute p) = on_attribute (piece_of p)
on_step (step.Value v) = on_value (single_of v)
on_step step.BeginSpan = begin_span
on_step (step.Id k n) = on_id k (pos n)
on_step (step.Signed k z) = on_signed k z
on_step (step.Error z) = on_signed signed_key.Error z
on_step (step.BeginPairs k) = begin_pairs k
on_step step.BeginLinks = begin_links
on_step step.BeginLink = begin_link
on_step (step.LinkId k n) = on_link_id k (pos n)
on_step (step.Flags n) = on_flags (pos n)
on_step step.EndLink = end_link
on_step step.BeginEvents = begin_events
on_step step.BeginEvent = begin_event
on_step (step.Time n) = on_time (pos n)
on_step step.BeginAttributes = begin_attributes
on_step (step.EndAttribute n) = end_attribute n
on_step step.EndEvent = end_event
on_step step.EndSpan = end_span
on_step step.EndTrace = end_trace

-- of two fields of one kind the later counts
abbrev pub later : {A : Type 0} → Option A → Option A → Option A
later a None = a
later a (Some x) = Some x

-- the type number that a field gives, and that of the value which it has
abbrev pub given_in : ElementField → Option ℕ
given_in (given n) = Some n
given_in (value v) = None

abbrev pub valued_in : ElementField → Option ℕ
valued_in (given n) = None
valued_in (value v) = Some (type_number v)

abbrev pub given_by : AttributeField → Option ℕ
given_by (plain f) = given_in f
given_by (array es) = None

-- an array has the type number 4
abbrev pub valued_by : AttributeField → Option ℕ
valued_by (plain f) = valued_in f
valued_by (array es) = Some 4

abbrev pub or_zero : Option ℕ → ℕ
or_zero None = 0
or_zero (Some n) = n

module _ {M : Type 0} (act : M → On → M) where
  abbrev pub tell_element_field : M → ElementField → M
  tell_element_field m (given n) = m
  tell_element_field m (value v) = act m (on_value v)

  abbrev pub tell_element : M → Element → M
  tell_element m (element a b) = tell_element_field (tell_element_field m a) b

  abbrev pub tell_attribute_field : M → AttributeField → M
  tell_attribute_field m (plain f) = tell_element_field m f
  tell_attribute_field m (array es) = fold tell_element m es

  abbrev pub tell_attribute : M → Attribute → M
  tell_attribute m (attribute k a b) =
      act (tell_attribute_field (tell_attribute_field (act m (on_attribute k)) a) b) (end_attribute (or_zero (later (valued_by a) (valued_by b))))

  abbrev pub tell_a_pair : PairKey → M → Pair → M
  tell_a_pair k m (pair x None) = m
  tell_a_pair k m (pair x (Some y)) = act m (on_pair k x y)

  abbrev pub tell_pairs : PairKey → M → List Pair → M
  tell_pairs k m ps = fold (tell_a_pair k) (act m (begin_pairs k)) ps

  abbrev pub tell_link_field : M → LinkField → M
  tell_link_field m (link_id k z) = act m (on_link_id k z)
  tell_link_field m (link_attributes ps) = tell_pairs LinkAttributes m ps
  tell_link_field m (tracestate p) = act m (on_tracestate p)
  tell_link_field m (flags z) = act m (on_flags z)

  abbrev pub tell_link : M → List LinkField → M
  tell_link m fs = act (fold tell_link_field (act m begin_link) fs) end_link

  abbrev pub tell_attributes : M → List Attribute → M
  tell_attributes m xs = fold tell_attribute (act m begin_attributes) xs

  abbrev pub tell_event_field : M → EventField → M
  tell_event_field m (time z) = act m (on_time z)
  tell_event_field m (event_name p) = act m (on_event_name p)
  tell_event_field m (event_attributes xs) = tell_attributes m xs

  abbrev pub tell_event : M → List EventField → M
  tell_event m fs = act (fold tell_event_field (act m begin_event) fs) end_event

  abbrev pub tell_links : M → List (List LinkField) → M
  tell_links m ls = fold tell_link (act m begin_links) ls

  abbrev pub tell_events : M → List (List EventField) → M
  tell_events m es = fold tell_event (act m begin_events) es

  abbrev pub tell_field : M → SpanField → M
  tell_field m (text k o) = act m (on_text k o)
  tell_field m (id k z) = act m (on_id k z)
  tell_field m (signed k z) = act m (on_signed k z)
  tell_field m (pairs k ps) = tell_pairs k m ps
  tell_field m (links ls) = tell_links m ls
  tell_field m (events es) = tell_events m es

  abbrev pub tell_span : M → List SpanField → M
  tell_span m fs = act (fold tell_field (act m begin_span) fs) end_span

  abbrev pub tell_trace : M → List (List SpanField) → M
  tell_trace m ss = act (fold tell_span m ss) end_trace

  abbrev pub tell_payload : M → Payload → M
  tell_payload m ts = fold tell_trace m ts

  abbrev pub tell_indexed : M → Indexed → M
  tell_indexed m p = tell_payload (fold (λ n e. act n (entry e)) m p.dictionary) p.traces
