-- What a payload's steps make of rows that hold it. Assumes nothing.
use Rattle.std.proofs.Common.{◌≡◌, ℕ, length, sym, arith, List, [], ◌∷◌, Some, None, ℤ, refl, ap, ◌∙◌}
use Rattle.items.specs.Reads.{Outcome, got, fault, then, fold, with}
use Rattle.listing.specs.declared.row.SpanRow.{SpanRow}
use Rattle.trees.specs.declared.keys.PairKey.{PairKey}
use Rattle.trees.specs.declared.keys.PairKey.TheVariants.{LinkAttributes}
use Rattle.trees.specs.declared.keys.SignedKey.{SignedKey}
use Rattle.trees.specs.Steps.{On, end_span, tell_a_pair, tell_pairs, tell_link_field, tell_link, tell_element_field, tell_element, tell_attribute_field, tell_attribute, tell_event_field, tell_event, tell_field, tell_span, tell_trace, tell_payload}
use Rattle.trees.specs.Tree.{Pair, pair, LinkField, link_id, link_attributes, tracestate, flags, ElementField, given, value, Element, element, AttributeField, plain, array, Attribute, attribute, EventField, time, event_name, event_attributes, SpanField, text, id, signed, pairs, links, events, Payload}
use Rattle.reading.specs.Making.{Making, made_by, made}
use Rattle.reading.specs.RowFields.{blank, with_field, row_of}
use Rattle.reading.proofs.Held.{OfRead, OfEach, HeldBy}

module _ {M : Type 0} (hold : SignedKey → ℤ → ℤ) (rowed : M → SpanRow → M) (ended : M → M) where
  abbrev step : Making M → On → Making M
  step = made_by hold rowed ended

  -- what leaves it, one by one, leaves it
  still : {A : Type 0} (f : Making M → A → Making M) → ((s : Making M) (x : A) → f s x ≡ s) → (s : Making M) (xs : List A) → fold f s xs ≡ s
  still f h s [] = refl
  still f h s (x ∷ xs) = ap (λ t. fold f t xs) (h s x) ∙ still f h s xs

  pair_still : (k : PairKey) (s : Making M) (p : Pair) → tell_a_pair step k s p ≡ s
  pair_still k s (pair x None) = refl
  pair_still k s (pair x (Some y)) = refl

  pairs_still : (k : PairKey) (s : Making M) (ps : List Pair) → tell_pairs step k s ps ≡ s
  pairs_still k s ps = still (tell_a_pair step k) (pair_still k) s ps

  link_field_still : (s : Making M) (f : LinkField) → tell_link_field step s f ≡ s
  link_field_still s (link_id k z) = refl
  link_field_still s (link_attributes ps) = pairs_still LinkAttributes s ps
  link_field_still s (tracestate p) = refl
  link_field_still s (flags z) = refl

  link_still : (s : Making M) (fs : List LinkField) → tell_link step s fs ≡ s
  link_still s fs = still (tell_link_field step) link_field_still s fs

  element_field_still : (s : Making M) (f : ElementField) → tell_element_field step s f ≡ s
  element_field_still s (given n) = refl
  element_field_still s (value v) = refl

  element_still : (s : Making M) (e : Element) → tell_element step s e ≡ s
  element_still s (element a b) = ap (λ t. tell_element_field step t b) (element_field_still s a) ∙ element_field_still s b

  attribute_field_still : (s : Making M) (f : AttributeField) → tell_attribute_field step s f ≡ s
  attribute_field_still s (plain f) = element_field_still s f
  attribute_field_still s (array es) = still (tell_element step) element_still s es

  attribute_still : (s : Making M) (a : Attribute) → tell_attribute step s a ≡ s
  attribute_still s (attribute k a b) = ap (λ t. tell_attribute_field step t b) (attribute_field_still s a) ∙ attribute_field_still s b

  event_field_still : (s : Making M) (f : EventField) → tell_event_field step s f ≡ s
  event_field_still s (time z) = refl
  event_field_still s (event_name p) = refl
  event_field_still s (event_attributes xs) = still (tell_attribute step) attribute_still s xs

  event_still : (s : Making M) (fs : List EventField) → tell_event step s fs ≡ s
  event_still s fs = still (tell_event_field step) event_field_still s fs

  -- a field of a span goes into its row
  abbrev onto : Making M → SpanRow → Making M
  onto s r = record { row = r; whole = s.whole; lender = s.lender }

  field_told : (s : Making M) (f : SpanField) → HeldBy hold f → tell_field step s f ≡ onto s (with_field s.row f)
  field_told s (text k x) h = refl
  field_told s (id k z) h = refl
  field_told s (signed k z) h = ap (λ x. onto s (with_field s.row (signed k x))) h
  field_told s (pairs k ps) h = pairs_still k s ps
  field_told s (links ls) h = still (tell_link step) link_still s ls
  field_told s (events es) h = still (tell_event step) event_still s es

  fields_told : (s : Making M) (fs : List SpanField) → OfEach (HeldBy hold) fs → fold (tell_field step) s fs ≡ onto s (fold with_field s.row fs)
  fields_told s [] h = refl
  fields_told s (f ∷ fs) h = ap (λ t. fold (tell_field step) t fs) (field_told s f h.0) ∙ fields_told (onto s (with_field s.row f)) fs h.1

  span_told : (s : Making M) (fs : List SpanField) → OfEach (HeldBy hold) fs → tell_span step s fs ≡ record { row = row_of fs; whole = rowed s.whole (row_of fs); lender = s.lender }
  span_told s fs h = ap (λ t. step t end_span) (fields_told (onto s blank) fs h)

  abbrev hand_span : M → List SpanField → M
  hand_span k fields = rowed k (row_of fields)

  spans_whole : (s : Making M) (ss : List (List SpanField)) → OfEach (OfEach (HeldBy hold)) ss → (fold (tell_span step) s ss).whole ≡ fold hand_span s.whole ss
  spans_whole s [] h = refl
  spans_whole s (fs ∷ ss) h = ap (λ t. (fold (tell_span step) t ss).whole) (span_told s fs h.0) ∙ spans_whole (record { row = row_of fs; whole = rowed s.whole (row_of fs); lender = s.lender }) ss h.1

  spans_lender : (s : Making M) (ss : List (List SpanField)) → OfEach (OfEach (HeldBy hold)) ss → (fold (tell_span step) s ss).lender ≡ s.lender
  spans_lender s [] h = refl
  spans_lender s (fs ∷ ss) h = ap (λ t. (fold (tell_span step) t ss).lender) (span_told s fs h.0) ∙ spans_lender (record { row = row_of fs; whole = rowed s.whole (row_of fs); lender = s.lender }) ss h.1

  abbrev hand : M → List (List SpanField) → M
  hand m ss = ended (fold hand_span m ss)

  pub payload_whole_by : (s : Making M) (ts : Payload) → OfEach (OfEach (OfEach (HeldBy hold))) ts → (tell_payload step s ts).whole ≡ fold hand s.whole ts
  payload_whole_by s [] h = refl
  payload_whole_by s (ss ∷ ts) h = payload_whole_by (tell_trace step s ss) ts h.1 ∙ ap (λ m. fold hand (ended m) ts) (spans_whole s ss h.0)

  pub payload_lender_by : (s : Making M) (ts : Payload) → OfEach (OfEach (OfEach (HeldBy hold))) ts → (tell_payload step s ts).lender ≡ s.lender
  payload_lender_by s [] h = refl
  payload_lender_by s (ss ∷ ts) h = payload_lender_by (tell_trace step s ss) ts h.1 ∙ spans_lender s ss h.0

  -- the rows that were handed on, and whose they are
  pub handed_by : {E : Type 0} (o : Outcome E Payload) (s t : Making M) (n at : ℕ) → OfRead (OfEach (OfEach (OfEach (HeldBy hold)))) o → then o (λ ts next. got (with (tell_payload step s ts) (length ts)) next) ≡ got (with t n) at
      → (then o (λ ts next. got (with (fold hand s.whole ts) (length ts)) next) ≡ got (with t.whole n) at) × (t.lender ≡ s.lender)
  handed_by (got ts next) s t n at h e =
      let a : tell_payload step s ts ≡ t = cc in
      let b : length ts ≡ n = cc in
      let d : next ≡ at = cc in
      let w = sym (payload_whole_by s ts h) ∙ ap (λ k. k.whole) a in
      (ap (λ k. got (with k (length ts)) next) w ∙ ap (λ k. got (with t.whole k) next) b ∙ ap (λ k. got (with t.whole n) k) d, sym (ap (λ k. k.lender) a) ∙ payload_lender_by s ts h)
  handed_by (fault d) s t n at h e = let z : ◌≡◌ {A = ℕ} 0 1 = cc in absurd (omega arith)

-- every number is held
abbrev whole : SignedKey → ℤ → ℤ
whole k z = z

field_whole : (f : SpanField) → HeldBy whole f
field_whole (text k x) = tt
field_whole (id k z) = tt
field_whole (signed k z) = refl
field_whole (pairs k ps) = tt
field_whole (links ls) = tt
field_whole (events es) = tt

each : {A : Type 0} {P : A → Type 0} → ((x : A) → P x) → (xs : List A) → OfEach P xs
each h [] = tt
each h (x ∷ xs) = (h x, each h xs)

payload_held : (ts : Payload) → OfEach (OfEach (OfEach (HeldBy whole))) ts
payload_held = each (each (each field_whole))

read_held : {E : Type 0} (o : Outcome E Payload) → OfRead (OfEach (OfEach (OfEach (HeldBy whole)))) o
read_held (got ts next) = payload_held ts
read_held (fault d) = tt

module _ {M : Type 0} (rowed : M → SpanRow → M) (ended : M → M) where
  pub payload_whole : (s : Making M) (ts : Payload) → (tell_payload (made rowed ended) s ts).whole ≡ fold (λ m ss. ended (fold (λ k fields. rowed k (row_of fields)) m ss)) s.whole ts
  payload_whole s ts = payload_whole_by whole rowed ended s ts (payload_held ts)

  pub payload_lender : (s : Making M) (ts : Payload) → (tell_payload (made rowed ended) s ts).lender ≡ s.lender
  payload_lender s ts = payload_lender_by whole rowed ended s ts (payload_held ts)

  pub handed : {E : Type 0} (o : Outcome E Payload) (s t : Making M) (n at : ℕ) → then o (λ ts next. got (with (tell_payload (made rowed ended) s ts) (length ts)) next) ≡ got (with t n) at
      → (then o (λ ts next. got (with (fold (λ m ss. ended (fold (λ k fields. rowed k (row_of fields)) m ss)) s.whole ts) (length ts)) next) ≡ got (with t.whole n) at) × (t.lender ≡ s.lender)
  handed o s t n at e = handed_by whole rowed ended o s t n at (read_held o) e
