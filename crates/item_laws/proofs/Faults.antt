-- The causes and places of faults. Assumes nothing.
use Rattle.std.proofs.Common.{◌≡◌, ℕ, zero, suc, ◌+◌, ◌-◌, ◌^◌, ◌<◌, ◌≤◌, Bool, true, false, cond, ltb, leb, List, ◌∷◌, ◌++◌, length, get_or, take, drop, ℤ, pos, negsuc, Some, None, sym, refl, ap, ◌∙◌, subst, inl, inr, ⊎_elim, arith, length-append, length-take-le}
use lib.Signed.{lt_z}
use lib.Seq.{take-append-le, take-append-add}
use Rattle.std.proofs.lemmas.Bool.{true≢false, lt-ltb, le-ltb, lt-leb, cond-true, cond-false, cases_lt}
use Rattle.msgpack.specs.declared.marker.Marker.{Marker}
use Rattle.msgpack.specs.declared.marker.Marker.TheVariants as marker_kind
use Rattle.msgpack.specs.declared.marker.Width.{Width}
use Rattle.msgpack.specs.declared.marker.Width.TheVariants.{One, Two, Four, Eight}
use Rattle.msgpack.specs.Encodings.{integer, text, binary, By, unsigned_forms, signed_forms, negative_forms, Headed, Encodes}
use Rattle.msgpack.specs.Numbers.{wide, big, digits, twos}
use Rattle.msgpack.specs.Overview.{marker}
use Rattle.msgpack.specs.Text.{utf8}
use Rattle.msgpack.proofs.Digits.{length_digits}
use Rattle.items.specs.declared.fault.DecodeError.{DecodeError}
use Rattle.items.specs.declared.fault.DecodeError.TheVariants.{InvalidConversion, InvalidType, InvalidFormat, IOError, Utf8Error}
use Rattle.items.specs.declared.fault.ItemFault.{ItemFault}
use Rattle.items.specs.declared.head.Kind.{Kind}
use Rattle.items.specs.declared.head.Kind.TheVariants as kind
use Rattle.items.specs.declared.length.Causes.{Causes}
use Rattle.items.specs.declared.number.Number.{Number}
use Rattle.items.specs.declared.number.Number.TheVariants as number
use Rattle.items.specs.Items.{head_of, at_item, by_head, by_content, same_kind, double_of, number_by, a_number, integer_of, in_range, asked, an_integer, indexed, an_index, double_by, a_double, length_by, a_length, all_causes, text_causes, cut, a_piece, judged_text, a_text, a_binary, truth_by, a_truth}
use Rattle.items.specs.Reads.{Outcome, got, fault, then}
use Rattle.item_laws.specs.Begins.{begins_number, begins_length, begins_truth}
use Rattle.item_laws.specs.Laws.{PlacedFaults, NoNumber, FaultsTold}
use Rattle.item_laws.proofs.Complete.{length_read, piece_read}
use Rattle.item_laws.proofs.Forms.{forms_of}
use Rattle.item_laws.proofs.Places.{head_read}

-- places

-- a fault is at the place
abbrev Faulted : {A : Type 0} → ℕ → Outcome ItemFault A → Type 0
Faulted at (got x next) = Unit {0}
Faulted at (fault e) = e.place ≡ at

faulted_cond : {A : Type 0} (at : ℕ) (b : Bool) (o : Outcome ItemFault A) (cause : DecodeError) → Faulted at o → Faulted at (cond b o (at_item cause at))
faulted_cond at true o cause h = h
faulted_cond at false o cause h = refl

faulted_then : {A B : Type 0} (at : ℕ) (o : Outcome ItemFault A) (f : A → ℕ → Outcome ItemFault B) → Faulted at o → ((x : A) (next : ℕ) → Faulted at (f x next)) → Faulted at (then o f)
faulted_then at (got x next) f h g = g x next
faulted_then at (fault e) f h g = h

placed : {A : Type 0} (read : List ℕ → ℕ → Outcome ItemFault A) → ((bytes : List ℕ) (at : ℕ) → Faulted at (read bytes at)) → PlacedFaults read
placed read each bytes at e h = subst (Faulted at) h (each bytes at)

module _ (bytes : List ℕ) (at : ℕ) where
  content_faulted : {A : Type 0} (short : DecodeError) (w : Width) (f : ℕ → A) → Faulted at (by_content short w f bytes at)
  content_faulted short w f = faulted_cond at (leb (at + 1 + wide w) (length bytes)) (got (f (big (take (wide w) (drop (at + 1) bytes)))) (at + 1 + wide w)) short tt

  number_faulted : (m : Marker) → Faulted at (number_by bytes at (head_of m))
  number_faulted (marker_kind.PositiveFixint b) = tt
  number_faulted (marker_kind.FixMap n) = refl
  number_faulted (marker_kind.FixArray n) = refl
  number_faulted (marker_kind.FixStr n) = refl
  number_faulted marker_kind.Nil = refl
  number_faulted marker_kind.NeverUsed = refl
  number_faulted marker_kind.False = refl
  number_faulted marker_kind.True = refl
  number_faulted (marker_kind.Bin w) = refl
  number_faulted (marker_kind.Ext w) = refl
  number_faulted (marker_kind.Float w) = content_faulted IOError w (λ n. number.Float (double_of w n))
  number_faulted (marker_kind.Uint w) = content_faulted IOError w number.Unsigned
  number_faulted (marker_kind.Int w) = content_faulted IOError w (λ n. number.Signed (twos (wide w) n))
  number_faulted (marker_kind.FixExt n) = refl
  number_faulted (marker_kind.Str w) = refl
  number_faulted (marker_kind.Array w) = refl
  number_faulted (marker_kind.Map w) = refl
  number_faulted (marker_kind.NegativeFixint b) = tt

  length_faulted : (k : Kind) (causes : Causes) (m : Marker) → Faulted at (length_by k causes bytes at (head_of m))
  length_faulted k causes (marker_kind.PositiveFixint b) = refl
  length_faulted k causes (marker_kind.FixMap n) = faulted_cond at (same_kind kind.Map k) (got n (at + 1)) causes.other_marker tt
  length_faulted k causes (marker_kind.FixArray n) = faulted_cond at (same_kind kind.Array k) (got n (at + 1)) causes.other_marker tt
  length_faulted k causes (marker_kind.FixStr n) = faulted_cond at (same_kind kind.Text k) (got n (at + 1)) causes.other_marker tt
  length_faulted k causes marker_kind.Nil = refl
  length_faulted k causes marker_kind.NeverUsed = refl
  length_faulted k causes marker_kind.False = refl
  length_faulted k causes marker_kind.True = refl
  length_faulted k causes (marker_kind.Bin w) = faulted_cond at (same_kind kind.Bytes k) (by_content causes.length_missing w (λ n. n) bytes at) causes.other_marker (content_faulted causes.length_missing w (λ n. n))
  length_faulted k causes (marker_kind.Ext w) = refl
  length_faulted k causes (marker_kind.Float w) = refl
  length_faulted k causes (marker_kind.Uint w) = refl
  length_faulted k causes (marker_kind.Int w) = refl
  length_faulted k causes (marker_kind.FixExt n) = refl
  length_faulted k causes (marker_kind.Str w) = faulted_cond at (same_kind kind.Text k) (by_content causes.length_missing w (λ n. n) bytes at) causes.other_marker (content_faulted causes.length_missing w (λ n. n))
  length_faulted k causes (marker_kind.Array w) = faulted_cond at (same_kind kind.Array k) (by_content causes.length_missing w (λ n. n) bytes at) causes.other_marker (content_faulted causes.length_missing w (λ n. n))
  length_faulted k causes (marker_kind.Map w) = faulted_cond at (same_kind kind.Map k) (by_content causes.length_missing w (λ n. n) bytes at) causes.other_marker (content_faulted causes.length_missing w (λ n. n))
  length_faulted k causes (marker_kind.NegativeFixint b) = refl

  truth_faulted : (cause : DecodeError) (m : Marker) → Faulted at (truth_by cause at (head_of m))
  truth_faulted cause (marker_kind.PositiveFixint b) = refl
  truth_faulted cause (marker_kind.FixMap n) = refl
  truth_faulted cause (marker_kind.FixArray n) = refl
  truth_faulted cause (marker_kind.FixStr n) = refl
  truth_faulted cause marker_kind.Nil = refl
  truth_faulted cause marker_kind.NeverUsed = refl
  truth_faulted cause marker_kind.False = tt
  truth_faulted cause marker_kind.True = tt
  truth_faulted cause (marker_kind.Bin w) = refl
  truth_faulted cause (marker_kind.Ext w) = refl
  truth_faulted cause (marker_kind.Float w) = refl
  truth_faulted cause (marker_kind.Uint w) = refl
  truth_faulted cause (marker_kind.Int w) = refl
  truth_faulted cause (marker_kind.FixExt n) = refl
  truth_faulted cause (marker_kind.Str w) = refl
  truth_faulted cause (marker_kind.Array w) = refl
  truth_faulted cause (marker_kind.Map w) = refl
  truth_faulted cause (marker_kind.NegativeFixint b) = refl

  numbers_faulted : Faulted at (a_number bytes at)
  numbers_faulted = faulted_cond at (ltb at (length bytes)) (number_by bytes at (head_of (marker (get_or bytes at 0)))) InvalidFormat (number_faulted (marker (get_or bytes at 0)))

  asked_faulted : (low high z : ℤ) (next : ℕ) → Faulted at (asked at next (in_range low high z))
  asked_faulted low high z next = split _
    where
      split : (b : Bool) → Faulted at (asked at next (cond b (Some z) None))
      split true = tt
      split false = refl

  of_faulted : (low high : ℤ) (x : Number) (next : ℕ) → Faulted at (asked at next (integer_of low high x))
  of_faulted low high (number.Unsigned n) next = asked_faulted low high (pos n) next
  of_faulted low high (number.Signed z) next = asked_faulted low high z next
  of_faulted low high (number.Float b) next = refl

  integers_faulted : (low high : ℤ) → Faulted at (an_integer low high bytes at)
  integers_faulted low high = faulted_then at (a_number bytes at) (λ n next. asked at next (integer_of low high n)) numbers_faulted (of_faulted low high)

  lengths_faulted : (k : Kind) (causes : Causes) → Faulted at (a_length k causes bytes at)
  lengths_faulted k causes = faulted_cond at (ltb at (length bytes)) (length_by k causes bytes at (head_of (marker (get_or bytes at 0)))) causes.nothing_left (length_faulted k causes (marker (get_or bytes at 0)))

  cut_faulted : (short : DecodeError) (n start : ℕ) → Faulted at (cut short bytes at n start)
  cut_faulted short n start = faulted_cond at (leb (start + n) (length bytes)) (got (record { content = take n (drop start bytes); place = at; start = start }) (start + n)) short tt

  pieces_faulted : (k : Kind) (causes : Causes) (short : DecodeError) → Faulted at (a_piece k causes short bytes at)
  pieces_faulted k causes short = faulted_then at (a_length k causes bytes at) (cut short bytes at) (lengths_faulted k causes) (cut_faulted short)

-- at the window's end, and at a marker of another item

module _ {A : Type 0} (ended : DecodeError) (bytes : List ℕ) (at : ℕ) where
  head_ended : (f : _ → Outcome ItemFault A) → length bytes ≤ at → by_head ended f bytes at ≡ at_item ended at
  head_ended f h = cond-false _ _ _ (le-ltb at (length bytes) h)

  head_begun : (f : _ → Outcome ItemFault A) → at < length bytes → by_head ended f bytes at ≡ f (head_of (marker (get_or bytes at 0)))
  head_begun f h = cond-true _ _ _ (lt-ltb at (length bytes) h)

module _ (bytes : List ℕ) (at : ℕ) where
  no_number : (m : Marker) → begins_number m ≡ false → number_by bytes at (head_of m) ≡ at_item InvalidType at
  no_number (marker_kind.PositiveFixint b) e = absurd (true≢false e)
  no_number (marker_kind.FixMap n) e = refl
  no_number (marker_kind.FixArray n) e = refl
  no_number (marker_kind.FixStr n) e = refl
  no_number marker_kind.Nil e = refl
  no_number marker_kind.NeverUsed e = refl
  no_number marker_kind.False e = refl
  no_number marker_kind.True e = refl
  no_number (marker_kind.Bin w) e = refl
  no_number (marker_kind.Ext w) e = refl
  no_number (marker_kind.Float w) e = absurd (true≢false e)
  no_number (marker_kind.Uint w) e = absurd (true≢false e)
  no_number (marker_kind.Int w) e = absurd (true≢false e)
  no_number (marker_kind.FixExt n) e = refl
  no_number (marker_kind.Str w) e = refl
  no_number (marker_kind.Array w) e = refl
  no_number (marker_kind.Map w) e = refl
  no_number (marker_kind.NegativeFixint b) e = absurd (true≢false e)

  no_length : (k : Kind) (causes : Causes) (m : Marker) → begins_length k m ≡ false → length_by k causes bytes at (head_of m) ≡ at_item causes.other_marker at
  no_length k causes (marker_kind.PositiveFixint b) e = refl
  no_length k causes (marker_kind.FixMap n) e = cond-false _ _ _ e
  no_length k causes (marker_kind.FixArray n) e = cond-false _ _ _ e
  no_length k causes (marker_kind.FixStr n) e = cond-false _ _ _ e
  no_length k causes marker_kind.Nil e = refl
  no_length k causes marker_kind.NeverUsed e = refl
  no_length k causes marker_kind.False e = refl
  no_length k causes marker_kind.True e = refl
  no_length k causes (marker_kind.Bin w) e = cond-false _ _ _ e
  no_length k causes (marker_kind.Ext w) e = refl
  no_length k causes (marker_kind.Float w) e = refl
  no_length k causes (marker_kind.Uint w) e = refl
  no_length k causes (marker_kind.Int w) e = refl
  no_length k causes (marker_kind.FixExt n) e = refl
  no_length k causes (marker_kind.Str w) e = cond-false _ _ _ e
  no_length k causes (marker_kind.Array w) e = cond-false _ _ _ e
  no_length k causes (marker_kind.Map w) e = cond-false _ _ _ e
  no_length k causes (marker_kind.NegativeFixint b) e = refl

  no_truth : (cause : DecodeError) (m : Marker) → begins_truth m ≡ false → truth_by cause at (head_of m) ≡ at_item cause at
  no_truth cause (marker_kind.PositiveFixint b) e = refl
  no_truth cause (marker_kind.FixMap n) e = refl
  no_truth cause (marker_kind.FixArray n) e = refl
  no_truth cause (marker_kind.FixStr n) e = refl
  no_truth cause marker_kind.Nil e = refl
  no_truth cause marker_kind.NeverUsed e = refl
  no_truth cause marker_kind.False e = absurd (true≢false e)
  no_truth cause marker_kind.True e = absurd (true≢false e)
  no_truth cause (marker_kind.Bin w) e = refl
  no_truth cause (marker_kind.Ext w) e = refl
  no_truth cause (marker_kind.Float w) e = refl
  no_truth cause (marker_kind.Uint w) e = refl
  no_truth cause (marker_kind.Int w) e = refl
  no_truth cause (marker_kind.FixExt n) e = refl
  no_truth cause (marker_kind.Str w) e = refl
  no_truth cause (marker_kind.Array w) e = refl
  no_truth cause (marker_kind.Map w) e = refl
  no_truth cause (marker_kind.NegativeFixint b) e = refl

  -- a fault of the number, the length or the part stays
  asks : (low high : ℤ) {cause : DecodeError} → a_number bytes at ≡ at_item cause at → an_integer low high bytes at ≡ at_item cause at
  asks low high h = ap (λ o. then o (λ n next. asked at next (integer_of low high n))) h

  doubles : {cause : DecodeError} → a_number bytes at ≡ at_item cause at → a_double bytes at ≡ at_item cause at
  doubles h = ap (λ o. then o (λ n next. got (double_by n) next)) h

  indexes : (end : ℕ) {cause : DecodeError} → a_number bytes at ≡ at_item cause at → an_index end bytes at ≡ at_item cause at
  indexes end h = ap (λ o. then o (indexed end at)) (asks (pos 0) (pos 4294967295) h)

  cuts : (k : Kind) (causes : Causes) (short : DecodeError) {cause : DecodeError} → a_length k causes bytes at ≡ at_item cause at → a_piece k causes short bytes at ≡ at_item cause at
  cuts k causes short h = ap (λ o. then o (cut short bytes at)) h

  judges : {cause : DecodeError} → a_piece kind.Text text_causes IOError bytes at ≡ at_item cause at → a_text bytes at ≡ at_item cause at
  judges h = ap (λ o. then o (judged_text at)) h

  number_ended : length bytes ≤ at → a_number bytes at ≡ at_item InvalidFormat at
  number_ended h = head_ended InvalidFormat bytes at (number_by bytes at) h

  length_ended : (k : Kind) (causes : Causes) → length bytes ≤ at → a_length k causes bytes at ≡ at_item causes.nothing_left at
  length_ended k causes h = head_ended causes.nothing_left bytes at (length_by k causes bytes at) h

  number_other : at < length bytes → begins_number (marker (get_or bytes at 0)) ≡ false → a_number bytes at ≡ at_item InvalidType at
  number_other l h = head_begun InvalidFormat bytes at (number_by bytes at) l ∙ no_number _ h

  length_other : (k : Kind) (causes : Causes) → at < length bytes → begins_length k (marker (get_or bytes at 0)) ≡ false → a_length k causes bytes at ≡ at_item causes.other_marker at
  length_other k causes l h = head_begun causes.nothing_left bytes at (length_by k causes bytes at) l ∙ no_length k causes _ h

  truth_ended : (cause : DecodeError) → length bytes ≤ at → a_truth cause bytes at ≡ at_item cause at
  truth_ended cause h = head_ended cause bytes at (truth_by cause at) h

  truth_other : (cause : DecodeError) → at < length bytes → begins_truth (marker (get_or bytes at 0)) ≡ false → a_truth cause bytes at ≡ at_item cause at
  truth_other cause l h = head_begun cause bytes at (truth_by cause at) l ∙ no_truth cause _ h

-- items that are cut off

short_content : {A : Type 0} (short : DecodeError) (w : Width) (f : ℕ → A) (front : List ℕ) (b : ℕ) (tail : List ℕ) → length tail < wide w
    → by_content short w f (front ++ (b ∷ tail)) (length front) ≡ at_item short (length front)
short_content short w f front b tail h =
    let at = length front in
    let bytes = front ++ (b ∷ tail) in
    let l : length bytes < at + 1 + wide w = simp length-append (omega arith) in
    cond-false (leb (at + 1 + wide w) (length bytes)) (got (f (big (take (wide w) (drop (at + 1) bytes)))) (at + 1 + wide w)) (at_item short at) (lt-leb (at + 1 + wide w) (length bytes) l)

short_digits : (w : Width) (n j : ℕ) → suc j < suc (length (digits (wide w) n)) → length (take j (digits (wide w) n)) < wide w
short_digits w n j l =
    let long = length_digits (wide w) n in
    let kept = length-take-le j (digits (wide w) n) (omega arith) in
    omega (arith, long, kept)

module _ (front : List ℕ) where
  abbrev at : ℕ
  at = length front

  abbrev CutNumber : List ℕ → Type 0
  CutNumber e = (k : ℕ) → 0 < k → k < length e → a_number (front ++ take k e) at ≡ at_item IOError at

  -- one byte cannot be cut
  near_cut : (k : ℕ) → 0 < k → k < 1 → ⊥
  near_cut k p l = omega arith

  begun_cut : (b : ℕ) (tail : List ℕ) (m : Marker) → marker b ≡ m → a_number (front ++ (b ∷ tail)) at ≡ number_by (front ++ (b ∷ tail)) at (head_of m)
  begun_cut b tail m e = head_read InvalidFormat (number_by (front ++ (b ∷ tail)) at) front b tail ∙ ap (λ i. number_by (front ++ (b ∷ tail)) at (head_of i)) e

  uint_cut : (w : Width) (b n : ℕ) → marker b ≡ marker_kind.Uint w → CutNumber (b ∷ digits (wide w) n)
  uint_cut w b n e zero p l = absurd (omega arith)
  uint_cut w b n e (suc j) p l =
      let tail = take j (digits (wide w) n) in
      begun_cut b tail (marker_kind.Uint w) e ∙ short_content IOError w number.Unsigned front b tail (short_digits w n j l)

  int_cut : (w : Width) (b n : ℕ) → marker b ≡ marker_kind.Int w → CutNumber (b ∷ digits (wide w) n)
  int_cut w b n e zero p l = absurd (omega arith)
  int_cut w b n e (suc j) p l =
      let tail = take j (digits (wide w) n) in
      begun_cut b tail (marker_kind.Int w) e ∙ short_content IOError w (λ m. number.Signed (twos (wide w) m)) front b tail (short_digits w n j l)

  float_cut : (w : Width) (b n : ℕ) → marker b ≡ marker_kind.Float w → CutNumber (b ∷ digits (wide w) n)
  float_cut w b n e zero p l = absurd (omega arith)
  float_cut w b n e (suc j) p l =
      let tail = take j (digits (wide w) n) in
      begun_cut b tail (marker_kind.Float w) e ∙ short_content IOError w (λ m. number.Float (double_of w m)) front b tail (short_digits w n j l)

  unsigned_cut : (n : ℕ) (e : List ℕ) → By unsigned_forms n e → CutNumber e
  unsigned_cut n e (inl p) = subst CutNumber (sym p.1) (λ k z l. absurd (near_cut k z l))
  unsigned_cut n e (inr (inl p)) = subst CutNumber (sym p.1) (uint_cut One 0xcc n refl)
  unsigned_cut n e (inr (inr (inl p))) = subst CutNumber (sym p.1) (uint_cut Two 0xcd n refl)
  unsigned_cut n e (inr (inr (inr (inl p)))) = subst CutNumber (sym p.1) (uint_cut Four 0xce n refl)
  unsigned_cut n e (inr (inr (inr (inr (inl p))))) = subst CutNumber (sym p.1) (uint_cut Eight 0xcf n refl)
  unsigned_cut n e (inr (inr (inr (inr (inr b))))) = absurd b

  signed_cut : (n : ℕ) (e : List ℕ) → By signed_forms n e → CutNumber e
  signed_cut n e (inl p) = subst CutNumber (sym p.1) (int_cut One 0xd0 n refl)
  signed_cut n e (inr (inl p)) = subst CutNumber (sym p.1) (int_cut Two 0xd1 n refl)
  signed_cut n e (inr (inr (inl p))) = subst CutNumber (sym p.1) (int_cut Four 0xd2 n refl)
  signed_cut n e (inr (inr (inr (inl p)))) = subst CutNumber (sym p.1) (int_cut Eight 0xd3 n refl)
  signed_cut n e (inr (inr (inr (inr b)))) = absurd b

  negative_cut : (n : ℕ) (e : List ℕ) → By negative_forms n e → CutNumber e
  negative_cut n e (inl p) = subst CutNumber (sym p.1) (λ k z l. absurd (near_cut k z l))
  negative_cut n e (inr (inl p)) = subst CutNumber (sym p.1) (int_cut One 0xd0 (256 ^ 1 - suc n) refl)
  negative_cut n e (inr (inr (inl p))) = subst CutNumber (sym p.1) (int_cut Two 0xd1 (256 ^ 2 - suc n) refl)
  negative_cut n e (inr (inr (inr (inl p)))) = subst CutNumber (sym p.1) (int_cut Four 0xd2 (256 ^ 4 - suc n) refl)
  negative_cut n e (inr (inr (inr (inr (inl p))))) = subst CutNumber (sym p.1) (int_cut Eight 0xd3 (256 ^ 8 - suc n) refl)
  negative_cut n e (inr (inr (inr (inr (inr b))))) = absurd b

  integer_cut : (z : ℤ) (e : List ℕ) → Encodes (integer z) e → CutNumber e
  integer_cut (pos n) e (inl h) = unsigned_cut n e h
  integer_cut (pos n) e (inr h) = signed_cut n e h
  integer_cut (negsuc n) e h = negative_cut n e h

  module _ (causes : Causes) where
    abbrev CutLength : Kind → List ℕ → Type 0
    CutLength i e = (k : ℕ) → 0 < k → k < length e → a_length i causes (front ++ take k e) at ≡ at_item causes.length_missing at

    -- a length of the kind behind the first byte
    behind_cut : (i : Kind) (w : Width) (b n : ℕ)
        → ((bytes : List ℕ) → length_by i causes bytes at (head_of (marker b)) ≡ by_content causes.length_missing w (λ m. m) bytes at) → CutLength i (b ∷ digits (wide w) n)
    behind_cut i w b n e zero p l = absurd (omega arith)
    behind_cut i w b n e (suc j) p l =
        let tail = take j (digits (wide w) n) in
        let bytes = front ++ (b ∷ tail) in
        head_read causes.nothing_left (length_by i causes bytes at) front b tail ∙ e bytes ∙ short_content causes.length_missing w (λ m. m) front b tail (short_digits w n j l)

    length_cut : (i : Kind) (n : ℕ) (e : List ℕ) → By (forms_of i) n e → CutLength i e
    length_cut kind.Text n e (inl p) = subst (CutLength kind.Text) (sym p.1) (λ k z l. absurd (near_cut k z l))
    length_cut kind.Text n e (inr (inl p)) = subst (CutLength kind.Text) (sym p.1) (behind_cut kind.Text One 0xd9 n (λ bytes. refl))
    length_cut kind.Text n e (inr (inr (inl p))) = subst (CutLength kind.Text) (sym p.1) (behind_cut kind.Text Two 0xda n (λ bytes. refl))
    length_cut kind.Text n e (inr (inr (inr (inl p)))) = subst (CutLength kind.Text) (sym p.1) (behind_cut kind.Text Four 0xdb n (λ bytes. refl))
    length_cut kind.Text n e (inr (inr (inr (inr b)))) = absurd b
    length_cut kind.Bytes n e (inl p) = subst (CutLength kind.Bytes) (sym p.1) (behind_cut kind.Bytes One 0xc4 n (λ bytes. refl))
    length_cut kind.Bytes n e (inr (inl p)) = subst (CutLength kind.Bytes) (sym p.1) (behind_cut kind.Bytes Two 0xc5 n (λ bytes. refl))
    length_cut kind.Bytes n e (inr (inr (inl p))) = subst (CutLength kind.Bytes) (sym p.1) (behind_cut kind.Bytes Four 0xc6 n (λ bytes. refl))
    length_cut kind.Bytes n e (inr (inr (inr b))) = absurd b
    length_cut kind.Array n e (inl p) = subst (CutLength kind.Array) (sym p.1) (λ k z l. absurd (near_cut k z l))
    length_cut kind.Array n e (inr (inl p)) = subst (CutLength kind.Array) (sym p.1) (behind_cut kind.Array Two 0xdc n (λ bytes. refl))
    length_cut kind.Array n e (inr (inr (inl p))) = subst (CutLength kind.Array) (sym p.1) (behind_cut kind.Array Four 0xdd n (λ bytes. refl))
    length_cut kind.Array n e (inr (inr (inr b))) = absurd b
    length_cut kind.Map n e (inl p) = subst (CutLength kind.Map) (sym p.1) (λ k z l. absurd (near_cut k z l))
    length_cut kind.Map n e (inr (inl p)) = subst (CutLength kind.Map) (sym p.1) (behind_cut kind.Map Two 0xde n (λ bytes. refl))
    length_cut kind.Map n e (inr (inr (inl p))) = subst (CutLength kind.Map) (sym p.1) (behind_cut kind.Map Four 0xdf n (λ bytes. refl))
    length_cut kind.Map n e (inr (inr (inr b))) = absurd b

  -- a part, cut off in its length or in its content
  module _ (i : Kind) (causes : Causes) (short : DecodeError) (t e : List ℕ) (k : ℕ) (h : Headed (forms_of i) t e) where
    long : length e ≡ length h.head + length t
    long = ap length h.whole ∙ length-append h.head t

    head_cut : 0 < k → k < length e - length t → a_piece i causes short (front ++ take k e) at ≡ at_item causes.length_missing at
    head_cut p l =
        let s : k < length h.head = omega (arith, long) in
        let r : k ≤ length h.head = omega arith in
        let w : take k e ≡ take k h.head = ap (take k) h.whole ∙ take-append-le k h.head t r in
        cuts (front ++ take k e) at i causes short (ap (λ xs. a_length i causes (front ++ xs) at) w ∙ length_cut causes i (length t) h.head h.says k p s)

    content_cut : length e - length t ≤ k → k < length e → a_piece i causes short (front ++ take k e) at ≡ at_item short at
    content_cut p l =
        let head = h.head in
        let j = k - length head in
        let part = take j t in
        let bytes = front ++ (head ++ part) in
        let start = at + length head in
        let m : k ≡ length head + j = omega (arith, long) in
        let w : take k e ≡ head ++ part = ap (take k) h.whole ∙ ap (λ d. take d (head ++ t)) m ∙ take-append-add head t j in
        let few : length part ≡ j = length-take-le j t (omega (arith, long)) in
        let c : length (front ++ (head ++ part)) ≡ at + (length head + length part) = simp length-append refl in
        let out : length bytes < start + length t = omega (arith, long, few, c) in
        ap (λ xs. a_piece i causes short (front ++ xs) at) w
        ∙ ap (λ o. then o (cut short bytes at)) (length_read front part causes i (length t) head h.says)
        ∙ cond-false (leb (start + length t) (length bytes)) _ _ (lt-leb (start + length t) (length bytes) out)

text_cut : (t front e : List ℕ) (k : ℕ) → Encodes (text t) e → 0 < k → k < length e
    → (k < length e - length t → a_text (front ++ take k e) (length front) ≡ at_item InvalidConversion (length front)) × (length e - length t ≤ k → a_text (front ++ take k e) (length front) ≡ at_item IOError (length front))
text_cut t front e k h p l = (
  λ s. judges (front ++ take k e) (length front) (head_cut front kind.Text text_causes IOError t e k h p s),
  λ s. judges (front ++ take k e) (length front) (content_cut front kind.Text text_causes IOError t e k h s l),
)

binary_cut : (b front e : List ℕ) (k : ℕ) → Encodes (binary b) e → 0 < k → k < length e → a_binary (front ++ take k e) (length front) ≡ at_item InvalidFormat (length front)
binary_cut b front e k h p l =
    let causes = all_causes InvalidFormat in
    ⊎_elim (λ s. head_cut front kind.Bytes causes InvalidFormat b e k h p s) (λ s. content_cut front kind.Bytes causes InvalidFormat b e k h s l) (cases_lt k (length e - length b))

no_numbers : (bytes : List ℕ) (at : ℕ) {cause : DecodeError} → a_number bytes at ≡ at_item cause at → NoNumber cause bytes at
no_numbers bytes at h = (h, λ low high. asks bytes at low high h, doubles bytes at h, λ end. indexes bytes at end h)

pub faults_told : FaultsTold
faults_told =
    record {
      number_places = placed a_number numbers_faulted;
      integer_places = λ low high. placed (an_integer low high) (λ bytes at. integers_faulted bytes at low high);
      double_places = placed a_double (λ bytes at. faulted_then at (a_number bytes at) (λ n next. got (double_by n) next) (numbers_faulted bytes at) (λ x next. tt));
      index_places = λ end. placed (an_index end) (λ bytes at.
          faulted_then at (an_integer (pos 0) (pos 4294967295) bytes at) (indexed end at) (integers_faulted bytes at (pos 0) (pos 4294967295)) (λ z next. faulted_cond at (lt_z z (pos end)) (got z next) InvalidFormat tt));
      length_places = λ k causes. placed (a_length k causes) (λ bytes at. lengths_faulted bytes at k causes);
      text_places = placed a_text (λ bytes at.
          faulted_then at (a_piece kind.Text text_causes IOError bytes at) (judged_text at) (pieces_faulted bytes at kind.Text text_causes IOError) (λ p next. faulted_cond at (utf8 p.content) (got p next) Utf8Error tt));
      byte_part_places = placed a_binary (λ bytes at. pieces_faulted bytes at kind.Bytes (all_causes InvalidFormat) InvalidFormat);
      truth_places = λ cause. placed (a_truth cause) (λ bytes at. faulted_cond at (ltb at (length bytes)) (truth_by cause at (head_of (marker (get_or bytes at 0)))) cause (truth_faulted bytes at cause (marker (get_or bytes at 0))));
      number_ends = number_ended;
      integer_ends = λ low high bytes at h. asks bytes at low high (number_ended bytes at h);
      double_ends = λ bytes at h. doubles bytes at (number_ended bytes at h);
      index_ends = λ end bytes at h. indexes bytes at end (number_ended bytes at h);
      length_ends = λ k causes bytes at h. length_ended bytes at k causes h;
      text_ends = λ bytes at h. judges bytes at (cuts bytes at kind.Text text_causes IOError (length_ended bytes at kind.Text text_causes h));
      byte_part_ends = λ bytes at h. cuts bytes at kind.Bytes (all_causes InvalidFormat) InvalidFormat (length_ended bytes at kind.Bytes (all_causes InvalidFormat) h);
      truth_ends = λ cause bytes at h. truth_ended bytes at cause h;
      other_numbers = number_other;
      other_integers = λ low high bytes at l h. asks bytes at low high (number_other bytes at l h);
      other_doubles = λ bytes at l h. doubles bytes at (number_other bytes at l h);
      other_indices = λ end bytes at l h. indexes bytes at end (number_other bytes at l h);
      other_lengths = λ k causes bytes at l h. length_other bytes at k causes l h;
      other_texts = λ bytes at l h. judges bytes at (cuts bytes at kind.Text text_causes IOError (length_other bytes at kind.Text text_causes l h));
      other_byte_parts = λ bytes at l h. cuts bytes at kind.Bytes (all_causes InvalidFormat) InvalidFormat (length_other bytes at kind.Bytes (all_causes InvalidFormat) l h);
      other_truths = λ cause bytes at l h. truth_other bytes at cause l h;
      cut_integers = λ z front e k h p l. no_numbers _ _ (integer_cut front z e h k p l);
      cut_singles = λ b front e k h p l. no_numbers _ _ (subst (CutNumber front) (sym h.1) (float_cut front Four 0xca b refl) k p l);
      cut_doubles = λ b front e k h p l. no_numbers _ _ (subst (CutNumber front) (sym h.1) (float_cut front Eight 0xcb b refl) k p l);
      cut_arrays = λ causes n front e k h p l. length_cut front causes kind.Array n e h k p l;
      cut_maps = λ causes n front e k h p l. length_cut front causes kind.Map n e h k p l;
      cut_texts = text_cut;
      cut_byte_parts = binary_cut;
      not_utf8 = λ t u front e rest h. ap (λ o. then o (judged_text (length front))) (piece_read front t rest kind.Text text_causes IOError e h) ∙ cond-false (utf8 t) _ _ u;
    }
