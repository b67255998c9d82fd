-- Readings of items against the encodings of MessagePack. Assumes nothing.
use Rattle.std.specs.Prelude.{◌≡◌, ℕ, ◌+◌, ◌-◌, ◌^◌, ◌<◌, ◌≤◌, Bool, true, false, ◌⊎◌, List, ◌++◌, length, take, drop, ℤ, pos, Some, None, slice_index, slice_range}
use Rattle.std.specs.Int.Digits.{AllBelowBase}
use Rattle.msgpack.specs.declared.marker.Marker.{Marker}
use Rattle.msgpack.specs.Doubles.{nearest_double, widened}
use Rattle.msgpack.specs.Encodings.{Item, nil, boolean, integer, float32, float64, text, binary, array, map, Encodes}
use Rattle.msgpack.specs.Encodings.{written_integer, written_text, written_binary, written_array, written_map, written_boolean}
use Rattle.msgpack.specs.Encodings.{fixed_u8, fixed_u32, fixed_u64, fixed_i64, fixed_double}
use Rattle.msgpack.specs.Overview.{marker}
use Rattle.msgpack.specs.Text.{utf8}
use Rattle.items.specs.declared.fault.DecodeError.{DecodeError}
use Rattle.items.specs.declared.fault.DecodeError.TheVariants.{InvalidConversion, InvalidType, InvalidFormat, IOError, Utf8Error}
use Rattle.items.specs.declared.fault.ItemFault.{ItemFault}
use Rattle.items.specs.declared.head.Kind.{Kind}
use Rattle.items.specs.declared.head.Kind.TheVariants as kind
use Rattle.items.specs.declared.length.Causes.{Causes}
use Rattle.items.specs.declared.number.Number.{Number}
use Rattle.items.specs.declared.number.Number.TheVariants as number
use Rattle.items.specs.Items.{Piece, a_number, an_integer, an_index, a_double, a_length, a_text, a_binary, a_truth, null_at, in_range, at_item}
use Rattle.items.specs.Reads.{Outcome, got, fault}
use Rattle.puts.specs.Laws.{FitsEither, FitsSigned}
use Rattle.item_laws.specs.Begins.{begins_number, begins_length, begins_truth}

-- the bytes from one place to another
abbrev pub between : List ℕ → ℕ → ℕ → List ℕ
between bytes from to = slice_range bytes from to

-- the bytes are an encoding of the number; a single is read as its double
abbrev pub Stands : Number → List ℕ → Type 0
Stands (number.Unsigned n) e = Encodes (integer (pos n)) e
Stands (number.Signed z) e = Encodes (integer z) e
Stands (number.Float b) e = Encodes (float64 b) e ⊎ ((s : ℕ) × (b ≡ widened s) × Encodes (float32 s) e)

-- the bytes are an encoding of an integer that the double is nearest to, of the double, or of a single that widens to it
abbrev pub StandsDouble : ℕ → List ℕ → Type 0
StandsDouble d e = ((z : ℤ) × (d ≡ nearest_double z) × Encodes (integer z) e) ⊎ Encodes (float64 d) e ⊎ ((s : ℕ) × (d ≡ widened s) × Encodes (float32 s) e)

-- the bytes are an encoding of the integer, which is from 0 up and below the end
abbrev pub StandsIndex : ℕ → ℤ → List ℕ → Type 0
StandsIndex end z e = (n : ℕ) × (z ≡ pos n) × (n < end) × (n < 2 ^ 32) × Encodes (integer (pos n)) e

-- what a reading accepts stands in the bytes that it consumes
abbrev pub Sound : {A : Type 0} → (List ℕ → ℕ → Outcome ItemFault A) → (List ℕ → ℕ → A → List ℕ → Type 0) → Type 0
Sound {A} read stands =
    (bytes : List ℕ) (at next : ℕ) (x : A) → AllBelowBase 256 bytes → read bytes at ≡ got x next
    → (at ≤ next) × (next ≤ length bytes) × stands bytes at x (between bytes at next)

-- the piece's content is a part of the bytes that ends where the item ends
abbrev pub Lies : List ℕ → ℕ → Piece → List ℕ → Type 0
Lies bytes at p e = (p.place ≡ at) × (p.start + length p.content ≡ at + length e) × (p.content ≡ take (length p.content) (drop p.start bytes))

pub record ReadsEncodings : Type 0 where
  pub numbers : Sound a_number (λ _ _. Stands)
  pub integers : (low high : ℤ) → Sound (an_integer low high) (λ _ _ z e. (in_range low high z ≡ Some z) × Encodes (integer z) e)
  pub doubles : Sound a_double (λ _ _. StandsDouble)
  pub indices : (end : ℕ) → Sound (an_index end) (λ _ _. StandsIndex end)
  pub arrays : (causes : Causes) → Sound (a_length kind.Array causes) (λ _ _ n. Encodes (array n))
  pub maps : (causes : Causes) → Sound (a_length kind.Map causes) (λ _ _ n. Encodes (map n))
  pub texts : Sound a_text (λ bytes at p e. (utf8 p.content ≡ true) × Encodes (text p.content) e × Lies bytes at p e)
  pub byte_parts : Sound a_binary (λ bytes at p e. Encodes (binary p.content) e × Lies bytes at p e)
  pub truths : (cause : DecodeError) → Sound (a_truth cause) (λ _ _ b. Encodes (boolean b))
  pub nulls : (bytes : List ℕ) (at : ℕ) → null_at bytes at ≡ true → Encodes nil (between bytes at (at + 1))

-- an encoding of the item stands in the bytes, behind others and before others
abbrev pub Placed : Item → (List ℕ → ℕ → ℕ → Type 0) → Type 0
Placed item P = (front e rest : List ℕ) → Encodes item e → P (front ++ (e ++ rest)) (length front) (length front + length e)

pub record EncodingsRead : Type 0 where
  -- an integer is read as itself where the target has it, and else as a failed conversion
  pub integers : (low high z : ℤ) → Placed (integer z) (λ bytes at next.
      (in_range low high z ≡ Some z → an_integer low high bytes at ≡ got z next) × (in_range low high z ≡ None → an_integer low high bytes at ≡ at_item InvalidConversion at))
  -- an index is below the end; a greater one has a fault of its own
  pub indices : (end n : ℕ) → n < 2 ^ 32 → Placed (integer (pos n)) (λ bytes at next.
      (n < end → an_index end bytes at ≡ got (pos n) next) × (end ≤ n → an_index end bytes at ≡ at_item InvalidFormat at))
  pub other_indices : (end : ℕ) (z : ℤ) → in_range (pos 0) (pos 4294967295) z ≡ None → Placed (integer z) (λ bytes at next. an_index end bytes at ≡ at_item InvalidConversion at)
  pub doubles_of_integers : (z : ℤ) → Placed (integer z) (λ bytes at next. a_double bytes at ≡ got (nearest_double z) next)
  pub doubles : (b : ℕ) → Placed (float64 b) (λ bytes at next. a_double bytes at ≡ got b next)
  pub doubles_of_singles : (b : ℕ) → Placed (float32 b) (λ bytes at next. a_double bytes at ≡ got (widened b) next)
  -- no float is an integer
  pub floats : (low high : ℤ) (b : ℕ) → Placed (float64 b) (λ bytes at next. an_integer low high bytes at ≡ at_item InvalidConversion at)
  pub single_floats : (low high : ℤ) (b : ℕ) → Placed (float32 b) (λ bytes at next. an_integer low high bytes at ≡ at_item InvalidConversion at)
  pub arrays : (causes : Causes) (n : ℕ) → Placed (array n) (λ bytes at next. a_length kind.Array causes bytes at ≡ got n next)
  pub maps : (causes : Causes) (n : ℕ) → Placed (map n) (λ bytes at next. a_length kind.Map causes bytes at ≡ got n next)
  pub texts : (t : List ℕ) → utf8 t ≡ true → Placed (text t) (λ bytes at next. a_text bytes at ≡ got (record { content = t; place = at; start = next - length t }) next)
  pub byte_parts : (b : List ℕ) → Placed (binary b) (λ bytes at next. a_binary bytes at ≡ got (record { content = b; place = at; start = next - length b }) next)
  pub truths : (cause : DecodeError) (b : Bool) → Placed (boolean b) (λ bytes at next. a_truth cause bytes at ≡ got b next)
  pub nulls : Placed nil (λ bytes at next. null_at bytes at ≡ true)

-- written bytes stand in the bytes, behind others and before others
abbrev pub Put : List ℕ → (List ℕ → ℕ → ℕ → Type 0) → Type 0
Put w P = (front rest : List ℕ) → P (front ++ (w ++ rest)) (length front) (length front + length w)

-- the written bytes are read as the integer in every range that has it
abbrev pub Back : ℤ → List ℕ → Type 0
Back z w = (low high : ℤ) → in_range low high z ≡ Some z → Put w (λ bytes at next. an_integer low high bytes at ≡ got z next)

pub record WrittenReadBack : Type 0 where
  pub integers : (z : ℤ) → FitsEither z → Back z (written_integer z)
  pub texts : (t : List ℕ) → utf8 t ≡ true → length t < 2 ^ 32 → Put (written_text t) (λ bytes at next. a_text bytes at ≡ got (record { content = t; place = at; start = next - length t }) next)
  pub byte_parts : (b : List ℕ) → length b < 2 ^ 32 → Put (written_binary b) (λ bytes at next. a_binary bytes at ≡ got (record { content = b; place = at; start = next - length b }) next)
  pub arrays : (causes : Causes) (n : ℕ) → n < 2 ^ 32 → Put (written_array n) (λ bytes at next. a_length kind.Array causes bytes at ≡ got n next)
  pub maps : (causes : Causes) (n : ℕ) → n < 2 ^ 32 → Put (written_map n) (λ bytes at next. a_length kind.Map causes bytes at ≡ got n next)
  pub truths : (cause : DecodeError) (b : Bool) → Put (written_boolean b) (λ bytes at next. a_truth cause bytes at ≡ got b next)
  -- the fixed forms
  pub u8s : (n : ℕ) → n < 2 ^ 8 → Back (pos n) (fixed_u8 n)
  pub u32s : (n : ℕ) → n < 2 ^ 32 → Back (pos n) (fixed_u32 n)
  pub u64s : (n : ℕ) → n < 2 ^ 64 → Back (pos n) (fixed_u64 n)
  pub i64s : (z : ℤ) → FitsSigned z → Back z (fixed_i64 z)
  pub doubles : (b : ℕ) → b < 2 ^ 64 → Put (fixed_double b) (λ bytes at next. a_double bytes at ≡ got b next)

-- every fault of a reading is at the place of the item
abbrev pub PlacedFaults : {A : Type 0} → (List ℕ → ℕ → Outcome ItemFault A) → Type 0
PlacedFaults read = (bytes : List ℕ) (at : ℕ) (e : ItemFault) → read bytes at ≡ fault e → e.place ≡ at

-- the fault where no byte is left
abbrev pub AtEnd : {A : Type 0} → (List ℕ → ℕ → Outcome ItemFault A) → DecodeError → Type 0
AtEnd read cause = (bytes : List ℕ) (at : ℕ) → length bytes ≤ at → read bytes at ≡ at_item cause at

-- the fault at the first byte of another item
abbrev pub AtOther : {A : Type 0} → (Marker → Bool) → (List ℕ → ℕ → Outcome ItemFault A) → DecodeError → Type 0
AtOther begins read cause = (bytes : List ℕ) (at : ℕ) → at < length bytes → begins (marker (slice_index bytes at)) ≡ false → read bytes at ≡ at_item cause at

-- every reading of a number has this fault
abbrev pub NoNumber : DecodeError → List ℕ → ℕ → Type 0
NoNumber cause bytes at =
    (a_number bytes at ≡ at_item cause at) × ((low high : ℤ) → an_integer low high bytes at ≡ at_item cause at)
    × (a_double bytes at ≡ at_item cause at) × ((end : ℕ) → an_index end bytes at ≡ at_item cause at)

-- the bytes end inside an encoding, behind its first k bytes
abbrev pub CutOff : Item → (List ℕ → ℕ → List ℕ → ℕ → Type 0) → Type 0
CutOff item P = (front e : List ℕ) (k : ℕ) → Encodes item e → 0 < k → k < length e → P (front ++ take k e) (length front) e k

pub record FaultsTold : Type 0 where
  -- a fault is at the item's place
  pub number_places : PlacedFaults a_number
  pub integer_places : (low high : ℤ) → PlacedFaults (an_integer low high)
  pub double_places : PlacedFaults a_double
  pub index_places : (end : ℕ) → PlacedFaults (an_index end)
  pub length_places : (k : Kind) (causes : Causes) → PlacedFaults (a_length k causes)
  pub text_places : PlacedFaults a_text
  pub byte_part_places : PlacedFaults a_binary
  pub truth_places : (cause : DecodeError) → PlacedFaults (a_truth cause)
  -- no byte is left
  pub number_ends : AtEnd a_number InvalidFormat
  pub integer_ends : (low high : ℤ) → AtEnd (an_integer low high) InvalidFormat
  pub double_ends : AtEnd a_double InvalidFormat
  pub index_ends : (end : ℕ) → AtEnd (an_index end) InvalidFormat
  pub length_ends : (k : Kind) (causes : Causes) → AtEnd (a_length k causes) causes.nothing_left
  pub text_ends : AtEnd a_text InvalidFormat
  pub byte_part_ends : AtEnd a_binary InvalidFormat
  pub truth_ends : (cause : DecodeError) → AtEnd (a_truth cause) cause
  -- another item begins
  pub other_numbers : AtOther begins_number a_number InvalidType
  pub other_integers : (low high : ℤ) → AtOther begins_number (an_integer low high) InvalidType
  pub other_doubles : AtOther begins_number a_double InvalidType
  pub other_indices : (end : ℕ) → AtOther begins_number (an_index end) InvalidType
  pub other_lengths : (k : Kind) (causes : Causes) → AtOther (begins_length k) (a_length k causes) causes.other_marker
  pub other_texts : AtOther (begins_length kind.Text) a_text InvalidType
  pub other_byte_parts : AtOther (begins_length kind.Bytes) a_binary InvalidFormat
  pub other_truths : (cause : DecodeError) → AtOther begins_truth (a_truth cause) cause
  -- the bytes end inside the item
  pub cut_integers : (z : ℤ) → CutOff (integer z) (λ bytes at _ _. NoNumber IOError bytes at)
  pub cut_singles : (b : ℕ) → CutOff (float32 b) (λ bytes at _ _. NoNumber IOError bytes at)
  pub cut_doubles : (b : ℕ) → CutOff (float64 b) (λ bytes at _ _. NoNumber IOError bytes at)
  pub cut_arrays : (causes : Causes) (n : ℕ) → CutOff (array n) (λ bytes at _ _. a_length kind.Array causes bytes at ≡ at_item causes.length_missing at)
  pub cut_maps : (causes : Causes) (n : ℕ) → CutOff (map n) (λ bytes at _ _. a_length kind.Map causes bytes at ≡ at_item causes.length_missing at)
  -- of a text, inside its length or inside its content
  pub cut_texts : (t : List ℕ) → CutOff (text t) (λ bytes at e k.
      (k < length e - length t → a_text bytes at ≡ at_item InvalidConversion at) × (length e - length t ≤ k → a_text bytes at ≡ at_item IOError at))
  pub cut_byte_parts : (b : List ℕ) → CutOff (binary b) (λ bytes at _ _. a_binary bytes at ≡ at_item InvalidFormat at)
  -- the content of a text is no UTF-8
  pub not_utf8 : (t : List ℕ) → utf8 t ≡ false → Placed (text t) (λ bytes at _. a_text bytes at ≡ at_item Utf8Error at)
