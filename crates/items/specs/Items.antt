-- What the reading of an item at a place gives. Assumes nothing.
use Rattle.std.specs.Prelude.{ℕ, ◌+◌, Bool, true, false, cond, ◌&&◌, List, length, take, drop, ℤ, pos, Some, None, Option, ◌==◌, int_le, int_lt, nat_le, nat_lt, slice_index}
use Rattle.msgpack.specs.declared.marker.Marker.{Marker}
use Rattle.msgpack.specs.declared.marker.Marker.TheVariants as marker_kind
use Rattle.msgpack.specs.declared.marker.Width.{Width}
use Rattle.msgpack.specs.declared.marker.Width.TheVariants.{One, Two, Four, Eight}
use Rattle.msgpack.specs.Doubles.{nearest_double, widened}
use Rattle.msgpack.specs.Numbers.{wide, big, twos}
use Rattle.msgpack.specs.Overview.{marker}
use Rattle.msgpack.specs.Text.{utf8}
use Rattle.items.specs.declared.fault.DecodeError.{DecodeError}
use Rattle.items.specs.declared.fault.DecodeError.TheVariants.{InvalidConversion, InvalidType, InvalidFormat, IOError, Utf8Error}
use Rattle.items.specs.declared.fault.ItemFault.{ItemFault}
use Rattle.items.specs.declared.head.Head.{Head}
use Rattle.items.specs.declared.head.Head.TheVariants.{Null, Truth, Positive, Negative, Unsigned, Signed, Float, Length, LengthBehind, Other}
use Rattle.items.specs.declared.head.Kind.{Kind}
use Rattle.items.specs.declared.head.Kind.TheVariants as kind
use Rattle.items.specs.declared.length.Causes.{Causes}
use Rattle.items.specs.declared.number.Number.{Number}
use Rattle.items.specs.declared.number.Number.TheVariants as number
use Rattle.items.specs.Reads.{Outcome, got, fault, then}

-- kinds of lengths

abbrev pub kind_number : Kind → ℕ
kind_number kind.Text = 0
kind_number kind.Bytes = 1
kind_number kind.Array = 2
kind_number kind.Map = 3

abbrev pub same_kind : Kind → Kind → Bool
same_kind k j = kind_number k == kind_number j

-- what the first byte of each format announces
abbrev pub head_of : Marker → Head
head_of (marker_kind.PositiveFixint b) = Positive b
head_of (marker_kind.FixMap n) = Length kind.Map n
head_of (marker_kind.FixArray n) = Length kind.Array n
head_of (marker_kind.FixStr n) = Length kind.Text n
head_of marker_kind.Nil = Null
head_of marker_kind.NeverUsed = Other
head_of marker_kind.False = Truth false
head_of marker_kind.True = Truth true
head_of (marker_kind.Bin w) = LengthBehind kind.Bytes w
head_of (marker_kind.Ext w) = Other
head_of (marker_kind.Float w) = Float w
head_of (marker_kind.Uint w) = Unsigned w
head_of (marker_kind.Int w) = Signed w
head_of (marker_kind.FixExt n) = Other
head_of (marker_kind.Str w) = LengthBehind kind.Text w
head_of (marker_kind.Array w) = LengthBehind kind.Array w
head_of (marker_kind.Map w) = LengthBehind kind.Map w
head_of (marker_kind.NegativeFixint b) = Negative b

-- a fault of the item at a place
abbrev pub at_item : {A : Type 0} → DecodeError → ℕ → Outcome ItemFault A
at_item cause at = fault (record { cause = cause; place = at })

-- what the head of the item at a place leads to; at the window's end, the cause given
abbrev pub by_head : {A : Type 0} → DecodeError → (Head → Outcome ItemFault A) → List ℕ → ℕ → Outcome ItemFault A
by_head ended f bytes at = cond (nat_lt at (length bytes)) (f (head_of (marker (slice_index bytes at)))) (at_item ended at)

-- what the number in so many bytes behind the first leads to; where they are short, the cause given
abbrev pub by_content : {A : Type 0} → DecodeError → Width → (ℕ → A) → List ℕ → ℕ → Outcome ItemFault A
by_content short w f bytes at =
    cond (nat_le (at + 1 + wide w) (length bytes)) (got (f (big (take (wide w) (drop (at + 1) bytes)))) (at + 1 + wide w)) (at_item short at)

-- numbers

-- a float by the 64 bits of its double
abbrev pub double_of : Width → ℕ → ℕ
double_of One b = widened b
double_of Two b = widened b
double_of Four b = widened b
double_of Eight b = b

abbrev pub number_by : List ℕ → ℕ → Head → Outcome ItemFault Number
number_by bytes at (Positive b) = got (number.Unsigned b) (at + 1)
number_by bytes at (Negative b) = got (number.Signed (twos 1 b)) (at + 1)
number_by bytes at (Unsigned w) = by_content IOError w number.Unsigned bytes at
number_by bytes at (Signed w) = by_content IOError w (λ n. number.Signed (twos (wide w) n)) bytes at
number_by bytes at (Float w) = by_content IOError w (λ n. number.Float (double_of w n)) bytes at
number_by bytes at Null = at_item InvalidType at
number_by bytes at (Truth b) = at_item InvalidType at
number_by bytes at (Length k n) = at_item InvalidType at
number_by bytes at (LengthBehind k w) = at_item InvalidType at
number_by bytes at Other = at_item InvalidType at

abbrev pub a_number : List ℕ → ℕ → Outcome ItemFault Number
a_number bytes at = by_head InvalidFormat (number_by bytes at) bytes at

-- an integer from low to high
abbrev pub in_range : ℤ → ℤ → ℤ → Option ℤ
in_range low high z = cond (int_le low z && int_le z high) (Some z) None

abbrev pub integer_of : ℤ → ℤ → Number → Option ℤ
integer_of low high (number.Unsigned n) = in_range low high (pos n)
integer_of low high (number.Signed z) = in_range low high z
integer_of low high (number.Float b) = None

abbrev pub asked : ℕ → ℕ → Option ℤ → Outcome ItemFault ℤ
asked at next None = at_item InvalidConversion at
asked at next (Some z) = got z next

abbrev pub an_integer : ℤ → ℤ → List ℕ → ℕ → Outcome ItemFault ℤ
an_integer low high bytes at = then (a_number bytes at) (λ n next. asked at next (integer_of low high n))

-- a number of 32 bits below the end
abbrev pub indexed : ℕ → ℕ → ℤ → ℕ → Outcome ItemFault ℤ
indexed end at z next = cond (int_lt z (pos end)) (got z next) (at_item InvalidFormat at)

abbrev pub an_index : ℕ → List ℕ → ℕ → Outcome ItemFault ℤ
an_index end bytes at = then (an_integer (pos 0) (pos 4294967295) bytes at) (indexed end at)

abbrev pub double_by : Number → ℕ
double_by (number.Unsigned n) = nearest_double (pos n)
double_by (number.Signed z) = nearest_double z
double_by (number.Float b) = b

abbrev pub a_double : List ℕ → ℕ → Outcome ItemFault ℕ
a_double bytes at = then (a_number bytes at) (λ n next. got (double_by n) next)

-- lengths

abbrev pub length_by : Kind → Causes → List ℕ → ℕ → Head → Outcome ItemFault ℕ
length_by k causes bytes at (Length j n) = cond (same_kind j k) (got n (at + 1)) (at_item causes.other_marker at)
length_by k causes bytes at (LengthBehind j w) = cond (same_kind j k) (by_content causes.length_missing w (λ n. n) bytes at) (at_item causes.other_marker at)
length_by k causes bytes at Null = at_item causes.other_marker at
length_by k causes bytes at (Truth b) = at_item causes.other_marker at
length_by k causes bytes at (Positive b) = at_item causes.other_marker at
length_by k causes bytes at (Negative b) = at_item causes.other_marker at
length_by k causes bytes at (Unsigned w) = at_item causes.other_marker at
length_by k causes bytes at (Signed w) = at_item causes.other_marker at
length_by k causes bytes at (Float w) = at_item causes.other_marker at
length_by k causes bytes at Other = at_item causes.other_marker at

abbrev pub a_length : Kind → Causes → List ℕ → ℕ → Outcome ItemFault ℕ
a_length k causes bytes at = by_head causes.nothing_left (length_by k causes bytes at) bytes at

-- every failure has the same cause
abbrev pub all_causes : DecodeError → Causes
all_causes cause = record { nothing_left = cause; other_marker = cause; length_missing = cause }

abbrev pub text_causes : Causes
text_causes = record { nothing_left = InvalidFormat; other_marker = InvalidType; length_missing = InvalidConversion }

-- of a map of metrics or of byte parts
abbrev pub value_causes : Causes
value_causes = record { nothing_left = InvalidFormat; other_marker = InvalidType; length_missing = IOError }

-- texts and byte parts

-- the bytes of a part, the place of its item, and the place where the bytes begin
pub record Piece : Type 0 where
  pub content : List ℕ
  pub place : ℕ
  pub start : ℕ

abbrev pub cut : DecodeError → List ℕ → ℕ → ℕ → ℕ → Outcome ItemFault Piece
cut short bytes at n start =
    cond (nat_le (start + n) (length bytes)) (got (record { content = take n (drop start bytes); place = at; start = start }) (start + n)) (at_item short at)

abbrev pub a_piece : Kind → Causes → DecodeError → List ℕ → ℕ → Outcome ItemFault Piece
a_piece k causes short bytes at = then (a_length k causes bytes at) (cut short bytes at)

abbrev pub judged_text : ℕ → Piece → ℕ → Outcome ItemFault Piece
judged_text at p next = cond (utf8 p.content) (got p next) (at_item Utf8Error at)

abbrev pub a_text : List ℕ → ℕ → Outcome ItemFault Piece
a_text bytes at = then (a_piece kind.Text text_causes IOError bytes at) (judged_text at)

abbrev pub a_binary : List ℕ → ℕ → Outcome ItemFault Piece
a_binary bytes at = a_piece kind.Bytes (all_causes InvalidFormat) InvalidFormat bytes at

-- truth values and null

abbrev pub truth_by : DecodeError → ℕ → Head → Outcome ItemFault Bool
truth_by cause at (Truth b) = got b (at + 1)
truth_by cause at Null = at_item cause at
truth_by cause at (Positive b) = at_item cause at
truth_by cause at (Negative b) = at_item cause at
truth_by cause at (Unsigned w) = at_item cause at
truth_by cause at (Signed w) = at_item cause at
truth_by cause at (Float w) = at_item cause at
truth_by cause at (Length k n) = at_item cause at
truth_by cause at (LengthBehind k w) = at_item cause at
truth_by cause at Other = at_item cause at

abbrev pub a_truth : DecodeError → List ℕ → ℕ → Outcome ItemFault Bool
a_truth cause bytes at = by_head cause (truth_by cause at) bytes at

-- whether null stands at a place
abbrev pub null_at : List ℕ → ℕ → Bool
null_at bytes at = nat_lt at (length bytes) && slice_index bytes at == 0xc0
