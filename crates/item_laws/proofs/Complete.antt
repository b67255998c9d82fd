-- Every encoding of a fitting value is read as that value. Assumes nothing.
use Rattle.std.proofs.Common.{◌≡◌, ℕ, suc, ◌+◌, ◌-◌, ◌*◌, ◌^◌, ◌<◌, ◌≤◌, Bool, true, false, ltb, List, [], ◌∷◌, ◌++◌, length, take, drop, ℤ, pos, negsuc, Some, None, sym, refl, ap, ◌∙◌, subst, ap₂, inl, inr, append_assoc, arith, length-append}
use lib.Seq.{take-append_seam, drop-append-add, drop-append_seam, get_or-append_seam}
use Rattle.std.proofs.lemmas.Bool.{and_from, lt-ltb, le-ltb, le-leb, eq-eqb, cond-true, cond-false}
use Rattle.msgpack.specs.declared.marker.Marker.{Marker}
use Rattle.msgpack.specs.declared.marker.Marker.TheVariants as marker_kind
use Rattle.msgpack.specs.declared.marker.Width.{Width}
use Rattle.msgpack.specs.declared.marker.Width.TheVariants.{One, Two, Four, Eight}
use Rattle.msgpack.specs.Doubles.{nearest_double, widened}
use Rattle.msgpack.specs.Encodings.{nil, boolean, integer, float32, float64, By, unsigned_forms, signed_forms, negative_forms, text_forms, Headed, Encodes}
use Rattle.msgpack.specs.Numbers.{wide, digits, twos}
use Rattle.msgpack.specs.Overview.{marker}
use Rattle.msgpack.specs.Text.{utf8}
use Rattle.items.specs.declared.fault.DecodeError.{DecodeError}
use Rattle.items.specs.declared.fault.DecodeError.TheVariants.{InvalidConversion, InvalidFormat, IOError, Utf8Error}
use Rattle.items.specs.declared.head.Kind.{Kind}
use Rattle.items.specs.declared.head.Kind.TheVariants as kind
use Rattle.items.specs.declared.length.Causes.{Causes}
use Rattle.items.specs.declared.number.Number.{Number}
use Rattle.items.specs.declared.number.Number.TheVariants as number
use Rattle.items.specs.Items.{Piece, head_of, at_item, by_content, double_of, number_by, a_number, in_range, integer_of, asked, an_integer, indexed, an_index, double_by, a_double, length_by, a_length, all_causes, text_causes, cut, a_piece, judged_text, a_text, truth_by, a_truth, null_at}
use Rattle.items.specs.Reads.{got, then}
use Rattle.item_laws.specs.Laws.{Placed, EncodingsRead}
use Rattle.item_laws.proofs.Firsts.{positive_says, negative_says, text_says, array_says, map_says}
use Rattle.item_laws.proofs.Forms.{forms_of}
use Rattle.item_laws.proofs.Places.{head_read, content_read}

-- two's complement
twos_up : (k n : ℕ) → n < 2 ^ (8 * k - 1) → twos k n ≡ pos n
twos_up k n h = cond-true _ (pos n) (negsuc (256 ^ k - suc n)) (lt-ltb n _ h)

twos_down : (k n m : ℕ) → 2 ^ (8 * k - 1) ≤ m → 256 ^ k - suc m ≡ n → twos k m ≡ negsuc n
twos_down k n m h e = cond-false _ (pos m) (negsuc (256 ^ k - suc m)) (le-ltb m _ h) ∙ ap negsuc e

-- the integer that a number is
abbrev Is : Number → ℤ → Type 0
Is (number.Unsigned n) z = pos n ≡ z
Is (number.Signed y) z = y ≡ z
Is (number.Float b) z = ⊥

integer_is : (low high : ℤ) (x : Number) (z : ℤ) → Is x z → integer_of low high x ≡ in_range low high z
integer_is low high (number.Unsigned n) z e = ap (in_range low high) e
integer_is low high (number.Signed y) z e = ap (in_range low high) e
integer_is low high (number.Float b) z e = absurd e

double_is : (x : Number) (z : ℤ) → Is x z → double_by x ≡ nearest_double z
double_is (number.Unsigned n) z e = ap nearest_double e
double_is (number.Signed y) z e = ap nearest_double e
double_is (number.Float b) z e = absurd e

module _ (front rest : List ℕ) where
  abbrev at : ℕ
  at = length front

  -- the bytes with an encoding in their middle, and where it ends
  abbrev mid : List ℕ → List ℕ
  mid e = front ++ (e ++ rest)

  abbrev next : List ℕ → ℕ
  next e = at + length e

  -- numbers

  abbrev Reads : ℤ → List ℕ → Type 0
  Reads z e = (x : Number) × Is x z × (a_number (mid e) at ≡ got x (next e))

  -- by what the first byte says
  begun : (b : ℕ) (tail : List ℕ) (m : Marker) → marker b ≡ m → a_number (mid (b ∷ tail)) at ≡ number_by (mid (b ∷ tail)) at (head_of m)
  begun b tail m e = head_read InvalidFormat (number_by (mid (b ∷ tail)) at) front b (tail ++ rest) ∙ ap (λ k. number_by (mid (b ∷ tail)) at (head_of k)) e

  uint_read : (w : Width) (b n : ℕ) → marker b ≡ marker_kind.Uint w → n < 256 ^ wide w → Reads (pos n) (b ∷ digits (wide w) n)
  uint_read w b n e h = (number.Unsigned n, refl, begun b (digits (wide w) n) (marker_kind.Uint w) e ∙ content_read IOError w number.Unsigned front b n rest h)

  int_read : (w : Width) (b n : ℕ) (z : ℤ) → marker b ≡ marker_kind.Int w → n < 256 ^ wide w → twos (wide w) n ≡ z → Reads z (b ∷ digits (wide w) n)
  int_read w b n z e h f = (
    number.Signed (twos (wide w) n),
    f,
    begun b (digits (wide w) n) (marker_kind.Int w) e ∙ content_read IOError w (λ m. number.Signed (twos (wide w) m)) front b n rest h,
  )

  float_read : (w : Width) (b n : ℕ) → marker b ≡ marker_kind.Float w → n < 256 ^ wide w → a_number (mid (b ∷ digits (wide w) n)) at ≡ got (number.Float (double_of w n)) (next (b ∷ digits (wide w) n))
  float_read w b n e h = begun b (digits (wide w) n) (marker_kind.Float w) e ∙ content_read IOError w (λ m. number.Float (double_of w m)) front b n rest h

  unsigned_read : (n : ℕ) (e : List ℕ) → By unsigned_forms n e → Reads (pos n) e
  unsigned_read n e (inl p) = subst (Reads (pos n)) (sym p.1) (number.Unsigned n, refl, begun (0 + n) [] (marker_kind.PositiveFixint n) (positive_says n p.0))
  unsigned_read n e (inr (inl p)) = subst (Reads (pos n)) (sym p.1) (uint_read One 0xcc n refl p.0)
  unsigned_read n e (inr (inr (inl p))) = subst (Reads (pos n)) (sym p.1) (uint_read Two 0xcd n refl p.0)
  unsigned_read n e (inr (inr (inr (inl p)))) = subst (Reads (pos n)) (sym p.1) (uint_read Four 0xce n refl p.0)
  unsigned_read n e (inr (inr (inr (inr (inl p))))) = subst (Reads (pos n)) (sym p.1) (uint_read Eight 0xcf n refl p.0)
  unsigned_read n e (inr (inr (inr (inr (inr b))))) = absurd b

  signed_read : (n : ℕ) (e : List ℕ) → By signed_forms n e → Reads (pos n) e
  signed_read n e (inl p) = subst (Reads (pos n)) (sym p.1) (int_read One 0xd0 n (pos n) refl (omega arith) (twos_up 1 n p.0))
  signed_read n e (inr (inl p)) = subst (Reads (pos n)) (sym p.1) (int_read Two 0xd1 n (pos n) refl (omega arith) (twos_up 2 n p.0))
  signed_read n e (inr (inr (inl p))) = subst (Reads (pos n)) (sym p.1) (int_read Four 0xd2 n (pos n) refl (omega arith) (twos_up 4 n p.0))
  signed_read n e (inr (inr (inr (inl p)))) = subst (Reads (pos n)) (sym p.1) (int_read Eight 0xd3 n (pos n) refl (omega arith) (twos_up 8 n p.0))
  signed_read n e (inr (inr (inr (inr b)))) = absurd b

  negative_read : (n : ℕ) (e : List ℕ) → By negative_forms n e → Reads (negsuc n) e
  negative_read n e (inl p) =
      subst (Reads (negsuc n)) (sym p.1)
      (number.Signed (twos 1 (0xff - n)), twos_down 1 n (0xff - n) (omega arith) (omega arith), begun (0xff - n) [] (marker_kind.NegativeFixint (0xff - n)) (negative_says n p.0))
  negative_read n e (inr (inl p)) = subst (Reads (negsuc n)) (sym p.1) (int_read One 0xd0 _ (negsuc n) refl (omega arith) (twos_down 1 n (256 ^ 1 - suc n) (omega arith) (omega arith)))
  negative_read n e (inr (inr (inl p))) = subst (Reads (negsuc n)) (sym p.1) (int_read Two 0xd1 _ (negsuc n) refl (omega arith) (twos_down 2 n (256 ^ 2 - suc n) (omega arith) (omega arith)))
  negative_read n e (inr (inr (inr (inl p)))) = subst (Reads (negsuc n)) (sym p.1) (int_read Four 0xd2 _ (negsuc n) refl (omega arith) (twos_down 4 n (256 ^ 4 - suc n) (omega arith) (omega arith)))
  negative_read n e (inr (inr (inr (inr (inl p))))) = subst (Reads (negsuc n)) (sym p.1) (int_read Eight 0xd3 _ (negsuc n) refl (omega arith) (twos_down 8 n (256 ^ 8 - suc n) (omega arith) (omega arith)))
  negative_read n e (inr (inr (inr (inr (inr b))))) = absurd b

  integer_read : (z : ℤ) (e : List ℕ) → Encodes (integer z) e → Reads z e
  integer_read (pos n) e (inl b) = unsigned_read n e b
  integer_read (pos n) e (inr b) = signed_read n e b
  integer_read (negsuc n) e b = negative_read n e b

  single_read : (b : ℕ) (e : List ℕ) → Encodes (float32 b) e → a_number (mid e) at ≡ got (number.Float (widened b)) (next e)
  single_read b e p = subst (λ e. a_number (mid e) at ≡ got (number.Float (widened b)) (next e)) (sym p.1) (float_read Four 0xca b refl p.0)

  double_read : (b : ℕ) (e : List ℕ) → Encodes (float64 b) e → a_number (mid e) at ≡ got (number.Float b) (next e)
  double_read b e p = subst (λ e. a_number (mid e) at ≡ got (number.Float b) (next e)) (sym p.1) (float_read Eight 0xcb b refl p.0)

  -- what a number is asked for
  asked_read : (low high : ℤ) (x : Number) (e : List ℕ) → a_number (mid e) at ≡ got x (next e) → an_integer low high (mid e) at ≡ asked at (next e) (integer_of low high x)
  asked_read low high x e h = ap (λ o. then o (λ n k. asked at k (integer_of low high n))) h

  doubled_read : (x : Number) (e : List ℕ) → a_number (mid e) at ≡ got x (next e) → a_double (mid e) at ≡ got (double_by x) (next e)
  doubled_read x e h = ap (λ o. then o (λ n k. got (double_by n) k)) h

  -- lengths

  module _ (causes : Causes) where
    length_begun : (k : Kind) (b : ℕ) (tail : List ℕ) (m : Marker) → marker b ≡ m → a_length k causes (mid (b ∷ tail)) at ≡ length_by k causes (mid (b ∷ tail)) at (head_of m)
    length_begun k b tail m e =
        head_read causes.nothing_left (length_by k causes (mid (b ∷ tail)) at) front b (tail ++ rest) ∙ ap (λ i. length_by k causes (mid (b ∷ tail)) at (head_of i)) e

    abbrev Counts : Kind → ℕ → List ℕ → Type 0
    Counts k n e = a_length k causes (mid e) at ≡ got n (next e)

    content : (w : Width) (b n : ℕ) → n < 256 ^ wide w → by_content causes.length_missing w (λ m. m) (mid (b ∷ digits (wide w) n)) at ≡ got n (next (b ∷ digits (wide w) n))
    content w b n h = content_read causes.length_missing w (λ m. m) front b n rest h

    pub length_read : (k : Kind) (n : ℕ) (e : List ℕ) → By (forms_of k) n e → Counts k n e
    length_read kind.Text n e (inl p) = subst (Counts kind.Text n) (sym p.1) (length_begun kind.Text (0xa0 + n) [] _ (text_says n p.0))
    length_read kind.Text n e (inr (inl p)) = subst (Counts kind.Text n) (sym p.1) (length_begun kind.Text 0xd9 (digits 1 n) _ refl ∙ content One 0xd9 n p.0)
    length_read kind.Text n e (inr (inr (inl p))) = subst (Counts kind.Text n) (sym p.1) (length_begun kind.Text 0xda (digits 2 n) _ refl ∙ content Two 0xda n p.0)
    length_read kind.Text n e (inr (inr (inr (inl p)))) = subst (Counts kind.Text n) (sym p.1) (length_begun kind.Text 0xdb (digits 4 n) _ refl ∙ content Four 0xdb n p.0)
    length_read kind.Text n e (inr (inr (inr (inr b)))) = absurd b
    length_read kind.Bytes n e (inl p) = subst (Counts kind.Bytes n) (sym p.1) (length_begun kind.Bytes 0xc4 (digits 1 n) _ refl ∙ content One 0xc4 n p.0)
    length_read kind.Bytes n e (inr (inl p)) = subst (Counts kind.Bytes n) (sym p.1) (length_begun kind.Bytes 0xc5 (digits 2 n) _ refl ∙ content Two 0xc5 n p.0)
    length_read kind.Bytes n e (inr (inr (inl p))) = subst (Counts kind.Bytes n) (sym p.1) (length_begun kind.Bytes 0xc6 (digits 4 n) _ refl ∙ content Four 0xc6 n p.0)
    length_read kind.Bytes n e (inr (inr (inr b))) = absurd b
    length_read kind.Array n e (inl p) = subst (Counts kind.Array n) (sym p.1) (length_begun kind.Array (0x90 + n) [] _ (array_says n p.0))
    length_read kind.Array n e (inr (inl p)) = subst (Counts kind.Array n) (sym p.1) (length_begun kind.Array 0xdc (digits 2 n) _ refl ∙ content Two 0xdc n p.0)
    length_read kind.Array n e (inr (inr (inl p))) = subst (Counts kind.Array n) (sym p.1) (length_begun kind.Array 0xdd (digits 4 n) _ refl ∙ content Four 0xdd n p.0)
    length_read kind.Array n e (inr (inr (inr b))) = absurd b
    length_read kind.Map n e (inl p) = subst (Counts kind.Map n) (sym p.1) (length_begun kind.Map (0x80 + n) [] _ (map_says n p.0))
    length_read kind.Map n e (inr (inl p)) = subst (Counts kind.Map n) (sym p.1) (length_begun kind.Map 0xde (digits 2 n) _ refl ∙ content Two 0xde n p.0)
    length_read kind.Map n e (inr (inr (inl p))) = subst (Counts kind.Map n) (sym p.1) (length_begun kind.Map 0xdf (digits 4 n) _ refl ∙ content Four 0xdf n p.0)
    length_read kind.Map n e (inr (inr (inr b))) = absurd b

  -- truth values and null

  truth_read : (cause : DecodeError) (b : Bool) (e : List ℕ) → Encodes (boolean b) e → a_truth cause (mid e) at ≡ got b (next e)
  truth_read cause false e p = subst (λ e. a_truth cause (mid e) at ≡ got false (next e)) (sym p) (head_read cause (truth_by cause at) front 0xc2 rest)
  truth_read cause true e p = subst (λ e. a_truth cause (mid e) at ≡ got true (next e)) (sym p) (head_read cause (truth_by cause at) front 0xc3 rest)

  null_read : (e : List ℕ) → Encodes nil e → null_at (mid e) at ≡ true
  null_read e p =
      let l : at < length (mid (0xc0 ∷ [])) = simp length-append (omega arith) in
      subst (λ e. null_at (mid e) at ≡ true) (sym p) (and_from _ _ (lt-ltb at _ l) (eq-eqb _ 0xc0 (get_or-append_seam front 0xc0 rest 0)))

-- texts and byte parts: a length, and as many bytes behind it

abbrev piece : List ℕ → ℕ → ℕ → Piece
piece t at start = record { content = t; place = at; start = start }

module _ (front t rest : List ℕ) where
  -- the bytes are cut out from behind the length
  cut_read : (short : DecodeError) (head : List ℕ) → cut short (front ++ (head ++ (t ++ rest))) (length front) (length t) (length front + length head) ≡ got (piece t (length front) (length front + length head)) (length front + length head + length t)
  cut_read short head =
      let bytes = front ++ (head ++ (t ++ rest)) in
      let at = length front in
      let start = at + length head in
      let l : start + length t ≤ length bytes = simp length-append (omega arith) in
      let behind : drop start bytes ≡ t ++ rest = drop-append-add front (head ++ (t ++ rest)) (length head) ∙ drop-append_seam head (t ++ rest) in
      cond-true _ (got (piece (take (length t) (drop start bytes)) at start) (start + length t)) (at_item short at) (le-leb (start + length t) (length bytes) l)
      ∙ ap (λ xs. got (piece xs at start) (start + length t)) (ap (take (length t)) behind ∙ take-append_seam t rest)

  pub piece_read : (k : Kind) (causes : Causes) (short : DecodeError) (e : List ℕ) → Headed (forms_of k) t e
      → a_piece k causes short (front ++ (e ++ rest)) (length front) ≡ got (piece t (length front) (length front + length e - length t)) (length front + length e)
  piece_read k causes short e h =
      let head = h.head in
      let at = length front in
      let long : length e ≡ length head + length t = ap length h.whole ∙ length-append head t in
      let starts : at + length head ≡ at + length e - length t = omega arith in
      let ends : at + length head + length t ≡ at + length e = omega arith in
      let whole : front ++ (e ++ rest) ≡ front ++ (head ++ (t ++ rest)) = ap (λ xs. front ++ (xs ++ rest)) h.whole ∙ ap (λ xs. front ++ xs) (append_assoc head t rest) in
      ap (λ bytes. a_piece k causes short bytes at) whole
      ∙ ap (λ o. then o (cut short (front ++ (head ++ (t ++ rest))) at)) (length_read front (t ++ rest) causes k (length t) head h.says)
      ∙ cut_read short head
      ∙ ap₂ (λ s n. got (piece t at s) n) starts ends

  text_read : utf8 t ≡ true → (e : List ℕ) → Headed text_forms t e → a_text (front ++ (e ++ rest)) (length front) ≡ got (piece t (length front) (length front + length e - length t)) (length front + length e)
  text_read u e h =
      let at = length front in
      let p = piece t at (at + length e - length t) in
      ap (λ o. then o (judged_text at)) (piece_read kind.Text text_causes IOError e h)
      ∙ cond-true (utf8 t) (got p (at + length e)) (at_item Utf8Error at) u

integers_read : (low high z : ℤ) → Placed (integer z) (λ bytes at next.
    (in_range low high z ≡ Some z → an_integer low high bytes at ≡ got z next) × (in_range low high z ≡ None → an_integer low high bytes at ≡ at_item InvalidConversion at))
integers_read low high z front e rest h =
    let r = integer_read front rest z e h in
    let at = length front in
    let asks = asked_read front rest low high r.0 e r.2 ∙ ap (asked at (at + length e)) (integer_is low high r.0 z r.1) in
    (λ i. asks ∙ ap (asked at (at + length e)) i, λ i. asks ∙ ap (asked at (at + length e)) i)

doubles_of_integers_read : (z : ℤ) → Placed (integer z) (λ bytes at next. a_double bytes at ≡ got (nearest_double z) next)
doubles_of_integers_read z front e rest h =
    let r = integer_read front rest z e h in
    doubled_read front rest r.0 e r.2 ∙ ap (λ d. got d (length front + length e)) (double_is r.0 z r.1)

indices_read : (end n : ℕ) → n < 2 ^ 32 → Placed (integer (pos n)) (λ bytes at next.
    (n < end → an_index end bytes at ≡ got (pos n) next) × (end ≤ n → an_index end bytes at ≡ at_item InvalidFormat at))
indices_read end n l front e rest h =
    let at = length front in
    let next = at + length e in
    let small : n ≤ 4294967295 = omega arith in
    let low : 0 ≤ n = omega arith in
    let r : in_range (pos 0) (pos 4294967295) (pos n) ≡ Some (pos n) = cond-true _ _ _ (and_from _ _ (le-leb 0 n low) (le-leb n 4294967295 small)) in
    let i = ap (λ o. then o (indexed end at)) ((integers_read (pos 0) (pos 4294967295) (pos n) front e rest h).0 r) in
    (λ t. i ∙ cond-true (ltb n end) (got (pos n) next) (at_item InvalidFormat at) (lt-ltb n end t), λ t. i ∙ cond-false (ltb n end) (got (pos n) next) (at_item InvalidFormat at) (le-ltb n end t))

other_indices_read : (end : ℕ) (z : ℤ) → in_range (pos 0) (pos 4294967295) z ≡ None → Placed (integer z) (λ bytes at next. an_index end bytes at ≡ at_item InvalidConversion at)
other_indices_read end z r front e rest h = ap (λ o. then o (indexed end (length front))) ((integers_read (pos 0) (pos 4294967295) z front e rest h).1 r)

pub encodings_read : EncodingsRead
encodings_read =
    record {
      integers = integers_read;
      indices = indices_read;
      other_indices = other_indices_read;
      doubles_of_integers = doubles_of_integers_read;
      doubles = λ b front e rest h. doubled_read front rest (number.Float b) e (double_read front rest b e h);
      doubles_of_singles = λ b front e rest h. doubled_read front rest (number.Float (widened b)) e (single_read front rest b e h);
      floats = λ low high b front e rest h. asked_read front rest low high (number.Float b) e (double_read front rest b e h);
      single_floats = λ low high b front e rest h. asked_read front rest low high (number.Float (widened b)) e (single_read front rest b e h);
      arrays = λ causes n front e rest h. length_read front rest causes kind.Array n e h;
      maps = λ causes n front e rest h. length_read front rest causes kind.Map n e h;
      texts = λ t u front e rest h. text_read front t rest u e h;
      byte_parts = λ b front e rest h. piece_read front b rest kind.Bytes (all_causes InvalidFormat) InvalidFormat e h;
      truths = λ cause b front e rest h. truth_read front rest cause b e h;
      nulls = λ front e rest h. null_read front rest e h;
    }
