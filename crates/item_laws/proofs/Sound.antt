-- What a reading accepts is an encoding of its value. Assumes nothing.
use Rattle.std.proofs.Common.{◌≡◌, ℕ, ◌+◌, ◌^◌, ◌<◌, ◌≤◌, Bool, true, false, cond, ◌&&◌, leb, List, [], ◌∷◌, length, get_or, take, drop, ℤ, pos, negsuc, Some, None, sym, refl, ap, ◌∙◌, subst, inl, inr, arith}
use lib.Signed.{le_z, lt_z}
use Rattle.std.specs.Int.Digits.{AllBelowBase}
use Rattle.std.proofs.ByRecursion.{All-get_or}
use Rattle.std.proofs.lemmas.List.{length-take, length-drop}
use Rattle.std.proofs.lemmas.Bool.{and_parts, true≢false, ltb-true, leb-true, eqb-true}
use Rattle.msgpack.specs.declared.marker.Marker.{Marker}
use Rattle.msgpack.specs.declared.marker.Marker.TheVariants as marker_kind
use Rattle.msgpack.specs.declared.marker.Width.{Width}
use Rattle.msgpack.specs.Encodings.{nil, boolean, integer, By, Headed, Encodes, text_forms}
use Rattle.msgpack.specs.Numbers.{wide, digits, twos}
use Rattle.msgpack.specs.Overview.{marker}
use Rattle.msgpack.specs.Text.{utf8}
use Rattle.items.specs.declared.fault.DecodeError.{DecodeError}
use Rattle.items.specs.declared.fault.DecodeError.TheVariants.{InvalidFormat, IOError}
use Rattle.items.specs.declared.head.Kind.{Kind}
use Rattle.items.specs.declared.head.Kind.TheVariants as kind
use Rattle.items.specs.declared.length.Causes.{Causes}
use Rattle.items.specs.declared.number.Number.{Number}
use Rattle.items.specs.declared.number.Number.TheVariants as number
use Rattle.items.specs.Items.{Piece, head_of, at_item, by_content, kind_number, same_kind, number_by, a_number, in_range, integer_of, asked, an_integer, indexed, an_index, double_by, a_double, length_by, a_length, all_causes, text_causes, cut, a_piece, judged_text, a_text, a_binary, truth_by, a_truth, null_at, double_of}
use Rattle.items.specs.Reads.{got}
use Rattle.item_laws.specs.Laws.{between, Stands, StandsDouble, StandsIndex, Lies, ReadsEncodings}
use Rattle.item_laws.proofs.Firsts.{first}
use Rattle.item_laws.proofs.Forms.{forms_of, positive_form, negative_form, unsigned_form, signed_form, float_form, text_form, binary_form, array_form, map_form, short_text, short_array, short_map}
use Rattle.item_laws.proofs.Places.{between_one, between_joins, length_between, Holds, holds_cond, holds_then, holds_weaker, holds_head, holds_content, Standing, sound}

same : (j k : Kind) → same_kind j k ≡ true → j ≡ k
same j k t = numbered j k (eqb-true _ _ t)
  where
    numbered : (j k : Kind) → kind_number j ≡ kind_number k → j ≡ k
    numbered kind.Text kind.Text e = refl
    numbered kind.Text kind.Bytes e = absurd (omega arith)
    numbered kind.Text kind.Array e = absurd (omega arith)
    numbered kind.Text kind.Map e = absurd (omega arith)
    numbered kind.Bytes kind.Text e = absurd (omega arith)
    numbered kind.Bytes kind.Bytes e = refl
    numbered kind.Bytes kind.Array e = absurd (omega arith)
    numbered kind.Bytes kind.Map e = absurd (omega arith)
    numbered kind.Array kind.Text e = absurd (omega arith)
    numbered kind.Array kind.Bytes e = absurd (omega arith)
    numbered kind.Array kind.Array e = refl
    numbered kind.Array kind.Map e = absurd (omega arith)
    numbered kind.Map kind.Text e = absurd (omega arith)
    numbered kind.Map kind.Bytes e = absurd (omega arith)
    numbered kind.Map kind.Array e = absurd (omega arith)
    numbered kind.Map kind.Map e = refl

-- what a reading's value and the bytes that it stands in have to do with each other

abbrev Ranged : ℤ → ℤ → List ℕ → ℕ → ℤ → List ℕ → Type 0
Ranged low high bytes at z e = (in_range low high z ≡ Some z) × Encodes (integer z) e

abbrev Counted : Kind → List ℕ → ℕ → ℕ → List ℕ → Type 0
Counted k bytes at n e = By (forms_of k) n e

abbrev Flagged : List ℕ → ℕ → Bool → List ℕ → Type 0
Flagged bytes at b e = Encodes (boolean b) e

abbrev Pieced : Kind → List ℕ → ℕ → Piece → List ℕ → Type 0
Pieced k bytes at p e = Headed (forms_of k) p.content e × Lies bytes at p e

abbrev Worded : List ℕ → ℕ → Piece → List ℕ → Type 0
Worded bytes at p e = (utf8 p.content ≡ true) × Headed text_forms p.content e × Lies bytes at p e

-- an integer of a range is from its low to its high end
ranged : (low high z : ℤ) → in_range low high z ≡ Some z → (le_z low z && le_z z high) ≡ true
ranged low high z e = split (le_z low z && le_z z high) e
  where
    split : (b : Bool) → cond b (Some z) None ≡ Some z → b ≡ true
    split true h = refl
    split false h = let n : ◌≡◌ {A = ℕ} 0 1 = cc in absurd (omega arith)

index_stands : (end : ℕ) (z : ℤ) (e : List ℕ) → in_range (pos 0) (pos 4294967295) z ≡ Some z → lt_z z (pos end) ≡ true → Encodes (integer z) e → StandsIndex end z e
index_stands end (pos n) e r t h =
    let l : n ≤ 4294967295 = leb-true n 4294967295 (and_parts (leb 0 n) (leb n 4294967295) (ranged (pos 0) (pos 4294967295) (pos n) r)).1 in
    (n, refl, ltb-true n end t, omega arith, h)
index_stands end (negsuc n) e r t h = absurd (true≢false (sym (ranged (pos 0) (pos 4294967295) (negsuc n) r)))

double_stands : (x : Number) (e : List ℕ) → Stands x e → StandsDouble (double_by x) e
double_stands (number.Unsigned n) e h = inl (pos n, refl, h)
double_stands (number.Signed z) e h = inl (z, refl, h)
double_stands (number.Float b) e h = inr h

-- an item at a place within the bytes, by what its first byte says
module _ (bytes : List ℕ) (at : ℕ) (under : AllBelowBase 256 bytes) (inside : at < length bytes) where
  abbrev byte : ℕ
  byte = get_or bytes at 0

  small : byte < 256
  small = All-get_or (λ d. d < 256) bytes at 0 inside under

  here : between bytes at (at + 1) ≡ byte ∷ []
  here = between_one bytes at inside

  -- an item of one byte, and one with a number behind its first byte
  near : {A : Type 0} (stands : A → List ℕ → Type 0) (x : A) → stands x (between bytes at (at + 1)) → Standing (λ _ _. stands) bytes at x (at + 1)
  near stands x h = (omega arith, omega arith, h)

  far : {A : Type 0} (stands : A → List ℕ → Type 0) (short : DecodeError) (w : Width) (f : ℕ → A)
      → ((n : ℕ) (e : List ℕ) → n < 256 ^ wide w → e ≡ byte ∷ digits (wide w) n → stands (f n) e) → Holds (Standing (λ _ _. stands) bytes at) (by_content short w f bytes at)
  far stands short w f each = holds_content (Standing (λ _ _. stands) bytes at) short w f bytes at under (λ n h l is. (omega arith, l, each n _ h is))

  number_stands : (m : Marker) → marker byte ≡ m → Holds (Standing (λ _ _. Stands) bytes at) (number_by bytes at (head_of m))
  number_stands (marker_kind.PositiveFixint n) e = near Stands (number.Unsigned n) (positive_form byte n _ small (first byte _ small e) here)
  number_stands (marker_kind.FixMap n) e = tt
  number_stands (marker_kind.FixArray n) e = tt
  number_stands (marker_kind.FixStr n) e = tt
  number_stands marker_kind.Nil e = tt
  number_stands marker_kind.NeverUsed e = tt
  number_stands marker_kind.False e = tt
  number_stands marker_kind.True e = tt
  number_stands (marker_kind.Bin w) e = tt
  number_stands (marker_kind.Ext w) e = tt
  number_stands (marker_kind.Float w) e = far Stands IOError w (λ n. number.Float (double_of w n)) (λ n bs h is. float_form byte n bs small w h is (first byte _ small e))
  number_stands (marker_kind.Uint w) e = far Stands IOError w number.Unsigned (λ n bs h is. inl (unsigned_form byte n bs small w h is (first byte _ small e)))
  number_stands (marker_kind.Int w) e = far Stands IOError w (λ n. number.Signed (twos (wide w) n)) (λ n bs h is. signed_form byte n bs small w h is (first byte _ small e))
  number_stands (marker_kind.FixExt n) e = tt
  number_stands (marker_kind.Str w) e = tt
  number_stands (marker_kind.Array w) e = tt
  number_stands (marker_kind.Map w) e = tt
  number_stands (marker_kind.NegativeFixint n) e = near Stands (number.Signed (twos 1 n)) (negative_form byte n _ small (first byte _ small e) here)

  -- a length of a kind, read as one of the kind that is asked for
  module _ (k : Kind) (causes : Causes) where
    short_length : (j : Kind) (n : ℕ) → By (forms_of j) n (between bytes at (at + 1)) → Holds (Standing (Counted k) bytes at) (cond (same_kind j k) (got n (at + 1)) (at_item causes.other_marker at))
    short_length j n h =
        holds_cond (Standing (Counted k) bytes at) (same_kind j k) (got n (at + 1)) _ (λ t. near (By (forms_of k)) n (subst (λ i. By (forms_of i) n (between bytes at (at + 1))) (same j k t) h))

    long_length : (j : Kind) (w : Width) → ((n : ℕ) (e : List ℕ) → n < 256 ^ wide w → e ≡ byte ∷ digits (wide w) n → By (forms_of j) n e) → Holds (Standing (Counted k) bytes at) (cond (same_kind j k) (by_content causes.length_missing w (λ n. n) bytes at) (at_item causes.other_marker at))
    long_length j w each =
        holds_cond (Standing (Counted k) bytes at) (same_kind j k) (by_content causes.length_missing w (λ n. n) bytes at) _
        (λ t. far (By (forms_of k)) causes.length_missing w (λ n. n) (λ n e h is. subst (λ i. By (forms_of i) n e) (same j k t) (each n e h is)))

    length_stands : (m : Marker) → marker byte ≡ m → Holds (Standing (Counted k) bytes at) (length_by k causes bytes at (head_of m))
    length_stands (marker_kind.PositiveFixint n) e = tt
    length_stands (marker_kind.FixMap n) e = short_length kind.Map n (short_map byte n _ small (first byte _ small e) here)
    length_stands (marker_kind.FixArray n) e = short_length kind.Array n (short_array byte n _ small (first byte _ small e) here)
    length_stands (marker_kind.FixStr n) e = short_length kind.Text n (short_text byte n _ small (first byte _ small e) here)
    length_stands marker_kind.Nil e = tt
    length_stands marker_kind.NeverUsed e = tt
    length_stands marker_kind.False e = tt
    length_stands marker_kind.True e = tt
    length_stands (marker_kind.Bin w) e = long_length kind.Bytes w (λ n bs h is. binary_form byte n bs small w h is (first byte _ small e))
    length_stands (marker_kind.Ext w) e = tt
    length_stands (marker_kind.Float w) e = tt
    length_stands (marker_kind.Uint w) e = tt
    length_stands (marker_kind.Int w) e = tt
    length_stands (marker_kind.FixExt n) e = tt
    length_stands (marker_kind.Str w) e = long_length kind.Text w (λ n bs h is. text_form byte n bs small w h is (first byte _ small e))
    length_stands (marker_kind.Array w) e = long_length kind.Array w (λ n bs h is. array_form byte n bs small w h is (first byte _ small e))
    length_stands (marker_kind.Map w) e = long_length kind.Map w (λ n bs h is. map_form byte n bs small w h is (first byte _ small e))
    length_stands (marker_kind.NegativeFixint n) e = tt

  truth_stands : (cause : DecodeError) (m : Marker) → marker byte ≡ m → Holds (Standing Flagged bytes at) (truth_by cause at (head_of m))
  truth_stands cause (marker_kind.PositiveFixint n) e = tt
  truth_stands cause (marker_kind.FixMap n) e = tt
  truth_stands cause (marker_kind.FixArray n) e = tt
  truth_stands cause (marker_kind.FixStr n) e = tt
  truth_stands cause marker_kind.Nil e = tt
  truth_stands cause marker_kind.NeverUsed e = tt
  truth_stands cause marker_kind.False e = near (λ b. Encodes (boolean b)) false (here ∙ ap (λ c. c ∷ []) (first byte _ small e))
  truth_stands cause marker_kind.True e = near (λ b. Encodes (boolean b)) true (here ∙ ap (λ c. c ∷ []) (first byte _ small e))
  truth_stands cause (marker_kind.Bin w) e = tt
  truth_stands cause (marker_kind.Ext w) e = tt
  truth_stands cause (marker_kind.Float w) e = tt
  truth_stands cause (marker_kind.Uint w) e = tt
  truth_stands cause (marker_kind.Int w) e = tt
  truth_stands cause (marker_kind.FixExt n) e = tt
  truth_stands cause (marker_kind.Str w) e = tt
  truth_stands cause (marker_kind.Array w) e = tt
  truth_stands cause (marker_kind.Map w) e = tt
  truth_stands cause (marker_kind.NegativeFixint n) e = tt

module _ (bytes : List ℕ) (at : ℕ) (under : AllBelowBase 256 bytes) where
  numbers_stand : Holds (Standing (λ _ _. Stands) bytes at) (a_number bytes at)
  numbers_stand = holds_head (Standing (λ _ _. Stands) bytes at) InvalidFormat (number_by bytes at) bytes at (λ l. number_stands bytes at under l _ refl)

  lengths_stand : (k : Kind) (causes : Causes) → Holds (Standing (Counted k) bytes at) (a_length k causes bytes at)
  lengths_stand k causes =
      holds_head (Standing (Counted k) bytes at) causes.nothing_left (length_by k causes bytes at) bytes at (λ l. length_stands bytes at under l k causes _ refl)

  truths_stand : (cause : DecodeError) → Holds (Standing Flagged bytes at) (a_truth cause bytes at)
  truths_stand cause = holds_head (Standing Flagged bytes at) cause (truth_by cause at) bytes at (λ l. truth_stands bytes at under l cause _ refl)

  -- integers of a range

  asked_stands : (low high z : ℤ) (next : ℕ) → Standing (λ _ _ z. Encodes (integer z)) bytes at z next → Holds (Standing (Ranged low high) bytes at) (asked at next (in_range low high z))
  asked_stands low high z next s = split (le_z low z && le_z z high) refl
    where
      split : (b : Bool) → (le_z low z && le_z z high) ≡ b → Holds (Standing (Ranged low high) bytes at) (asked at next (cond b (Some z) None))
      split true t = (s.0, s.1, (ap (λ b. cond b (Some z) None) t, s.2))
      split false t = tt

  number_asked : (low high : ℤ) (x : Number) (next : ℕ) → Standing (λ _ _. Stands) bytes at x next → Holds (Standing (Ranged low high) bytes at) (asked at next (integer_of low high x))
  number_asked low high (number.Unsigned n) next s = asked_stands low high (pos n) next s
  number_asked low high (number.Signed z) next s = asked_stands low high z next s
  number_asked low high (number.Float b) next s = tt

  integers_stand : (low high : ℤ) → Holds (Standing (Ranged low high) bytes at) (an_integer low high bytes at)
  integers_stand low high =
      holds_then (Standing (Ranged low high) bytes at) (a_number bytes at) (λ n next. asked at next (integer_of low high n))
      (holds_weaker (Standing (λ _ _. Stands) bytes at) _ (a_number bytes at) (number_asked low high) numbers_stand)

  doubles_stand : Holds (Standing (λ _ _. StandsDouble) bytes at) (a_double bytes at)
  doubles_stand =
      holds_then (Standing (λ _ _. StandsDouble) bytes at) (a_number bytes at) (λ n next. got (double_by n) next)
      (holds_weaker (Standing (λ _ _. Stands) bytes at) _ (a_number bytes at) (λ x next s. (s.0, s.1, double_stands x (between bytes at next) s.2)) numbers_stand)

  indices_stand : (end : ℕ) → Holds (Standing (λ _ _. StandsIndex end) bytes at) (an_index end bytes at)
  indices_stand end =
      holds_then (Standing (λ _ _. StandsIndex end) bytes at) (an_integer (pos 0) (pos 4294967295) bytes at) (indexed end at)
      (holds_weaker (Standing (Ranged (pos 0) (pos 4294967295)) bytes at) _ (an_integer (pos 0) (pos 4294967295) bytes at)
      (λ z next s. holds_cond (Standing (λ _ _. StandsIndex end) bytes at) (lt_z z (pos end)) (got z next) _ (λ t.
      (s.0, s.1, index_stands end z (between bytes at next) s.2.0 t s.2.1)))
      (integers_stand (pos 0) (pos 4294967295)))

  -- texts and byte parts

  cut_stands : (k : Kind) (short : DecodeError) (n mid : ℕ) → Standing (Counted k) bytes at n mid → Holds (Standing (Pieced k) bytes at) (cut short bytes at n mid)
  cut_stands k short n mid s = holds_cond (Standing (Pieced k) bytes at) _ _ _ (λ t.
      let l : mid + n ≤ length bytes = leb-true _ _ t in
      let part = take n (drop mid bytes) in
      let long : length part ≡ n = simp (length-take, length-drop) (omega arith) in
      let says = subst (λ m. By (forms_of k) m (between bytes at mid)) (sym long) s.2 in
      let e : Headed (forms_of k) part (between bytes at (mid + n)) = record { head = between bytes at mid; says = says; whole = between_joins bytes at mid n s.0 } in
      let ends = length_between bytes at (mid + n) (omega arith) l in
      (omega (arith, s.0), l, (e, (refl, omega (arith, ends), ap (λ m. take m (drop mid bytes)) (sym long)))))

  pieces_stand : (k : Kind) (causes : Causes) (short : DecodeError) → Holds (Standing (Pieced k) bytes at) (a_piece k causes short bytes at)
  pieces_stand k causes short =
      holds_then (Standing (Pieced k) bytes at) (a_length k causes bytes at) (cut short bytes at)
      (holds_weaker (Standing (Counted k) bytes at) _ (a_length k causes bytes at) (cut_stands k short) (lengths_stand k causes))

  texts_stand : Holds (Standing Worded bytes at) (a_text bytes at)
  texts_stand =
      holds_then (Standing Worded bytes at) (a_piece kind.Text text_causes IOError bytes at) (judged_text at)
      (holds_weaker (Standing (Pieced kind.Text) bytes at) _ (a_piece kind.Text text_causes IOError bytes at)
      (λ p next s. holds_cond (Standing Worded bytes at) (utf8 p.content) (got p next) _ (λ t. (s.0, s.1, (t, s.2.0, s.2.1))))
      (pieces_stand kind.Text text_causes IOError))

nulls_stand : (bytes : List ℕ) (at : ℕ) → null_at bytes at ≡ true → Encodes nil (between bytes at (at + 1))
nulls_stand bytes at t =
    let p = and_parts _ _ t in
    between_one bytes at (ltb-true at (length bytes) p.0) ∙ ap (λ c. c ∷ []) (eqb-true (get_or bytes at 0) 0xc0 p.1)

pub reads_encodings : ReadsEncodings
reads_encodings =
    record {
      numbers = sound a_number (λ _ _. Stands) numbers_stand;
      integers = λ low high. sound (an_integer low high) (Ranged low high) (λ bytes at u. integers_stand bytes at u low high);
      doubles = sound a_double (λ _ _. StandsDouble) doubles_stand;
      indices = λ end. sound (an_index end) (λ _ _. StandsIndex end) (λ bytes at u. indices_stand bytes at u end);
      arrays = λ causes. sound (a_length kind.Array causes) (Counted kind.Array) (λ bytes at u. lengths_stand bytes at u kind.Array causes);
      maps = λ causes. sound (a_length kind.Map causes) (Counted kind.Map) (λ bytes at u. lengths_stand bytes at u kind.Map causes);
      texts = sound a_text Worded texts_stand;
      byte_parts = sound a_binary (Pieced kind.Bytes) (λ bytes at u. pieces_stand bytes at u kind.Bytes (all_causes InvalidFormat) InvalidFormat);
      truths = λ cause. sound (a_truth cause) Flagged (λ bytes at u. truths_stand bytes at u cause);
      nulls = nulls_stand;
    }
