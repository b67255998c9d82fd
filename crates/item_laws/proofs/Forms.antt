-- Which forms a first byte and the digits behind it are. Assumes nothing.
use Rattle.std.proofs.Common.{◌≡◌, ℕ, suc, ◌+◌, ◌-◌, ◌*◌, ◌^◌, ◌<◌, ◌≤◌, ltb, List, [], ◌∷◌, ℤ, pos, negsuc, refl, ap, ◌∙◌, inl, inr, arith}
use Rattle.std.proofs.lemmas.Bool.{cond_both, ltb-true, ltb-false, leb-true}
use Rattle.msgpack.specs.declared.marker.Width.{Width}
use Rattle.msgpack.specs.declared.marker.Width.TheVariants.{One, Two, Four, Eight}
use Rattle.msgpack.specs.declared.marker.Marker.TheVariants as marker_kind
use Rattle.msgpack.specs.Encodings.{Form, integer, Encodes, By, unsigned_forms, text_forms, binary_forms, array_forms, map_forms}
use Rattle.msgpack.specs.Numbers.{wide, digits, twos}
use Rattle.msgpack.specs.Overview.{first_byte}
use Rattle.items.specs.declared.head.Kind.{Kind}
use Rattle.items.specs.declared.head.Kind.TheVariants as kind
use Rattle.items.specs.declared.number.Number.TheVariants as number
use Rattle.items.specs.Items.{double_of}
use Rattle.item_laws.specs.Laws.{Stands}
use Rattle.item_laws.proofs.Firsts.{passed}

-- the forms of a length
abbrev pub forms_of : Kind → List Form
forms_of kind.Text = text_forms
forms_of kind.Bytes = binary_forms
forms_of kind.Array = array_forms
forms_of kind.Map = map_forms

-- a number in two's complement is from 0 up, or below 0
twos_cases : (k n : ℕ) (P : ℤ → Type 0) → (n < 2 ^ (8 * k - 1) → P (pos n)) → (2 ^ (8 * k - 1) ≤ n → P (negsuc (256 ^ k - suc n))) → P (twos k n)
twos_cases k n P up down =
    cond_both (ltb n (2 ^ (8 * k - 1))) (pos n) (negsuc (256 ^ k - suc n)) P (λ t. up (ltb-true n _ t)) (λ t. down (ltb-false n _ t))

-- taken from the top twice
twice : (k n b : ℕ) (e : List ℕ) → n < 256 ^ k → e ≡ b ∷ digits k n → e ≡ b ∷ digits k (256 ^ k - suc (256 ^ k - suc n))
twice k n b e h f =
    let g : n ≡ 256 ^ k - suc (256 ^ k - suc n) = omega arith in
    f ∙ ap (λ m. b ∷ digits k m) g

-- bytes that begin with b and go on with the digits of n
module _ (b n : ℕ) (e : List ℕ) (byte : b < 256) where
  pub positive_form : b ≡ first_byte (marker_kind.PositiveFixint n) → e ≡ b ∷ [] → Encodes (integer (pos n)) e
  positive_form f g =
      let p = passed (ltb n 0x80) b n byte f in
      let z : b ≡ 0 + n = omega (arith, p.1) in
      inl (inl (ltb-true n 0x80 p.0, g ∙ ap (λ c. c ∷ []) z))

  pub negative_form : b ≡ first_byte (marker_kind.NegativeFixint n) → e ≡ b ∷ [] → Encodes (integer (twos 1 n)) e
  negative_form f g =
      let p = passed _ b n byte f in
      let l = leb-true 0xe0 n p.0 in
      let z : b ≡ 0xff - (256 - suc n) = omega (arith, p.1) in
      twos_cases 1 n (λ z. Encodes (integer z) e) (λ t. absurd (omega arith)) (λ t. inl (omega (arith, p.1), g ∙ ap (λ c. c ∷ []) z))

  begun : (k c : ℕ) → e ≡ b ∷ digits k n → b ≡ c → e ≡ c ∷ digits k n
  begun k c is f = is ∙ ap (λ d. d ∷ digits k n) f

  pub unsigned_form : (w : Width) → n < 256 ^ wide w → e ≡ b ∷ digits (wide w) n → b ≡ first_byte (marker_kind.Uint w) → By unsigned_forms n e
  unsigned_form One h is f = inr (inl (h, begun 1 _ is f))
  unsigned_form Two h is f = inr (inr (inl (h, begun 2 _ is f)))
  unsigned_form Four h is f = inr (inr (inr (inl (h, begun 4 _ is f))))
  unsigned_form Eight h is f = inr (inr (inr (inr (inl (h, begun 8 _ is f)))))

  pub signed_form : (w : Width) → n < 256 ^ wide w → e ≡ b ∷ digits (wide w) n → b ≡ first_byte (marker_kind.Int w) → Encodes (integer (twos (wide w) n)) e
  signed_form One h is f =
      let g = begun 1 _ is f in
      twos_cases 1 n (λ z. Encodes (integer z) e) (λ t. inr (inl (t, g))) (λ t. inr (inl (omega arith, twice 1 n 0xd0 e h g)))
  signed_form Two h is f =
      let g = begun 2 _ is f in
      twos_cases 2 n (λ z. Encodes (integer z) e) (λ t. inr (inr (inl (t, g)))) (λ t. inr (inr (inl (omega arith, twice 2 n 0xd1 e h g))))
  signed_form Four h is f =
      let g = begun 4 _ is f in
      twos_cases 4 n (λ z. Encodes (integer z) e) (λ t. inr (inr (inr (inl (t, g))))) (λ t. inr (inr (inr (inl (omega arith, twice 4 n 0xd2 e h g)))))
  signed_form Eight h is f =
      let g = begun 8 _ is f in
      twos_cases 8 n (λ z. Encodes (integer z) e) (λ t. inr (inr (inr (inr (inl (t, g)))))) (λ t. inr (inr (inr (inr (inl (omega arith, twice 8 n 0xd3 e h g))))))

  pub float_form : (w : Width) → n < 256 ^ wide w → e ≡ b ∷ digits (wide w) n → b ≡ first_byte (marker_kind.Float w) → Stands (number.Float (double_of w n)) e
  float_form One h is f = absurd (omega arith)
  float_form Two h is f = absurd (omega arith)
  float_form Four h is f = inr (n, refl, (h, begun 4 _ is f))
  float_form Eight h is f = inl (h, begun 8 _ is f)

  pub text_form : (w : Width) → n < 256 ^ wide w → e ≡ b ∷ digits (wide w) n → b ≡ first_byte (marker_kind.Str w) → By text_forms n e
  text_form One h is f = inr (inl (h, begun 1 _ is f))
  text_form Two h is f = inr (inr (inl (h, begun 2 _ is f)))
  text_form Four h is f = inr (inr (inr (inl (h, begun 4 _ is f))))
  text_form Eight h is f = absurd (omega arith)

  pub binary_form : (w : Width) → n < 256 ^ wide w → e ≡ b ∷ digits (wide w) n → b ≡ first_byte (marker_kind.Bin w) → By binary_forms n e
  binary_form One h is f = inl (h, begun 1 _ is f)
  binary_form Two h is f = inr (inl (h, begun 2 _ is f))
  binary_form Four h is f = inr (inr (inl (h, begun 4 _ is f)))
  binary_form Eight h is f = absurd (omega arith)

  pub array_form : (w : Width) → n < 256 ^ wide w → e ≡ b ∷ digits (wide w) n → b ≡ first_byte (marker_kind.Array w) → By array_forms n e
  array_form One h is f = absurd (omega arith)
  array_form Two h is f = inr (inl (h, begun 2 _ is f))
  array_form Four h is f = inr (inr (inl (h, begun 4 _ is f)))
  array_form Eight h is f = absurd (omega arith)

  pub map_form : (w : Width) → n < 256 ^ wide w → e ≡ b ∷ digits (wide w) n → b ≡ first_byte (marker_kind.Map w) → By map_forms n e
  map_form One h is f = absurd (omega arith)
  map_form Two h is f = inr (inl (h, begun 2 _ is f))
  map_form Four h is f = inr (inr (inl (h, begun 4 _ is f)))
  map_form Eight h is f = absurd (omega arith)

  -- a length in the first byte
  pub short_text : b ≡ first_byte (marker_kind.FixStr n) → e ≡ b ∷ [] → By text_forms n e
  short_text f g = let p = passed _ b _ byte f in inl (ltb-true n 0x20 p.0, g ∙ ap (λ c. c ∷ []) p.1)

  pub short_array : b ≡ first_byte (marker_kind.FixArray n) → e ≡ b ∷ [] → By array_forms n e
  short_array f g = let p = passed _ b _ byte f in inl (ltb-true n 0x10 p.0, g ∙ ap (λ c. c ∷ []) p.1)

  pub short_map : b ≡ first_byte (marker_kind.FixMap n) → e ≡ b ∷ [] → By map_forms n e
  short_map f g = let p = passed _ b _ byte f in inl (ltb-true n 0x10 p.0, g ∙ ap (λ c. c ∷ []) p.1)
