-- The first form that takes a number is an encoding, and no other form is shorter. Assumes nothing.
use Rattle.std.proofs.Common.{◌≡◌, ℕ, ◌^◌, ◌<◌, ◌≤◌, true, false, ltb, List, [], ◌∷◌, ◌++◌, length, pos, negsuc, sym, refl, ap, inl, inr, arith, lit≤, length-append}
use Rattle.std.proofs.lemmas.Bool.{cond_both, ltb-true, ltb-false}
use Rattle.msgpack.specs.Encodings.{Form, far, unsigned_forms, signed_forms, negative_forms, text_forms, binary_forms, array_forms, map_forms, By, Headed, first_form, boolean, integer, text, binary, array, map, written_integer, written_text, written_binary, written_array, written_map, written_boolean, fixed_i64}
use Rattle.puts.specs.Laws.{Encoded, Shortest, FitsEither, FitsSigned}
use Rattle.puts.specs.contracts.fixed.BoolFixed.TheImpl.Laws as truths
use Rattle.puts.specs.contracts.fixed.I64Fixed.TheImpl.Laws as signed

-- the first form that takes a number is one of the forms, where the last takes it
top : ℕ → List Form → ℕ
top m [] = m
top m (f ∷ fs) = top f.limit fs

met : (fs : List Form) (m n : ℕ) → m ≤ n → n < top m fs → By fs n (first_form fs n)
unfolding top
met [] m n l h = absurd (omega arith)
met (f ∷ fs) m n l h =
    cond_both (ltb n f.limit) (f.bytes n) (first_form fs n) (By (f ∷ fs) n)
    (λ e. inl (ltb-true n f.limit e, refl))
    (λ e. inr (met fs f.limit n (ltb-false n f.limit e) h))

headed : (fs : List Form) (t : List ℕ) → length t < top 0 fs → Headed fs t (first_form fs (length t) ++ t)
headed fs t h = record { head = first_form fs (length t); says = met fs 0 (length t) (omega arith) h; whole = refl }

pub integers_encoded : Encoded integer FitsEither written_integer
unfolding top
integers_encoded (pos n) h = inl (met unsigned_forms 0 n (omega arith) h)
integers_encoded (negsuc n) h = met negative_forms 0 n (omega arith) h

pub texts_encoded : Encoded text (λ t. length t < 2 ^ 32) written_text
unfolding top
texts_encoded t h = headed text_forms t h

pub binaries_encoded : Encoded binary (λ b. length b < 2 ^ 32) written_binary
unfolding top
binaries_encoded b h = headed binary_forms b h

pub arrays_encoded : Encoded array (λ n. n < 2 ^ 32) written_array
unfolding top
arrays_encoded n h = met array_forms 0 n (omega arith) h

pub maps_encoded : Encoded map (λ n. n < 2 ^ 32) written_map
unfolding top
maps_encoded n h = met map_forms 0 n (omega arith) h

pub booleans_encoded : Encoded boolean (λ _. Unit {0}) written_boolean
booleans_encoded = truths.encoded-law

pub signed_encoded : Encoded integer FitsSigned fixed_i64
signed_encoded = signed.encoded-law

-- forms of these lengths, none shorter than the one before
abbrev Rising : ℕ → List Form → Type 0
Rising w [] = Unit {0}
Rising w (f ∷ fs) = (v : ℕ) × (w ≤ v) × ((n : ℕ) → length (f.bytes n) ≡ v) × Rising v fs

bound : (w : ℕ) (fs : List Form) (n : ℕ) (bytes : List ℕ) → Rising w fs → By fs n bytes → w ≤ length bytes
bound w [] n bytes up b = absurd b
bound w (f ∷ fs) n bytes up (inl p) = omega (arith, up.1, up.2 n, ap length p.1)
bound w (f ∷ fs) n bytes up (inr b) = omega (arith, up.1, bound up.0 fs n bytes up.3 b)

least : (w : ℕ) (fs : List Form) (n : ℕ) (bytes : List ℕ) → Rising w fs → By fs n bytes → length (first_form fs n) ≤ length bytes
least w [] n bytes up b = absurd b
least w (f ∷ fs) n bytes up (inl p) =
    cond_both (ltb n f.limit) (f.bytes n) (first_form fs n) (λ l. length l ≤ length bytes)
    (λ _. omega (arith, ap length p.1))
    (λ e. absurd (omega (arith, p.0, ltb-false n f.limit e)))
least w (f ∷ fs) n bytes up (inr b) =
    cond_both (ltb n f.limit) (f.bytes n) (first_form fs n) (λ l. length l ≤ length bytes)
    (λ _. omega (arith, up.2 n, bound up.0 fs n bytes up.3 b))
    (λ _. least up.0 fs n bytes up.3 b)

least_headed : (w : ℕ) (fs : List Form) (t bytes : List ℕ) → Rising w fs → Headed fs t bytes → length (first_form fs (length t) ++ t) ≤ length bytes
least_headed w fs t bytes up h =
    let l = least w fs (length t) h.head up h.says in
    omega (arith, l, ap length h.whole, length-append h.head t, length-append (first_form fs (length t)) t)

rising_unsigned : Rising 0 unsigned_forms
rising_unsigned = (1, lit≤ tt, λ n. refl, (2, lit≤ tt, λ n. refl, (3, lit≤ tt, λ n. refl, (5, lit≤ tt, λ n. refl, (9, lit≤ tt, λ n. refl, tt)))))

rising_negative : Rising 0 negative_forms
rising_negative = (1, lit≤ tt, λ n. refl, (2, lit≤ tt, λ n. refl, (3, lit≤ tt, λ n. refl, (5, lit≤ tt, λ n. refl, (9, lit≤ tt, λ n. refl, tt)))))

rising_text : Rising 0 text_forms
rising_text = (1, lit≤ tt, λ n. refl, (2, lit≤ tt, λ n. refl, (3, lit≤ tt, λ n. refl, (5, lit≤ tt, λ n. refl, tt))))

rising_binary : Rising 0 binary_forms
rising_binary = (2, lit≤ tt, λ n. refl, (3, lit≤ tt, λ n. refl, (5, lit≤ tt, λ n. refl, tt)))

rising_array : Rising 0 array_forms
rising_array = (1, lit≤ tt, λ n. refl, (3, lit≤ tt, λ n. refl, (5, lit≤ tt, λ n. refl, tt)))

rising_map : Rising 0 map_forms
rising_map = (1, lit≤ tt, λ n. refl, (3, lit≤ tt, λ n. refl, (5, lit≤ tt, λ n. refl, tt)))

-- a form with a sign is as long as one without
unsigned : (n : ℕ) (bytes : List ℕ) → By signed_forms n bytes → (cs : List ℕ) × (length cs ≡ length bytes) × By unsigned_forms n cs
unsigned n bytes (inl p) = ((far 1 0xcc).bytes n, sym (ap length p.1), inr (inl (omega arith, refl)))
unsigned n bytes (inr (inl p)) = ((far 2 0xcd).bytes n, sym (ap length p.1), inr (inr (inl (omega arith, refl))))
unsigned n bytes (inr (inr (inl p))) = ((far 4 0xce).bytes n, sym (ap length p.1), inr (inr (inr (inl (omega arith, refl)))))
unsigned n bytes (inr (inr (inr (inl p)))) = ((far 8 0xcf).bytes n, sym (ap length p.1), inr (inr (inr (inr (inl (omega arith, refl))))))
unsigned n bytes (inr (inr (inr (inr b)))) = absurd b

pub integers_shortest : Shortest integer written_integer
integers_shortest (pos n) bytes (inl b) = least 0 unsigned_forms n bytes rising_unsigned b
integers_shortest (pos n) bytes (inr b) =
    let u = unsigned n bytes b in omega (arith, u.1, least 0 unsigned_forms n u.0 rising_unsigned u.2)
integers_shortest (negsuc n) bytes b = least 0 negative_forms n bytes rising_negative b

pub texts_shortest : Shortest text written_text
texts_shortest t bytes h = least_headed 0 text_forms t bytes rising_text h

pub binaries_shortest : Shortest binary written_binary
binaries_shortest b bytes h = least_headed 0 binary_forms b bytes rising_binary h

pub arrays_shortest : Shortest array written_array
arrays_shortest n bytes b = least 0 array_forms n bytes rising_array b

pub maps_shortest : Shortest map written_map
maps_shortest n bytes b = least 0 map_forms n bytes rising_map b

pub booleans_shortest : Shortest boolean written_boolean
booleans_shortest true bytes e = omega (arith, ap length e)
booleans_shortest false bytes e = omega (arith, ap length e)
