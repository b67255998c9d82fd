-- The grammar describes the encodings of the scalar values. Assumes nothing.
use Rattle.std.proofs.Common.{◌≡◌, ℕ, ◌+◌, ◌-◌, ◌*◌, ◌/◌, ◌<◌, ◌≤◌, true, false, ◌⊎◌, List, [], ◌∷◌, ◌++◌, IsUtf8, sym, refl, ap, ◌∙◌, subst, inl, inr, ⊎_elim, arith}
use lib.Utf8.{scalar, scalars, encode, encodes, next, low_scalar, scalar_cases}
use Rattle.std.proofs.iter.FirstChar.{one_char}
use Rattle.std.proofs.str.Valid.{of_two, of_three, of_four}
use Rattle.std.proofs.str.Laws.{Follows, one, two, three, four, IsUtf8-append}
use Rattle.std.proofs.lemmas.Str.{IsUtf8-nil}
use Rattle.std.proofs.lemmas.Bool.{cases_lt, and_parts, false_from_ne_true}
use Rattle.std.proofs.lemmas.Bool.Decides.{nat_tests}
use Rattle.msgpack.specs.Text.{Range, range, tail, never, follow, well, utf8}

-- the table, row by row
f1 : (b : ℕ) → b ≤ 127 → follow b ≡ []
f1 b h = grind (arith, nat_tests)

f2 : (b : ℕ) → 194 ≤ b → b ≤ 223 → follow b ≡ tail ∷ []
f2 b l h = grind (arith, nat_tests)

f3a : (b : ℕ) → b ≡ 224 → follow b ≡ range 160 191 ∷ tail ∷ []
f3a b e = grind (arith, nat_tests)

f3b : (b : ℕ) → 225 ≤ b → b ≤ 236 → follow b ≡ tail ∷ tail ∷ []
f3b b l h = grind (arith, nat_tests)

f3c : (b : ℕ) → b ≡ 237 → follow b ≡ range 128 159 ∷ tail ∷ []
f3c b e = grind (arith, nat_tests)

f3d : (b : ℕ) → 238 ≤ b → b ≤ 239 → follow b ≡ tail ∷ tail ∷ []
f3d b l h = grind (arith, nat_tests)

f4a : (b : ℕ) → b ≡ 240 → follow b ≡ range 144 191 ∷ tail ∷ tail ∷ []
f4a b e = grind (arith, nat_tests)

f4b : (b : ℕ) → 241 ≤ b → b ≤ 243 → follow b ≡ tail ∷ tail ∷ tail ∷ []
f4b b l h = grind (arith, nat_tests)

f4c : (b : ℕ) → b ≡ 244 → follow b ≡ range 128 143 ∷ tail ∷ tail ∷ []
f4c b e = grind (arith, nat_tests)

f0 : (b : ℕ) → 128 ≤ b → b ≤ 193 → follow b ≡ never ∷ []
f0 b l h = grind (arith, nat_tests)

f5 : (b : ℕ) → 245 ≤ b → follow b ≡ never ∷ []
f5 b l = grind (arith, nat_tests)

-- one byte in its range
past : (low high b : ℕ) (rs : List Range) (bs : List ℕ) → low ≤ b → b ≤ high → well (range low high ∷ rs) (b ∷ bs) ≡ well rs bs
past low high b rs bs l h = grind (arith, nat_tests)

-- an encoding is a character of the grammar
module _ (rest : List ℕ) where
  by : (x : ℕ) (l : List ℕ) (rs : List Range) → follow x ≡ rs → well rs l ≡ well [] rest → well [] (x ∷ l) ≡ well [] rest
  by x l rs e h = ap (λ r. well r l) e ∙ h

  seq2 : (x y : ℕ) → 194 ≤ x → x ≤ 223 → Follows y → well [] (x ∷ y ∷ rest) ≡ well [] rest
  seq2 x y l h f = by x (y ∷ rest) _ (f2 x l h) (past 128 191 y [] rest f.0 (omega arith))

  tails2 : (low high y z : ℕ) → low ≤ y → y ≤ high → Follows z → well (range low high ∷ tail ∷ []) (y ∷ z ∷ rest) ≡ well [] rest
  tails2 low high y z l h f = past low high y (tail ∷ []) (z ∷ rest) l h ∙ past 128 191 z [] rest f.0 (omega arith)

  tails3 : (low high y z w : ℕ) → low ≤ y → y ≤ high → Follows z → Follows w → well (range low high ∷ tail ∷ tail ∷ []) (y ∷ z ∷ w ∷ rest) ≡ well [] rest
  tails3 low high y z w l h f g = past low high y (tail ∷ tail ∷ []) (z ∷ w ∷ rest) l h ∙ past 128 191 z (tail ∷ []) (w ∷ rest) f.0 (omega arith) ∙ past 128 191 w [] rest g.0 (omega arith)

  seq3 : (x y z : ℕ) → 224 ≤ x → x ≤ 239 → Follows y → Follows z → 32 ≤ (x - 224) * 64 + (y - 128) → ((x - 224) * 64 + (y - 128) < 864) ⊎ (896 ≤ (x - 224) * 64 + (y - 128)) → well [] (x ∷ y ∷ z ∷ rest) ≡ well [] rest
  seq3 x y z l h f g u s =
      ⊎_elim
      (λ a. by x (y ∷ z ∷ rest) _ (f3a x (omega arith)) (tails2 160 191 y z (omega arith) (omega arith) g))
      (λ a. ⊎_elim
      (λ b. by x (y ∷ z ∷ rest) _ (f3b x a (omega arith)) (tails2 128 191 y z f.0 (omega arith) g))
      (λ b. ⊎_elim
      (λ d. by x (y ∷ z ∷ rest) _ (f3c x (omega arith)) (tails2 128 159 y z f.0 (⊎_elim (λ k. omega arith) (λ k. omega arith) s) g))
      (λ d. by x (y ∷ z ∷ rest) _ (f3d x d h) (tails2 128 191 y z f.0 (omega arith) g))
      (cases_lt x 238))
      (cases_lt x 237))
      (cases_lt x 225)

  seq4 : (x y z w : ℕ) → 240 ≤ x → Follows y → Follows z → Follows w → 16 ≤ (x - 240) * 64 + (y - 128) → (x - 240) * 64 + (y - 128) < 272 → well [] (x ∷ y ∷ z ∷ w ∷ rest) ≡ well [] rest
  seq4 x y z w l f g j u s =
      ⊎_elim
      (λ a. by x (y ∷ z ∷ w ∷ rest) _ (f4a x (omega arith)) (tails3 144 191 y z w (omega arith) (omega arith) g j))
      (λ a. ⊎_elim
      (λ b. by x (y ∷ z ∷ w ∷ rest) _ (f4b x a (omega arith)) (tails3 128 191 y z w f.0 (omega arith) g j))
      (λ b. by x (y ∷ z ∷ w ∷ rest) _ (f4c x (omega arith)) (tails3 128 143 y z w f.0 (omega arith) g j))
      (cases_lt x 244))
      (cases_lt x 241)

  follows : (x : ℕ) → Follows (next x)
  follows x = (omega arith, omega arith)

  char : (c : ℕ) → scalar c ≡ true → well [] (encode c ++ rest) ≡ well [] rest
  char c s =
      ⊎_elim
      (λ a. ap (λ l. well [] (l ++ rest)) (one c a) ∙ by c rest [] (f1 c (omega arith)) refl)
      (λ a. ⊎_elim
      (λ b. ap (λ l. well [] (l ++ rest)) (two c a b) ∙ seq2 (192 + c / 64) (next c) (omega arith) (omega arith) (follows c))
      (λ b. ⊎_elim
      (λ d. ap (λ l. well [] (l ++ rest)) (three c b d) ∙ seq3 (224 + c / 4096) (next (c / 64)) (next c) (omega arith) (omega arith) (follows (c / 64)) (follows c) (omega arith) (⊎_elim (λ k. inl (omega arith)) (λ k. inr (omega arith)) (scalar_cases c s)))
      (λ d. ap (λ l. well [] (l ++ rest)) (four c d) ∙ seq4 (240 + c / 262144) (next (c / 4096)) (next (c / 64)) (next c) (omega arith) (follows (c / 4096)) (follows (c / 64)) (follows c) (omega arith) (⊎_elim (λ k. omega arith) (λ k. omega arith) (scalar_cases c s)))
      (cases_lt c 65536))
      (cases_lt c 2048))
      (cases_lt c 128)

pub encoded : (cs : List ℕ) → scalars cs ≡ true → utf8 (encodes cs) ≡ true
unfolding utf8
encoded [] e = refl
encoded (c ∷ cs) e = let p = and_parts (scalar c) (scalars cs) e in char (encodes cs) c p.0 ∙ encoded cs p.1

pub well_formed : (bs : List ℕ) → IsUtf8 bs → utf8 bs ≡ true
well_formed bs u = subst (λ l. utf8 l ≡ true) u.1.1 (encoded u.0 u.1.0)

-- what the grammar takes is text

abbrev InRanges : List Range → List ℕ → Type 0
InRanges [] [] = Unit {0}
InRanges [] (b ∷ bs) = ⊥
InRanges (r ∷ rs) [] = ⊥
InRanges (range low high ∷ rs) (b ∷ bs) = (low ≤ b) × (b ≤ high) × InRanges rs bs

text2 : (x : ℕ) (t : List ℕ) → 194 ≤ x → x ≤ 223 → InRanges (tail ∷ []) t → IsUtf8 (x ∷ t)
text2 x [] l h p = absurd p
text2 x (y ∷ []) l h p = of_two (x ∷ y ∷ []) 0 (omega arith) (l, omega arith) (p.0, omega arith)
text2 x (y ∷ z ∷ t) l h p = absurd p.2

text3 : (x low high : ℕ) (t : List ℕ) → 224 ≤ x → x ≤ 239 → 128 ≤ low → high ≤ 191 → 32 ≤ (x - 224) * 64 + (low - 128) → ((x - 224) * 64 + (high - 128) < 864) ⊎ (896 ≤ (x - 224) * 64 + (low - 128)) → InRanges (range low high ∷ tail ∷ []) t → IsUtf8 (x ∷ t)
text3 x low high [] l h a b u s p = absurd p
text3 x low high (y ∷ []) l h a b u s p = absurd p.2
text3 x low high (y ∷ z ∷ []) l h a b u s p =
    let q = p.2 in
    of_three (x ∷ y ∷ z ∷ []) 0 (omega arith) (l, omega arith) (omega arith, omega arith) (q.0, omega arith) (omega arith) (⊎_elim (λ k. inl (omega arith)) (λ k. inr (omega arith)) s)
text3 x low high (y ∷ z ∷ w ∷ t) l h a b u s p = absurd p.2.2

text4 : (x low high : ℕ) (t : List ℕ) → 240 ≤ x → 128 ≤ low → high ≤ 191 → 16 ≤ (x - 240) * 64 + (low - 128) → (x - 240) * 64 + (high - 128) < 272 → InRanges (range low high ∷ tail ∷ tail ∷ []) t → IsUtf8 (x ∷ t)
text4 x low high [] l a b u s p = absurd p
text4 x low high (y ∷ []) l a b u s p = absurd p.2
text4 x low high (y ∷ z ∷ []) l a b u s p = absurd p.2.2
text4 x low high (y ∷ z ∷ w ∷ []) l a b u s p =
    let q = p.2 in
    let r = p.2.2 in
    of_four (x ∷ y ∷ z ∷ w ∷ []) 0 (omega arith) l (omega arith, omega arith) (q.0, omega arith) (r.0, omega arith) (omega arith, omega arith)
text4 x low high (y ∷ z ∷ w ∷ v ∷ t) l a b u s p = absurd p.2.2.2

text1 : (x : ℕ) (t : List ℕ) → x ≤ 127 → InRanges [] t → IsUtf8 (x ∷ t)
text1 x [] h p = one_char _ x (low_scalar x (omega arith)) (sym (one x (omega arith)))
text1 x (y ∷ t) h p = absurd p

none : (x : ℕ) (t : List ℕ) → InRanges (never ∷ []) t → IsUtf8 (x ∷ t)
none x [] p = absurd p
none x (y ∷ t) p = absurd (omega arith)

lead : (x : ℕ) (t : List ℕ) → InRanges (follow x) t → IsUtf8 (x ∷ t)
lead x t p =
    let at : (rs : List Range) → follow x ≡ rs → InRanges rs t = λ rs e. subst (λ r. InRanges r t) e p in
    ⊎_elim (λ a. text1 x t (omega arith) (at _ (f1 x (omega arith))))
    (λ a. ⊎_elim (λ b. none x t (at _ (f0 x a (omega arith))))
    (λ b. ⊎_elim (λ d. text2 x t b (omega arith) (at _ (f2 x b (omega arith))))
    (λ d. ⊎_elim (λ e. text3 x 160 191 t d (omega arith) (omega arith) (omega arith) (omega arith) (inl (omega arith)) (at _ (f3a x (omega arith))))
    (λ e. ⊎_elim (λ f. text3 x 128 191 t d (omega arith) (omega arith) (omega arith) (omega arith) (inl (omega arith)) (at _ (f3b x e (omega arith))))
    (λ f. ⊎_elim (λ g. text3 x 128 159 t d (omega arith) (omega arith) (omega arith) (omega arith) (inl (omega arith)) (at _ (f3c x (omega arith))))
    (λ g. ⊎_elim (λ h. text3 x 128 191 t d (omega arith) (omega arith) (omega arith) (omega arith) (inr (omega arith)) (at _ (f3d x g (omega arith))))
    (λ h. ⊎_elim (λ i. text4 x 144 191 t h (omega arith) (omega arith) (omega arith) (omega arith) (at _ (f4a x (omega arith))))
    (λ i. ⊎_elim (λ j. text4 x 128 191 t h (omega arith) (omega arith) (omega arith) (omega arith) (at _ (f4b x i (omega arith))))
    (λ j. ⊎_elim (λ k. text4 x 128 143 t h (omega arith) (omega arith) (omega arith) (omega arith) (at _ (f4c x (omega arith))))
    (λ k. none x t (at _ (f5 x k)))
    (cases_lt x 245)) (cases_lt x 244)) (cases_lt x 241)) (cases_lt x 240)) (cases_lt x 238)) (cases_lt x 237)) (cases_lt x 225)) (cases_lt x 224)) (cases_lt x 194)) (cases_lt x 128)

-- the bytes that finish a character, and the text after them
record Split (rs : List Range) (bs : List ℕ) : Type 0 where
  front : List ℕ
  rest : List ℕ
  whole : bs ≡ front ++ rest
  ranged : InRanges rs front
  text : IsUtf8 rest

parts : (low high b : ℕ) (rs : List Range) (bs : List ℕ) → well (range low high ∷ rs) (b ∷ bs) ≡ true → (low ≤ b) × (b ≤ high) × (well rs bs ≡ true)
parts low high b rs bs e = (grind (arith, nat_tests), grind (arith, nat_tests), grind (arith, nat_tests))

split : (rs : List Range) (bs : List ℕ) → well rs bs ≡ true → Split rs bs
split [] [] e = record { front = []; rest = []; whole = refl; ranged = tt; text = IsUtf8-nil }
split (r ∷ rs) [] e = let z : ◌≡◌ {A = ℕ} 0 1 = cc in absurd (omega arith)
split [] (b ∷ bs) e =
    let p = split (follow b) bs e in
    record { front = []; rest = b ∷ bs; whole = refl; ranged = tt; text = subst IsUtf8 (sym (ap (λ l. b ∷ l) p.whole)) (IsUtf8-append (b ∷ p.front) p.rest (lead b p.front p.ranged) p.text) }
split (range low high ∷ rs) (b ∷ bs) e =
    let q = parts low high b rs bs e in
    let p = split rs bs q.2 in
    record { front = b ∷ p.front; rest = p.rest; whole = ap (λ l. b ∷ l) p.whole; ranged = (q.0, q.1, p.ranged); text = p.text }

empty : (l : List ℕ) → InRanges [] l → l ≡ []
empty [] p = refl
empty (b ∷ bs) p = absurd p

pub is_text_lem : (bs : List ℕ) → utf8 bs ≡ true → IsUtf8 bs
unfolding utf8
is_text_lem bs e = let p = split [] bs e in subst IsUtf8 (sym (p.whole ∙ ap (λ l. l ++ p.rest) (empty p.front p.ranged))) p.text

pub ill_formed : (bs : List ℕ) → (IsUtf8 bs → ⊥) → utf8 bs ≡ false
ill_formed bs n = false_from_ne_true (utf8 bs) (λ e. n (is_text_lem bs e))
