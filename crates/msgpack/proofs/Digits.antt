-- Numbers as bytes, there and back. Assumes nothing.
use Rattle.std.proofs.Common.{◌≡◌, ℕ, zero, suc, ◌+◌, ◌*◌, ◌/◌, ◌%◌, ◌^◌, ◌<◌, List, [], ◌∷◌, ◌++◌, length, sym, refl, ap, ◌∙◌, subst, arith, length-append, pow-add}
use Rattle.std.specs.Int.Digits.{AllBelowBase}
use Rattle.std.proofs.lemmas.Int.Digits.{number_push}
use Rattle.msgpack.specs.Numbers.{digits, big}

-- a list that is not empty, by its last element
pub record Snoc (xs : List ℕ) (k : ℕ) : Type 0 where
  pub front : List ℕ
  pub end : ℕ
  pub is : xs ≡ front ++ end ∷ []
  pub long : length front ≡ k

pub snoc : (x : ℕ) (xs : List ℕ) → Snoc (x ∷ xs) (length xs)
snoc x [] = record { front = []; end = x; is = refl; long = refl }
snoc x (y ∷ ys) =
    let s = snoc y ys in
    record { front = x ∷ s.front; end = s.end; is = ap (λ l. x ∷ l) s.is; long = ap suc s.long }

pub under_front : (xs ys : List ℕ) → AllBelowBase 256 (xs ++ ys) → AllBelowBase 256 xs
under_front [] ys u = tt
under_front (x ∷ xs) ys u = (u.0, under_front xs ys u.1)

pub under_behind : (xs ys : List ℕ) → AllBelowBase 256 (xs ++ ys) → AllBelowBase 256 ys
under_behind [] ys u = u
under_behind (x ∷ xs) ys u = under_behind xs ys u.1

pub length_digits : (k n : ℕ) → length (digits k n) ≡ k
length_digits zero n = refl
length_digits (suc k) n = length-append (digits k (n / 256)) (n % 256 ∷ []) ∙ omega (arith, length_digits k (n / 256))

-- bytes are the digits of the number that they write
pub digits_big : (k : ℕ) (xs : List ℕ) → length xs ≡ k → AllBelowBase 256 xs → digits k (big xs) ≡ xs
digits_big zero [] e u = refl
digits_big zero (x ∷ xs) e u = absurd (omega arith)
digits_big (suc k) [] e u = absurd (omega arith)
digits_big (suc k) (x ∷ xs) e u =
    let s = snoc x xs in
    let long : length s.front ≡ k = omega (arith, s.long) in
    let under = subst (AllBelowBase 256) s.is u in
    let d : s.end < 256 = (under_behind s.front (s.end ∷ []) under).0 in
    let n : big (x ∷ xs) ≡ big s.front * 256 + s.end = ap big s.is ∙ number_push 256 s.front s.end in
    let high : big (x ∷ xs) / 256 ≡ big s.front = omega (arith, n) in
    let low : big (x ∷ xs) % 256 ≡ s.end = omega (arith, n) in
    ap (λ m. digits k m ++ (big (x ∷ xs) % 256 ∷ [])) high
    ∙ ap (λ l. l ++ (big (x ∷ xs) % 256 ∷ [])) (digits_big k s.front long (under_front s.front (s.end ∷ []) under))
    ∙ ap (λ m. s.front ++ (m ∷ [])) low ∙ sym s.is

-- a number is what its digits write
pub big_digits : (k n : ℕ) → n < 256 ^ k → big (digits k n) ≡ n
big_digits zero n h = omega arith
big_digits (suc k) n h =
    let few : n / 256 < 256 ^ k = omega (arith, pow-add 256 k 1) in
    number_push 256 (digits k (n / 256)) (n % 256) ∙ ap (λ m. m * 256 + n % 256) (big_digits k (n / 256) few) ∙ omega arith
