-- A count, and so many things behind it. Assumes nothing.
use Rattle.std.proofs.Common.{◌≡◌, ℕ, zero, suc, ◌+◌, List, ◌∷◌, length, refl, arith}
use Rattle.items.specs.Reads.{Outcome, got, fault, then, numbered, with, nothing}

module _ {E A : Type 0} where
  -- one more in front
  fronted : {B : Type 0} (x : A) (o : Outcome E (List A)) (j k : List A → B) → then o (λ xs next. got (j (x ∷ xs)) next) ≡ then o (λ xs next. got (k (x ∷ xs)) next) → then (then o (λ xs at. got (x ∷ xs) at)) (λ xs next. got (j xs) next) ≡ then (then o (λ xs at. got (x ∷ xs) at)) (λ xs next. got (k xs) next)
  fronted x (got xs at) j k e = e
  fronted x (fault d) j k e = refl

  led : {B : Type 0} (o : Outcome E A) (rest : ℕ → Outcome E (List A)) (j k : List A → B) → ((x : A) (at : ℕ) → then (rest at) (λ xs next. got (j (x ∷ xs)) next) ≡ then (rest at) (λ xs next. got (k (x ∷ xs)) next)) → then (then o (λ x at. then (rest at) (λ xs at₂. got (x ∷ xs) at₂))) (λ xs next. got (j xs) next) ≡ then (then o (λ x at. then (rest at) (λ xs at₂. got (x ∷ xs) at₂))) (λ xs next. got (k xs) next)
  led (got x at) rest j k e = fronted x (rest at) j k (e x at)
  led (fault d) rest j k e = refl

  -- so many were read, as were asked for
  pub as_many : {B : Type 0} (n : ℕ) (p : ℕ → ℕ → Outcome E A) (i at : ℕ) (f : List A → ℕ → B) → then (numbered n p i at) (λ xs next. got (f xs (length xs)) next) ≡ then (numbered n p i at) (λ xs next. got (f xs n) next)
  as_many zero p i at f = refl
  as_many (suc n) p i at f = led (p i at) (numbered n p (i + 1)) (λ xs. f xs (length xs)) (λ xs. f xs (suc n)) (λ x at₁. as_many n p (i + 1) at₁ (λ xs k. f (x ∷ xs) (suc k)))

-- one more step is told behind all
pub closed : {E A M : Type 0} (o : Outcome E A) (f : A → M) (h : M → M) (m₁ m₂ : M) (at at' : ℕ) → then o (λ x next. got (with (f x) (nothing x)) next) ≡ got (with m₁ tt) at → m₂ ≡ h m₁ → at' ≡ at → then o (λ x next. got (with (h (f x)) (nothing x)) next) ≡ got (with m₂ tt) at'
closed (got x next) f h m₁ m₂ at at' e s t = let a : f x ≡ m₁ = cc in let b : next ≡ at = cc in cc
closed (fault d) f h m₁ m₂ at at' e s t = let z : ◌≡◌ {A = ℕ} 0 1 = cc in absurd (omega arith)

-- the answer is another, which is always the same
pub answering : {E A M V : Type 0} (o : Outcome E A) (f : A → M) (v : V) (m : M) (at : ℕ) → then o (λ x next. got (with (f x) (nothing x)) next) ≡ got (with m tt) at → then o (λ x next. got (with (f x) v) next) ≡ got (with m v) at
answering (got x next) f v m at e = let a : f x ≡ m = cc in let b : next ≡ at = cc in cc
answering (fault d) f v m at e = let z : ◌≡◌ {A = ℕ} 0 1 = cc in absurd (omega arith)
