-- Readings: a value with the place after it, or a fault. Assumes nothing.
use Rattle.std.specs.Prelude.{◌≡◌, ℕ, zero, suc, ◌+◌, List, [], ◌∷◌, Ok, Err, Result}

pub data Outcome (E A : Type 0) : Type 0 where
  got : A → ℕ → Outcome E A
  fault : E → Outcome E A

-- the next step is taken from where this one ended; the first fault stays
abbrev pub then : {E A B : Type 0} → Outcome E A → (A → ℕ → Outcome E B) → Outcome E B
then (got x at) f = f x at
then (fault e) f = fault e

-- a fault that rises into another
abbrev pub raised : {E F A : Type 0} → (E → F) → Outcome E A → Outcome F A
raised f (got x at) = got x at
raised f (fault e) = fault (f e)

-- n of a kind, one behind the other
abbrev pub times : {E A : Type 0} → ℕ → (ℕ → Outcome E A) → ℕ → Outcome E (List A)
times zero p at = got [] at
times (suc n) p at = then (p at) (λ x at₁. then (times n p at₁) (λ xs at₂. got (x ∷ xs) at₂))

-- the same where each knows its number, the first that of i
abbrev pub numbered : {E A : Type 0} → ℕ → (ℕ → ℕ → Outcome E A) → ℕ → ℕ → Outcome E (List A)
numbered zero p i at = got [] at
numbered (suc n) p i at = then (p i at) (λ x at₁. then (numbered n p (i + 1) at₁) (λ xs at₂. got (x ∷ xs) at₂))

-- a list worked into a state, the first element first
abbrev pub fold : {A M : Type 0} → (M → A → M) → M → List A → M
fold f m [] = m
fold f m (x ∷ xs) = fold f (f m x) xs

-- the answer, told by f, and the place behind it are this outcome
abbrev pub Told : {E A B : Type 0} → (A → B) → (A → ℕ) → Result A E → Outcome E B → Type 0
Told f next (Ok x) o = o ≡ got (f x) (next x)
Told f next (Err e) o = o ≡ fault e

-- the answer, told by f, and the new place are this outcome; a fault leaves the place
abbrev pub Gives : {E A B : Type 0} → (A → B) → Result A E → ℕ → ℕ → Outcome E B → Type 0
Gives f (Ok x) from to o = o ≡ got (f x) to
Gives f (Err e) from to o = (o ≡ fault e) × (to ≡ from)

-- the answer, told by f, and the new place are this outcome; after a fault the place is open
abbrev pub Says : {E A B : Type 0} → (A → B) → Result A E → ℕ → Outcome E B → Type 0
Says f (Ok x) to o = o ≡ got (f x) to
Says f (Err e) to o = o ≡ fault e

-- a state, and an answer
pub data With (M V : Type 0) : Type 0 where
  with : M → V → With M V

-- what was read is worked into a state by f, and answered by g
abbrev pub Takes : {E A M V : Type 0} → (M → A → M) → (A → V) → M → M → Result V E → ℕ → Outcome E A → Type 0
Takes f g before after (Ok v) at o = then o (λ x next. got (with (f before x) (g x)) next) ≡ got (with after v) at
Takes f g before after (Err e) at o = o ≡ fault e

-- an answer that says nothing more
abbrev pub nothing : {A : Type 0} → A → Unit {0}
nothing x = tt
