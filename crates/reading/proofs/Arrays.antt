-- Arrays in a span, null for an empty one. Assumes nothing.
use Rattle.std.proofs.Common.{◌≡◌, ℕ, ◌+◌, Bool, true, false, cond, List, [], ap, ◌∙◌, arith}
use Rattle.items.specs.declared.fault.DecodeError.TheVariants.{InvalidType}
use Rattle.items.specs.declared.fault.ItemFault.{ItemFault}
use Rattle.items.specs.declared.head.Kind.TheVariants.{Array}
use Rattle.items.specs.Items.{a_length, all_causes, null_at}
use Rattle.items.specs.Reads.{Outcome, got, fault, then, raised, times, fold, with, nothing}
use Rattle.faults.specs.declared.SpanFault.{SpanFault}
use Rattle.trees.specs.Payloads.{so_many}
use Rattle.trees.specs.Records.{into, nullable}

-- how many elements follow
abbrev pub count_of : List ℕ → ℕ → Outcome ItemFault ℕ
count_of = nullable 0 (a_length Array (all_causes InvalidType))

module _ {E A B M : Type 0} (own : ItemFault → SpanFault) (within : E → SpanFault) (one : List ℕ → ℕ → Outcome E A) (step : M → A → M) (wrap : List A → B) (work : M → B → M) where
  abbrev array_of : List ℕ → ℕ → Outcome SpanFault B
  array_of bytes at = into wrap (nullable [] (so_many own within one) bytes at)

  counted_by : (bytes : List ℕ) (at n at₁ : ℕ) (b : Bool) → cond b (got 0 (at + 1)) (a_length Array (all_causes InvalidType) bytes at) ≡ got n at₁
      → cond b (got [] (at + 1)) (so_many own within one bytes at) ≡ raised within (times n (one bytes) at₁)
  counted_by bytes at n at₁ true e =
      let a : 0 ≡ n = cc in
      let b : at + 1 ≡ at₁ = cc in
      ap (λ k. raised within (times 0 (one bytes) k)) b ∙ ap (λ k. raised within (times k (one bytes) at₁)) a
  counted_by bytes at n at₁ false e = ap (λ o. then (raised own o) (λ k next. raised within (times k (one bytes) next))) e

  counted : (bytes : List ℕ) (at : ℕ) {n at₁ : ℕ} → count_of bytes at ≡ got n at₁ → array_of bytes at ≡ into wrap (raised within (times n (one bytes) at₁))
  counted bytes at {n} {at₁} e = ap (into wrap) (counted_by bytes at n at₁ (null_at bytes at) e)

  wrapped : (o : Outcome E (List A)) (m m₁ m₂ : M) (at₂ : ℕ) → ((xs : List A) → work m (wrap xs) ≡ fold step m₁ xs) → then o (λ xs next. got (with (fold step m₁ xs) (nothing xs)) next) ≡ got (with m₂ tt) at₂
      → then (into wrap (raised within o)) (λ x next. got (with (work m x) (nothing x)) next) ≡ got (with m₂ tt) at₂
  wrapped (got xs next) m m₁ m₂ at₂ s e =
      let a : fold step m₁ xs ≡ m₂ = cc in
      let b : next ≡ at₂ = cc in
      ap (λ k. got (with k tt) next) (s xs ∙ a) ∙ ap (λ k. got (with m₂ tt) k) b
  wrapped (fault d) m m₁ m₂ at₂ s e = let z : ◌≡◌ {A = ℕ} 0 1 = cc in absurd (omega arith)

  -- an array whose elements were read
  pub array_done : (bytes : List ℕ) (at : ℕ) {n at₁ : ℕ} (m m₁ m₂ : M) {at₂ : ℕ} → count_of bytes at ≡ got n at₁ → ((xs : List A) → work m (wrap xs) ≡ fold step m₁ xs)
      → then (times n (one bytes) at₁) (λ xs next. got (with (fold step m₁ xs) (nothing xs)) next) ≡ got (with m₂ tt) at₂
      → then (array_of bytes at) (λ x next. got (with (work m x) (nothing x)) next) ≡ got (with m₂ tt) at₂
  array_done bytes at {n} {at₁} m m₁ m₂ {at₂} e s t = ap (λ o. then o (λ x next. got (with (work m x) (nothing x)) next)) (counted bytes at e) ∙ wrapped (times n (one bytes) at₁) m m₁ m₂ at₂ s t

  -- an array with an element that can't be read
  pub array_cut : (bytes : List ℕ) (at : ℕ) {n at₁ : ℕ} {d : E} → count_of bytes at ≡ got n at₁ → times n (one bytes) at₁ ≡ fault d → array_of bytes at ≡ fault (within d)
  array_cut bytes at e t = counted bytes at e ∙ ap (λ o. into wrap (raised within o)) t
