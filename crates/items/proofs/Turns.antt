-- The turns of a loop that reads n of a kind and works each into a state. Assumes nothing.
use Rattle.std.proofs.Common.{◌≡◌, ℕ, zero, suc, ◌+◌, ◌-◌, ◌<◌, ◌≤◌, List, ◌∷◌, refl, ap, ◌∙◌, subst, arith}
use Rattle.items.specs.Reads.{Outcome, got, fault, then, raised, times, numbered, fold, with, nothing}

module _ {E A M : Type 0} (p : ℕ → ℕ → Outcome E A) (step : M → A → M) where
  -- what n more lead to, the first of them numbered i
  abbrev pub whole : ℕ → ℕ → M → ℕ → Outcome E M
  whole n i m at = then (numbered n p i at) (λ xs next. got (fold step m xs) next)

  cons : (o : Outcome E (List A)) (x : A) (m : M) → then (then o (λ xs at. got (x ∷ xs) at)) (λ xs next. got (fold step m xs) next) ≡ then o (λ xs next. got (fold step (step m x) xs) next)
  cons (got xs at) x m = refl
  cons (fault e) x m = refl

  went : {V : Type 0} (g : A → V) (v : V) (n i : ℕ) (o : Outcome E A) (m m' : M) (at' : ℕ) → then o (λ x next. got (with (step m x) (g x)) next) ≡ got (with m' v) at'
      → then (then o (λ x at₁. then (numbered n p (i + 1) at₁) (λ xs at₂. got (x ∷ xs) at₂))) (λ xs next. got (fold step m xs) next) ≡ whole n (i + 1) m' at'
  went g v n i (got x next) m m' at' e =
      let f = cons (numbered n p (i + 1) next) x m in
      let a : step m x ≡ m' = cc in
      let b : next ≡ at' = cc in
      f ∙ ap (λ (k : M). whole n (i + 1) k next) a ∙ ap (λ k. whole n (i + 1) m' k) b
  went g v n i (fault f) m m' at' e = let z : ◌≡◌ {A = ℕ} 0 1 = cc in absurd (omega arith)

  -- after one more, one less is to come
  once : {V : Type 0} (g : A → V) (v : V) (n i : ℕ) (m m' : M) (at at' : ℕ) → 0 < n → then (p i at) (λ x next. got (with (step m x) (g x)) next) ≡ got (with m' v) at' → whole n i m at ≡ whole (n - 1) (i + 1) m' at'
  once g v zero i m m' at at' l e = absurd (omega arith)
  once g v (suc n) i m m' at at' l e = let s : n ≡ suc n - 1 = omega arith in went g v n i (p i at) m m' at' e ∙ ap (λ k. whole k (i + 1) m' at') s

  -- a fault of one ends them all
  stop : (n i : ℕ) (m : M) (at : ℕ) (e : E) → 0 < n → p i at ≡ fault e → whole n i m at ≡ fault e
  stop zero i m at e l f = absurd (omega arith)
  stop (suc n) i m at e l f = rw f

  faulted : (o : Outcome E (List A)) (m : M) (e : E) → then o (λ xs next. got (fold step m xs) next) ≡ fault e → o ≡ fault e
  faulted (got xs at) m e h = let z : ◌≡◌ {A = ℕ} 0 1 = cc in absurd (omega arith)
  faulted (fault d) m e h = cc

-- where a loop stands: n were to come from the place at₀ of the window w₀, and i have come
pub record Onward {E A M W : Type 0} (p : W → ℕ → ℕ → Outcome E A) (step : W → M → A → M) (w₀ : W) (n : ℕ) (m₀ : M) (at₀ : ℕ) (w : W) (i : ℕ) (m : M) (at : ℕ) : Type 0 where
  pub leads : whole (p w₀) (step w₀) n 0 m₀ at₀ ≡ whole (p w₀) (step w₀) (n - i) i m at
  pub same : w ≡ w₀

module _ {E A M W : Type 0} {p : W → ℕ → ℕ → Outcome E A} {step : W → M → A → M} {w₀ : W} {n : ℕ} {m₀ : M} {at₀ : ℕ} where
  pub start : Onward p step w₀ n m₀ at₀ w₀ 0 m₀ at₀
  start = let e : n ≡ n - 0 = omega arith in record { leads = ap (λ k. whole (p w₀) (step w₀) k 0 m₀ at₀) e; same = refl }

  pub turn : {V : Type 0} {w : W} {i : ℕ} {m : M} {at : ℕ} (g : A → V) (v : V) → Onward p step w₀ n m₀ at₀ w i m at → i < n → {w' : W} {m' : M} {at' : ℕ} → then (p w i at) (λ x next. got (with (step w m x) (g x)) next) ≡ got (with m' v) at' → w' ≡ w → Onward p step w₀ n m₀ at₀ w' (i + 1) m' at'
  turn {V} {w} {i} {m} {at} g v o more {w'} {m'} {at'} e s =
      let less : n - i - 1 ≡ n - (i + 1) = omega arith in
      record {
        leads = o.leads ∙ once (p w₀) (step w₀) g v (n - i) i m m' at at' (omega arith) (subst (λ (u : W). then (p u i at) (λ x next. got (with (step u m x) (g x)) next) ≡ got (with m' v) at') o.same e) ∙ ap (λ k. whole (p w₀) (step w₀) k (i + 1) m' at') less;
        same = s ∙ o.same;
      }

  pub breaks : {w : W} {i : ℕ} {m : M} {at : ℕ} → Onward p step w₀ n m₀ at₀ w i m at → i < n → {e : E} → p w i at ≡ fault e → numbered n (p w₀) 0 at₀ ≡ fault e
  breaks {w} {i} {m} {at} o more {e} f =
      faulted (p w₀) (step w₀) (numbered n (p w₀) 0 at₀) m₀ e (o.leads ∙ stop (p w₀) (step w₀) (n - i) i m at e (omega arith) (subst (λ (u : W). p u i at ≡ fault e) o.same f))

  pub ends : {w : W} {i : ℕ} {m : M} {at : ℕ} → Onward p step w₀ n m₀ at₀ w i m at → n ≤ i → whole (p w₀) (step w₀) n 0 m₀ at₀ ≡ got m at
  ends {w} {i} {m} {at} o done = let z : n - i ≡ 0 = omega arith in o.leads ∙ ap (λ k. whole (p w₀) (step w₀) k i m at) z

-- the same of a loop whose turns do not know their numbers
module _ {E A : Type 0} (p : ℕ → Outcome E A) where
  more : (o : Outcome E A) (a b : ℕ → Outcome E (List A)) → ((at : ℕ) → a at ≡ b at) → then o (λ x at₁. then (a at₁) (λ xs at₂. got (x ∷ xs) at₂)) ≡ then o (λ x at₁. then (b at₁) (λ xs at₂. got (x ∷ xs) at₂))
  more (got x at) a b e = ap (λ o. then o (λ xs at₂. got (x ∷ xs) at₂)) (e at)
  more (fault d) a b e = refl

  pub plain : (n i at : ℕ) → times n p at ≡ numbered n (λ _. p) i at
  plain zero i at = refl
  plain (suc n) i at = more (p at) (times n p) (numbered n (λ _. p) (i + 1)) (plain n (i + 1))

-- a state that came to be, with an answer that says nothing
pub answered : {E A M : Type 0} (o : Outcome E A) (f : A → M) (m : M) (at : ℕ) → then o (λ x next. got (f x) next) ≡ got m at → then o (λ x next. got (with (f x) (nothing x)) next) ≡ got (with m tt) at
answered (got x next) f m at e = let a : f x ≡ m = cc in let b : next ≡ at = cc in ap (λ k. got (with k tt) next) a ∙ ap (λ k. got (with m tt) k) b
answered (fault d) f m at e = let z : ◌≡◌ {A = ℕ} 0 1 = cc in absurd (omega arith)

-- a step whose outcome is known
pub after : {E A B : Type 0} {o : Outcome E A} {x : A} {at : ℕ} (f : A → ℕ → Outcome E B) → o ≡ got x at → then o f ≡ f x at
after f e = rw e

-- what was read and worked into a state, seen at a window that is the same
pub record Opened {E A M V W : Type 0} (one : W → ℕ → Outcome E A) (step : W → M → A → M) (answer : A → V) (w : W) (m : M) (p : ℕ) (m' : M) (v : V) (p' : ℕ) : Type 0 where
  pub tree : A
  pub reads : one w p ≡ got tree p'
  pub works : step w m tree ≡ m'
  pub answers : answer tree ≡ v

opened_by : {E A M V : Type 0} (o : Outcome E A) (f : M → A → M) (answer : A → V) (m m' : M) (v : V) (p' : ℕ) → then o (λ x next. got (with (f m x) (answer x)) next) ≡ got (with m' v) p' → (x : A) × (o ≡ got x p') × (f m x ≡ m') × (answer x ≡ v)
opened_by (got x next) f answer m m' v p' e = let b : next ≡ p' = cc in (x, ap (λ k. got x k) b, cc, cc)
opened_by (fault d) f answer m m' v p' e = let z : ◌≡◌ {A = ℕ} 0 1 = cc in absurd (omega arith)

pub opened : {E A M V W : Type 0} (one : W → ℕ → Outcome E A) (step : W → M → A → M) (answer : A → V) {w w₀ : W} {m m' : M} {p p' : ℕ} {v : V} → w ≡ w₀ → then (one w p) (λ x next. got (with (step w m x) (answer x)) next) ≡ got (with m' v) p' → Opened one step answer w₀ m p m' v p'
opened one step answer {w} {w₀} {m} {m'} {p} {p'} {v} s e =
    let q = opened_by (one w₀ p) (step w₀) answer m m' v p' (subst (λ u. then (one u p) (λ x next. got (with (step u m x) (answer x)) next) ≡ got (with m' v) p') s e) in
    record { tree = q.0; reads = q.1; works = q.2; answers = q.3 }

-- an outcome, seen at a window that is the same
pub moved : {E A W : Type 0} (one : W → ℕ → Outcome E A) {w w₀ : W} {p : ℕ} {o : Outcome E A} → w ≡ w₀ → one w p ≡ o → one w₀ p ≡ o
moved one {p = p} {o = o} s e = subst (λ u. one u p ≡ o) s e

-- the same with another answer, which what was read always gives
pub into_answered : {E A B M V : Type 0} (o : Outcome E A) (h : A → B) (f : B → M) (g : B → V) (v : V) {m : M} {at : ℕ} → ((x : A) → g (h x) ≡ v) → then o (λ x next. got (with (f (h x)) (nothing x)) next) ≡ got (with m tt) at → then (then o (λ x next. got (h x) next)) (λ y next. got (with (f y) (g y)) next) ≡ got (with m v) at
into_answered (got x next) h f g v {m} {at} k e = let a : f (h x) ≡ m = cc in let b : next ≡ at = cc in ap (λ j. got (with j (g (h x))) next) a ∙ ap (λ j. got (with m j) next) (k x) ∙ ap (λ j. got (with m v) j) b
into_answered (fault d) h f g v k e = let z : ◌≡◌ {A = ℕ} 0 1 = cc in absurd (omega arith)

-- a reading whose faults rise into others
pub raised_got : {E F A B : Type 0} (f : E → F) (o : Outcome E A) (h : A → B) {y : B} {at : ℕ} → then o (λ x next. got (h x) next) ≡ got y at → then (raised f o) (λ x next. got (h x) next) ≡ got y at
raised_got f (got x next) h {y} {at} e = let a : h x ≡ y = cc in let b : next ≡ at = cc in ap (λ j. got j next) a ∙ ap (λ j. got y j) b
raised_got f (fault d) h e = let z : ◌≡◌ {A = ℕ} 0 1 = cc in absurd (omega arith)

-- the same with an answer that says nothing
pub unanswered : {E A M V : Type 0} (o : Outcome E A) (f : A → M) (g : A → V) {m : M} {v : V} {at : ℕ} → then o (λ x next. got (with (f x) (g x)) next) ≡ got (with m v) at → then o (λ x next. got (with (f x) (nothing x)) next) ≡ got (with m tt) at
unanswered (got x next) f g {m} {v} {at} e = let a : f x ≡ m = cc in let b : next ≡ at = cc in ap (λ k. got (with k tt) next) a ∙ ap (λ k. got (with m tt) k) b
unanswered (fault d) f g e = let z : ◌≡◌ {A = ℕ} 0 1 = cc in absurd (omega arith)
