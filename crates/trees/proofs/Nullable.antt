-- A reading where null could have stood, and did not. Assumes nothing.
use Rattle.std.proofs.Common.{◌≡◌, ℕ, ◌+◌, false, cond, List, Result, sym, ap, subst, Bor}
use Rattle.items.specs.Items.{null_at}
use Rattle.items.specs.Reads.{Outcome, got, Takes}
use Rattle.trees.specs.Records.{nullable}

pub not_null : {E A M V : Type 0} (one : List ℕ → ℕ → Outcome E A) (null : A) (step : List ℕ → M → A → M) (answer : A → V) {w w₀ : Bor (List ℕ)} {p p₀ : ℕ} (m m' : M) (r : Result V E) (to : ℕ) → w ≡ w₀ → p ≡ p₀ → false ≡ null_at w₀.now p₀ → Takes (step w.now) answer m m' r to (one w.now p) → Takes (step w₀.now) answer m m' r to (nullable null one w₀.now p₀)
not_null one null step answer {w} {w₀} {p} {p₀} m m' r to s t n k =
    let e : nullable null one w₀.now p₀ ≡ one w₀.now p₀ = ap (λ b. cond b (got null (p₀ + 1)) (one w₀.now p₀)) (sym n) in
    subst (λ o. Takes (step w₀.now) answer m m' r to o) (sym e)
    (subst (λ q. Takes (step w₀.now) answer m m' r to (one w₀.now q)) t
    (subst (λ u. Takes (step u.now) answer m m' r to (one u.now p)) s k))
