-- The overview decides each first byte by one row alone. Assumes nothing.
use Rattle.std.proofs.Common.{◌≡◌, ℕ, suc, Bool, true, ◌&&◌, eqb, leb, List, [], ◌∷◌, refl, eqb-true, leb-true}
use Rattle.std.proofs.lemmas.Bool.{and_parts, agree_below_at}
use Rattle.msgpack.specs.Overview.{Row, overview, marker, first_byte, rows_of, DecidesEach, Rising, Rises, OneRow}

pub decides_each : DecidesEach
decides_each b h = eqb-true _ _ (agree_below_at (λ k. eqb (first_byte (marker k)) k) (λ _. true) 256 b refl h)

pub one_row : OneRow
one_row b h = eqb-true _ _ (agree_below_at (λ k. eqb (rows_of k 0 overview) 1) (λ _. true) 256 b refl h)

-- a test for rows that rise
abbrev pub rising : ℕ → List Row → Bool
rising start [] = eqb start 256
rising start (r ∷ rs) = leb start r.last && rising (suc r.last) rs

tested : (start : ℕ) (rs : List Row) → rising start rs ≡ true → Rising start rs
tested start [] e = eqb-true _ _ e
tested start (r ∷ rs) e =
    let b = and_parts (leb start r.last) (rising (suc r.last) rs) e in
    (leb-true _ _ b.0, tested (suc r.last) rs b.1)

pub rises : Rises
rises = (refl, tested 0 overview refl)
