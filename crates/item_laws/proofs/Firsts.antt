-- First bytes: what each form's says, and which forms one that says something can begin. Assumes nothing.
use Rattle.std.proofs.Common.{◌≡◌, ℕ, zero, suc, ◌+◌, ◌-◌, ◌<◌, ◌≤◌, Bool, true, false, cond, ◌&&◌, ltb, List, [], ◌∷◌, length, get_or, take, sym, refl, ap, ◌∙◌, zero-add, arith, lit<}
use Rattle.std.proofs.lemmas.Bool.{and_parts, ltb-true, le-leb, lt-leb}
use Rattle.msgpack.specs.declared.marker.Marker.{Marker}
use Rattle.msgpack.specs.declared.marker.Marker.TheVariants.{PositiveFixint, FixMap, FixArray, FixStr, NeverUsed, NegativeFixint}
use Rattle.msgpack.specs.Overview.{Row, only, overview, decided, marker, first_byte, none}
use Rattle.msgpack.proofs.Table.{decides_each}

-- each of these rows ends below m
abbrev end_below : ℕ → List Row → Bool
end_below m [] = true
end_below m (r ∷ rs) = ltb r.last m && end_below m rs

-- the row at a place
abbrev row : List Row → ℕ → Row
row rs k = get_or rs k (only 0 NeverUsed)

-- a byte is decided by the row that reaches it, where those above end before it
reached : (rs : List Row) (k m b : ℕ) → k < length rs → end_below m (take k rs) ≡ true → m ≤ b → b ≤ (row rs k).last → decided rs b ≡ (row rs k).says b
reached [] k m b i e l h = absurd (omega arith)
reached (r ∷ rs) zero m b i e l h = ap (λ v. cond v (r.says b) (decided rs b)) (le-leb b r.last h)
reached (r ∷ rs) (suc k) m b i e l h =
    let p = and_parts (ltb r.last m) (end_below m (take k rs)) e in
    let t = lt-leb b r.last (omega (arith, ltb-true r.last m p.0)) in
    ap (λ v. cond v (r.says b) (decided rs b)) t ∙ reached rs k m b (omega arith) p.1 l h

-- the numbers that a first byte holds
pub positive_says : (n : ℕ) → n < 0x80 → marker (0 + n) ≡ PositiveFixint n
positive_says n h = ap marker (zero-add n) ∙ reached overview 0 0 n (lit< tt) refl (omega arith) (omega arith)

pub map_says : (n : ℕ) → n < 0x10 → marker (0x80 + n) ≡ FixMap n
map_says n h = reached overview 1 0x80 (0x80 + n) (lit< tt) refl (omega arith) (omega arith) ∙ ap FixMap (omega arith)

pub array_says : (n : ℕ) → n < 0x10 → marker (0x90 + n) ≡ FixArray n
array_says n h = reached overview 2 0x90 (0x90 + n) (lit< tt) refl (omega arith) (omega arith) ∙ ap FixArray (omega arith)

pub text_says : (n : ℕ) → n < 0x20 → marker (0xa0 + n) ≡ FixStr n
text_says n h = reached overview 3 0xa0 (0xa0 + n) (lit< tt) refl (omega arith) (omega arith) ∙ ap FixStr (omega arith)

pub negative_says : (n : ℕ) → n < 0x20 → marker (0xff - n) ≡ NegativeFixint (0xff - n)
negative_says n h = reached overview 36 0xe0 (0xff - n) (lit< tt) refl (omega arith) (omega arith)

-- the way back
pub first : (b : ℕ) (m : Marker) → b < 256 → marker b ≡ m → b ≡ first_byte m
first b m h e = sym (decides_each b h) ∙ ap first_byte e

-- a byte that is so where a test passes, and else none, passed it
pub passed : (t : Bool) (b n : ℕ) → b < 256 → b ≡ cond t n none → (t ≡ true) × (b ≡ n)
passed true b n h e = (refl, e)
passed false b n h e = absurd (omega arith)
