-- A sink that moves by one run and then by another. Assumes nothing.
use Rattle.std.proofs.Common.{◌≡◌, ℕ, ◌+◌, ◌<◌, ◌≤◌, true, List, [], ◌∷◌, ◌++◌, map, length, get_or, take, drop, is_err, Ok, Err, Result, sym, refl, ap, ◌∙◌, append_assoc, append-nil, add-zero, arith, length-append, take-append-drop, take_all}
use Rattle.std.specs.List.{flat_map}
use Rattle.std.proofs.lemmas.List.{take_more}
use Rattle.sinks.specs.Sinks.{State, Laws, Moves, Over, Sent}

-- runs of a list's items, joined
pub joined_push : {X A : Type 0} (f : X → List A) (xs ys : List X) → flat_map f (xs ++ ys) ≡ flat_map f xs ++ flat_map f ys
joined_push f [] ys = refl
joined_push f (x ∷ xs) ys =
    ap (λ l. f x ++ l) (joined_push f xs ys) ∙ sym (append_assoc (f x) (flat_map f xs) (flat_map f ys))

pub joined_more : {X A : Type 0} (f : X → List A) (xs : List X) (i : ℕ) (d : X) → i < length xs → flat_map f (take (i + 1) xs) ≡ flat_map f (take i xs) ++ f (get_or xs i d)
joined_more f xs i d h =
    ap (flat_map f) (take_more xs i d h) ∙ joined_push f (take i xs) (get_or xs i d ∷ []) ∙ ap (λ l. flat_map f (take i xs) ++ l) (append-nil (f (get_or xs i d)))

pub joined_front : {X A : Type 0} (f : X → List A) (xs : List X) (i : ℕ) → length (flat_map f (take i xs)) ≤ length (flat_map f xs)
joined_front f xs i =
    let e = ap (λ l. length (flat_map f l)) (take-append-drop i xs) in
    let m = ap length (joined_push f (take i xs) (drop i xs)) in
    omega (arith, e, m, length-append (flat_map f (take i xs)) (flat_map f (drop i xs)))

pub joined_map : {X Y A : Type 0} (f : Y → List A) (g : X → Y) (xs : List X) → flat_map f (map g xs) ≡ flat_map (λ x. f (g x)) xs
joined_map f g [] = refl
joined_map f g (x ∷ xs) = ap (λ l. f (g x) ++ l) (joined_map f g xs)

module _ {M : Type 0} {moved : M → List ℕ → M} (laws : Laws moved) where
  pub none : (s : State M) → Moves moved [] s s
  none s = record { falls = add-zero s.room; moves = sym (laws.rests s.meaning) }

  pub then : {a b : List ℕ} {s t u : State M} → Moves moved a s t → Moves moved b t u → Moves moved (a ++ b) s u
  then {a} {b} {s} p q =
      let long = length-append a b in
      record {
        falls = omega (arith, p.falls, q.falls);
        moves = q.moves ∙ ap (λ n. moved n b) p.moves ∙ laws.joins s.meaning a b;
      }

  -- a run behind one that fit
  pub sent_then : {V E : Type 0} {a b : List ℕ} {s t u : State M} {r : Result V E} → Moves moved a s t → Sent moved b t u r → Sent moved (a ++ b) s u r
  sent_then {r = Ok _} p q = record { wrote = then p q.wrote; full = tt }
  sent_then {a = a} {b = b} {r = Err _} p q =
      let long = length-append a b in
      record { wrote = tt; full = record { over = omega (arith, p.falls, q.full.over) } }

  -- nothing is sent
  pub sent_none : {V E : Type 0} (s : State M) (v : V) → Sent {E = E} moved [] s s (Ok v)
  sent_none s v = record { wrote = none s; full = tt }

  pub over_first : {a : List ℕ} {s : State M} (b : List ℕ) → Over a s → Over (a ++ b) s
  over_first {a} b h = record { over = omega (arith, h.over, length-append a b) }

  pub over_then : {a b : List ℕ} {s t : State M} → Moves moved a s t → Over b t → Over (a ++ b) s
  over_then {a} {b} p h = record { over = omega (arith, h.over, p.falls, length-append a b) }

  -- the exit of a `?`
  pub stop : {V E : Type 0} {run : List ℕ} {s t : State M} {r : Result V E} → is_err r ≡ true → Over run s → Sent moved run s t r
  stop {r = Ok _} e h = absurd (let z : ◌≡◌ {A = ℕ} 0 1 = cc in omega arith)
  stop {r = Err _} e h = record { wrote = tt; full = h }

  -- a loop over a list, each of whose items is a run
  module _ {X : Type 0} (f : X → List ℕ) (xs : List X) where
    pub loop_more : {s t u : State M} (i : ℕ) (d : X) → i < length xs → Moves moved (flat_map f (take i xs)) s t → Moves moved (f (get_or xs i d)) t u → Moves moved (flat_map f (take (i + 1) xs)) s u
    loop_more i d h p q = rw (joined_more f xs i d h) (then p q)

    pub loop_stop : {s t : State M} (i : ℕ) (d : X) → i < length xs → Moves moved (flat_map f (take i xs)) s t → Over (f (get_or xs i d)) t → Over (flat_map f xs) s
    loop_stop i d h p q =
        let e = ap length (joined_more f xs i d h) in
        record { over = omega (arith, p.falls, q.over, e, joined_front f xs (i + 1), length-append (flat_map f (take i xs)) (f (get_or xs i d))) }

    pub loop_all : {s t : State M} (i : ℕ) → length xs ≤ i → Moves moved (flat_map f (take i xs)) s t → Moves moved (flat_map f xs) s t
    loop_all i h p = rw (take_all i xs h) at p
