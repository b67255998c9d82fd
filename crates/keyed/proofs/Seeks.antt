-- What a put leaves under each key. Assumes nothing.
use Rattle.std.proofs.Common.{◌≡◌, ℕ, zero, suc, ◌+◌, ◌<◌, ◌≤◌, Bool, true, false, cond, nat_lt, List, [], ◌∷◌, ◌++◌, length, get_or, take, set, position, Some, None, Ok, Option, option_map, sym, refl, ap, ◌∙◌, arith, length-set}
use Rattle.std.specs.Cmp.{both_ways}
use Rattle.std.specs.List.{find, position_or_len}
use Rattle.std.specs.Option.{option_or}
use Rattle.std.proofs.Math.Seq.{take-set-lt}
use Rattle.std.proofs.lemmas.List.{take_more_set, get_or-take}
use Rattle.std.proofs.lemmas.List.Folds.{find_at, find-append, find-set, find_past}
use Rattle.std.proofs.lemmas.List.Quantifiers.{position-Some}
use Rattle.std.proofs.lemmas.Option.{slice_get_past}
use Rattle.std.proofs.lemmas.Bool.Decides.{nat_tests}
use Rattle.keyed.specs.declared.list.Entry.{Entry}
use Rattle.keyed.specs.Keyed.{seek, value_of, revalued, Put, adding, refusing, put_at, putting, Finds}
use Rattle.keyed.specs.Sameness.{Laws}

-- another value at a place, by the write of a whole entry (d stands for an entry that is not there)
abbrev pub rewritten : {K V : Type 0} → List (Entry K V) → ℕ → V → Entry K V → List (Entry K V)
rewritten xs i v d = set xs i (record { key = (get_or xs i d).key; value = v })

pub revalued_set : {K V : Type 0} (xs : List (Entry K V)) (i : ℕ) (v : V) (d : Entry K V) → rewritten xs i v d ≡ revalued xs i v
revalued_set [] i v d = refl
revalued_set (x ∷ xs) zero v d = refl
revalued_set (x ∷ xs) (suc i) v d = ap (λ ys. x ∷ ys) (revalued_set xs i v d)

pub take_revalued : {K V : Type 0} (n : ℕ) (xs : List (Entry K V)) (i : ℕ) (v : V) → take n (revalued xs i v) ≡ revalued (take n xs) i v
take_revalued zero xs i v = refl
take_revalued (suc n) [] i v = refl
take_revalued (suc n) (x ∷ xs) zero v = refl
take_revalued (suc n) (x ∷ xs) (suc i) v = ap (λ ys. x ∷ ys) (take_revalued n xs i v)

-- where the first element that passes stands
at_position : {X : Type 0} (p : X → Bool) (xs : List X) (i : ℕ) → position p xs ≡ Some i → i ≡ position_or_len p xs
at_position p xs i e = grind (arith, nat_tests, e)

-- an element that is not found
pub missed : {X : Type 0} (p : X → Bool) (xs : List X) → position p xs ≡ None → find p xs ≡ None
missed p xs e =
    let past : length xs ≤ position_or_len p xs = grind (arith, nat_tests, e) in
    find_at p xs ∙ slice_get_past xs (position_or_len p xs) past

none_else : {X : Type 0} (o : Option X) → option_or o None ≡ o
none_else None = refl
none_else (Some x) = refl

module _ {K : Type 0} (same : K → K → Bool) (laws : Laws same) where
  -- keys that are the same tell alike
  pub agree : (x a b : K) → same a b ≡ true → same x a ≡ same x b
  agree x a b t = both_ways (same x a) (same x b) (λ p. laws.transitive x a b p t) (λ p. laws.transitive x b a p (laws.symmetric a b t))

  agree_left : (a b x : K) → same a b ≡ true → same a x ≡ same b x
  agree_left a b x t = both_ways (same a x) (same b x) (laws.transitive b a x (laws.symmetric a b t)) (laws.transitive a b x t)

  found_alike : {V : Type 0} (a b : K) (xs : List (Entry K V)) → same a b ≡ true → find (λ x. same x.key a) xs ≡ find (λ x. same x.key b) xs
  found_alike a b [] t = refl
  found_alike a b (x ∷ xs) t = cc (agree x.key a b t, found_alike a b xs t)

module _ {K V : Type 0} (same : K → K → Bool) where
  -- what a put of a known key comes to
  pub known : (key : K) (v : V) (n : ℕ) (xs : List (Entry K V)) (i : ℕ) (d : Entry K V) → Some i ≡ seek same key (take n xs)
      → putting same key v n xs ≡ record { answer = Ok i; memory = rewritten xs i v d; used = n }
  known key v n xs i d e =
      ap (λ o. put_at same o key v n xs) (sym e) ∙ ap (λ ys. record { answer = Ok i; memory = ys; used = n }) (sym (revalued_set xs i v d))

  -- a put keeps the memory's length, and uses at most one entry more
  grown : (o : Option ℕ) (key : K) (v : V) (n : ℕ) (xs : List (Entry K V)) → (length (put_at same o key v n xs).memory ≡ length xs) × ((put_at same o key v n xs).used ≤ n + 1)
  grown (Some i) key v n xs = (ap length (sym (revalued_set xs i v (record { key = key; value = v }))) ∙ simp length-set, omega arith)
  grown None key v n xs = at (nat_lt n (length xs))
    where
      at : (b : Bool) → let p : Put K V = cond b (adding key v n xs) (refusing n xs) in (length p.memory ≡ length xs) × (p.used ≤ n + 1)
      at true = (simp length-set, omega arith)
      at false = (refl, omega arith)

  pub kept_room : (key : K) (v : V) (n : ℕ) (xs : List (Entry K V)) → (length (putting same key v n xs).memory ≡ length xs) × ((putting same key v n xs).used ≤ n + 1)
  kept_room key v n xs = grown (seek same key (take n xs)) key v n xs

  module _ (laws : Laws same) where
    -- another value in the first entry with the key
    pub replaced : (key : K) (v : V) (xs : List (Entry K V)) (i : ℕ) (d : Entry K V) → seek same key xs ≡ Some i → Finds same key v xs (rewritten xs i v d)
    replaced key v xs i d e q = by (same key q) refl
      where
        by : (u : Bool) → same key q ≡ u → value_of same q (rewritten xs i v d) ≡ cond u (Some v) (value_of same q xs)
        by true t =
            let h = position-Some (λ x. same x.key key) xs i d e in
            ap (option_map (λ x. x.value)) (sym (found_alike same laws key q _ t) ∙ find-set (λ x. same x.key key) xs i _ (at_position _ xs i e) h.0 h.1)
        by false t =
            let h = position-Some (λ x. same x.key key) xs i d e in
            let other = agree_left same laws (get_or xs i d).key key q h.1 ∙ t in
            ap (option_map (λ x. x.value)) (find_past (λ x. same x.key q) xs i _ d other other)

    pub replaced_used : (key : K) (v : V) (n : ℕ) (xs : List (Entry K V)) (i : ℕ) (d : Entry K V) → Some i ≡ seek same key (take n xs) → i < n
        → Finds same key v (take n xs) (take n (rewritten xs i v d))
    replaced_used key v n xs i d e h q =
        ap (value_of same q) (take-set-lt n xs i _ h ∙ ap (λ z. set (take n xs) i (record { key = z.key; value = v })) (sym (get_or-take n xs i d h))) ∙ replaced key v (take n xs) i d (sym e) q

    -- a new entry behind those in use
    pub added : (key : K) (v : V) (n : ℕ) (xs : List (Entry K V)) → None ≡ seek same key (take n xs) → n < length xs → Finds same key v (take n xs) (take (n + 1) (set xs n (record { key = key; value = v })))
    added key v n xs e h q = ap (value_of same q) (take_more_set xs n _ h) ∙ by (same key q) refl
      where
        by : (u : Bool) → same key q ≡ u → value_of same q (take n xs ++ record { key = key; value = v } ∷ []) ≡ cond u (Some v) (value_of same q (take n xs))
        by true t =
            let none = sym (found_alike same laws key q (take n xs) t) ∙ missed _ (take n xs) (sym e) in
            ap (option_map (λ x. x.value)) (find-append _ (take n xs) _ ∙ ap (λ o. option_or o (cond (same key q) (Some (record { key = key; value = v })) None)) none ∙ ap (λ b. cond b (Some (record { key = key; value = v })) None) t)
        by false t = ap (option_map (λ x. x.value)) (find-append _ (take n xs) _ ∙ ap (λ b. option_or (find (λ x. same x.key q) (take n xs)) (cond b (Some (record { key = key; value = v })) None)) t ∙ none_else _)
