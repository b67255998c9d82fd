-- `seek` and `value_of` are walks through the list, entry by entry. Assumes nothing.
use Rattle.std.proofs.Common.{◌≡◌, ℕ, ◌+◌, Bool, true, false, cond, List, [], ◌∷◌, Some, None, Option, option_map, refl}
use Rattle.std.specs.List.{find, position_from}
use Rattle.std.proofs.lemmas.Iterator.Adapters.{position_from-zero}
use Rattle.keyed.specs.declared.list.Entry.{Entry}
use Rattle.keyed.specs.Keyed.{seek, value_of}

module _ {K : Type 0} (V : Type 0) (same : K → K → Bool) (key : K) where
  -- the walk that `seek` is, with the places counted from i
  abbrev pub seek_from : ℕ → List (Entry K V) → Option ℕ
  seek_from i xs = position_from (λ x. same x.key key) i xs

  pub seek_from_start : (xs : List (Entry K V)) → seek same key xs ≡ seek_from 0 xs
  seek_from_start xs = position_from-zero (λ x. same x.key key) xs

  pub seek_from_empty : (i : ℕ) → seek_from i [] ≡ None
  seek_from_empty i = refl

  pub seek_from_entry : (i : ℕ) (x : Entry K V) (xs : List (Entry K V)) → seek_from i (x ∷ xs) ≡ cond (same x.key key) (Some i) (seek_from (i + 1) xs)
  seek_from_entry i x xs = refl

  pub value_of_empty : value_of {V = V} same key [] ≡ None
  value_of_empty = refl

  pub value_of_entry : (x : Entry K V) (xs : List (Entry K V)) → value_of same key (x ∷ xs) ≡ cond (same x.key key) (Some x.value) (value_of same key xs)
  value_of_entry x xs = by (same x.key key)
    where
      by : (b : Bool) → option_map (λ y. y.value) (cond b (Some x) (find (λ y. same y.key key) xs)) ≡ cond b (Some x.value) (value_of same key xs)
      by true = refl
      by false = refl
