-- A keyed list, as the entries of a run of memory of which the first few are in use. Assumes nothing.
use Rattle.std.specs.Prelude.{◌≡◌, ℕ, zero, suc, ◌+◌, Bool, cond, List, [], ◌∷◌, length, take, position, Some, None, Ok, Err, Option, Result, option_map, nat_lt, slice_set}
use Rattle.std.specs.List.{find}
use Rattle.keyed.specs.declared.list.Entry.{Entry}
use Rattle.keyed.specs.declared.list.Shortage.{Shortage}

-- the number of the refusal for want of a free entry
abbrev pub shortage_number : ℕ
shortage_number = 6

-- the list with another value in the entry at a place, whose key stays
abbrev pub revalued : {K V : Type 0} → List (Entry K V) → ℕ → V → List (Entry K V)
revalued [] i v = []
revalued (x ∷ xs) zero v = record { key = x.key; value = v } ∷ xs
revalued (x ∷ xs) (suc i) v = x ∷ revalued xs i v

-- the answer to a put, and what the memory and the number of used entries are after it
pub record Put (K V : Type 0) : Type 0 where
  pub answer : Result ℕ Shortage
  pub memory : List (Entry K V)
  pub used : ℕ

-- a known key keeps its place
abbrev pub replacing : {K V : Type 0} → ℕ → V → ℕ → List (Entry K V) → Put K V
replacing i value len entries = record { answer = Ok i; memory = revalued entries i value; used = len }

-- a new key takes the first free entry
abbrev pub adding : {K V : Type 0} → K → V → ℕ → List (Entry K V) → Put K V
adding key value len entries = record { answer = Ok len; memory = slice_set entries len (record { key = key; value = value }); used = len + 1 }

-- a refusal changes nothing
abbrev pub refusing : {K V : Type 0} → ℕ → List (Entry K V) → Put K V
refusing len entries = record { answer = Err (record {}); memory = entries; used = len }

module _ {K V : Type 0} (same : K → K → Bool) where
  -- the place of the first entry with the key
  abbrev pub seek : K → List (Entry K V) → Option ℕ
  seek key xs = position (λ x. same x.key key) xs

  -- the value of the first entry with the key
  abbrev pub value_of : K → List (Entry K V) → Option V
  value_of key xs = option_map (λ x. x.value) (find (λ x. same x.key key) xs)

  abbrev pub put_at : Option ℕ → K → V → ℕ → List (Entry K V) → Put K V
  put_at (Some i) key value len entries = replacing i value len entries
  put_at None key value len entries = cond (nat_lt len (length entries)) (adding key value len entries) (refusing len entries)

  -- a known key gets the new value and keeps its place; a new one takes the first free entry; without one nothing changes
  abbrev pub putting : K → V → ℕ → List (Entry K V) → Put K V
  putting key value len entries = put_at (seek key (take len entries)) key value len entries

  -- under the key stands the value now, and under every other key what stood there before
  abbrev pub Finds : K → V → List (Entry K V) → List (Entry K V) → Type 0
  Finds key value old new = (q : K) → value_of q new ≡ cond (same key q) (Some value) (value_of q old)
