-- What holds of written forms: they are encodings, and no encoding is shorter. Assumes nothing.
use Rattle.std.specs.Prelude.{ℕ, ◌^◌, ◌<◌, ◌≤◌, List, length, ℤ, pos, negsuc}
use Rattle.msgpack.specs.Encodings.{Item, Encodes}

-- what is written for x encodes x's item, wherever x fits
abbrev pub Encoded : {X : Type 0} → (X → Item) → (X → Type 0) → (X → List ℕ) → Type 0
Encoded {X} item Fits written = (x : X) → Fits x → Encodes (item x) (written x)

-- no bytes that encode x's item are fewer than what is written for x
abbrev pub Shortest : {X : Type 0} → (X → Item) → (X → List ℕ) → Type 0
Shortest {X} item written = (x : X) (bytes : List ℕ) → Encodes (item x) bytes → length (written x) ≤ length bytes

-- the integers of 64 bits, with a sign or without
abbrev pub FitsEither : ℤ → Type 0
FitsEither (pos n) = n < 2 ^ 64
FitsEither (negsuc n) = n < 2 ^ 63

-- those with a sign
abbrev pub FitsSigned : ℤ → Type 0
FitsSigned (pos n) = n < 2 ^ 63
FitsSigned (negsuc n) = n < 2 ^ 63
