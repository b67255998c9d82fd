-- Which bytes stand for which item: MessagePack's formats as a relation. Assumes nothing.
use Rattle.std.specs.Prelude.{◌≡◌, ℕ, suc, ◌+◌, ◌-◌, ◌*◌, ◌^◌, ◌<◌, Bool, true, false, cond, ◌⊎◌, List, [], ◌∷◌, ◌++◌, length, ℤ, pos, negsuc, nat_lt}
use Rattle.msgpack.specs.Numbers.{digits}

-- what an item says; of an array or a map, how many items or pairs follow
pub data Item : Type 0 where
  nil : Item
  boolean : Bool → Item
  integer : ℤ → Item
  float32 : ℕ → Item
  float64 : ℕ → Item
  text : List ℕ → Item
  binary : List ℕ → Item
  array : ℕ → Item
  map : ℕ → Item
  extension : ℕ → List ℕ → Item

-- one way to write a number: those below the limit, in these bytes
pub record Form : Type 0 where
  pub limit : ℕ
  pub bytes : ℕ → List ℕ

-- in the first byte
abbrev pub near : ℕ → ℕ → Form
near limit base = record { limit = limit; bytes = λ n. (base + n) ∷ [] }

-- in so many bytes behind the first
abbrev pub far : ℕ → ℕ → Form
far width first = record { limit = 256 ^ width; bytes = λ n. first ∷ digits width n }

-- the same where the highest bit is a sign
abbrev pub half : ℕ → ℕ → Form
half width first = record { limit = 2 ^ (8 * width - 1); bytes = λ n. first ∷ digits width n }

-- -1 - n, in two's complement
abbrev pub back_near : ℕ → ℕ → Form
back_near limit top = record { limit = limit; bytes = λ n. (top - n) ∷ [] }

abbrev pub back_far : ℕ → ℕ → Form
back_far width first = record { limit = 2 ^ (8 * width - 1); bytes = λ n. first ∷ digits width (256 ^ width - suc n) }

-- positive fixint, and uint 8 to 64
abbrev pub unsigned_forms : List Form
unsigned_forms = near 0x80 0 ∷ far 1 0xcc ∷ far 2 0xcd ∷ far 4 0xce ∷ far 8 0xcf ∷ []

-- int 8 to 64, of numbers from 0
abbrev pub signed_forms : List Form
signed_forms = half 1 0xd0 ∷ half 2 0xd1 ∷ half 4 0xd2 ∷ half 8 0xd3 ∷ []

-- negative fixint, and int 8 to 64, of -1 - n
abbrev pub negative_forms : List Form
negative_forms = back_near 0x20 0xff ∷ back_far 1 0xd0 ∷ back_far 2 0xd1 ∷ back_far 4 0xd2 ∷ back_far 8 0xd3 ∷ []

-- lengths: fixstr and str 8 to 32, bin 8 to 32, fixarray and array 16 and 32, fixmap and map 16 and 32
abbrev pub text_forms : List Form
text_forms = near 0x20 0xa0 ∷ far 1 0xd9 ∷ far 2 0xda ∷ far 4 0xdb ∷ []

abbrev pub binary_forms : List Form
binary_forms = far 1 0xc4 ∷ far 2 0xc5 ∷ far 4 0xc6 ∷ []

abbrev pub array_forms : List Form
array_forms = near 0x10 0x90 ∷ far 2 0xdc ∷ far 4 0xdd ∷ []

abbrev pub map_forms : List Form
map_forms = near 0x10 0x80 ∷ far 2 0xde ∷ far 4 0xdf ∷ []

-- extension types: ext 8 to 32, and fixext 1 to 16, each of which has one length
abbrev pub extension_forms : List Form
extension_forms = far 1 0xc7 ∷ far 2 0xc8 ∷ far 4 0xc9 ∷ []

abbrev pub Fixed : ℕ → List ℕ → Type 0
Fixed n bytes =
    ((n ≡ 1) × (bytes ≡ 0xd4 ∷ [])) ⊎ ((n ≡ 2) × (bytes ≡ 0xd5 ∷ [])) ⊎ ((n ≡ 4) × (bytes ≡ 0xd6 ∷ []))
    ⊎ ((n ≡ 8) × (bytes ≡ 0xd7 ∷ [])) ⊎ ((n ≡ 16) × (bytes ≡ 0xd8 ∷ []))

-- the bytes write the number by one of the forms
abbrev pub By : List Form → ℕ → List ℕ → Type 0
By [] n bytes = ⊥
By (f ∷ fs) n bytes = ((n < f.limit) × (bytes ≡ f.bytes n)) ⊎ By fs n bytes

-- a length, and as many bytes
pub record Headed (forms : List Form) (content bytes : List ℕ) : Type 0 where
  pub head : List ℕ
  pub says : By forms (length content) head
  pub whole : bytes ≡ head ++ content

-- the same of an extension, whose type stands between length and content
pub record Extended (type : ℕ) (content bytes : List ℕ) : Type 0 where
  pub head : List ℕ
  pub says : By extension_forms (length content) head ⊎ Fixed (length content) head
  pub small : type < 256
  pub whole : bytes ≡ head ++ (type ∷ content)

-- the bytes are an encoding of the item
abbrev pub Encodes : Item → List ℕ → Type 0
Encodes nil bytes = bytes ≡ 0xc0 ∷ []
Encodes (boolean false) bytes = bytes ≡ 0xc2 ∷ []
Encodes (boolean true) bytes = bytes ≡ 0xc3 ∷ []
Encodes (integer (pos n)) bytes = By unsigned_forms n bytes ⊎ By signed_forms n bytes
Encodes (integer (negsuc n)) bytes = By negative_forms n bytes
Encodes (float32 b) bytes = (b < 2 ^ 32) × (bytes ≡ 0xca ∷ digits 4 b)
Encodes (float64 b) bytes = (b < 2 ^ 64) × (bytes ≡ 0xcb ∷ digits 8 b)
Encodes (text t) bytes = Headed text_forms t bytes
Encodes (binary b) bytes = Headed binary_forms b bytes
Encodes (array n) bytes = By array_forms n bytes
Encodes (map n) bytes = By map_forms n bytes
Encodes (extension type b) bytes = Extended type b bytes

-- the first form that takes the number
abbrev pub first_form : List Form → ℕ → List ℕ
first_form [] n = []
first_form (f ∷ fs) n = cond (nat_lt n f.limit) (f.bytes n) (first_form fs n)

-- the written forms: integers from 0 up without a sign, lengths likewise
abbrev pub written_integer : ℤ → List ℕ
written_integer (pos n) = first_form unsigned_forms n
written_integer (negsuc n) = first_form negative_forms n

abbrev pub written_text : List ℕ → List ℕ
written_text t = first_form text_forms (length t) ++ t

abbrev pub written_binary : List ℕ → List ℕ
written_binary b = first_form binary_forms (length b) ++ b

abbrev pub written_array : ℕ → List ℕ
written_array n = first_form array_forms n

abbrev pub written_map : ℕ → List ℕ
written_map n = first_form map_forms n

abbrev pub written_boolean : Bool → List ℕ
written_boolean b = cond b 0xc3 0xc2 ∷ []

-- fixed forms, whatever the number
abbrev pub fixed_u8 : ℕ → List ℕ
fixed_u8 n = 0xcc ∷ digits 1 n

abbrev pub fixed_u32 : ℕ → List ℕ
fixed_u32 n = 0xce ∷ digits 4 n

abbrev pub fixed_u64 : ℕ → List ℕ
fixed_u64 n = 0xcf ∷ digits 8 n

abbrev pub fixed_i64 : ℤ → List ℕ
fixed_i64 (pos n) = 0xd3 ∷ digits 8 n
fixed_i64 (negsuc n) = 0xd3 ∷ digits 8 (256 ^ 8 - suc n)

abbrev pub fixed_double : ℕ → List ℕ
fixed_double b = 0xcb ∷ digits 8 b
