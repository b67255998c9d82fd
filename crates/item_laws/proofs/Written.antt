-- What is written for a fitting value is read as that value. Assumes nothing.
use Rattle.std.proofs.Common.{ℕ, List, ℤ, pos, refl, inl, inr}
use Rattle.msgpack.specs.Encodings.{integer, Encodes, written_integer, written_text, written_binary, written_array, written_map, written_boolean, fixed_u8, fixed_u32, fixed_u64, fixed_i64, fixed_double}
use Rattle.puts.proofs.Forms.{integers_encoded, texts_encoded, binaries_encoded, arrays_encoded, maps_encoded, booleans_encoded, signed_encoded}
use Rattle.item_laws.specs.Laws.{Back, WrittenReadBack}
use Rattle.item_laws.proofs.Complete.{encodings_read}

back : (z : ℤ) (w : List ℕ) → Encodes (integer z) w → Back z w
back z w h low high i front rest = (encodings_read.integers low high z front w rest h).0 i

pub written_read_back : WrittenReadBack
written_read_back =
    record {
      integers = λ z f. back z (written_integer z) (integers_encoded z f);
      texts = λ t u f front rest. encodings_read.texts t u front (written_text t) rest (texts_encoded t f);
      byte_parts = λ b f front rest. encodings_read.byte_parts b front (written_binary b) rest (binaries_encoded b f);
      arrays = λ causes n f front rest. encodings_read.arrays causes n front (written_array n) rest (arrays_encoded n f);
      maps = λ causes n f front rest. encodings_read.maps causes n front (written_map n) rest (maps_encoded n f);
      truths = λ cause b front rest. encodings_read.truths cause b front (written_boolean b) rest (booleans_encoded b tt);
      u8s = λ n f. back (pos n) (fixed_u8 n) (inl (inr (inl (f, refl))));
      u32s = λ n f. back (pos n) (fixed_u32 n) (inl (inr (inr (inr (inl (f, refl))))));
      u64s = λ n f. back (pos n) (fixed_u64 n) (inl (inr (inr (inr (inr (inl (f, refl)))))));
      i64s = λ z f. back z (fixed_i64 z) (signed_encoded z f);
      doubles = λ b f front rest. encodings_read.doubles b front (fixed_double b) rest (f, refl);
    }
