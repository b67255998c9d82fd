use Rattle.std.proofs.Common.{refl}
use Rattle.puts.proofs.Forms.{integers_encoded, texts_encoded, binaries_encoded, arrays_encoded, maps_encoded, booleans_encoded, signed_encoded}
use Rattle.puts.specs.contracts.fixed.U8Fixed.TheImpl.Laws as bytes
use Rattle.puts.specs.contracts.fixed.U32Fixed.TheImpl.Laws as words
use Rattle.puts.specs.contracts.fixed.U64Fixed.TheImpl.Laws as longs
use Rattle.puts.proofs.laws.written_forms_stand.Goals as goal

pub returns : goal.returns
returns c =
    record {
      integers = integers_encoded;
      texts = texts_encoded;
      binaries = binaries_encoded;
      arrays = arrays_encoded;
      maps = maps_encoded;
      booleans = booleans_encoded;
      bytes = bytes.encoded-law;
      words = words.encoded-law;
      longs = longs.encoded-law;
      signed = signed_encoded;
      doubles = λ b h. (h, refl);
    }
