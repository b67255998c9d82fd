use Rattle.puts.proofs.Forms.{integers_shortest, texts_shortest, binaries_shortest, arrays_shortest, maps_shortest, booleans_shortest}
use Rattle.puts.proofs.laws.shortest_forms_stand.Goals as goal

pub returns : goal.returns
returns c =
    record {
      integers = integers_shortest;
      texts = texts_shortest;
      binaries = binaries_shortest;
      arrays = arrays_shortest;
      maps = maps_shortest;
      booleans = booleans_shortest;
    }
