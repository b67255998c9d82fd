-- A pair as it was read. Assumes nothing.
use Rattle.std.specs.Prelude.{Some, None, Option}
use Rattle.items.specs.declared.item.Item.{Item}
use Rattle.items.specs.Parts.{Shown, shown}
use Rattle.trees.specs.Tree.{Pair, pair}
use Rattle.maps.specs.declared.pairs.PairRead.{PairRead}

abbrev pub shown_if : Option Item → Option Shown
shown_if None = None
shown_if (Some x) = Some (shown x)

abbrev pub pair_of : PairRead → Pair
pair_of p = pair (shown p.key) (shown_if p.value)
