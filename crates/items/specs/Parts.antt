-- Items as they were read, with bytes in place of references. Assumes nothing.
use Rattle.std.specs.Prelude.{ℕ, List, ℤ, pos}
use Rattle.items.specs.declared.fault.ItemFault.{ItemFault}
use Rattle.items.specs.declared.item.Item.{Item}
use Rattle.items.specs.declared.item.Item.TheVariants as item
use Rattle.items.specs.declared.item.ItemKind.{ItemKind}
use Rattle.items.specs.declared.item.ItemKind.TheVariants as item_kind
use Rattle.items.specs.declared.part.Part.{Part}
use Rattle.items.specs.Items.{Piece, a_text, a_binary, an_index, a_double}
use Rattle.items.specs.Reads.{Outcome, got, then}

abbrev pub piece_of : Part → Piece
piece_of p = record { content = p.bytes.now; place = p.place; start = p.start }

-- what an item says
pub data Shown : Type 0 where
  text : Piece → Shown
  bytes : Piece → Shown
  index : ℤ → Shown
  double : ℕ → Shown

abbrev pub shown : Item → Shown
shown (item.Text p) = text (piece_of p)
shown (item.Bytes p) = bytes (piece_of p)
shown (item.Index n) = index (pos n)
shown (item.Double b) = double b

-- the reading of an item of the kind asked
abbrev pub an_item : ItemKind → List ℕ → ℕ → Outcome ItemFault Shown
an_item item_kind.Text window at = then (a_text window at) (λ p next. got (text p) next)
an_item item_kind.Bytes window at = then (a_binary window at) (λ p next. got (bytes p) next)
an_item (item_kind.Index end) window at = then (an_index end window at) (λ z next. got (index z) next)
an_item item_kind.Double window at = then (a_double window at) (λ b next. got (double b) next)
