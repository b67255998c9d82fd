-- What of its memory a keyed list uses. Assumes nothing.
use Rattle.std.specs.Prelude.{List, take}
use Rattle.keyed.specs.declared.list.Entry.{Entry}
use Rattle.keyed.specs.declared.list.KeyedList.{KeyedList}

-- the entries in use: the first few of the memory
abbrev pub used : {K V : Type 0} → KeyedList K V → List (Entry K V)
used list = take list.len list.entries.now
