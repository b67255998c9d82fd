use Rattle.std.proofs.Common.{◌≡◌, ℕ, ◌≤◌, length, nat_eq, ◌+◌, ◌++◌, drop}
use Rattle.listing.proofs.Firsts.{first_from}
use Rattle.keyed.specs.Keyed.{value_of}
use Rattle.keyed.specs.Used.{used}
use Rattle.listing.proofs.parents.index_spans.Given as goal

-- the spans behind the rest are in the list
abbrev pub invariant-loop-i : goal.invariant-loop-i
invariant-loop-i l =
    let rest = l.i-iterator.iter.iter.rest.now in
    record {
      listed : (id : ℕ) → value_of nat_eq id (used l.list) ≡ first_from id (length rest) (drop (length rest) l.spans);
      whole : l.spans ≡ rest ++ drop (length rest) l.spans;
      count : l.i-iterator.iter.count ≡ 0;
      few : l.list.len + length rest ≤ length l.spans;
      room : length l.spans ≤ length l.list.entries.now;
    }
