use Rattle.std.proofs.Common.{◌≡◌, map, length, take, drop}
use Rattle.listing.proofs.Firsts.{parent_in}
use Rattle.listing.proofs.parents.find_parents.Given as goal

-- the first answers are there, and those from the number of spans on are as before
abbrev pub invariant-loop-i : goal.invariant-loop-i
invariant-loop-i l =
    record {
      filled : take l.i l.parents ≡ map (parent_in l.spans) (take l.i l.spans);
      behind : drop (length l.spans) l.parents ≡ drop (length l.spans) l.initial.parents;
    }
