use Rattle.std.proofs.Common.{◌≡◌, ℕ, ◌<◌, cond, nat_eq, length, drop, Some, Ok, Err, Result, sym, ap, ◌∙◌, arith, MatchResult}
use Rattle.keyed.specs.Keyed.{Put}
use Rattle.keyed.proofs.Seeks.{kept_room}
use Rattle.listing.proofs.Firsts.{has_number, first_from, first_from_start, whole_front, one_longer, found_front}
use Rattle.listing.proofs.parents.index_spans.Goals as goal

-- an entry is free
done : {A E P : Type 0} (r : Result A E) (n m : ℕ) → MatchResult r (λ _. P) (λ _. n ≡ m) → n < m → P
done (Ok x) n m p l = p
done (Err e) n m p l = absurd (omega arith)

pub loop-i-preserved : goal.loop-i-preserved
loop-i-preserved c =
    let list = c.loop-i.list in
    let rest = c.loop-i.i-iterator.iter.iter.rest.now in
    let front = c.next.new.self.iter.iter.rest.now in
    let span = c.in-Some.span.now in
    let spans = c.args.spans.now in
    let steps = c.in-Some.ensures.steps in
    let inv = c.loop-i.invariant in
    let longer = one_longer spans rest front span inv.whole steps.1.0 in
    let room = kept_room nat_eq span.span_id c.in-Some.i list.len list.entries.now in
    let free : list.len < length list.entries.now = omega (arith, inv.few, inv.room) in
    let finds = done c.put.result list.len (length list.entries.now) c.put.ensures.finds free in
    let place : c.in-Some.i ≡ length front = omega (arith, steps.1.1, inv.count) in
    record {
      listed = λ id.
          finds id ∙ ap (λ o. cond (nat_eq span.span_id id) (Some c.in-Some.i) o) (inv.listed id)
          ∙ ap (λ i. cond (nat_eq span.span_id id) (Some i) (first_from id (length rest) (drop (length rest) spans))) place
          ∙ sym (found_front spans rest front span inv.whole steps.1.0 (has_number id));
      whole = whole_front spans rest front span inv.whole steps.1.0;
      count = steps.0 ∙ inv.count;
      few = omega (arith, room.1, ap (λ (p : Put ℕ ℕ). p.used) c.put.ensures.put, longer, inv.few);
      room = omega (arith, room.0, ap (λ (p : Put ℕ ℕ). length p.memory) c.put.ensures.put, inv.room);
    }

pub returns : goal.returns
returns c id =
    let spans = c.args.spans.now in
    let none : length c.loop-i.i-iterator.iter.iter.rest.now ≡ 0 = omega (arith, c.in-None.ensures.steps.1) in
    c.loop-i.invariant.listed id ∙ ap (λ n. first_from id n (drop n spans)) none ∙ sym (first_from_start id spans)
