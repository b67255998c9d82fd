use Rattle.std.proofs.Common.{◌≡◌}
use Rattle.items.proofs.Turns.{Onward}
use Rattle.trees.proofs.repeated.read_numbered.Given as goal

abbrev pub invariant-loop-number : goal.invariant-loop-number
invariant-loop-number g l =
    let r = g.R.Receiver in
    let t = g.T.Numbered in
    record {
      onward : Onward (λ w i. t.one l.kind i w.now) (λ w. t.tell l.kind (r.act w.now)) l.initial.from.buf.window l.count (r.state l.initial.from.to.now) l.initial.from.buf.pos l.from.buf.window l.number (r.state l.from.to.now) l.from.buf.pos;
      lender : l.from.to.ghost_name ≡ l.initial.from.to.ghost_name;
    }
