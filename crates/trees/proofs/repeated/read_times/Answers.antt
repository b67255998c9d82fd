use Rattle.std.proofs.Common.{sym, subst}
use Rattle.items.specs.Reads.{nothing, fold, Takes}
use Rattle.items.proofs.Turns.{plain}
use Rattle.trees.proofs.repeated.read_times.Goals as goal

pub returns : goal.returns
returns g c =
    let from = c.args.from.now in
    let bytes = from.buf.window.now in
    let e = plain (g.T.Repeated.one c.args.kind.now bytes) c.args.count 0 from.buf.pos in
    record {
      takes = subst (Takes (fold (g.T.Repeated.tell c.args.kind.now (g.R.Receiver.act bytes))) nothing (g.R.Receiver.state from.to.now) (g.R.Receiver.state c.read_numbered.new.from.to.now) c.read_numbered.result c.read_numbered.new.from.buf.pos) (sym e) c.read_numbered.ensures.takes;
      window = c.read_numbered.ensures.window;
      lender = c.read_numbered.ensures.lender;
    }
