use Rattle.std.proofs.Common.{Some}
use Rattle.items.proofs.Turns.{unanswered}
use Rattle.trees.specs.Records.{an_element, element_type}
use Rattle.trees.specs.Steps.{type_code, tell_element}
use Rattle.attributes.proofs.element.ElementsRepeated.read.Goals as goal

pub returns : goal.returns
returns g c =
    let from = c.args.from.now in
    let bytes = from.buf.window.now in
    record {
      takes = unanswered (an_element (Some (type_code c.args.self.now.of)) bytes from.buf.pos) (tell_element (g.R.Receiver.act bytes) (g.R.Receiver.state from.to.now)) element_type c.in_ok-read_element.ensures.takes;
      window = c.read_element.ensures.window;
      lender = c.read_element.ensures.lender;
    }
