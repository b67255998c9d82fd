use Rattle.std.proofs.Common.{◌≡◌, ap, ◌∙◌, subst}
use Rattle.items.specs.Parts.{piece_of}
use Rattle.items.specs.Reads.{got, then, raised, with, nothing}
use Rattle.items.proofs.Turns.{raised_got}
use Rattle.faults.specs.declared.EventFault.TheVariants.{Own, Attribute}
use Rattle.trees.specs.Records.{attribute_value}
use Rattle.trees.specs.Steps.{tell_attribute}
use Rattle.records.proofs.event.AttributesRepeated.read.Goals as goal

pub returns : goal.returns
returns g c =
    let act = g.R.Receiver.act in
    let bytes = c.args.from.now.buf.window.now in
    let m = g.R.Receiver.state c.args.from.now.to.now in
    let m' = g.R.Receiver.state c.read_attribute.new.from.to.now in
    let key = piece_of c.in_ok-key.key in
    let at₁ = c.read_text.new.self.pos in
    let w = c.read_text.ensures.window in
    let body = subst (λ u. then (attribute_value key u.now at₁) (λ x next. got (with (tell_attribute (act u.now) m x) (nothing x)) next) ≡ got (with m' tt) c.read_attribute.new.from.buf.pos) w c.in_ok-read_attribute.ensures.takes in
    record {
      takes = ap (λ o. then (then (raised Own o) (λ k at. raised Attribute (attribute_value k bytes at))) (λ x next. got (with (tell_attribute (act bytes) m x) (nothing x)) next)) c.in_ok-key.ensures.gives
          ∙ raised_got Attribute (attribute_value key bytes at₁) (λ x. with (tell_attribute (act bytes) m x) (nothing x)) body;
      window = c.read_attribute.ensures.window ∙ w;
      lender = c.read_attribute.ensures.lender;
    }
