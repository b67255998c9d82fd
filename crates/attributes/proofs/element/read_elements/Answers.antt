use Rattle.std.proofs.Common.{◌-◌, Some, None, sym, refl, ◌∙◌, subst, arith}
use Rattle.items.specs.Reads.{times, fold, nothing, Takes}
use Rattle.items.proofs.Turns.{opened}
use Rattle.trees.specs.Records.{an_element, element_type}
use Rattle.trees.specs.Steps.{type_code, tell_element}
use Rattle.attributes.proofs.Judged.{elements_taken}
use Rattle.attributes.proofs.element.read_elements.Goals as goal

pub returns : goal.returns
returns g c =
    let from = c.args.from.now in
    let n = c.args.count in
    let act = g.R.Receiver.act in
    let at₁ = c.read_element.new.from.buf.pos in
    let at₂ = c.read_times.new.from.buf.pos in
    let m₁ = g.R.Receiver.state c.read_element.new.from.to.now in
    let m₂ = g.R.Receiver.state c.read_times.new.from.to.now in
    let w = c.read_element.ensures.window in
    let x = opened (λ u. an_element None u.now) (λ u. tell_element (act u.now)) element_type {w = from.buf.window} {m = g.R.Receiver.state from.to.now} {p = from.buf.pos} refl c.in_ok-of.ensures.takes in
    let same = subst (λ u. Takes (fold (tell_element (act u.now))) nothing m₁ m₂ c.read_times.result at₂ (times (n - 1) (an_element (Some (type_code c.in_ok-of.of)) u.now) at₁)) w c.read_times.ensures.takes in
    let rest = subst (λ k. Takes (fold (tell_element (act from.buf.window.now))) nothing m₁ m₂ c.read_times.result at₂ (times (n - 1) (an_element (Some k) from.buf.window.now) at₁)) (sym x.answers) same in
    record {
      takes = elements_taken (act from.buf.window.now) from.buf.window.now n from.buf.pos x.tree (omega arith) x.reads (g.R.Receiver.state from.to.now) m₂ at₂ c.read_times.result x.works rest;
      window = c.read_times.ensures.window ∙ w;
      lender = c.read_times.ensures.lender ∙ c.read_element.ensures.lender;
    }
