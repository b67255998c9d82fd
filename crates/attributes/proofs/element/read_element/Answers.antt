use Rattle.std.proofs.Common.{sym, ◌∙◌}
use Rattle.std.proofs.lemmas.Result.{err_from_is_err_and}
use Rattle.items.proofs.Turns.{opened, moved}
use Rattle.trees.specs.Records.{an_element_field}
use Rattle.std.specs.Option.{option_map}
use Rattle.trees.specs.Steps.{type_code, tell_element_field}
use Rattle.attributes.specs.Fields.{element_field}
use Rattle.attributes.proofs.Judged.{told_verdict, element_done, element_bad, element_cut}
use Rattle.attributes.proofs.element.read_element.Goals as goal

pub returns-in_err-b : goal.returns-in_err-b
returns-in_err-b g c =
    let w₁ = c.read_fields.ensures.window in
    let w₂ = c.read_element_field.ensures.window ∙ w₁ in
    let x = opened (λ w. an_element_field w.now) (λ w. tell_element_field (g.R.Receiver.act w.now)) element_field w₁ c.in_ok-a.ensures.takes in
    let p = err_from_is_err_and c.from_residual-in_err-b.result c.from_residual-in_err-b.ensures.1 in
    record {
      takes = rw (p.1, p.2) (element_cut (option_map type_code c.args.first) c.args.from.now.buf.window.now c.args.from.now.buf.pos x.tree c.in_ok-read_fields.ensures.says x.reads (moved (λ w. an_element_field w.now) w₂ c.in_err-b.ensures.takes));
      window = c.read_element_field-2.ensures.window ∙ w₂;
      lender = c.read_element_field-2.ensures.lender ∙ c.read_element_field.ensures.lender;
    }

pub returns-in-Ok : goal.returns-in-Ok
returns-in-Ok g c =
    let w₁ = c.read_fields.ensures.window in
    let w₂ = c.read_element_field.ensures.window ∙ w₁ in
    let x = opened (λ w. an_element_field w.now) (λ w. tell_element_field (g.R.Receiver.act w.now)) element_field w₁ c.in_ok-a.ensures.takes in
    let y = opened (λ w. an_element_field w.now) (λ w. tell_element_field (g.R.Receiver.act w.now)) element_field w₂ c.in_ok-b.ensures.takes in
    let v = told_verdict (option_map type_code c.args.first) x.tree y.tree x.answers y.answers ∙ sym c.in-Ok.ensures in
    record {
      takes = element_done (g.R.Receiver.act c.args.from.now.buf.window.now) (option_map type_code c.args.first) c.args.from.now.buf.window.now c.args.from.now.buf.pos x.tree y.tree c.in_ok-read_fields.ensures.says x.reads y.reads _ x.works y.works v;
      window = c.read_element_field-2.ensures.window ∙ w₂;
      lender = c.read_element_field-2.ensures.lender ∙ c.read_element_field.ensures.lender;
    }

pub returns-in-Err : goal.returns-in-Err
returns-in-Err g c =
    let w₁ = c.read_fields.ensures.window in
    let w₂ = c.read_element_field.ensures.window ∙ w₁ in
    let x = opened (λ w. an_element_field w.now) (λ w. tell_element_field (g.R.Receiver.act w.now)) element_field w₁ c.in_ok-a.ensures.takes in
    let y = opened (λ w. an_element_field w.now) (λ w. tell_element_field (g.R.Receiver.act w.now)) element_field w₂ c.in_ok-b.ensures.takes in
    let v = told_verdict (option_map type_code c.args.first) x.tree y.tree x.answers y.answers ∙ sym c.in-Err.ensures in
    record {
      takes = element_bad (g.R.Receiver.act c.args.from.now.buf.window.now) (option_map type_code c.args.first) c.args.from.now.buf.window.now c.args.from.now.buf.pos x.tree y.tree c.in_ok-read_fields.ensures.says x.reads y.reads v;
      window = c.read_element_field-2.ensures.window ∙ w₂;
      lender = c.read_element_field-2.ensures.lender ∙ c.read_element_field.ensures.lender;
    }
