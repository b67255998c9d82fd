use Rattle.std.proofs.Common.{◌≡◌, sym, ap, ◌∙◌, subst}
use Rattle.std.proofs.lemmas.Result.{err_from_is_err_and}
use Rattle.items.specs.Parts.{piece_of}
use Rattle.items.specs.Reads.{got, with}
use Rattle.items.proofs.Turns.{opened, moved}
use Rattle.trees.specs.Records.{fields_of, an_attribute_field}
use Rattle.trees.specs.Steps.{type_code, tell_attribute_field, end_attribute}
use Rattle.attributes.specs.Fields.{attribute_field}
use Rattle.attributes.proofs.Attributed.{told_judgement, attribute_done, attribute_bad, attribute_cut}
use Rattle.attributes.proofs.attribute.read_attribute.Goals as goal

pub returns-in_err-b : goal.returns-in_err-b
returns-in_err-b g c =
    let w₁ = c.read_fields.ensures.window ∙ ap (λ b. b.window) c.take.ensures.read in
    let f = subst (λ b. fields_of 2 b.window.now b.pos ≡ got tt c.read_fields.new.buf.pos) c.take.ensures.read c.in_ok-read_fields.ensures.says in
    let w₂ = c.read_field.ensures.window ∙ w₁ in
    let x = opened (λ w. an_attribute_field w.now) (λ w. tell_attribute_field (g.R.Receiver.act w.now)) attribute_field w₁ c.in_ok-a.ensures.takes in
    let p = err_from_is_err_and c.from_residual-in_err-b.result c.from_residual-in_err-b.ensures.1 in
    record {
      takes = rw (p.1, p.2) (attribute_cut (piece_of c.args.key) c.args.from.now.buf.window.now c.args.from.now.buf.pos x.tree f x.reads (moved (λ w. an_attribute_field w.now) w₂ c.in_err-b.ensures.takes));
      window = c.read_field-2.ensures.window ∙ w₂;
      lender = c.read_field-2.ensures.lender ∙ c.read_field.ensures.lender ∙ c.take.ensures.lender;
    }

pub returns-in-Ok : goal.returns-in-Ok
returns-in-Ok g c =
    let act = g.R.Receiver.act in
    let w₁ = c.read_fields.ensures.window ∙ ap (λ b. b.window) c.take.ensures.read in
    let f = subst (λ b. fields_of 2 b.window.now b.pos ≡ got tt c.read_fields.new.buf.pos) c.take.ensures.read c.in_ok-read_fields.ensures.says in
    let w₂ = c.read_field.ensures.window ∙ w₁ in
    let w₃ = c.read_field-2.ensures.window ∙ w₂ in
    let x = opened (λ w. an_attribute_field w.now) (λ w. tell_attribute_field (act w.now)) attribute_field w₁ c.in_ok-a.ensures.takes in
    let y = opened (λ w. an_attribute_field w.now) (λ w. tell_attribute_field (act w.now)) attribute_field w₂ c.in_ok-b.ensures.takes in
    let v = told_judgement x.tree y.tree x.answers y.answers ∙ sym c.in-Ok.ensures in
    let told = subst (λ n. g.R.Receiver.state c.take-in-Ok.new.self.to.now ≡ act c.read_field-2.new.from.buf.window.now (g.R.Receiver.state c.read_field-2.new.from.to.now) (end_attribute n)) c.number.ensures c.take-in-Ok.ensures.told in
    let e = subst (λ w. g.R.Receiver.state c.take-in-Ok.new.self.to.now ≡ act w.now (g.R.Receiver.state c.read_field-2.new.from.to.now) (end_attribute (type_code c.in-Ok.kind))) w₃ told in
    record {
      takes = attribute_done (act c.args.from.now.buf.window.now) (piece_of c.args.key) c.args.from.now.buf.window.now c.args.from.now.buf.pos x.tree y.tree f x.reads y.reads (g.R.Receiver.state c.args.from.now.to.now) c.take.ensures.told x.works y.works e v ∙ ap (λ b. got (with (g.R.Receiver.state c.take-in-Ok.new.self.to.now) tt) b.pos) (sym c.take-in-Ok.ensures.read);
      window = ap (λ b. b.window) c.take-in-Ok.ensures.read ∙ w₃;
      lender = c.take-in-Ok.ensures.lender ∙ c.read_field-2.ensures.lender ∙ c.read_field.ensures.lender ∙ c.take.ensures.lender;
    }

pub returns-in-Err : goal.returns-in-Err
returns-in-Err g c =
    let act = g.R.Receiver.act in
    let w₁ = c.read_fields.ensures.window ∙ ap (λ b. b.window) c.take.ensures.read in
    let f = subst (λ b. fields_of 2 b.window.now b.pos ≡ got tt c.read_fields.new.buf.pos) c.take.ensures.read c.in_ok-read_fields.ensures.says in
    let w₂ = c.read_field.ensures.window ∙ w₁ in
    let x = opened (λ w. an_attribute_field w.now) (λ w. tell_attribute_field (act w.now)) attribute_field w₁ c.in_ok-a.ensures.takes in
    let y = opened (λ w. an_attribute_field w.now) (λ w. tell_attribute_field (act w.now)) attribute_field w₂ c.in_ok-b.ensures.takes in
    let v = told_judgement x.tree y.tree x.answers y.answers ∙ sym c.in-Err.ensures in
    record {
      takes = attribute_bad (act c.args.from.now.buf.window.now) (piece_of c.args.key) c.args.from.now.buf.window.now c.args.from.now.buf.pos x.tree y.tree f x.reads y.reads v;
      window = c.read_field-2.ensures.window ∙ w₂;
      lender = c.read_field-2.ensures.lender ∙ c.read_field.ensures.lender ∙ c.take.ensures.lender;
    }
