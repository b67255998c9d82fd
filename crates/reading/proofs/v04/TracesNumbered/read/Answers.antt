use Rattle.std.proofs.Common.{◌≡◌, ℕ, List, Ok, ap, ◌∙◌, subst}
use Rattle.std.proofs.lemmas.Result.{err_from_is_err_and}
use Rattle.faults.specs.Faults.{counted, in_span}
use Rattle.faults.specs.declared.PayloadFault.{PayloadFault}
use Rattle.trees.specs.Tree.{SpanField}
use Rattle.items.specs.Reads.{Outcome, got, fault, then, raised, numbered, fold, with, nothing, Takes}
use Rattle.items.proofs.Turns.{after}
use Rattle.trees.specs.Payloads.{a_span}
use Rattle.trees.specs.Steps.{tell_span, end_trace}
use Rattle.reading.proofs.Counts.{closed}
use Rattle.reading.proofs.v04.TracesNumbered.read.Goals as goal

-- the spans of a trace by their numbers
abbrev spans : ℕ → List ℕ → ℕ → ℕ → Outcome PayloadFault (List SpanField)
spans t bytes s at = raised (λ e. counted t s (in_span e)) (a_span bytes at)

pub returns-in_err-read_numbered : goal.returns-in_err-read_numbered
returns-in_err-read_numbered g c =
    let bytes = c.args.from.now.buf.window.now in
    let one = spans c.args.number in
    let q = subst (λ u. numbered c.in_ok-count.count (one u.now) 0 c.read_count.new.buf.pos ≡ fault c.in_err-read_numbered.field-0.0) c.read_count.ensures.window c.in_err-read_numbered.ensures.takes in
    let p = err_from_is_err_and c.from_residual-in_err-read_numbered.result c.from_residual-in_err-read_numbered.ensures.1 in
    record {
      takes = rw (p.1, p.2) (after (λ n. numbered n (one bytes) 0) c.in_ok-count.ensures.says ∙ q);
      window = c.read_numbered.ensures.window ∙ c.read_count.ensures.window;
      lender = c.read_numbered.ensures.lender;
    }

pub returns : goal.returns
returns g c =
    let from = c.args.from.now in
    let bytes = from.buf.window.now in
    let act = g.R.Receiver.act in
    let m = g.R.Receiver.state from.to.now in
    let m₁ = g.R.Receiver.state c.read_numbered.new.from.to.now in
    let m₂ = g.R.Receiver.state c.take.new.self.to.now in
    let one = spans c.args.number in
    let w = c.read_numbered.ensures.window ∙ c.read_count.ensures.window in
    let q = subst (λ u. Takes (fold (tell_span (act u.now))) nothing m m₁ (Ok tt) c.read_numbered.new.from.buf.pos (numbered c.in_ok-count.count (one u.now) 0 c.read_count.new.buf.pos)) c.read_count.ensures.window c.in_ok-read_numbered.ensures.takes in
    let t = subst (λ u. m₂ ≡ act u.now m₁ end_trace) w c.take.ensures.told in
    record {
      takes = ap (λ o. then o (λ ss next. got (with (act bytes (fold (tell_span (act bytes)) m ss) end_trace) (nothing ss)) next)) (after (λ n. numbered n (one bytes) 0) c.in_ok-count.ensures.says)
          ∙ closed (numbered c.in_ok-count.count (one bytes) 0 c.read_count.new.buf.pos) (fold (tell_span (act bytes)) m) (λ k. act bytes k end_trace) m₁ m₂ _ _ q t (ap (λ b. b.pos) c.take.ensures.read);
      window = ap (λ b. b.window) c.take.ensures.read ∙ w;
      lender = c.take.ensures.lender ∙ c.read_numbered.ensures.lender;
    }
