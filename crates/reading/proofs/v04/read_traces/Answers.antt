use Rattle.std.proofs.Common.{◌≡◌, ℕ, List, length, Ok, ap, ◌∙◌, subst}
use Rattle.std.proofs.lemmas.Result.{err_from_is_err_and}
use Rattle.faults.specs.declared.PayloadFault.{PayloadFault}
use Rattle.trees.specs.Tree.{SpanField}
use Rattle.items.specs.Reads.{Outcome, got, fault, then, numbered, fold, with, nothing, Takes}
use Rattle.items.proofs.Turns.{after}
use Rattle.trees.specs.Payloads.{a_span, a_trace}
use Rattle.trees.specs.Steps.{tell_trace}
use Rattle.reading.proofs.Counts.{as_many, answering}
use Rattle.reading.proofs.v04.read_traces.Goals as goal

-- the traces of a payload by their numbers
abbrev traces : List ℕ → ℕ → ℕ → Outcome PayloadFault (List (List SpanField))
traces bytes t at = a_trace a_span t bytes at

pub returns-in_err-read_numbered : goal.returns-in_err-read_numbered
returns-in_err-read_numbered g c =
    let bytes = c.args.from.now.buf.window.now in
    let q = subst (λ u. numbered c.in_ok-count.count (traces u.now) 0 c.read_count.new.buf.pos ≡ fault c.in_err-read_numbered.field-0.0) c.read_count.ensures.window c.in_err-read_numbered.ensures.takes in
    let p = err_from_is_err_and c.from_residual-in_err-read_numbered.result c.from_residual-in_err-read_numbered.ensures.1 in
    record {
      takes = rw (p.1, p.2) (after (λ n. numbered n (traces bytes) 0) c.in_ok-count.ensures.says ∙ q);
      window = c.read_numbered.ensures.window ∙ c.read_count.ensures.window;
      lender = c.read_numbered.ensures.lender;
    }

pub returns : goal.returns
returns g c =
    let from = c.args.from.now in
    let bytes = from.buf.window.now in
    let act = g.R.Receiver.act in
    let m = g.R.Receiver.state from.to.now in
    let m₁ = g.R.Receiver.state c.read_numbered.new.from.to.now in
    let n = c.in_ok-count.count in
    let at₁ = c.read_count.new.buf.pos in
    let q = subst (λ u. Takes (fold (tell_trace (act u.now))) nothing m m₁ (Ok tt) c.read_numbered.new.from.buf.pos (numbered n (traces u.now) 0 at₁)) c.read_count.ensures.window c.in_ok-read_numbered.ensures.takes in
    record {
      takes = ap (λ o. then o (λ ts next. got (with (fold (tell_trace (act bytes)) m ts) (length ts)) next)) (after (λ k. numbered k (traces bytes) 0) c.in_ok-count.ensures.says)
          ∙ as_many n (traces bytes) 0 at₁ (λ ts k. with (fold (tell_trace (act bytes)) m ts) k)
          ∙ answering (numbered n (traces bytes) 0 at₁) (fold (tell_trace (act bytes)) m) n m₁ _ q;
      window = c.read_numbered.ensures.window ∙ c.read_count.ensures.window;
      lender = c.read_numbered.ensures.lender;
    }
