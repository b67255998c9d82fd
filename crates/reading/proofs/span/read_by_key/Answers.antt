use Rattle.std.proofs.Common.{◌≡◌, Ok, ap, ◌∙◌, subst, refl}
use Rattle.std.proofs.lemmas.Result.{err_from_is_err_and}
use Rattle.items.specs.Reads.{got, fault, Takes, times, fold, nothing}
use Rattle.items.proofs.Turns.{opened}
use Rattle.faults.specs.declared.SpanFault.TheVariants.{Own, Link, Event}
use Rattle.trees.specs.declared.step.Step.TheVariants.{BeginLinks, BeginEvents}
use Rattle.trees.specs.Records.{a_link, an_event}
use Rattle.trees.specs.Steps.{on_step, tell_field, tell_link, tell_event}
use Rattle.trees.specs.Tree.{links, events}
use Rattle.reading.proofs.Arrays.{count_of, array_done, array_cut}
use Rattle.reading.proofs.span.read_by_key.Goals as goal

pub returns-in_err-read_times-in-SpanLinks : goal.returns-in_err-read_times-in-SpanLinks
returns-in_err-read_times-in-SpanLinks g c =
    let from = c.args.from.now in
    let act = g.R.Receiver.act in
    let begun = c.begin_array in
    let all = c.read_times in
    let x = opened (λ w. count_of w.now) (λ w m n. act w.now m (on_step BeginLinks)) (λ n. n) {w = from.buf.window} {m = g.R.Receiver.state from.to.now} {p = from.buf.pos} refl c.in_ok-count-in-SpanLinks.ensures.takes in
    let n = x.reads ∙ ap (λ k. got k begun.new.from.buf.pos) x.answers in
    let t = subst (λ w. times c.in_ok-count-in-SpanLinks.count (a_link w.now) begun.new.from.buf.pos ≡ fault c.in_err-read_times-in-SpanLinks.field-0.0) begun.ensures.window c.in_err-read_times-in-SpanLinks.ensures.takes in
    let p = err_from_is_err_and c.from_residual-in_err-read_times-in-SpanLinks.result c.from_residual-in_err-read_times-in-SpanLinks.ensures.1 in
    record {
      takes = rw (c.in-SpanLinks.is, p.1, p.2) (array_cut Own Link a_link (tell_link (act from.buf.window.now)) links (tell_field (act from.buf.window.now)) from.buf.window.now from.buf.pos n t);
      window = all.ensures.window ∙ begun.ensures.window;
      lender = all.ensures.lender ∙ begun.ensures.lender;
    }

pub returns-in_ok-read_times-in-SpanLinks : goal.returns-in_ok-read_times-in-SpanLinks
returns-in_ok-read_times-in-SpanLinks g c =
    let from = c.args.from.now in
    let act = g.R.Receiver.act in
    let begun = c.begin_array in
    let all = c.read_times in
    let m₁ = g.R.Receiver.state begun.new.from.to.now in
    let m₂ = g.R.Receiver.state all.new.from.to.now in
    let x = opened (λ w. count_of w.now) (λ w m n. act w.now m (on_step BeginLinks)) (λ n. n) {w = from.buf.window} {m = g.R.Receiver.state from.to.now} {p = from.buf.pos} refl c.in_ok-count-in-SpanLinks.ensures.takes in
    let n = x.reads ∙ ap (λ k. got k begun.new.from.buf.pos) x.answers in
    let t = subst (λ w. Takes (fold (tell_link (act w.now))) nothing m₁ m₂ (Ok tt) all.new.from.buf.pos (times c.in_ok-count-in-SpanLinks.count (a_link w.now) begun.new.from.buf.pos)) begun.ensures.window c.in_ok-read_times-in-SpanLinks.ensures.takes in
    record {
      takes = rw c.in-SpanLinks.is (array_done Own Link a_link (tell_link (act from.buf.window.now)) links (tell_field (act from.buf.window.now)) from.buf.window.now from.buf.pos (g.R.Receiver.state from.to.now) m₁ m₂ n (λ xs. ap (λ m. fold (tell_link (act from.buf.window.now)) m xs) x.works) t);
      window = all.ensures.window ∙ begun.ensures.window;
      lender = all.ensures.lender ∙ begun.ensures.lender;
    }

pub returns-in_err-read_times-in-SpanEvents : goal.returns-in_err-read_times-in-SpanEvents
returns-in_err-read_times-in-SpanEvents g c =
    let from = c.args.from.now in
    let act = g.R.Receiver.act in
    let begun = c.begin_array-in-SpanEvents in
    let all = c.read_times-in-SpanEvents in
    let x = opened (λ w. count_of w.now) (λ w m n. act w.now m (on_step BeginEvents)) (λ n. n) {w = from.buf.window} {m = g.R.Receiver.state from.to.now} {p = from.buf.pos} refl c.in_ok-count-in-SpanEvents.ensures.takes in
    let n = x.reads ∙ ap (λ k. got k begun.new.from.buf.pos) x.answers in
    let t = subst (λ w. times c.in_ok-count-in-SpanEvents.count (an_event w.now) begun.new.from.buf.pos ≡ fault c.in_err-read_times-in-SpanEvents.field-0.0) begun.ensures.window c.in_err-read_times-in-SpanEvents.ensures.takes in
    let p = err_from_is_err_and c.from_residual-in_err-read_times-in-SpanEvents.result c.from_residual-in_err-read_times-in-SpanEvents.ensures.1 in
    record {
      takes = rw (c.in-SpanEvents.is, p.1, p.2) (array_cut Own Event an_event (tell_event (act from.buf.window.now)) events (tell_field (act from.buf.window.now)) from.buf.window.now from.buf.pos n t);
      window = all.ensures.window ∙ begun.ensures.window;
      lender = all.ensures.lender ∙ begun.ensures.lender;
    }

pub returns-in_ok-read_times-in-SpanEvents : goal.returns-in_ok-read_times-in-SpanEvents
returns-in_ok-read_times-in-SpanEvents g c =
    let from = c.args.from.now in
    let act = g.R.Receiver.act in
    let begun = c.begin_array-in-SpanEvents in
    let all = c.read_times-in-SpanEvents in
    let m₁ = g.R.Receiver.state begun.new.from.to.now in
    let m₂ = g.R.Receiver.state all.new.from.to.now in
    let x = opened (λ w. count_of w.now) (λ w m n. act w.now m (on_step BeginEvents)) (λ n. n) {w = from.buf.window} {m = g.R.Receiver.state from.to.now} {p = from.buf.pos} refl c.in_ok-count-in-SpanEvents.ensures.takes in
    let n = x.reads ∙ ap (λ k. got k begun.new.from.buf.pos) x.answers in
    let t = subst (λ w. Takes (fold (tell_event (act w.now))) nothing m₁ m₂ (Ok tt) all.new.from.buf.pos (times c.in_ok-count-in-SpanEvents.count (an_event w.now) begun.new.from.buf.pos)) begun.ensures.window c.in_ok-read_times-in-SpanEvents.ensures.takes in
    record {
      takes = rw c.in-SpanEvents.is (array_done Own Event an_event (tell_event (act from.buf.window.now)) events (tell_field (act from.buf.window.now)) from.buf.window.now from.buf.pos (g.R.Receiver.state from.to.now) m₁ m₂ n (λ xs. ap (λ m. fold (tell_event (act from.buf.window.now)) m xs) x.works) t);
      window = all.ensures.window ∙ begun.ensures.window;
      lender = all.ensures.lender ∙ begun.ensures.lender;
    }
