use Rattle.std.proofs.Common.{◌≡◌, ℕ, Ok, Err, Result, length, sym, ap, ◌∙◌, rules}
use Rattle.std.specs.Borrow.{GName}
use Rattle.std.specs.Result.{MatchResult}
use Rattle.items.specs.Reads.{Outcome, got, fault, then, fold, with}
use Rattle.listing.specs.declared.row.SpanRow.{SpanRow}
use Rattle.trees.specs.Payloads.{v04}
use Rattle.trees.specs.Steps.{tell_payload}
use Rattle.trees.specs.Tree.{Payload}
use Rattle.reading.specs.declared.receiver.RowReceiver.{Ghosts}
use Rattle.reading.specs.Making.{Making, held, made_by}
use Rattle.reading.specs.Rows.{HandsOn, hand_trace}
use Rattle.reading.proofs.Held.{OfRead, OfEach, Holds, payload_held}
use Rattle.reading.proofs.Rowed.{handed_by}
use Rattle.reading.proofs.rows.from_slice.Goals as goal

module _ {R E : Type 0} (receiver : Ghosts R) (r₀ r₁ : SpanRow) (first last : R) (γ γ' : GName) (o : Outcome E Payload) where
  abbrev s : Making receiver.Meaning
  s = record { row = r₀; whole = receiver.state first; lender = γ }

  abbrev t : Making receiver.Meaning
  t = record { row = r₁; whole = receiver.state last; lender = γ' }

  -- what comes back to the lender is what was told last
  given_back : (r : Result (ℕ × ℕ) E) (before after : R) → OfRead (OfEach (OfEach (OfEach Holds))) o → first ≡ before → (γ ≡ γ' → after ≡ last)
      → MatchResult r (λ p. then o (λ ts next. got (with (tell_payload (made_by held receiver.rowed receiver.ended) s ts) (length ts)) next) ≡ got (with t p.0) p.1) (λ e. o ≡ fault e)
      → HandsOn receiver r before after o
  given_back (Ok p) before after holds b back e =
      let h = handed_by held receiver.rowed receiver.ended o s t p.0 p.1 holds e in
      ap (λ m. then o (λ ts next. got (with (fold (hand_trace receiver) (receiver.state m) ts) (length ts)) next)) (sym b)
      ∙ h.0 ∙ ap (λ x. got (with (receiver.state x) p.0) p.1) (sym (back (sym h.1)))
  given_back (Err e) before after holds b back f = f

pub returns : goal.returns
returns g c =
    let new = c.new-rows.result in
    let told = c.read_payload.new.to in
    given_back g.T.RowReceiver new.row told.row new.to.now told.to.now new.to.ghost_name told.to.ghost_name (v04 c.args.window.now) c.read_payload.result _ _ (payload_held c.args.window.now) c.new-rows.ensures.receiver (search rules) c.read_payload.ensures
