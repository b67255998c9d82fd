use Rattle.std.proofs.Common.{◌≡◌, ℕ, List, IsUtf8, MatchResult, is_ok, Ok, Err, Result, sym, ◌∙◌}
use Rattle.msgpack.specs.Text.{utf8}
use Rattle.msgpack.proofs.Grammar.{well_formed, ill_formed}
use Rattle.msgpack.proofs.text.is_text.Goals as goal

tells : {T E : Type 0} (P : T → Type 0) (Q : E → Type 0) (bs : List ℕ) (r : Result T E) → MatchResult r (λ s. P s × IsUtf8 bs) (λ e. (IsUtf8 bs → ⊥) × Q e) → is_ok r ≡ utf8 bs
tells P Q bs (Ok s) h = sym (well_formed bs h.1)
tells P Q bs (Err e) h = sym (ill_formed bs h.0)

pub returns : goal.returns
returns c = c.is_ok.ensures.value ∙ tells _ _ _ _ c.from_utf8.ensures.cases
