use Rattle.std.proofs.Common.{◌≡◌, ℕ, ◌<◌, ◌⊎◌, List, ◌++◌, length, take, IfOk, IfErr, Ok, Err, Option, Result, sym, ap, ◌∙◌, subst, inl, inr, arith}
use Rattle.std.proofs.lemmas.List.{take-append-le}
use Rattle.listing.specs.declared.row.SpanRow.{SpanRow}
use Rattle.listing.specs.Parents.{Parents, Found, Few}
use Rattle.listing.proofs.parents.list_parents.Goals as goal

enough : (spans : List SpanRow) (entries : ℕ) (old : List (Option ℕ)) → (entries < length spans) ⊎ (length old < length spans) → entries ≡ length spans → length old ≡ length spans → ⊥
enough spans entries old (inl l) a b = omega arith
enough spans entries old (inr l) a b = omega arith

-- memory for all spans is memory enough
all : {A E : Type 0} (r : Result A E) (spans : List SpanRow) (entries n : ℕ) (old new rest : List (Option ℕ)) → IfOk r (λ _. Found spans entries old new) → IfErr r (λ _. Few spans entries old new)
    → entries ≡ length spans → length old ≡ length spans → length new ≡ length old → n ≡ length spans → Parents spans (take n (new ++ rest))
all (Ok x) spans entries n old new rest p q a b d e = subst (λ ps. Parents spans ps) (sym (take-append-le n new rest (omega arith) ∙ ap (λ k. take k new) e)) p.front
all (Err x) spans entries n old new rest p q a b d e = absurd (enough spans entries old q.few a b)

pub returns : goal.returns
returns c =
    all c.find_parents.result c.args.spans.now _ _ c.as_mut_slice-2.result.now c.find_parents.new.parents _ c.find_parents.ensures.found c.find_parents.ensures.refused
    (c.as_mut_slice.ensures.len ∙ c.in_ok-memory.ensures.len) (c.as_mut_slice-2.ensures.len ∙ c.in_ok-parents.ensures.len) c.find_parents.auto.parents c.in_ok-parents.ensures.len
