-- Steps of a search for a span number. Assumes nothing.
use Rattle.std.proofs.Common.{◌≡◌, ℕ, ◌+◌, ◌<◌, ◌≤◌, Bool, true, false, cond, not, nat_eq, nat_lt, List, [], ◌∷◌, ◌++◌, map, length, get_or, take, drop, Some, None, Option, refl, sym, ap, ◌∙◌, subst, arith, append_assoc, length-append, eq-eqb, eqb-true}
use Rattle.std.specs.List.{position_or_len, position_from}
use Rattle.std.proofs.Math.Seq.{drop-append_seam}
use Rattle.std.proofs.lemmas.Bool.{not-false}
use Rattle.std.proofs.lemmas.Bool.Decides.{nat_tests}
use Rattle.std.proofs.lemmas.Iterator.Adapters.{position_from-zero}
use Rattle.std.proofs.lemmas.List.{length-map, get_or-map, map_more}
use Rattle.std.proofs.lemmas.List.Sums.{prefix_len_passes, prefix_len_stops}
use Rattle.listing.specs.declared.row.SpanRow.{SpanRow}
use Rattle.listing.specs.Parents.{first_with, IsFirst, NoneBelow, Parents}

-- whether a span has the number
abbrev pub has_number : ℕ → SpanRow → Bool
has_number id s = nat_eq s.span_id id

-- the place of a span's parent
abbrev pub parent_in : List SpanRow → SpanRow → Option ℕ
parent_in spans s = first_with s.parent_id spans

-- one element more behind a front
module _ {X : Type 0} (xs rest front : List X) (x : X) (whole : xs ≡ rest ++ drop (length rest) xs) (e : rest ≡ front ++ x ∷ []) where
  split : xs ≡ front ++ (x ∷ drop (length rest) xs)
  split = whole ∙ ap (λ r. r ++ drop (length rest) xs) e ∙ append_assoc front (x ∷ []) (drop (length rest) xs)

  behind : drop (length front) xs ≡ x ∷ drop (length rest) xs
  behind = ap (drop (length front)) split ∙ drop-append_seam front (x ∷ drop (length rest) xs)

  pub whole_front : xs ≡ front ++ drop (length front) xs
  whole_front = split ∙ ap (λ ys. front ++ ys) (sym behind)

  pub one_longer : length rest ≡ length front + 1
  one_longer = ap length e ∙ length-append front (x ∷ [])

  pub found_front : (p : X → Bool) → position_from p (length front) (drop (length front) xs) ≡ cond (p x) (Some (length front)) (position_from p (length rest) (drop (length rest) xs))
  found_front p = ap (position_from p (length front)) behind ∙ ap (λ n. cond (p x) (Some (length front)) (position_from p n (drop (length rest) xs))) (sym one_longer)

-- the search is a walk through the spans, with the places counted from i
abbrev pub first_from : ℕ → ℕ → List SpanRow → Option ℕ
first_from id i spans = position_from (has_number id) i spans

pub first_from_start : (id : ℕ) (spans : List SpanRow) → first_with id spans ≡ first_from id 0 spans
first_from_start id spans = position_from-zero (has_number id) spans

pub first_from_empty : (id i : ℕ) → first_from id i [] ≡ None
first_from_empty id i = refl

pub first_from_span : (id i : ℕ) (x : SpanRow) (xs : List SpanRow) → first_from id i (x ∷ xs) ≡ cond (has_number id x) (Some i) (first_from id (i + 1) xs)
first_from_span id i x xs = refl

-- the search finds the first span with the number
pub is_first : (id : ℕ) (spans : List SpanRow) → IsFirst spans id (first_with id spans)
is_first id spans = by (nat_lt (position_or_len (has_number id) spans) (length spans)) refl
  where
    before : NoneBelow spans id (position_or_len (has_number id) spans)
    before k d l e =
        let passes = prefix_len_passes (λ s. not (has_number id s)) spans k d l in
        let same = eq-eqb _ _ e in
        cc

    by : (b : Bool) → nat_lt (position_or_len (has_number id) spans) (length spans) ≡ b → IsFirst spans id (cond b (Some (position_or_len (has_number id) spans)) None)
    by true t =
        let within : position_or_len (has_number id) spans < length spans = grind (arith, nat_tests, t) in
        (within, λ d. eqb-true _ _ (not-false _ (prefix_len_stops (λ s. not (has_number id s)) spans d within)), before)
    by false t =
        let past : length spans ≤ position_or_len (has_number id) spans = grind (arith, nat_tests, t) in
        λ k d l. before k d (omega (arith, past, l))

pub all_parents : (spans : List SpanRow) (parents : List (Option ℕ)) → parents ≡ map (parent_in spans) spans → Parents spans parents
all_parents spans parents e = record {
  long = ap length e ∙ simp length-map;
  parent = λ k d o l. let here = ap (λ ps. get_or ps k o) e ∙ get_or-map (parent_in spans) spans k d o l in subst (IsFirst spans (get_or spans k d).parent_id) (sym here) (is_first (get_or spans k d).parent_id spans);
}

-- one parent more at the end
pub one_more : (f : SpanRow → Option ℕ) (spans : List SpanRow) (i : ℕ) (d : SpanRow) (old new : List (Option ℕ)) (o : Option ℕ) → i < length spans → new ≡ old ++ o ∷ [] → old ≡ map f (take i spans) → o ≡ f (get_or spans i d) → new ≡ map f (take (i + 1) spans)
one_more f spans i d old new o l p q r = p ∙ ap (λ xs. xs ++ o ∷ []) q ∙ ap (λ x. map f (take i spans) ++ x ∷ []) r ∙ sym (map_more f spans i d l)
