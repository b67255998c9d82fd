-- Bytes at a place, cut out and put back, and what holds of an outcome that is no fault. Assumes nothing.
use Rattle.std.proofs.Common.{◌≡◌, ℕ, suc, ◌+◌, ◌-◌, ◌^◌, ◌<◌, ◌≤◌, Bool, true, false, cond, List, [], ◌∷◌, ◌++◌, length, get_or, take, drop, sym, refl, ap, ◌∙◌, subst, ap₂, arith, length-append, drop-drop, take-add}
use lib.Seq.{take-append_seam, drop-append-add, get_or-append_seam}
use Rattle.std.specs.Int.Digits.{AllBelowBase}
use Rattle.std.proofs.lemmas.Int.Digits.{number_lt}
use Rattle.std.proofs.ByRecursion.{All-take, All-drop}
use Rattle.std.proofs.lemmas.List.{drop_more, length-take, length-drop}
use Rattle.std.proofs.lemmas.Bool.{lt-ltb, le-leb, ltb-true, leb-true}
use Rattle.msgpack.specs.declared.marker.Width.{Width}
use Rattle.msgpack.specs.Numbers.{wide, big, digits}
use Rattle.msgpack.specs.Overview.{marker}
use Rattle.msgpack.proofs.Digits.{digits_big, big_digits, length_digits}
use Rattle.items.specs.declared.fault.DecodeError.{DecodeError}
use Rattle.items.specs.declared.fault.ItemFault.{ItemFault}
use Rattle.items.specs.Items.{by_head, by_content, head_of, at_item}
use Rattle.items.specs.Reads.{Outcome, got, fault, then}
use Rattle.item_laws.specs.Laws.{between, Sound}

-- bytes cut out

-- a first byte, and the bytes behind it
pub between_more : (bytes : List ℕ) (at k : ℕ) → at < length bytes → between bytes at (at + 1 + k) ≡ get_or bytes at 0 ∷ take k (drop (at + 1) bytes)
between_more bytes at k l =
    let n : at + 1 + k - at ≡ suc k = omega arith in
    ap (λ m. take m (drop at bytes)) n ∙ ap (take (suc k)) (drop_more bytes at 0 l)

pub between_one : (bytes : List ℕ) (at : ℕ) → at < length bytes → between bytes at (at + 1) ≡ get_or bytes at 0 ∷ []
between_one bytes at l =
    let n : at + 1 - at ≡ 1 = omega arith in
    ap (λ m. take m (drop at bytes)) n ∙ ap (take 1) (drop_more bytes at 0 l)

pub between_joins : (bytes : List ℕ) (at mid n : ℕ) → at ≤ mid → between bytes at (mid + n) ≡ between bytes at mid ++ take n (drop mid bytes)
between_joins bytes at mid n l =
    let m : mid + n - at ≡ (mid - at) + n = omega arith in
    let d : at + (mid - at) ≡ mid = omega arith in
    ap (λ k. take k (drop at bytes)) m
    ∙ take-add (mid - at) n (drop at bytes)
    ∙ ap (λ xs. between bytes at mid ++ take n xs) (drop-drop (mid - at) at bytes ∙ ap (λ k. drop k bytes) d)

pub length_between : (bytes : List ℕ) (at next : ℕ) → at ≤ next → next ≤ length bytes → at + length (between bytes at next) ≡ next
length_between bytes at next l h = simp (length-take, length-drop) (omega arith)

-- what holds of an outcome, unless it is a fault

abbrev pub Holds : {E A : Type 0} → (A → ℕ → Type 0) → Outcome E A → Type 0
Holds P (got x next) = P x next
Holds P (fault e) = Unit {0}

pub holds_cond : {E A : Type 0} (P : A → ℕ → Type 0) (b : Bool) (o : Outcome E A) (e : E) → (b ≡ true → Holds P o) → Holds P (cond b o (fault e))
holds_cond P true o e h = h refl
holds_cond P false o e h = tt

pub holds_then : {E A B : Type 0} (P : B → ℕ → Type 0) (o : Outcome E A) (f : A → ℕ → Outcome E B) → Holds (λ x next. Holds P (f x next)) o → Holds P (then o f)
holds_then P (got x next) f h = h
holds_then P (fault e) f h = tt

pub holds_weaker : {E A : Type 0} (P Q : A → ℕ → Type 0) (o : Outcome E A) → ((x : A) (next : ℕ) → P x next → Q x next) → Holds P o → Holds Q o
holds_weaker P Q (got x next) f h = f x next h
holds_weaker P Q (fault e) f h = tt

-- the law of a reading, of what it gives at each place
abbrev pub Standing : {A : Type 0} → (List ℕ → ℕ → A → List ℕ → Type 0) → List ℕ → ℕ → A → ℕ → Type 0
Standing stands bytes at x next = (at ≤ next) × (next ≤ length bytes) × stands bytes at x (between bytes at next)

pub sound : {A : Type 0} (read : List ℕ → ℕ → Outcome ItemFault A) (stands : List ℕ → ℕ → A → List ℕ → Type 0)
    → ((bytes : List ℕ) (at : ℕ) → AllBelowBase 256 bytes → Holds (Standing stands bytes at) (read bytes at)) → Sound read stands
sound read stands each bytes at next x u e = subst (Holds (Standing stands bytes at)) e (each bytes at u)

pub holds_head : {A : Type 0} (P : A → ℕ → Type 0) (ended : DecodeError) (f : _ → Outcome ItemFault A) (bytes : List ℕ) (at : ℕ)
    → (at < length bytes → Holds P (f (head_of (marker (get_or bytes at 0))))) → Holds P (by_head ended f bytes at)
holds_head P ended f bytes at h = holds_cond P _ _ _ (λ t. h (ltb-true at (length bytes) t))

-- a number behind the first byte is written by the bytes there
pub holds_content : {A : Type 0} (P : A → ℕ → Type 0) (short : DecodeError) (w : Width) (f : ℕ → A) (bytes : List ℕ) (at : ℕ) → AllBelowBase 256 bytes
    → ((n : ℕ) → n < 256 ^ wide w → at + 1 + wide w ≤ length bytes → between bytes at (at + 1 + wide w) ≡ get_or bytes at 0 ∷ digits (wide w) n → P (f n) (at + 1 + wide w))
    → Holds P (by_content short w f bytes at)
holds_content P short w f bytes at u h =
    let part = take (wide w) (drop (at + 1) bytes) in
    let under : AllBelowBase 256 part = All-take _ (wide w) _ (All-drop _ (at + 1) bytes u) in
    holds_cond P _ _ _ (λ t.
    let l : at + 1 + wide w ≤ length bytes = leb-true _ _ t in
    let long : length part ≡ wide w = simp (length-take, length-drop) (omega arith) in
    h (big part) (subst (λ k. big part < 256 ^ k) long (number_lt 256 part under)) l
    (between_more bytes at (wide w) (omega arith) ∙ ap (λ xs. get_or bytes at 0 ∷ xs) (sym (digits_big (wide w) part long under))))

-- readings of bytes that stand behind others and before others

pub head_read : {A : Type 0} (ended : DecodeError) (f : _ → Outcome ItemFault A) (front : List ℕ) (b : ℕ) (rest : List ℕ) → by_head ended f (front ++ (b ∷ rest)) (length front) ≡ f (head_of (marker b))
head_read ended f front b rest =
    let l : length front < length (front ++ (b ∷ rest)) = simp length-append (omega arith) in
    ap (λ t. cond t (f (head_of (marker (get_or (front ++ (b ∷ rest)) (length front) 0)))) (at_item ended (length front))) (lt-ltb _ _ l)
    ∙ ap (λ c. f (head_of (marker c))) (get_or-append_seam front b rest 0)

-- the number is read where its digits stand behind a first byte
pub content_read : {A : Type 0} (short : DecodeError) (w : Width) (f : ℕ → A) (front : List ℕ) (b n : ℕ) (rest : List ℕ) → n < 256 ^ wide w
    → by_content short w f (front ++ ((b ∷ digits (wide w) n) ++ rest)) (length front) ≡ got (f n) (length front + length (b ∷ digits (wide w) n))
content_read short w f front b n rest h =
    let bytes = front ++ ((b ∷ digits (wide w) n) ++ rest) in
    let at = length front in
    let long = length_digits (wide w) n in
    let l : at + 1 + wide w ≤ length bytes = simp length-append (omega arith) in
    let behind : drop (at + 1) bytes ≡ digits (wide w) n ++ rest = drop-append-add front ((b ∷ digits (wide w) n) ++ rest) 1 in
    let part : take (wide w) (drop (at + 1) bytes) ≡ digits (wide w) n = ap₂ take (sym long) behind ∙ take-append_seam (digits (wide w) n) rest in
    let ends : at + 1 + wide w ≡ at + suc (length (digits (wide w) n)) = omega arith in
    ap (λ t. cond t (got (f (big (take (wide w) (drop (at + 1) bytes)))) (at + 1 + wide w)) (at_item short at)) (le-leb _ _ l)
    ∙ ap₂ (λ xs k. got (f (big xs)) k) part ends
    ∙ ap (λ m. got (f m) (at + suc (length (digits (wide w) n)))) (big_digits (wide w) n h)
