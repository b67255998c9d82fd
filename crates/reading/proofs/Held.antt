-- A row holds what a payload says: each error that is read has 32 bits. Assumes nothing.
use Rattle.std.proofs.Common.{◌≡◌, ℕ, zero, suc, ◌+◌, Bool, true, false, cond, ◌&&◌, List, [], ◌∷◌, ℤ, pos, negsuc, Some, None, refl}
use Rattle.std.specs.Prelude.{int_le}
use Rattle.items.specs.declared.fault.ItemFault.{ItemFault}
use Rattle.items.specs.declared.item.ItemKind.TheVariants as item_kind
use Rattle.items.specs.declared.number.Number.{Number}
use Rattle.items.specs.declared.number.Number.TheVariants as number
use Rattle.items.specs.Items.{a_number, integer_of, asked, null_at}
use Rattle.items.specs.Parts.{an_item}
use Rattle.items.specs.Reads.{Outcome, got, fault, then, raised, times, numbered}
use Rattle.items.proofs.Turns.{plain}
use Rattle.names.specs.declared.keys.SpanKey.{SpanKey}
use Rattle.names.specs.declared.keys.SpanKey.TheVariants as span_key
use Rattle.faults.specs.declared.SpanFault.TheVariants as span_fault
use Rattle.trees.specs.declared.keys.IdKey.TheVariants as id_key
use Rattle.trees.specs.declared.keys.PairKey.TheVariants as pair_key
use Rattle.trees.specs.declared.keys.SignedKey.{SignedKey}
use Rattle.trees.specs.declared.keys.SignedKey.TheVariants as signed_key
use Rattle.trees.specs.declared.keys.TextKey.{TextKey}
use Rattle.trees.specs.declared.keys.TextKey.TheVariants as text_key
use Rattle.trees.specs.Payloads.{text_field, field_by, a_field, a_span, a_trace, v04}
use Rattle.trees.specs.Records.{into, nullable, i32_range}
use Rattle.trees.specs.Tree.{SpanField, text, id, signed, pairs, links, events}
use Rattle.reading.specs.Making.{held}

-- what was read has the property
abbrev pub OfRead : {E A : Type 0} → (A → Type 0) → Outcome E A → Type 0
OfRead P (got x at) = P x
OfRead P (fault e) = Unit {0}

-- each has the property
abbrev pub OfEach : {A : Type 0} → (A → Type 0) → List A → Type 0
OfEach P [] = Unit {0}
OfEach P (x ∷ xs) = P x × OfEach P xs

-- a number with a sign is held as it is
abbrev pub HeldBy : (SignedKey → ℤ → ℤ) → SpanField → Type 0
HeldBy hold (text k x) = Unit {0}
HeldBy hold (id k z) = Unit {0}
HeldBy hold (signed k z) = hold k z ≡ z
HeldBy hold (pairs k ps) = Unit {0}
HeldBy hold (links ls) = Unit {0}
HeldBy hold (events es) = Unit {0}

-- a row holds the number of the field
abbrev pub Holds : SpanField → Type 0
Holds = HeldBy held

module _ {E A : Type 0} (P : A → Type 0) where
  of_null : (null : A) (read : List ℕ → ℕ → Outcome E A) (bytes : List ℕ) (at : ℕ) → P null → OfRead P (read bytes at) → OfRead P (nullable null read bytes at)
  of_null null read bytes at p q = by (null_at bytes at)
    where
      by : (b : Bool) → OfRead P (cond b (got null (at + 1)) (read bytes at))
      by true = p
      by false = q

  of_raised : {F : Type 0} (f : E → F) (o : Outcome E A) → OfRead P o → OfRead P (raised f o)
  of_raised f (got x at) p = p
  of_raised f (fault e) p = tt

  of_then : {B : Type 0} (Q : B → Type 0) (o : Outcome E A) (f : A → ℕ → Outcome E B) → OfRead P o → ((x : A) (at : ℕ) → P x → OfRead Q (f x at)) → OfRead Q (then o f)
  of_then Q (got x at) f p q = q x at p
  of_then Q (fault e) f p q = tt

  of_numbered : (n : ℕ) (p : ℕ → ℕ → Outcome E A) (i at : ℕ) → ((i at : ℕ) → OfRead P (p i at)) → OfRead (OfEach P) (numbered n p i at)
  of_numbered zero p i at q = tt
  of_numbered (suc n) p i at q =
      of_then (OfEach P) _ _ (q i at) (λ x at₁ r. more x (numbered n p (i + 1) at₁) r (of_numbered n p (i + 1) at₁ q))
    where
      more : (x : A) (o : Outcome E (List A)) → P x → OfRead (OfEach P) o → OfRead (OfEach P) (then o (λ xs at₂. got (x ∷ xs) at₂))
      more x (got xs at₂) r s = (r, s)
      more x (fault e) r s = tt

  of_times : (n : ℕ) (p : ℕ → Outcome E A) (at : ℕ) → ((at : ℕ) → OfRead P (p at)) → OfRead (OfEach P) (times n p at)
  of_times n p at q = rw (plain p n 0 at) (of_numbered n (λ _. p) 0 at (λ _. q))

-- whatever was read before
of_last : {E A B : Type 0} (Q : B → Type 0) (o : Outcome E A) (f : A → ℕ → Outcome E B) → ((x : A) (at : ℕ) → OfRead Q (f x at)) → OfRead Q (then o f)
of_last Q (got x at) f q = q x at
of_last Q (fault e) f q = tt

of_into : {E A B : Type 0} (Q : B → Type 0) (f : A → B) (o : Outcome E A) → ((x : A) → Q (f x)) → OfRead Q (into f o)
of_into Q f (got x at) q = q x
of_into Q f (fault e) q = tt

-- an error that was read

abbrev IsError : ℤ → Type 0
IsError z = held signed_key.Error z ≡ z

asked_held : (at next : ℕ) (z : ℤ) (b : Bool) → int_le (negsuc 2147483647) z && int_le z (pos 2147483647) ≡ b → OfRead IsError (asked at next (cond b (Some z) None))
asked_held at next z true e = rw e
asked_held at next z false e = tt

number_held : (at : ℕ) (n : Number) (next : ℕ) → OfRead IsError (asked at next (integer_of (negsuc 2147483647) (pos 2147483647) n))
number_held at (number.Unsigned n) next = asked_held at next (pos n) _ refl
number_held at (number.Signed z) next = asked_held at next z _ refl
number_held at (number.Float b) next = tt

error_held : (bytes : List ℕ) (at : ℕ) → OfRead IsError (nullable (pos 0) i32_range bytes at)
error_held bytes at =
    of_null IsError (pos 0) i32_range bytes at refl
    (of_last IsError (a_number bytes at) _ (number_held at))

-- the fields of a span

texts_held : (k : TextKey) (bytes : List ℕ) (at : ℕ) → OfRead Holds (raised span_fault.Own (text_field k bytes at))
texts_held k bytes at =
    of_raised Holds span_fault.Own _
    (of_null Holds (text k None) (λ bs at₁. into (λ x. text k (Some x)) (an_item item_kind.Text bs at₁)) bytes at tt
    (of_into Holds (λ x. text k (Some x)) (an_item item_kind.Text bytes at) (λ _. tt)))

-- whose number, or list, a row holds or does not take
plain_held : {A : Type 0} (f : A → SpanField) (o : Outcome ItemFault A) → ((x : A) → Holds (f x)) → OfRead Holds (raised span_fault.Own (into f o))
plain_held f o h = of_raised Holds span_fault.Own _ (of_into Holds f o h)

field_held : (k : SpanKey) (bytes : List ℕ) (at : ℕ) → OfRead Holds (field_by k bytes at)
field_held span_key.Service bytes at = texts_held text_key.Service bytes at
field_held span_key.Name bytes at = texts_held text_key.Name bytes at
field_held span_key.Resource bytes at = texts_held text_key.Resource bytes at
field_held span_key.Type bytes at = texts_held text_key.Type bytes at
field_held span_key.TraceId bytes at = plain_held (id id_key.TraceId) _ (λ _. tt)
field_held span_key.SpanId bytes at = plain_held (id id_key.SpanId) _ (λ _. tt)
field_held span_key.ParentId bytes at = plain_held (id id_key.ParentId) _ (λ _. tt)
field_held span_key.Start bytes at = plain_held (signed signed_key.Start) _ (λ _. refl)
field_held span_key.Duration bytes at = plain_held (signed signed_key.Duration) _ (λ _. refl)
field_held span_key.Error bytes at = of_raised Holds span_fault.Own _ (of_then IsError Holds _ _ (error_held bytes at) (λ z next e. e))
field_held span_key.Meta bytes at = plain_held (pairs pair_key.Meta) _ (λ _. tt)
field_held span_key.Metrics bytes at = plain_held (pairs pair_key.Metrics) _ (λ _. tt)
field_held span_key.MetaStruct bytes at = plain_held (pairs pair_key.MetaStruct) _ (λ _. tt)
field_held span_key.SpanLinks bytes at = of_into Holds links _ (λ _. tt)
field_held span_key.SpanEvents bytes at = of_into Holds events _ (λ _. tt)

a_field_held : (bytes : List ℕ) (at : ℕ) → OfRead Holds (a_field bytes at)
a_field_held bytes at = of_last Holds _ _ (λ k. field_held k bytes)

-- all of a payload

span_held : (bytes : List ℕ) (at : ℕ) → OfRead (OfEach Holds) (a_span bytes at)
span_held bytes at = of_last (OfEach Holds) _ _ (λ n at₁. of_times Holds n _ at₁ (a_field_held bytes))

trace_held : (t : ℕ) (bytes : List ℕ) (at : ℕ) → OfRead (OfEach (OfEach Holds)) (a_trace a_span t bytes at)
trace_held t bytes at =
    of_last (OfEach (OfEach Holds)) _ _ (λ n at₁. of_numbered (OfEach Holds) n _ 0 at₁ (λ s at₂. of_raised (OfEach Holds) _ _ (span_held bytes at₂)))

pub payload_held : (bytes : List ℕ) → OfRead (OfEach (OfEach (OfEach Holds))) (v04 bytes)
payload_held bytes = of_last (OfEach (OfEach (OfEach Holds))) _ _ (λ n at₁. of_numbered (OfEach (OfEach Holds)) n _ 0 at₁ (λ t. trace_held t bytes))
