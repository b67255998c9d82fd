-- What two fields come to. Assumes nothing.
use Rattle.std.proofs.Common.{◌≡◌, ℕ, zero, suc, ◌-◌, ◌<◌, Bool, true, false, cond, eqb, List, ◌∷◌, Some, None, Ok, Err, Option, Result, refl, ap, ◌∙◌, arith}
use Rattle.std.specs.Option.{option_map}
use Rattle.items.specs.declared.fault.DecodeError.{DecodeError}
use Rattle.items.specs.declared.fault.ItemFault.{ItemFault}
use Rattle.items.specs.Reads.{Outcome, got, fault, then, raised, times, fold, with, nothing, Takes}
use Rattle.items.proofs.Turns.{into_answered}
use Rattle.faults.specs.declared.ArrayValueFault.{ArrayValueFault}
use Rattle.faults.specs.Faults.{in_array_value}
use Rattle.trees.specs.Records.{fields_of, an_element_field, an_element, elements, into, ruled, verdict, alike, also, element_type}
use Rattle.trees.specs.Steps.{On, type_code, later, or_zero, given_in, valued_in, given_by, valued_by, tell_element_field, tell_element}
use Rattle.trees.specs.declared.step.ValueType.{ValueType}
use Rattle.trees.specs.Tree.{type_number, Single, string, truth, whole, double, ElementField, given, value, Element, element, AttributeField, plain, array}
use Rattle.attributes.specs.declared.judge.Field.{Field}
use Rattle.attributes.specs.Fields.{given_of, valued_of, type_of, element_field, attribute_field}

type_said : (v : Single) → type_number v ≡ type_code (type_of v)
type_said (string p) = refl
type_said (truth b) = refl
type_said (whole z) = refl
type_said (double b) = refl

-- the type number of the value that is kept
abbrev pub numbered : Field ValueType → Option ℕ
numbered f = option_map type_code (valued_of f)

pub valued_told : (f : ElementField) → valued_in f ≡ numbered (element_field f)
valued_told (given n) = refl
valued_told (value v) = ap Some (type_said v)

pub given_told : (f : ElementField) → given_in f ≡ given_of (element_field f)
given_told (given n) = refl
given_told (value v) = refl

pub any_valued_told : (f : AttributeField) → valued_by f ≡ numbered (attribute_field f)
any_valued_told (plain f) = valued_told f
any_valued_told (array es) = refl

pub any_given_told : (f : AttributeField) → given_by f ≡ given_of (attribute_field f)
any_given_told (plain f) = given_told f
any_given_told (array es) = refl

no : {A : Type 0} {k : ℕ} {c : DecodeError} → Err c ≡ Ok k → A
no e = let z : ◌≡◌ {A = ℕ} 0 1 = cc in absurd (omega arith)

-- an accepted judgement gives the value's type
judged_by : (b : Bool) (v k : ℕ) (c : DecodeError) → cond b (Ok v) (Err c) ≡ Ok k → v ≡ k
judged_by true v k c e = cc
judged_by false v k c e = no e

pub verdict_type : (v g : Option ℕ) (k : ℕ) → verdict v g ≡ Ok k → or_zero v ≡ k
verdict_type None g k e = no e
verdict_type (Some v) None k e = no e
verdict_type (Some v) (Some g) k e = judged_by (eqb g v) v k _ e

alike_type : (f : Option ℕ) (j k : ℕ) → alike f j ≡ Ok k → j ≡ k
alike_type None j k e = cc
alike_type (Some f) j k e = judged_by (eqb j f) j k _ e

also_type : (r : Result ℕ DecodeError) (f : Option ℕ) (k : ℕ) → also r (alike f) ≡ Ok k → r ≡ Ok k
also_type (Ok j) f k e = ap Ok (alike_type f j k e)
also_type (Err c) f k e = no e

pub element_verdict : (v g f : Option ℕ) (k : ℕ) → also (verdict v g) (alike f) ≡ Ok k → or_zero v ≡ k
element_verdict v g f k e = verdict_type v g k (also_type (verdict v g) f k e)

-- an element whose fields were read
pub element_read : (first : Option ℕ) (bytes : List ℕ) (at at₁ at₂ at₃ : ℕ) (a b : ElementField) {u : Unit {0}} → fields_of 2 bytes at ≡ got u at₁ → an_element_field bytes at₁ ≡ got a at₂ → an_element_field bytes at₂ ≡ got b at₃
    → an_element first bytes at ≡ raised in_array_value (into (λ _. element a b) (ruled at at₃ (also (verdict (later (valued_in a) (valued_in b)) (later (given_in a) (given_in b))) (alike first))))
element_read first bytes at at₁ at₂ at₃ a b p q r = rw (p, q, r)

-- the type number of the later of two values
abbrev pub later_number : Field ValueType → Field ValueType → Option ℕ
later_number a b = option_map type_code (later (valued_of a) (valued_of b))

pub later_numbered : (x y : Option ValueType) → later (option_map type_code x) (option_map type_code y) ≡ option_map type_code (later x y)
later_numbered x None = refl
later_numbered x (Some t) = refl

abbrev told_fields : Option ℕ → Field ValueType → Field ValueType → Result ℕ DecodeError
told_fields first a b = also (verdict (later_number a b) (later (given_of a) (given_of b))) (alike first)

abbrev tree_fields : Option ℕ → ElementField → ElementField → Result ℕ DecodeError
tree_fields first a b = also (verdict (later (valued_in a) (valued_in b)) (later (given_in a) (given_in b))) (alike first)

-- the judgement of the fields that were told is that of the tree's
pub told_verdict : (first : Option ℕ) (x y : ElementField) {a b : Field ValueType} → element_field x ≡ a → element_field y ≡ b → tree_fields first x y ≡ told_fields first a b
told_verdict first x y p q =
    ap (λ v. also (verdict (later v (valued_in y)) (later (given_in x) (given_in y))) (alike first)) (valued_told x)
    ∙ ap (λ v. also (verdict (later (numbered (element_field x)) v) (later (given_in x) (given_in y))) (alike first)) (valued_told y)
    ∙ ap (λ v. also (verdict v (later (given_in x) (given_in y))) (alike first)) (later_numbered (valued_of (element_field x)) (valued_of (element_field y)))
    ∙ ap (λ v. also (verdict (later_number (element_field x) (element_field y)) (later v (given_in y))) (alike first)) (given_told x)
    ∙ ap (λ v. also (verdict (later_number (element_field x) (element_field y)) (later (given_of (element_field x)) v)) (alike first)) (given_told y)
    ∙ ap (λ f. told_fields first f (element_field y)) p ∙ ap (told_fields first _) q

module _ {M : Type 0} (act : M → On → M) (first : Option ℕ) (bytes : List ℕ) (at : ℕ) {at₁ at₂ at₃ : ℕ} (x y : ElementField) {u : Unit {0}} (p : fields_of 2 bytes at ≡ got u at₁) (q : an_element_field bytes at₁ ≡ got x at₂) (r : an_element_field bytes at₂ ≡ got y at₃) where
  abbrev ends : Result ℕ DecodeError → Outcome ArrayValueFault Element
  ends v = raised in_array_value (into (λ _. element x y) (ruled at at₃ v))

  pub element_done : (m : M) {m₁ m₂ : M} {kind : ℕ} → tell_element_field act m x ≡ m₁ → tell_element_field act m₁ y ≡ m₂ → tree_fields first x y ≡ Ok kind → then (an_element first bytes at) (λ t next. got (with (tell_element act m t) (element_type t)) next) ≡ got (with m₂ kind) at₃
  element_done m {m₁} {m₂} {kind} s t v =
      ap (λ o. then o (λ t next. got (with (tell_element act m t) (element_type t)) next)) (element_read first bytes at at₁ at₂ at₃ x y p q r ∙ ap ends v)
      ∙ ap (λ k. got (with (tell_element_field act k y) (or_zero (later (valued_in x) (valued_in y)))) at₃) s
      ∙ ap (λ k. got (with k (or_zero (later (valued_in x) (valued_in y)))) at₃) t
      ∙ ap (λ k. got (with m₂ k) at₃) (element_verdict (later (valued_in x) (valued_in y)) (later (given_in x) (given_in y)) first kind v)

  pub element_bad : {c : DecodeError} → tree_fields first x y ≡ Err c → an_element first bytes at ≡ fault (in_array_value (record { cause = c; place = at }))
  element_bad v = element_read first bytes at at₁ at₂ at₃ x y p q r ∙ ap ends v

pub element_cut : (first : Option ℕ) (bytes : List ℕ) (at : ℕ) {at₁ at₂ : ℕ} (x : ElementField) {e : ItemFault} {u : Unit {0}} → fields_of 2 bytes at ≡ got u at₁ → an_element_field bytes at₁ ≡ got x at₂ → an_element_field bytes at₂ ≡ fault e → an_element first bytes at ≡ fault (in_array_value e)
element_cut first bytes at x p q r = rw (p, q, r)

-- elements behind a first one
module _ {M : Type 0} (act : M → On → M) (bytes : List ℕ) (n at : ℕ) (x : Element) {at₁ : ℕ} (more : 0 < n) (p : an_element None bytes at ≡ got x at₁) where
  split : elements n bytes at ≡ into (λ xs. x ∷ xs) (times (n - 1) (an_element (Some (element_type x)) bytes) at₁)
  split = split_by n more
    where
      split_by : (n : ℕ) → 0 < n → elements n bytes at ≡ into (λ xs. x ∷ xs) (times (n - 1) (an_element (Some (element_type x)) bytes) at₁)
      split_by zero l = absurd (omega arith)
      split_by (suc k) l = let e : k ≡ suc k - 1 = omega arith in ap (λ o. then o (λ y at₂. into (λ xs. y ∷ xs) (times k (an_element (Some (element_type y)) bytes) at₂))) p ∙ ap (λ j. into (λ xs. x ∷ xs) (times j (an_element (Some (element_type x)) bytes) at₁)) e

  pub elements_done : (m : M) {m₁ m₂ : M} {at₂ : ℕ} → tell_element act m x ≡ m₁ → then (times (n - 1) (an_element (Some (element_type x)) bytes) at₁) (λ xs next. got (with (fold (tell_element act) m₁ xs) (nothing xs)) next) ≡ got (with m₂ tt) at₂ → then (elements n bytes at) (λ xs next. got (with (fold (tell_element act) m xs) (nothing xs)) next) ≡ got (with m₂ tt) at₂
  elements_done m s t =
      ap (λ o. then o (λ xs next. got (with (fold (tell_element act) m xs) (nothing xs)) next)) split
      ∙ into_answered (times (n - 1) (an_element (Some (element_type x)) bytes) at₁) (λ xs. x ∷ xs) (fold (tell_element act) m) nothing tt (λ xs. refl)
      (ap (λ k. then (times (n - 1) (an_element (Some (element_type x)) bytes) at₁) (λ xs next. got (with (fold (tell_element act) k xs) (nothing xs)) next)) s ∙ t)

  pub elements_cut : {e : ArrayValueFault} → times (n - 1) (an_element (Some (element_type x)) bytes) at₁ ≡ fault e → elements n bytes at ≡ fault e
  elements_cut q = split ∙ ap (λ o. into (λ xs. x ∷ xs) o) q

  -- the same of whatever came of the others
  pub elements_taken : (m : M) {m₁ : M} (m₂ : M) (at₂ : ℕ) (r : Result (Unit {0}) ArrayValueFault) → tell_element act m x ≡ m₁ → Takes (fold (tell_element act)) nothing m₁ m₂ r at₂ (times (n - 1) (an_element (Some (element_type x)) bytes) at₁) → Takes (fold (tell_element act)) nothing m m₂ r at₂ (elements n bytes at)
  elements_taken m m₂ at₂ (Ok u) s t = elements_done m s t
  elements_taken m m₂ at₂ (Err e) s t = elements_cut t
