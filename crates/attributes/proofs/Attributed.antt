-- What the two fields of an attribute come to. Assumes nothing.
use Rattle.std.proofs.Common.{◌≡◌, ℕ, List, Ok, Err, Result, sym, ap, ◌∙◌}
use Rattle.items.specs.declared.fault.DecodeError.{DecodeError}
use Rattle.items.specs.Items.{Piece}
use Rattle.items.specs.Reads.{Outcome, got, fault, then, raised, with, nothing}
use Rattle.faults.specs.declared.AttributeFault.{AttributeFault}
use Rattle.faults.specs.declared.AttributeFault.TheVariants.{Own}
use Rattle.trees.specs.Records.{fields_of, an_attribute_field, attribute_value, into, ruled, verdict}
use Rattle.trees.specs.Steps.{On, on_attribute, end_attribute, later, or_zero, given_by, valued_by, tell_attribute_field, tell_attribute}
use Rattle.trees.specs.declared.step.ValueType.{ValueType}
use Rattle.trees.specs.Tree.{AttributeField, Attribute, attribute}
use Rattle.attributes.specs.declared.judge.Field.{Field}
use Rattle.attributes.specs.Fields.{given_of, valued_of, attribute_field}
use Rattle.attributes.proofs.Judged.{numbered, later_number, later_numbered, any_valued_told, any_given_told, verdict_type}

abbrev told_fields : Field ValueType → Field ValueType → Result ℕ DecodeError
told_fields a b = verdict (later_number a b) (later (given_of a) (given_of b))

abbrev tree_fields : AttributeField → AttributeField → Result ℕ DecodeError
tree_fields a b = verdict (later (valued_by a) (valued_by b)) (later (given_by a) (given_by b))

-- the judgement of the fields that were told is that of the tree's
pub told_judgement : (x y : AttributeField) {a b : Field ValueType} → attribute_field x ≡ a → attribute_field y ≡ b → tree_fields x y ≡ told_fields a b
told_judgement x y p q =
    ap (λ v. verdict (later v (valued_by y)) (later (given_by x) (given_by y))) (any_valued_told x)
    ∙ ap (λ v. verdict (later (numbered (attribute_field x)) v) (later (given_by x) (given_by y))) (any_valued_told y)
    ∙ ap (λ v. verdict v (later (given_by x) (given_by y))) (later_numbered (valued_of (attribute_field x)) (valued_of (attribute_field y)))
    ∙ ap (λ v. verdict (later_number (attribute_field x) (attribute_field y)) (later v (given_by y))) (any_given_told x)
    ∙ ap (λ v. verdict (later_number (attribute_field x) (attribute_field y)) (later (given_of (attribute_field x)) v)) (any_given_told y)
    ∙ ap (λ f. told_fields f (attribute_field y)) p ∙ ap (told_fields _) q

module _ {M : Type 0} (act : M → On → M) (key : Piece) (bytes : List ℕ) (at : ℕ) {at₁ at₂ at₃ : ℕ} (x y : AttributeField) {u : Unit {0}} (p : fields_of 2 bytes at ≡ got u at₁) (q : an_attribute_field bytes at₁ ≡ got x at₂) (r : an_attribute_field bytes at₂ ≡ got y at₃) where
  abbrev ends : Result ℕ DecodeError → Outcome AttributeFault Attribute
  ends v = raised Own (into (λ _. attribute key x y) (ruled at at₃ v))

  reads : attribute_value key bytes at ≡ ends (tree_fields x y)
  reads = rw (p, q, r)

  pub attribute_done : (m : M) {m₀ m₁ m₂ m₃ : M} {kind : ℕ} → m₀ ≡ act m (on_attribute key) → tell_attribute_field act m₀ x ≡ m₁ → tell_attribute_field act m₁ y ≡ m₂ → m₃ ≡ act m₂ (end_attribute kind) → tree_fields x y ≡ Ok kind → then (attribute_value key bytes at) (λ t next. got (with (tell_attribute act m t) (nothing t)) next) ≡ got (with m₃ tt) at₃
  attribute_done m {m₀} {m₁} {m₂} {m₃} {kind} b s t e v =
      ap (λ o. then o (λ t next. got (with (tell_attribute act m t) (nothing t)) next)) (reads ∙ ap ends v)
      ∙ ap (λ k. got (with (act (tell_attribute_field act (tell_attribute_field act k x) y) (end_attribute (or_zero (later (valued_by x) (valued_by y))))) tt) at₃) (sym b)
      ∙ ap (λ k. got (with (act (tell_attribute_field act k y) (end_attribute (or_zero (later (valued_by x) (valued_by y))))) tt) at₃) s
      ∙ ap (λ k. got (with (act k (end_attribute (or_zero (later (valued_by x) (valued_by y))))) tt) at₃) t
      ∙ ap (λ k. got (with (act m₂ (end_attribute k)) tt) at₃) (verdict_type (later (valued_by x) (valued_by y)) (later (given_by x) (given_by y)) kind v)
      ∙ ap (λ k. got (with k tt) at₃) (sym e)

  pub attribute_bad : {c : DecodeError} → tree_fields x y ≡ Err c → attribute_value key bytes at ≡ fault (Own (record { cause = c; place = at }))
  attribute_bad v = reads ∙ ap ends v

pub attribute_cut : (key : Piece) (bytes : List ℕ) (at : ℕ) {at₁ at₂ : ℕ} (x : AttributeField) {e : AttributeFault} {u : Unit {0}} → fields_of 2 bytes at ≡ got u at₁ → an_attribute_field bytes at₁ ≡ got x at₂ → an_attribute_field bytes at₂ ≡ fault e → attribute_value key bytes at ≡ fault e
attribute_cut key bytes at x p q r = rw (p, q, r)
