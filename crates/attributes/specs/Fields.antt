-- The fields of attributes and elements, as they are judged. Assumes nothing.
use Rattle.std.specs.Prelude.{ℕ, Some, None, Ok, Err, Option, Result}
use Rattle.trees.specs.declared.step.ValueType.{ValueType}
use Rattle.trees.specs.declared.step.ValueType.TheVariants as value_type
use Rattle.trees.specs.Tree.{Single, string, truth, whole, double, ElementField, given, value, AttributeField, plain, array}
use Rattle.attributes.specs.declared.judge.Field.{Field}
use Rattle.attributes.specs.declared.judge.Field.TheVariants.{Given, Valued}

abbrev pub given_of : {V : Type 0} → Field V → Option ℕ
given_of (Given n) = Some n
given_of (Valued t) = None

abbrev pub valued_of : {V : Type 0} → Field V → Option V
valued_of (Given n) = None
valued_of (Valued t) = Some t

-- an answer by its number
abbrev pub coded : {V E : Type 0} → (V → ℕ) → Result V E → Result ℕ E
coded code (Ok t) = Ok (code t)
coded code (Err e) = Err e

abbrev pub type_of : Single → ValueType
type_of (string p) = value_type.String
type_of (truth b) = value_type.Boolean
type_of (whole z) = value_type.Integer
type_of (double b) = value_type.Double

-- what is kept of a field for the judgement
abbrev pub element_field : ElementField → Field ValueType
element_field (given n) = Given n
element_field (value v) = Valued (type_of v)

abbrev pub attribute_field : AttributeField → Field ValueType
attribute_field (plain f) = element_field f
attribute_field (array es) = Valued value_type.Array
