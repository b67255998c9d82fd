-- Each field is found by its own name alone, and each name is written as a text. Assumes nothing.
use Rattle.std.specs.Prelude.{◌≡◌, ℕ, true, false, cond, List, [], ◌∷◌, map, Some, Option, refl}
use Rattle.std.proofs.Common.{subst, rules}
use Rattle.std.proofs.lemmas.Slice.Eq.{bytes_eq-Decides}
use Rattle.msgpack.specs.Encodings.{written_text}
use Rattle.names.specs.declared.table.Name.{Name}
use Rattle.names.specs.declared.table.Name.TheVariants as names
use Rattle.names.specs.declared.keys.AttributeAnyKey.{AttributeAnyKey}
use Rattle.names.specs.declared.keys.AttributeAnyKey.TheVariants as attribute
use Rattle.names.specs.declared.keys.ValuesKey.{ValuesKey}
use Rattle.names.specs.Names.{spelled, is_spelled, written_name}
use Rattle.names.specs.Keys.{key_with, element_name, element_keys, attribute_with, values_with}

-- each key is found by its name, and by nothing else
pub record Tells {K : Type 0} (name : K → Name) (found : List ℕ → Option K) : Type 0 where
  pub by_name : (k : K) → found (spelled (name k)) ≡ Some k
  pub alone : (t : List ℕ) (k : K) → found t ≡ Some k → t ≡ spelled (name k)

abbrev pub attribute_name : AttributeAnyKey → Name
attribute_name (attribute.Single k) = element_name k
attribute_name attribute.ArrayValue = names.ArrayValue

abbrev pub values_name : ValuesKey → Name
values_name k = names.Values

-- what is found in a list has the name that it was found by
pub found_alone : {K : Type 0} (name : K → Name) (ks : List K) (t : List ℕ) (k : K) → key_with name t ks ≡ Some k → t ≡ spelled (name k)
unfolding key_with
found_alone name [] t k e = cc
found_alone name (x ∷ ks) t k e =
    (elim (is_spelled (name x) t) as (λ b. is_spelled (name x) t ≡ b → cond b (Some x) (key_with name t ks) ≡ Some k → t ≡ spelled (name k)) [
      | true ↦ λ is at. let same : x ≡ k = cc in subst (λ y. t ≡ spelled (name y)) same ((bytes_eq-Decides t (spelled (name x))).0 is)
      | false ↦ λ is at. found_alone name ks t k at
    ]) refl e

pub attribute_tells : Tells attribute_name attribute_with
unfolding key_with
attribute_tells = record {
  by_name = search rules;
  alone = λ t k e. found_alone attribute_name (attribute.ArrayValue ∷ map (λ x. attribute.Single x) element_keys) t k (search rules);
}

pub values_tells : Tells values_name values_with
unfolding key_with
values_tells = record { by_name = λ k. refl; alone = found_alone values_name (record {} ∷ []) }

-- a name is written in the form that texts are
abbrev pub WrittenAsText : Type 0
WrittenAsText = (n : Name) → written_name n ≡ written_text (spelled n)
