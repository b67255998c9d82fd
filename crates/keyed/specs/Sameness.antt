-- What sameness of keys has to be. Assumes nothing.
use Rattle.std.specs.Prelude.{◌≡◌, Bool, true, nat_eq}
use Rattle.std.specs.Cmp.{IsEquivalence}
use Rattle.std.proofs.Common.{◌∙◌}
use Rattle.std.proofs.lemmas.Cmp.{nat_eq_equiv}

pub record Laws {K : Type 0} (alike : K → K → Bool) : Type 0 where
  pub reflexive : (a : K) → alike a a ≡ true
  pub symmetric : (a b : K) → alike a b ≡ true → alike b a ≡ true
  pub transitive : (a b c : K) → alike a b ≡ true → alike b c ≡ true → alike a c ≡ true

-- `==` of keys is such a sameness
pub equal_keys : {K : Type 0} {eq : K → K → Bool} → IsEquivalence eq → Laws eq
equal_keys e = record {
  reflexive = e.refl;
  symmetric = λ a b p. e.symm b a ∙ p;
  transitive = λ a b c p q. e.congr a b c p ∙ q;
}

-- and so is equality of numbers
pub equal_numbers : Laws nat_eq
equal_numbers = equal_keys nat_eq_equiv
