-- One more byte behind those that were read. Assumes nothing.
use Rattle.std.proofs.Common.{◌≡◌, ℕ, ◌+◌, ◌*◌, ◌≤◌, ◌-◌, List, [], ◌∷◌, ◌++◌, length, take, drop, get_or, Option, Some, None, refl, ap, sym, ◌∙◌, append_assoc, arith}
use Rattle.std.specs.Option.{option_map}
use Rattle.std.proofs.lemmas.Grind.{common_steps}
use Rattle.hexline.specs.Lines.{digit_of, with_byte, bytes_in}

in_front : (done : List ℕ) (high low : ℕ) (o : Option (List ℕ)) → option_map (λ m. done ++ m) (with_byte (Some high) (Some low) o) ≡ option_map (λ m. (done ++ (high * 16 + low) ∷ []) ++ m) o
in_front done high low None = refl
in_front done high low (Some m) = ap (λ x. Some x) (sym (append_assoc done ((high * 16 + low) ∷ []) m))

pub more_digits : (line done rest : List ℕ) (high low : ℕ) → bytes_in line ≡ option_map (λ m. done ++ m) (bytes_in rest) → 2 ≤ length rest → digit_of (get_or rest 0 0) ≡ Some high → digit_of (get_or rest 1 0) ≡ Some low → bytes_in line ≡ option_map (λ m. (done ++ (high * 16 + low) ∷ []) ++ m) (bytes_in (take (length rest - 2) (drop 2 rest)))
more_digits line done [] high low e n h l = absurd (omega arith)
more_digits line done (a ∷ []) high low e n h l = absurd (omega arith)
more_digits line done (a ∷ b ∷ cs) high low e n h l =
    let all : take (length (a ∷ b ∷ cs) - 2) (drop 2 (a ∷ b ∷ cs)) ≡ cs = grind (arith, common_steps) in
    rw all (e ∙ ap (λ o. option_map (λ m. done ++ m) (with_byte o (digit_of b) (bytes_in cs))) h ∙ ap (λ o. option_map (λ m. done ++ m) (with_byte (Some high) o (bytes_in cs))) l ∙ in_front done high low (bytes_in cs))
