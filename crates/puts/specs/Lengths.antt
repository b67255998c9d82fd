-- The forms of a number that begin with these first bytes. Assumes nothing.
use Rattle.std.specs.Prelude.{ℕ, List, [], ◌∷◌, ◌++◌, Option, Some, None}
use Rattle.msgpack.specs.Encodings.{Form, near, far}
use Rattle.puts.specs.declared.first.Near.{Near}
use Rattle.puts.specs.declared.first.FirstBytes.{FirstBytes}

abbrev pub near_form : Option Near → List Form
near_form None = []
near_form (Some n) = near n.limit n.base ∷ []

abbrev pub one_form : Option ℕ → List Form
one_form None = []
one_form (Some b) = far 1 b ∷ []

abbrev pub eight_form : Option ℕ → List Form
eight_form None = []
eight_form (Some b) = far 8 b ∷ []

-- in the order of their sizes
abbrev pub forms_of : FirstBytes → List Form
forms_of f = near_form f.near ++ (one_form f.one ++ (far 2 f.two ∷ far 4 f.four ∷ eight_form f.eight))
