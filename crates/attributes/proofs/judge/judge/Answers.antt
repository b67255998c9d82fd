use Rattle.std.proofs.Common.{◌≡◌, Option, Some, None, refl}
use Rattle.std.specs.Option.{option_or}
use Rattle.trees.specs.Steps.{later}
use Rattle.attributes.proofs.judge.judge.Goals as goal

-- the later of two, as the first of them that is there from the end
or_later : {A : Type 0} (x y : Option A) → option_or y x ≡ later x y
or_later x None = refl
or_later x (Some a) = refl

pub returns : goal.returns
returns g c =
    let a = c.agree.ensures in
    let b = c.or.ensures in
    let d = c.or-2.ensures in
    let e = or_later c.valued-2.result c.valued.result in
    let f = or_later c.given-2.result c.given.result in
    let h = c.valued.ensures in
    let i = c.valued-2.ensures in
    let j = c.given.ensures in
    let k = c.given-2.ensures in
    cc
