use Rattle.std.proofs.Common.{[], refl}
use Rattle.trees.specs.Records.{nullable, values_of}
use Rattle.attributes.specs.declared.judge.Field.TheVariants.{Valued}
use Rattle.items.proofs.Turns.{into_answered}
use Rattle.trees.specs.Steps.{tell_attribute_field}
use Rattle.trees.specs.declared.step.ValueType.TheVariants as value_type
use Rattle.trees.specs.Tree.{array}
use Rattle.attributes.specs.Fields.{attribute_field}
use Rattle.attributes.proofs.attribute.read_by_key.Goals as goal

pub returns-in_ok-read_array-in-ArrayValue : goal.returns-in_ok-read_array-in-ArrayValue
returns-in_ok-read_array-in-ArrayValue g c =
    let w = c.args.from.now.buf.window.now in
    record {
      takes = rw c.in-ArrayValue.is (into_answered (nullable [] values_of w c.args.from.now.buf.pos) array (tell_attribute_field (g.R.Receiver.act w) (g.R.Receiver.state c.args.from.now.to.now)) attribute_field (Valued value_type.Array) (λ es. refl) c.in_ok-read_array-in-ArrayValue.ensures.takes);
      window = c.read_array.ensures.window;
      lender = c.read_array.ensures.lender;
    }
