use Rattle.std.proofs.Common.{[], ◌∙◌}
use Rattle.items.specs.Reads.{fold, nothing}
use Rattle.trees.specs.Records.{values_of}
use Rattle.trees.specs.Steps.{tell_element}
use Rattle.trees.proofs.Nullable.{not_null}
use Rattle.attributes.proofs.attribute.read_array.Goals as goal

pub returns : goal.returns
returns g c =
    let w = c.handle_null_marker.ensures.window in
    let n = c.if-handle_null_marker.ensures in
    record {
      takes = not_null values_of [] (λ bytes. fold (tell_element (g.R.Receiver.act bytes))) nothing _ _ c.read_values.result _ w n.place n.value c.read_values.ensures.takes;
      window = c.read_values.ensures.window ∙ w;
      lender = c.read_values.ensures.lender;
    }
