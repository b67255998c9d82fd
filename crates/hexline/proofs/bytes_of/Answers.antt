use Rattle.hexline.proofs.Digits.{more_digits}
use Rattle.hexline.proofs.bytes_of.Goals as goal

pub loop-rest-preserved : goal.loop-rest-preserved
loop-rest-preserved c =
    rw c.in_ok-push.ensures.items (more_digits c.args.line.now c.loop-rest.bytes.items c.loop-rest.rest.now c.in_ok-digit.field-0 c.in_ok-digit-2.field-0 c.loop-rest.invariant c.in-len2-up.len_at_least c.in_ok-digit.ensures.0 c.in_ok-digit-2.ensures.0)
