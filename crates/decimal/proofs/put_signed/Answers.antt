-- A number below 0 is a minus and its size.
use Rattle.std.proofs.Common.{◌∙◌}
use mir.Facts.{to_z-of_z}
use Rattle.decimal.proofs.Signs.{put_negative}
use Rattle.decimal.proofs.put_signed.Goals as goal

pub returns-then-v-lt0 : goal.returns-then-v-lt0
returns-then-v-lt0 c =
    put_negative c.args.v c.args.end (c.from-size.ensures ∙ rw (to_z-of_z c.ranges.v) at c.unsigned_abs.ensures.value)
    (rw (to_z-of_z c.ranges.v) at c.if-v-lt0.true) c.requires c.put_field.ensures
