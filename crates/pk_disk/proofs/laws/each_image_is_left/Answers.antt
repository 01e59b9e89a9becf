-- An image is left by the picks that it has at the open positions.
use Rattle.pk_disk.specs.Crash.{picks_of}
use Rattle.pk_disk.proofs.Crashes.{image_is_crash}
use Rattle.pk_disk.proofs.laws.each_image_is_left.Goals as goal

pub returns : goal.returns
returns c = λ is_open bytes image is. (picks_of is_open 0 image, image_is_crash is_open bytes image is)
