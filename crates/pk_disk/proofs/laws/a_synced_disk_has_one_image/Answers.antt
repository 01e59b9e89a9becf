-- With nothing open the bytes are the only image.
use Rattle.pk_disk.proofs.Images.{closed_image as law}
use Rattle.pk_disk.proofs.laws.a_synced_disk_has_one_image.Goals as goal

pub returns : goal.returns
returns c = law
