-- What a failed write leaves has only images of its course.
use Rattle.pk_disk.proofs.Images.{image_of_part as law}
use Rattle.pk_disk.proofs.laws.a_failed_write_leaves_images_of_its_course.Goals as goal

pub returns : goal.returns
returns c = law
