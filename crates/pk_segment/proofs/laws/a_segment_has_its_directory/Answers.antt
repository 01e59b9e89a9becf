-- It is that segment itself.
use Rattle.pk_segment.proofs.DirectoryLemmas.{directory_of}
use Rattle.pk_segment.proofs.laws.a_segment_has_its_directory.Goals as goal

pub returns : goal.returns
returns c = λ bytes docs kind is. directory_of bytes docs kind is
