-- Numbers with the same bits are the same.
use Rattle.pk_lanes.proofs.CallerLemmas.{same_numbers}
use Rattle.pk_lanes.proofs.laws.a_packed_block_is_of_one_list.Goals as goal

pub returns : goal.returns
returns c p b xs ys = same_numbers p b xs ys
