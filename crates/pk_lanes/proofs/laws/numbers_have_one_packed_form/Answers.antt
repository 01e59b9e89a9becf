-- Every bit of the bytes is a bit of a number.
use Rattle.pk_lanes.proofs.CallerLemmas.{same_bytes, byte_at}
use Rattle.pk_lanes.proofs.laws.numbers_have_one_packed_form.Goals as goal

pub returns : goal.returns
returns c p q b xs small_p small_q packed_p packed_q =
    same_bytes p q b xs packed_p packed_q (byte_at p small_p) (byte_at q small_q)
