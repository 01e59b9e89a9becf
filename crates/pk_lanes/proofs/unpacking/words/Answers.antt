-- A word read from the bytes has the bits of its lane.
use Rattle.pk_lanes.proofs.WordLemmas.{word_bit}
use Rattle.pk_lanes.proofs.unpacking.words.Goals as goal

pub returns : goal.returns
returns c = word_bit c.args.bytes.now c.type_inv.bytes c.args.w c.requires
