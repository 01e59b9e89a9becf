-- What no longer fits a word are the high bits of the vector.
use Rattle.std.proofs.Common.{arith, sym, ap, ◌∙◌, ◌+◌, ◌-◌, slice_index, Fits, w32}
use Rattle.std.proofs.lemmas.Simd.{Each1-get_or}
use Rattle.std.proofs.lemmas.Nat.Bits.{bit_at-zero, bit_at_above}
use Rattle.pk_lanes.specs.Packed.{bit}
use Rattle.pk_lanes.proofs.LaneLemmas.{rest_bits, zero_lanes}
use Rattle.pk_lanes.proofs.packing.rest_of.Goals as goal

pub returns-then-s-eq0 : goal.returns-then-s-eq0
returns-then-s-eq0 c i q h =
    ap (λ n. bit n q) (zero_lanes i h) ∙ bit_at-zero q
    ∙ sym (bit_at_above (slice_index c.args.x i) 32 (32 - c.args.s + q) (Each1-get_or (Fits w32) c.args.x i 0 (omega arith) c.fits-x.1).fits (omega arith))

pub returns : goal.returns
returns c i q h = rest_bits (32 - c.args.s) q c.args.x c.fits-x.0 i h
