-- A shift by less than 32 is a power.
use Rattle.std.proofs.Common.{ℕ, ◌<◌, ◌%◌, ◌/◌, ◌^◌, arith}
use Rattle.std.proofs.lemmas.Nat.{one_shl}
use Rattle.pk_filter.specs.Hashed.{mask_of}
use Rattle.pk_filter.proofs.hash.WordHash.mask.Goals as goal

few : (n : ℕ) → (n % 2 ^ 32) / 2 ^ 27 < 32
few n = omega arith

pub returns : goal.returns
unfolding mask_of
returns c = one_shl _ 32 (few _)
