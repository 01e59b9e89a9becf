use Rattle.std.proofs.Common.{◌≡◌, ℕ, ◌+◌, ◌*◌, ◌<◌, slice_index}
use Rattle.pk_posting.specs.Posting.{word}
use Rattle.pk_posting.proofs.decoding.ends_with.Given as goal

abbrev pub invariant-loop-c : goal.invariant-loop-c
invariant-loop-c l = (i : ℕ) → i < l.c → word l.bytes (l.at + 4 * i) ≡ slice_index l.xs (124 + i)
