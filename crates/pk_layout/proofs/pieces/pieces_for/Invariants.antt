-- The pieces so far are those of the bytes so far, each in its extent.
use Rattle.std.proofs.Common.{◌≡◌, length, map, take}
use Rattle.pk_layout.specs.Plan.{laid_in}
use Rattle.pk_replace.specs.Claims.{claim_of}
use Rattle.pk_layout.proofs.pieces.pieces_for.Given as goal

abbrev pub invariant-loop-bytes : goal.invariant-loop-bytes
invariant-loop-bytes l = record {
  many : length l.pieces.items ≡ length l.yielded;
  so_far : map claim_of l.pieces.items ≡ laid_in (take (length l.yielded) l.extents) (map (λ w. w.items) l.yielded);
}
