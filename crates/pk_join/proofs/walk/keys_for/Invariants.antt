-- The keys of the inputs so far.
use Rattle.std.proofs.Common.{◌≡◌, take}
use Rattle.pk_join.specs.WalkInput.{keys_of}
use Rattle.pk_join.proofs.walk.keys_for.Given as goal

abbrev pub invariant-loop-input : goal.invariant-loop-input
invariant-loop-input l = record {
  keys : l.keys.items ≡ keys_of (take l.input-index l.inputs);
}
