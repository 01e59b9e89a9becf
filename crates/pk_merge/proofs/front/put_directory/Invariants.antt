-- The entries so far.
use Rattle.std.proofs.Common.{◌≡◌, ◌++◌, take}
use Rattle.pk_merge.specs.Keeping.{kept_bytes, kept_directory}
use Rattle.pk_merge.proofs.front.put_directory.Given as goal

abbrev pub invariant-loop-kept : goal.invariant-loop-kept
invariant-loop-kept l = record {
  at : l.at ≡ kept_bytes (take l.kept-index l.documents);
  entries : l.out.items ≡ l.fn.out.items ++ kept_directory 0 (take l.kept-index l.documents);
}
