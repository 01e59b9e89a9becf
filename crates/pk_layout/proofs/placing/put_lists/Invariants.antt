-- Behind those that were there stand the lengths of the lists so far.
use Rattle.std.proofs.Common.{◌≡◌, ◌++◌, length, map, take}
use Rattle.pk_layout.proofs.placing.put_lists.Given as goal

abbrev pub invariant-loop-bytes : goal.invariant-loop-bytes
invariant-loop-bytes l = l.lengths.items ≡ l.fn.lengths.items ++ map length (map (λ w. w.items) (take l.bytes-index l.lists))
