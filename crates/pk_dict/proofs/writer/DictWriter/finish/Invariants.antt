use Rattle.std.proofs.Common.{◌≡◌, take}
use Rattle.std.specs.Int.{w32, to_le_bytes}
use Rattle.std.specs.List.{flat_map}
use Rattle.pk_dict.proofs.writer.DictWriter.finish.Given as goal

abbrev pub invariant-loop-start : goal.invariant-loop-start
invariant-loop-start l = l.out.items ≡ flat_map (to_le_bytes w32) (take l.start-index l.fn.self.starts.items)
