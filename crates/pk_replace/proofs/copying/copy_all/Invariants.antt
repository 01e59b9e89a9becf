-- So many bytes are copied, and each round copies some.
use Rattle.std.proofs.Common.{◌-◌, ◌≡◌, length}
use Rattle.pk_replace.specs.Copying.{IsCopying}
use Rattle.pk_replace.proofs.copying.copy_all.Given as goal

abbrev pub invariant-parts : goal.invariant-parts
invariant-parts g l = (l.part ≡ length l.buffer)
    × IsCopying g.D.Disk l.from l.to l.bytes l.done l.fn.disk l.disk

abbrev pub decreases-parts : goal.decreases-parts
decreases-parts g l = l.bytes - l.done
