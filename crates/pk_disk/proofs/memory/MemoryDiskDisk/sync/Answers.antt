-- A sync adds no image: with all closed the bytes are the only one.
use Rattle.std.proofs.Common.{refl}
use Rattle.pk_disk.specs.Memory.{image_now}
use Rattle.pk_disk.specs.declared.record.Call.TheVariants.{Sync}
use Rattle.pk_disk.proofs.Joined.{disk_steps, joined_none}
use Rattle.pk_disk.proofs.memory.MemoryDiskDisk.sync.Goals as goal

pub returns-clause-images : goal.returns-clause-images
returns-clause-images c = λ _.
    joined_none disk_steps Sync (λ m. m.calls.items) (λ m. m.bytes.items) c.args.self.now _ c.in-Ok.ensures.items refl
    (λ n image now. image_now _ _ _ _ (record { size = now.size; same = λ p h. now.same p refl }))
