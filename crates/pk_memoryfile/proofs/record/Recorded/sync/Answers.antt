-- A sync adds no image: with all closed the bytes are the only one.
use Rattle.std.proofs.Common.{refl}
use Rattle.pk_disk.proofs.Joined.{joined_none}
use Rattle.pk_memoryfile.specs.Record.{image_now}
use Rattle.pk_memoryfile.specs.declared.record.Call.TheVariants.{Sync}
use Rattle.pk_memoryfile.proofs.Steps.{file_steps}
use Rattle.pk_memoryfile.proofs.record.Recorded.sync.Goals as goal

pub returns-clause-images : goal.returns-clause-images
returns-clause-images c =
    joined_none file_steps Sync (λ r. r.calls.items) (λ r. r.bytes.items) c.args.self.now _ c.in_ok-push.ensures.items refl
    (λ n image now. image_now _ _ _ _ (record { size = now.size; same = λ p h. now.same p refl }))
