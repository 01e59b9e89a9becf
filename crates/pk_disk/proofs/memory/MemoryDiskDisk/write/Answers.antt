-- The images since a write are those from before it and those in its course.
use Rattle.std.proofs.Common.{rules, ◌≡◌, length, take, drop}
use Rattle.pk_disk.specs.declared.record.Call.TheVariants.{Write}
use Rattle.pk_disk.proofs.Joined.{disk_steps, joined_known, joined_new, write_image, write_undone}
use Rattle.pk_disk.proofs.memory.MemoryDiskDisk.write.Goals as goal

pub returns-clause-images : goal.returns-clause-images
returns-clause-images c =
    let before : c.in-Ok.before.items ≡ take (length c.args.bytes.now) (drop c.args.at c.args.self.now.bytes.items) = search rules in
    joined_new disk_steps (Write c.args.at c.in-Ok.before) (λ m. m.calls.items) (λ m. m.bytes.items) c.args.self.now _ c.in-Ok-push.ensures.items (write_undone _ _ _ _ _ c.requires before c.put.ensures)
    _ (write_image _ _ _ _ _ c.requires before c.put.ensures _)

pub returns-clause-known : goal.returns-clause-known
returns-clause-known c =
    let before : c.in-Ok.before.items ≡ take (length c.args.bytes.now) (drop c.args.at c.args.self.now.bytes.items) = search rules in
    joined_known disk_steps (Write c.args.at c.in-Ok.before) _ _ _ _ c.in-Ok-push.ensures.items (write_undone _ _ _ _ _ c.requires before c.put.ensures)
