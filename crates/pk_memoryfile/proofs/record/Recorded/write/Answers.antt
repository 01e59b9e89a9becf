-- The images since a write are those from before it and those in its course.
use Rattle.std.proofs.Common.{rules, ◌≡◌, length, take, drop}
use Rattle.pk_disk.proofs.Joined.{joined_known, joined_new, write_image, write_undone}
use Rattle.pk_memoryfile.specs.declared.record.Call.TheVariants.{Write}
use Rattle.pk_memoryfile.proofs.Steps.{file_steps}
use Rattle.pk_memoryfile.proofs.record.Recorded.write.Goals as goal

pub returns-clause-images : goal.returns-clause-images
returns-clause-images c =
    let before : c.in_ok-before.before.items ≡ take (length c.args.new.now) (drop c.args.at c.args.self.now.bytes.items) = search rules in
    joined_new file_steps (Write c.args.at c.in_ok-before.before) (λ r. r.calls.items) (λ r. r.bytes.items) c.args.self.now _ c.in_ok-push.ensures.items (write_undone _ _ _ _ _ c.requires before c.put.ensures)
    _ (write_image _ _ _ _ _ c.requires before c.put.ensures _)

pub returns-clause-known : goal.returns-clause-known
returns-clause-known c =
    let before : c.in_ok-before.before.items ≡ take (length c.args.new.now) (drop c.args.at c.args.self.now.bytes.items) = search rules in
    joined_known file_steps (Write c.args.at c.in_ok-before.before) _ _ _ _ c.in_ok-push.ensures.items (write_undone _ _ _ _ _ c.requires before c.put.ensures)
