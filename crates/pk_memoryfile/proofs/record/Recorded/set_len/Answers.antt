-- The images since a longer length are those from before it, and the new bytes.
use Rattle.std.proofs.Common.{rules, ◌≡◌}
use Rattle.pk_disk.proofs.Joined.{joined_new}
use Rattle.pk_filedisk.specs.Resized.{resized}
use Rattle.pk_memoryfile.specs.declared.record.Call.TheVariants.{SetLen}
use Rattle.pk_memoryfile.proofs.Steps.{file_steps}
use Rattle.pk_memoryfile.proofs.LengthLemmas.{extended_whole}
use Rattle.pk_memoryfile.proofs.record.Recorded.set_len.Goals as goal

pub returns-clause-images : goal.returns-clause-images
returns-clause-images c = λ long.
    let bytes = c.args.self.now.bytes.items in
    let before : c.in_ok-before.before.items ≡ bytes = search rules in
    let now : c.in_ok-now.now.items ≡ resized c.args.len bytes = search rules in
    joined_new file_steps (SetLen c.in_ok-before.before) (λ r. r.calls.items) (λ r. r.bytes.items) c.args.self.now _ c.in_ok-push.ensures.items before
    _ (λ image seen. extended_whole c.args.len bytes c.in_ok-now.now.items image _ long now (record { size = seen.size; same = seen.same }))
