-- A crash leaves an image.
use Rattle.std.proofs.Common.{◌≡◌, sym, subst, reverse, List, ℕ, rules}
use Rattle.pk_disk.specs.Disk.{IsImage}
use Rattle.pk_disk.specs.Crash.{crashed}
use Rattle.pk_disk.specs.Memory.{open_after}
use Rattle.pk_disk.proofs.Crashes.{crash_is_image}
use Rattle.pk_disk.proofs.memory.MemoryDisk.crash.Goals as goal

pub returns-clause-image : goal.returns-clause-image
returns-clause-image c =
    let bytes = c.args.self.bytes.items in
    let calls = c.args.self.calls.items in
    let is : c.with_picks-bytes.result.items ≡ crashed (open_after (reverse calls)) 0 bytes c.args.picks.now = search rules in
    subst (λ (image : List ℕ). IsImage bytes (open_after (reverse calls)) image) (sym is) (crash_is_image (open_after (reverse calls)) bytes c.args.picks.now)
