-- What was read is confirmed, or another body was seen.
use Rattle.std.proofs.Common.{◌≡◌, ◌+◌, ◌≤◌, ◌∙◌, ℕ, List, length, ap, arith, rules, subst, sym}
use Rattle.std.specs.Prelude.{slice_range}
use Rattle.pk_snapshot.specs.Shared.{IsFilled}
use Rattle.pk_snapshot.specs.Shown.{shown_bytes}
use Rattle.pk_manifest.specs.Evolves.{Evolves, body_in}
use Rattle.pk_manifest.proofs.Evolving.{evolves_here}
use Rattle.pk_snapshot.proofs.FillLemmas.{ok_then}
use Rattle.pk_snapshot.proofs.OpenLemmas.{found_shown}
use Rattle.pk_snapshot.proofs.SeenLemmas.{other_wider}
use Rattle.pk_snapshot.proofs.ShownLemmas.{length_shown, read_is}
use Rattle.pk_snapshot.proofs.disk.SnapshotDiskDisk.read.Goals as goal

pub returns-clause-given : goal.returns-clause-given
returns-clause-given g c = λ h.
    let f = g.F.SharedFile in
    let disk = c.args.self.now in
    let start = f.marked disk.file in
    let old = f.content disk.file in
    let mid = f.content c.fill.new.file in
    let out = c.fill.new.out in
    let from = disk.snapshot h in
    let long : length out ≡ length c.args.out.now = c.fill.auto.out in
    let total : length (shown_bytes disk.len disk.shown.extents.items start) ≡ disk.len = length_shown disk.len disk.shown.extents.items start in
    let fits : c.args.at + length out ≤ disk.len = omega (arith, c.requires, long, total) in
    let shown = disk.shown.extents.items in
    let all : IsFilled old mid shown c.args.at out = ok_then c.fill.result (IsFilled old mid shown c.args.at out) c.if-is_err.ensures.negation (c.fill.ensures.given h) in
    let last = c.in-Ok.ensures.given h (search rules) in
    read_is start old mid (f.content c.is_still.new.file) disk.half disk.generation from.found.gate from.found.stamp_is (g.met.F.SharedFile.marked_before disk.file h) last disk.len disk.shown.extents.items (found_shown start disk.half disk.generation (body_in start disk.half) disk.shown.extents.items from.found from.names) c.args.at out fits all
    ∙ ap (λ (n : ℕ). slice_range (shown_bytes disk.len disk.shown.extents.items start) c.args.at (c.args.at + n)) long

pub invariant_of-self-then-not-still-clause-gone : goal.invariant_of-self-then-not-still-clause-gone
invariant_of-self-then-not-still-clause-gone g c = λ h is.
    let f = g.F.SharedFile in
    let disk = c.args.self.now in
    let mid = c.fill.new.file in
    let new = c.is_still.new.file in
    let since = subst (λ (l : List ℕ). Evolves l (f.content mid)) (sym (c.is_still.ensures.marked h)) (g.met.F.SharedFile.marked_before mid h) in
    ∣ other_wider (f.marked new) (f.content mid) (f.content new) (f.content new) disk.half disk.generation since (c.in-Ok.ensures.other h (search rules)) (evolves_here (f.content new)) ∣₁
