-- What was marked is shown, and a look marks nothing.
use Rattle.std.proofs.Common.{◌≤◌, ap, sym, refl, ◌∙◌, arith}
use Rattle.pk_manifest.specs.Evolves.{in_force}
use Rattle.pk_snapshot.specs.Shown.{shown_bytes}
use Rattle.pk_snapshot.proofs.AnotherLemmas.{gone_on}
use Rattle.pk_snapshot.proofs.LatestLemmas.{if_honest, marked_low}
use Rattle.pk_snapshot.proofs.ShownLemmas.{length_shown}
use Rattle.pk_snapshot.proofs.WriteLemmas.{same_images}
use Rattle.pk_snapshot.proofs.disk.SnapshotDiskWatched.is_latest.Goals as goal

pub returns-clause-keeps : goal.returns-clause-keeps
returns-clause-keeps g c =
    let f = g.F.SharedFile in
    let disk = c.args.self.now in
    let shown = shown_bytes disk.len disk.shown.extents.items in
    let start = f.marked disk.file in
    let marked = f.marked c.is_latest.new.file in
    record {
      read = λ h. record {
        bytes = ap shown (c.is_latest.ensures.marked h);
        positions = refl;
        images = record { later = omega arith; each = λ t image le is. same_images (shown start) (shown marked) disk.refused_at image (ap shown (c.is_latest.ensures.marked h)) is };
        known = λ t image le is. same_images (shown marked) (shown start) disk.refused_at image (ap shown (sym (c.is_latest.ensures.marked h))) is;
      };
      size = length_shown disk.len disk.shown.extents.items marked ∙ sym (length_shown disk.len disk.shown.extents.items start);
      writes = refl;
    }

pub returns-clause-latest : goal.returns-clause-latest
returns-clause-latest g c =
    let f = g.F.SharedFile in
    let disk = c.args.self.now in
    if_honest f.honest (in_force (f.content disk.file) ≤ disk.generation) c.is_latest.result (λ h.
    let from = (disk.snapshot h).found in
    c.is_latest.ensures.latest h (marked_low (f.marked disk.file) (f.content disk.file) disk.half disk.generation from.gate from.stamp_is (g.met.F.SharedFile.marked_before disk.file h)))

pub invariant_of-self-clause-gone : goal.invariant_of-self-clause-gone
invariant_of-self-clause-gone g c = λ h is.
    let f = g.F.SharedFile in
    let disk = c.args.self.now in
    let new = c.is_latest.new.file in
    gone_on (f.marked disk.file) (f.marked new) (f.content disk.file) (f.content new) disk.half disk.generation (c.is_latest.ensures.marked h) (c.is_latest.ensures.evolves h) (disk.gone h is)
