-- It was only looked at, so it means what it did.
use Rattle.std.proofs.Common.{◌∙◌}
use Rattle.pk_reader.proofs.ShownLemmas.{means_kept}
use Rattle.pk_reader.proofs.shown.Shown.is_latest.Goals as goal

pub invariant_of-self : goal.invariant_of-self
invariant_of-self g c = record {
  clear = c.is_latest.ensures.looked_at.volume.reopen ∙ c.args.self.now.clear;
  means = means_kept g.D.Disk c.args.self.now.store c.is_latest.new.self c.is_latest.ensures.looked_at c.args.self.now.means;
}
