-- What is answered is right for what the disk holds, and the store goes on meaning that.
use Rattle.std.proofs.Common.{◌∙◌}
use Rattle.std.proofs.Math.Logic.{∥∥₁_elim}
use Rattle.pk_model.specs.Views.{reply_of}
use Rattle.pk_reader.specs.Asking.{request_of}
use Rattle.pk_reader.proofs.CauseLemmas.{asked_failed}
use Rattle.pk_reader.proofs.ShownLemmas.{means_kept, right_of, right_prop}
use Rattle.pk_reader.proofs.shown.Shown.ask.Goals as goal

pub invariant_of-self : goal.invariant_of-self
invariant_of-self g c = record {
  clear = c.ask_store.ensures.looked_at.volume.reopen ∙ c.args.self.now.clear;
  means = means_kept g.D.Disk c.args.self.now.store c.ask_store.new.store c.ask_store.ensures.looked_at c.args.self.now.means;
}

pub returns-clause-right : goal.returns-clause-right
returns-clause-right g c = λ h d holds.
    ∥∥₁_elim (c.args.self.now.means h d holds) (right_prop (request_of c.args.question) (reply_of c.ask_store.result) d)
    (right_of g.D.Disk h c.args.self.now.store c.ask_store.new.store (request_of c.args.question) (reply_of c.ask_store.result) c.ask_store.ensures.step d)

pub returns-clause-cause : goal.returns-clause-cause
returns-clause-cause g c =
    asked_failed g.D.Disk c.args.self.now.store c.ask_store.new.store (request_of c.args.question) (reply_of c.ask_store.result) c.ask_store.ensures.step
    (c.ask_store.ensures.looked_at.volume.reopen ∙ c.args.self.now.clear)
