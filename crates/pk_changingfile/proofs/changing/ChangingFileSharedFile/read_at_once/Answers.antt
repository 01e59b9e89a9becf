-- The bytes are those from before the call.
use Rattle.std.proofs.Common.{ap, arith, Vec, Global, ℕ}
use Rattle.pk_changingfile.specs.Going.{content_of}
use Rattle.pk_changingfile.proofs.GoingLemmas.{once_here, passes}
use Rattle.pk_changingfile.proofs.changing.ChangingFileSharedFile.read_at_once.Goals as goal

pub returns-clause-evolves : goal.returns-clause-evolves
returns-clause-evolves c = λ h.
    let f = c.args.self.now in
    let g = c.pass.new.self in
    passes f.has_changed g.has_changed f.before.items f.after.items g.before.items g.after.items
    (ap (λ (v : Vec ℕ Global). v.items) c.pass.ensures.before) (ap (λ (v : Vec ℕ Global). v.items) c.pass.ensures.after) c.pass.ensures.stays f.goes

pub returns-clause-given : goal.returns-clause-given
returns-clause-given c = λ h.
    let f = c.args.self.now in
    let g = c.pass.new.self in
    once_here (content_of f.has_changed f.before.items f.after.items) (content_of g.has_changed g.before.items g.after.items) c.copy-n.new.out c.args.at c.copy-n.result
    (returns-clause-evolves c h) (omega (arith, c.copy-n.ensures.count, c.copy-n.auto.out)) c.copy-n.ensures.given
