-- What was read of a store that holds a collection is no damage.
use Rattle.pk_grow.proofs.StoreLemmas.{undamaged_read}
use Rattle.pk_grow.proofs.reading.read_store.Goals as goal

pub returns-clause-fault : goal.returns-clause-fault
returns-clause-fault g c = λ honest col holds.
    undamaged_read (g.D.Disk.content c.args.disk.now) (g.D.Disk.content c.session_units.new.disk) c.in-Ok.units col c.read_of.result
    (c.session_units.ensures.keeps.read honest).bytes (c.in-Ok.ensures.units honest) c.requires holds (c.read_of.ensures.answer honest)
