-- An input that has passed all words has come to all.
use Rattle.pk_disk.specs.Units.{extent_bytes}
use Rattle.pk_join.specs.Listed.{read_of, source_of, total_of}
use Rattle.pk_join.proofs.RoomLemmas.{ended_read}
use Rattle.pk_join.proofs.walk_input.Input.restart.Goals as goal

pub returns-clause-roomy : goal.returns-clause-roomy
returns-clause-roomy c = λ bytes holds ended.
    let self = c.args.self.now in
    c.rewind.ensures.roomy (extent_bytes bytes self.extent) holds.words
    (ended_read self.stands (read_of self.lists) (total_of (source_of self.lists)) ended)
