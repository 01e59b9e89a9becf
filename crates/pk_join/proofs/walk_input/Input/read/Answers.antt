-- The next word was read, or there is none.
use Rattle.pk_disk.specs.Units.{extent_bytes}
use Rattle.pk_join.proofs.walk_input.Input.read.Goals as goal

pub returns-then-branch-clause-rooms : goal.returns-then-branch-clause-rooms
returns-then-branch-clause-rooms g c = λ bytes rooms.
    c.in_ok-next.ensures.rooms (extent_bytes bytes c.args.self.now.extent) rooms

pub returns-else-branch-clause-rooms : goal.returns-else-branch-clause-rooms
returns-else-branch-clause-rooms g c = λ bytes rooms.
    c.in_ok-next.ensures.rooms (extent_bytes bytes c.args.self.now.extent) rooms
