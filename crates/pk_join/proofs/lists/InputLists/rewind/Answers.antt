-- Behind its last word a cursor takes room for each.
use Rattle.std.proofs.Common.{◌≤◌, subst}
use Rattle.pk_join.specs.declared.lists.InputLists.{InputLists}
use Rattle.pk_join.specs.Listed.{read_of, source_of, total_of}
use Rattle.pk_join.specs.Reading.{HaveRead}
use Rattle.pk_join.proofs.RoomLemmas.{roomy_result}
use Rattle.pk_join.proofs.lists.InputLists.rewind.Goals as goal

pub returns-in-Stored-clause-roomy : goal.returns-in-Stored-clause-roomy
returns-in-Stored-clause-roomy c = λ bytes read ended.
    let old = c.in-Stored.words in
    let here = subst (HaveRead bytes) c.in-Stored.is read in
    let all = subst (λ (m : InputLists). total_of (source_of m) ≤ read_of m) c.in-Stored.is ended in
    roomy_result old c.rewind_with_room.new.self bytes _ here all c.rewind_with_room.ensures.place
    c.rewind_with_room.ensures.room
