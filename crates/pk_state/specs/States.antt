-- What is true of a state of a store, between commands.
use Rattle.std.specs.Prelude.{◌<◌, ◌≤◌, All, Contains}
use Rattle.pk_model.specs.Collection.{Doc, IsCollection}
use Rattle.pk_state.specs.Committed.{whole_of}
use Rattle.pk_state.specs.Legal.{State, marked}

-- What is there now is a collection, and so is what is committed, dropped documents and all. A
-- document of now whose number a commit has passed is a committed one.
pub record IsState (s : State) : Type 0 where
  pub now_is : IsCollection s.now
  pub whole_is : IsCollection (whole_of s.committed)
  pub next : s.committed.body.next_number ≤ s.now.next
  pub committed : All (λ (d : Doc). d.number < s.committed.body.next_number
      → Contains (marked s).documents d) s.now.documents
