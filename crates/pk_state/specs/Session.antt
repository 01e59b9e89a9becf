-- Sessions: a start, the log of what was accepted, and the mark.
use Rattle.std.specs.Prelude.{◌≡◌, ℕ, ◌≤◌, List, [], ◌∷◌, ◌++◌, length, take, Result, Ok, Err}
use Rattle.pk_model.specs.declared.commands.Refusal.{Refusal}
use Rattle.pk_model.specs.Collection.{Collection}
use Rattle.pk_model.specs.Steps.{Request, Answer, add, delete, find, show, commit, merge, tidy}
use Rattle.pk_model.specs.Steps.{count, after}
use Rattle.pk_state.specs.Legal.{State, marked}

-- the collection at the start, the commands accepted since, and how many of them the last accepted
-- commit covers, itself included
pub record Session : Type 0 where
  pub start : Collection
  pub log : List Request
  pub mark : ℕ

-- the collection after all that was accepted
abbrev pub now_of : Session → Collection
now_of s = after s.log s.start

-- the collection that the last commit acknowledged
abbrev pub marked_of : Session → Collection
marked_of s = after (take s.mark s.log) s.start

-- the session gives what the store means
pub record Tells (s : Session) (state : State) : Type 0 where
  pub within : s.mark ≤ length s.log
  pub now : now_of s ≡ state.now
  pub marked : marked_of s ≡ marked state

-- the mark after a command that was accepted as the last of so many
abbrev pub mark_after : Request → ℕ → ℕ → ℕ
mark_after commit mark len = len
mark_after (add text) mark len = mark
mark_after (delete n) mark len = mark
mark_after (find query) mark len = mark
mark_after (show n) mark len = mark
mark_after merge mark len = mark
mark_after tidy mark len = mark
mark_after count mark len = mark

-- the session after a command and its reply: an accepted one joins the log
abbrev pub next_session : Session → Request → Result Answer Refusal → Session
next_session s request (Ok answer) = record {
  start = s.start;
  log = s.log ++ request ∷ [];
  mark = mark_after request s.mark (length (s.log ++ request ∷ []));
}
next_session s request (Err why) = s
