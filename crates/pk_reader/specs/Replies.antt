-- Which replies of a reader are right.
use Rattle.std.specs.Prelude.{◌≤◌, ◌+◌, ◌*◌, ℕ, List, Result, min}
use Rattle.pk_disk.specs.Disk.{full_count}
use Rattle.pk_model.specs.Steps.{Request, Answer}
use Rattle.pk_model.specs.declared.commands.Refusal.{Refusal}
use Rattle.pk_reader.specs.Asking.{read_only}
use Rattle.pk_reader.specs.Causes.{HasReason}
use Rattle.pk_reader.specs.Outdated.{GivesUp, most_holds, wait_millis}
use Rattle.pk_reader.specs.Reading.{ReadStep}
use Rattle.pk_shell.specs.Asked.{Asked}
use Rattle.pk_shell.specs.Script.{IsReply}

-- milliseconds before and after: on an honest clock it was waited after each try but the first ones,
-- or no more are counted
abbrev pub HasWaited : Type 0 → ℕ → ℕ → Type 0
HasWaited honest before after = honest → min (before + most_holds * wait_millis) full_count ≤ after

-- A QUESTION: a step, and a reason where the disk is told to have failed
pub record IsAsked (honest : Type 0) (asked : List ℕ) (request : Request)
    (outcome : Result Answer Refusal) (now : List ℕ) (count : ℕ) (GaveUp : Type 0) : Type 0 where
  pub step : ReadStep honest asked request outcome now
  pub reason : honest → HasReason asked count GaveUp outcome

-- of a reader
abbrev pub IsRead : Type 0 → (List ℕ → Type 0) → List ℕ → Request → Result Answer Refusal → List ℕ → ℕ
    → Type 0 → Type 0
IsRead honest At asked request outcome now count Waited =
    IsAsked honest asked request outcome now count (GivesUp At asked now Waited)

-- what a line asks, less what changes the store, is answered as a question to a reader whose file has
-- these bytes, of which so many calls failed or were interrupted, and which waits so
abbrev pub ReaderReplies : {S : Type 0} → S → Asked → List ℕ → S → Type 0 → (List ℕ → Type 0)
    → (S → List ℕ) → (S → ℕ) → (S → S → Type 0) → Type 0
ReaderReplies s what reply s' honest At bytes count Waited =
    IsReply
    (λ o request outcome n. IsRead honest At (bytes o) request outcome (bytes n) (count n) (Waited o n))
    s (read_only what) reply s'
