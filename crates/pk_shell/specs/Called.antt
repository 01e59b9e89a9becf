-- What the lines of a session asked of the store, as calls of it, and what they leave on its disk.
use Rattle.std.specs.Prelude.{◌≡◌, ℕ, List, [], ◌∷◌, ◌++◌, Option, Result}
use Rattle.pk_disk.specs.declared.disk.Disk.{Ghosts}
use Rattle.pk_model.specs.Steps.{Request, Answer}
use Rattle.pk_model.specs.declared.commands.Refusal.{Refusal}
use Rattle.pk_shell.specs.Script.{Ends}
use Rattle.pk_shell.specs.StoreStep.{StoreStep}
use Rattle.pk_shell.specs.declared.ending.Ended.{Ended}
use Rattle.pk_shell.specs.declared.ending.ShellFault.{ShellFault}
use Rattle.pk_state.specs.Legal.{State}
use Rattle.pk_store.specs.Calls.{AreCalls, Call, LeavePrefixes, store_after}
use Rattle.pk_store.specs.View.{Means, StoreView}

-- A CALL MORE, of a store that was so at first: the engine is what was called so far.
abbrev pub CallStep : {D : Type 0} → Ghosts D → StoreView D → List (Call D) → Request
    → Result Answer Refusal → List (Call D) → Type 0
CallStep {D} d old calls request reply calls' =
    (store : StoreView D) × StoreStep d (store_after old calls) request reply store
    × (calls' ≡ calls ++ record { request = request; reply = reply; store = store } ∷ [])

-- THE SHELL'S THEOREM BY CALLS: how it ends, each line that asks the store being the next call. On
-- an honest disk the calls leave prefixes, whatever state the store meant.
pub record EndsByCalls {D : Type 0} (d : Ghosts D) (old : StoreView D)
    (r r' w w' : Option (List ℕ)) (result : Result Ended ShellFault) (new : StoreView D)
    : Type 0 where
  pub calls : List (Call D)
  pub are : AreCalls d old calls
  pub last : store_after old calls ≡ new
  pub ends : Ends (CallStep d old) [] r r' w w' result calls
  pub leave : d.honest → (state : State) → Means d old state → LeavePrefixes d old state calls
