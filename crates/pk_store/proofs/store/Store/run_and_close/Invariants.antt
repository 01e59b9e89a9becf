-- The calls so far are those of the commands so far.
use Rattle.std.proofs.Common.{◌≡◌, List, map, take}
use Rattle.pk_model.specs.Views.{request_of}
use Rattle.pk_store.specs.Calls.{AreCalls, Call, requests_in, store_after}
use Rattle.pk_store.proofs.store.Store.run_and_close.Given as goal

abbrev pub invariant-commands : goal.invariant-commands
invariant-commands g l =
    (calls : List (Call g.row.D.Denot)) × AreCalls g.D.Disk l.fn.self calls
    × (requests_in calls ≡ map request_of (take l.command-index l.commands)) × (store_after l.fn.self calls ≡ l.self)
