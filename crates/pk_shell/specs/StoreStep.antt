-- The engine that the shell serves: a store, over any disk.
use Rattle.std.specs.Prelude.{Result}
use Rattle.pk_disk.specs.declared.disk.Disk.{Ghosts}
use Rattle.pk_model.specs.Steps.{Request, Answer}
use Rattle.pk_model.specs.declared.commands.Refusal.{Refusal}
use Rattle.pk_store.specs.Steps.{Steps}
use Rattle.pk_store.specs.View.{StoreView}

-- A STEP OF THE STORE: what `Script` and the endings take for their steps
abbrev pub StoreStep : {D : Type 0} → Ghosts D → StoreView D → Request → Result Answer Refusal
    → StoreView D → Type 0
StoreStep = Steps
