-- What the bytes of the inputs say of their words, whatever they are.
use Rattle.std.specs.Prelude.{◌≡◌, ℕ, List, [], ◌∷◌, All, Option, Some, None, Result, Ok, Err}
use Rattle.pk_disk.specs.Units.{extent_bytes}
use Rattle.pk_join.specs.declared.input.MergeInput.{MergeInput}
use Rattle.pk_join.specs.Listed.{ListSource}
use Rattle.pk_join.specs.Said.{AreSaidIn}
use Rattle.pk_join.specs.WholeLists.{ListsAreWhole}
use Rattle.pk_merge.specs.declared.fault.MergeFault.{MergeFault}
use Rattle.pk_merge.specs.declared.prepared.Prepared.{Prepared}

-- the words of each input, with their lists, lie where the bytes of its extent say
abbrev pub AreAllSaid : List ℕ → List MergeInput → List ListSource → Type 0
AreAllSaid bytes [] [] = Unit {0}
AreAllSaid bytes [] (l ∷ ls) = ⊥
AreAllSaid bytes (i ∷ is) [] = ⊥
AreAllSaid bytes (i ∷ is) (l ∷ ls) =
    AreSaidIn (extent_bytes bytes i.extent) i.kind l × AreAllSaid bytes is ls

-- the lists that an input of kind 2 names are whole in its extent
abbrev pub NamesWhole : List ℕ → MergeInput → Type 0
NamesWhole bytes i = i.kind ≡ 2 → ListsAreWhole (extent_bytes bytes i.extent)

-- so it is of each input, where documents are left
abbrev pub NameWhole : List ℕ → List MergeInput → Result (Option Prepared) MergeFault → Type 0
NameWhole bytes inputs (Ok None) = Unit {0}
NameWhole bytes inputs (Ok (Some p)) = All (NamesWhole bytes) inputs
NameWhole bytes inputs (Err fault) = Unit {0}
