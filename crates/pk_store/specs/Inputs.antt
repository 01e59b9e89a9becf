-- Which entries those are whose segments a merge reads, and where they lie.
use Rattle.std.specs.Prelude.{◌≡◌, ◌⊎◌, ◌≤◌, ◌+◌, ℕ, List, [], ◌∷◌}
use Rattle.pk_disk.specs.Units.{start_of}
use Rattle.pk_join.specs.declared.input.MergeInput.{MergeInput}
use Rattle.pk_manifest.specs.declared.manifest.Part.{Part as Entry}

-- the entry's extent has no position of a stretch
abbrev pub EntryApart : ℕ → ℕ → Entry → Type 0
EntryApart start end e =
    (start_of e.extent + e.extent.bytes ≤ start) ⊎ (end ≤ start_of e.extent)

-- the entry's extent begins at a place at the earliest
abbrev pub BeginsFrom : ℕ → Entry → Type 0
BeginsFrom least e = least ≤ start_of e.extent

-- each input has the extent and the kind of the entry at its place
abbrev pub AreOf : List MergeInput → List Entry → Type 0
AreOf [] [] = Unit {0}
AreOf [] (e ∷ es) = ⊥
AreOf (i ∷ is) [] = ⊥
AreOf (i ∷ is) (e ∷ es) = (i.extent ≡ e.extent) × (i.kind ≡ e.kind) × AreOf is es
