-- Where several lengths lie, one after the other, and when one of them finds no room.
use Rattle.std.specs.Prelude.{◌≡◌, ◌⊎◌, ℕ, List, [], ◌∷◌}
use Rattle.pk_disk.specs.Units.{IsFitted, units_for}
use Rattle.pk_disk.specs.declared.units.Extent.{Extent}
use Rattle.pk_space.specs.Free.{IsFirstFit, IsFullAt, free_at}

-- so many bytes lie in the extent: the first run that fits, beside the extents that are taken
pub record IsPlacedIn (units : ℕ) (taken : List Extent) (bytes : ℕ) (e : Extent) : Type 0 where
  pub long : e.bytes ≡ bytes
  pub fitted : IsFitted e
  pub first : IsFirstFit (free_at units taken) e.units e.first

-- each length gets the first run that fits beside what is taken and what was placed before it
abbrev pub PlacedAs : ℕ → List Extent → List ℕ → List Extent → Type 0
PlacedAs units taken [] [] = Unit {0}
PlacedAs units taken (bytes ∷ lengths) (e ∷ extents) =
    IsPlacedIn units taken bytes e × PlacedAs units (e ∷ taken) lengths extents
PlacedAs units taken [] (e ∷ extents) = ⊥
PlacedAs units taken (bytes ∷ lengths) [] = ⊥

-- the first length that has no run gives the units that it needs and those of the longest run
abbrev pub FullAs : ℕ → List Extent → List ℕ → ℕ → ℕ → Type 0
FullAs units taken [] need largest = ⊥
FullAs units taken (bytes ∷ lengths) need largest =
    ((need ≡ units_for bytes) × IsFullAt (free_at units taken) need largest)
    ⊎ ((e : Extent) × IsPlacedIn units taken bytes e
    × FullAs units (e ∷ taken) lengths need largest)
