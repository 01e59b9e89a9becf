-- The images since a moment, and what a call adds to them.
use Rattle.std.specs.Prelude.{◌≡◌, ◌⊎◌, ◌≤◌, Bool, ℕ, List}

-- Each image since a moment of the old state is one from before, or has P.
pub record OnlyNew {D : Type 0} (moment : D → ℕ) (images_since : D → ℕ → List ℕ → Type 0)
    (old new : D) (P : List ℕ → Type 0) : Type 0 where
  pub later : moment old ≤ moment new
  pub each : (t : ℕ) (image : List ℕ) → t ≤ moment old → images_since new t image
      → images_since old t image ⊎ P image

-- No image came between two states of a disk.
pub record NoneNew {D : Type 0} (moment : D → ℕ) (images_since : D → ℕ → List ℕ → Type 0)
    (old new : D) : Type 0 where
  pub later : moment old ≤ moment new
  pub each : (t : ℕ) (image : List ℕ) → t ≤ moment old → images_since new t image
      → images_since old t image

-- What was an image since a moment stays one.
abbrev pub StayKnown : {D : Type 0} → (D → ℕ) → (D → ℕ → List ℕ → Type 0) → D → D → Type 0
StayKnown {D} moment images_since old new =
    (t : ℕ) (image : List ℕ) → t ≤ moment old → images_since old t image → images_since new t image

-- A run of reads leaves the bytes, the open positions and the images as they are.
pub record IsOnlyRead {D : Type 0} (content : D → List ℕ) (is_open : D → ℕ → Bool)
    (moment : D → ℕ) (images_since : D → ℕ → List ℕ → Type 0) (old new : D) : Type 0 where
  pub bytes : content new ≡ content old
  pub positions : is_open new ≡ is_open old
  pub images : NoneNew moment images_since old new
  pub known : StayKnown moment images_since old new
