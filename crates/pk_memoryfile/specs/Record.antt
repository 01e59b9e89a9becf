-- The images of a file in memory, by its record of calls, the newest first.
use Rattle.std.specs.Prelude.{◌⊎◌, ◌-◌, ◌≤◌, Bool, false, ℕ, zero, suc, List, [], ◌∷◌, length, reverse}
use mathlib.Core.Logic.{inl, inr}
use Rattle.std.proofs.Common.{arith, subst}
use Rattle.std.proofs.Math.Nat.{sub_self}
use Rattle.pk_disk.specs.Disk.{IsImage, opened, written}
use Rattle.pk_memoryfile.specs.declared.record.Call.{Call}
use Rattle.pk_memoryfile.specs.declared.record.Call.TheVariants.{SetLen, Sync, Write}
use Rattle.pk_memoryfile.specs.declared.record.Recorded.{Recorded}

-- the positions that these calls left open; a new length leaves none
abbrev pub open_after : List Call → ℕ → Bool
open_after [] p = false
open_after (Sync ∷ older) p = false
open_after (SetLen before ∷ older) p = false
open_after (Write at before ∷ older) p = opened (open_after older) at (length before.items) p

-- the bytes from before a call
abbrev pub undone : Call → List ℕ → List ℕ
undone Sync bytes = bytes
undone (SetLen before) bytes = before.items
undone (Write at before) bytes = written bytes at before.items

-- an image now, or before one of the last n calls
abbrev pub ImageBack : ℕ → List Call → List ℕ → List ℕ → Type 0
ImageBack zero calls bytes image = IsImage bytes (open_after calls) image
ImageBack (suc n) [] bytes image = IsImage bytes (open_after []) image
ImageBack (suc n) (call ∷ older) bytes image =
    IsImage bytes (open_after (call ∷ older)) image ⊎ ImageBack n older (undone call bytes) image

-- of bytes with their record: the open positions, the moment, and the images since one
abbrev pub open_in : Recorded → ℕ → Bool
open_in r = open_after (reverse r.calls.items)

abbrev pub moment_of : Recorded → ℕ
moment_of r = length r.calls.items

abbrev pub ImageSince : Recorded → ℕ → List ℕ → Type 0
ImageSince r t image =
    ImageBack (length r.calls.items - t) (reverse r.calls.items) r.bytes.items image

-- what is an image now is one of these
pub image_now : (n : ℕ) (calls : List Call) (bytes image : List ℕ)
    → IsImage bytes (open_after calls) image → ImageBack n calls bytes image
image_now zero calls bytes image now = now
image_now (suc n) [] bytes image now = now
image_now (suc n) (call ∷ older) bytes image now = inl now

-- since the last call there is no other
pub only_image_now : (n : ℕ) (calls : List Call) (bytes image : List ℕ)
    → ImageBack (n - n) calls bytes image → IsImage bytes (open_after calls) image
only_image_now n calls bytes image since =
    subst (λ (k : ℕ). ImageBack k calls bytes image) (sub_self n) since

-- a later moment has no more calls behind it
pub fewer_left : (n t u : ℕ) → t ≤ u → n - u ≤ n - t
fewer_left n t u le = omega (arith, le)

-- an image before one of the last few calls is one before one of more
pub image_before : (few more : ℕ) (calls : List Call) (bytes image : List ℕ) → few ≤ more
    → ImageBack few calls bytes image → ImageBack more calls bytes image
image_before zero more calls bytes image le was = image_now more calls bytes image was
image_before (suc few) zero calls bytes image le was = absurd (omega (arith, le))
image_before (suc few) (suc more) [] bytes image le was = was
image_before (suc few) (suc more) (call ∷ older) bytes image le (inl now) = inl now
image_before (suc few) (suc more) (call ∷ older) bytes image le (inr was) =
    inr (image_before few more older (undone call bytes) image (omega (arith, le)) was)
