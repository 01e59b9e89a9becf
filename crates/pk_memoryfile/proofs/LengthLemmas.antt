-- Bytes that got a longer length, and their images.
use Rattle.std.proofs.Common.{◌≡◌, ◌∙◌, ℕ, ◌≤◌, ◌++◌, Bool, List, length, take, replicate, ap, refl, subst, sym}
use Rattle.std.proofs.lemmas.List.{take-take}
use Rattle.std.proofs.Math.Seq.{take-append_seam}
use Rattle.pk_disk.specs.Disk.{IsImage, nowhere}
use Rattle.pk_disk.proofs.Images.{closed_image}
use Rattle.pk_filedisk.specs.Raw.{IsExtended}
use Rattle.pk_filedisk.specs.Resized.{resized, resized_is}

-- longer bytes begin with those of before
pub start_resized : (n : ℕ) (bytes now : List ℕ) → length bytes ≤ n → now ≡ resized n bytes → take (length bytes) now ≡ bytes
start_resized n bytes now long is =
    ap (λ (l : List ℕ). take (length bytes) l) (is ∙ resized_is n bytes)
    ∙ take-take (length bytes) n (bytes ++ replicate n 0) long ∙ take-append_seam bytes (replicate n 0)

-- and with nothing open, so does their image
pub extended_whole : (n : ℕ) (bytes now image : List ℕ) (is_open : ℕ → Bool) → length bytes ≤ n → now ≡ resized n bytes → IsImage now nowhere image → IsExtended bytes is_open image
extended_whole n bytes now image is_open long is image_is =
    let same : take (length bytes) image ≡ bytes = ap (λ (l : List ℕ). take (length bytes) l) (closed_image now image image_is) ∙ start_resized n bytes now long is in
    subst (λ (l : List ℕ). IsImage bytes is_open l) (sym same) (record { size = refl; same = λ p shut. refl })
