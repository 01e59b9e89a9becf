-- Changes at sets of positions: how they compose, what they leave alone, and what a write changes.
use Rattle.std.proofs.Common.{◌≡◌, ℕ, ◌+◌, ◌<◌, ◌≤◌, Bool, false, List, length, get_or, take, drop, refl, ◌∙◌, ap}
use Rattle.pk_disk.specs.Disk.{IsImage, IsImageBut, IsChangedOnly, also, in_range, opened, nowhere, written}
use Rattle.pk_disk.proofs.Ranges.{or_left, or_right, or_both, length-written, written_other, middle_written}
use Rattle.pk_disk.proofs.Images.{same_part}

-- these positions are among those
abbrev pub IsWithin : (ℕ → Bool) → (ℕ → Bool) → Type 0
IsWithin inner outer = (p : ℕ) → outer p ≡ false → inner p ≡ false

-- each of the n positions from at on is left alone
abbrev pub IsClear : (ℕ → Bool) → ℕ → ℕ → Type 0
IsClear touched at n = (p : ℕ) → at ≤ p → p < at + n → touched p ≡ false

pub within_left : (a b : ℕ → Bool) → IsWithin a (also a b)
within_left a b p out = or_left (a p) (b p) out

pub within_right : (a b : ℕ → Bool) → IsWithin b (also a b)
within_right a b p out = or_right (a p) (b p) out

-- nothing changed
pub changed_none : (bytes : List ℕ) (is_open touched : ℕ → Bool) → IsChangedOnly bytes is_open touched bytes is_open
changed_none bytes is_open touched = record { size = refl; same = λ p out. refl; shut = λ p out shut. shut }

-- an image is one of a wider set of open positions, too
pub image_within : (bytes : List ℕ) (inner outer : ℕ → Bool) → IsWithin inner outer → (image : List ℕ) → IsImage bytes inner image → IsImage bytes outer image
image_within bytes inner outer within image is = record { size = is.size; same = λ p out. is.same p (within p out) }

-- an image but for a range, as one in the course of any change that has the range in it
pub image_of_but : (bytes : List ℕ) (is_open : ℕ → Bool) (at n : ℕ) (touched : ℕ → Bool) → IsWithin (in_range at n) touched → (image : List ℕ) → IsImageBut bytes is_open at n image → IsImage bytes (also is_open touched) image
image_of_but bytes is_open at n touched within image but = record {
  size = but.size ∙ but.is_image.size;
  same = λ p out. but.same p (within p (or_right (is_open p) (touched p) out)) ∙ but.is_image.same p (or_left (is_open p) (touched p) out);
}

module _ (bytes : List ℕ) (is_open touched : ℕ → Bool) (bytes' : List ℕ) (is_open' : ℕ → Bool) (changed : IsChangedOnly bytes is_open touched bytes' is_open') where
  -- a change is one at more positions, too
  pub changed_within : (whole : ℕ → Bool) → IsWithin touched whole → IsChangedOnly bytes is_open whole bytes' is_open'
  changed_within whole within = record {
    size = changed.size;
    same = λ p out. changed.same p (within p out);
    shut = λ p out shut. changed.shut p (within p out) shut;
  }

  -- an image in the course of a later change
  pub image_then : (more whole : ℕ → Bool) → IsWithin touched whole → IsWithin more whole → (image : List ℕ) → IsImage bytes' (also is_open' more) image → IsImage bytes (also is_open whole) image
  image_then more whole first second image is = record {
    size = is.size ∙ changed.size;
    same = λ p h.
        let out = or_right (is_open p) (whole p) h in
        is.same p (or_both (is_open' p) (more p) (changed.shut p (first p out) (or_left (is_open p) (whole p) h)) (second p out)) ∙ changed.same p (first p out);
  }

  -- one change after another
  pub changed_then : (more whole : ℕ → Bool) → IsWithin touched whole → IsWithin more whole → (bytes'' : List ℕ) (is_open'' : ℕ → Bool) → IsChangedOnly bytes' is_open' more bytes'' is_open'' → IsChangedOnly bytes is_open whole bytes'' is_open''
  changed_then more whole first second bytes'' is_open'' next = record {
    size = next.size ∙ changed.size;
    same = λ p out. next.same p (second p out) ∙ changed.same p (first p out);
    shut = λ p out shut. next.shut p (second p out) (changed.shut p (first p out) shut);
  }

  -- a part that the change leaves alone
  pub part_left : (at n : ℕ) → IsClear touched at n → take n (drop at bytes') ≡ take n (drop at bytes)
  part_left at n clear = same_part bytes' bytes at n changed.size (λ p le lt. changed.same p (clear p le lt))

  -- a part without open positions stays one
  pub stable_left : (at n : ℕ) → IsClear touched at n → IsClear is_open at n → IsClear is_open' at n
  stable_left at n clear stable p le lt = changed.shut p (clear p le lt) (stable p le lt)

-- a part that stands in each image of a change that leaves it alone
pub part_in : (bytes : List ℕ) (is_open touched : ℕ → Bool) (image : List ℕ) → IsImage bytes (also is_open touched) image → (at n : ℕ) → IsClear is_open at n → IsClear touched at n → take n (drop at image) ≡ take n (drop at bytes)
part_in bytes is_open touched image is at n stable clear =
    same_part image bytes at n is.size (λ p le lt. is.same p (or_both (is_open p) (touched p) (stable p le lt) (clear p le lt)))

-- a write changes its range alone
pub changed_by : (bytes : List ℕ) (is_open : ℕ → Bool) (at : ℕ) (new : List ℕ) → at + length new ≤ length bytes → (bytes' : List ℕ) (is_open' : ℕ → Bool) → bytes' ≡ written bytes at new → is_open' ≡ opened is_open at (length new) → IsChangedOnly bytes is_open (in_range at (length new)) bytes' is_open'
changed_by bytes is_open at new fits bytes' is_open' same_bytes same_open = record {
  size = ap length same_bytes ∙ length-written bytes at new fits;
  same = λ p out. ap (λ (bs : List ℕ). get_or bs p 0) same_bytes ∙ written_other bytes at new fits p out;
  shut = λ p out shut. (λ i. same_open i p) ∙ or_both (is_open p) (in_range at (length new) p) shut out;
}

-- so does a write and a sync
pub changed_synced : (bytes : List ℕ) (is_open : ℕ → Bool) (at : ℕ) (new : List ℕ) → at + length new ≤ length bytes → (bytes' : List ℕ) (is_open' : ℕ → Bool) → bytes' ≡ written bytes at new → is_open' ≡ nowhere → IsChangedOnly bytes is_open (in_range at (length new)) bytes' is_open'
changed_synced bytes is_open at new fits bytes' is_open' same_bytes closed = record {
  size = ap length same_bytes ∙ length-written bytes at new fits;
  same = λ p out. ap (λ (bs : List ℕ). get_or bs p 0) same_bytes ∙ written_other bytes at new fits p out;
  shut = λ p out shut. λ i. closed i p;
}

-- and what it wrote is there
pub there_by : (bytes : List ℕ) (at : ℕ) (new : List ℕ) → at + length new ≤ length bytes → (bytes' : List ℕ) → bytes' ≡ written bytes at new → take (length new) (drop at bytes') ≡ new
there_by bytes at new fits bytes' same_bytes = ap (λ (bs : List ℕ). take (length new) (drop at bs)) same_bytes ∙ middle_written bytes at new fits
