-- What a write leaves, whatever it answered.
use Rattle.std.proofs.Common.{◌≡◌, ◌+◌, ◌≤◌, Bool, ℕ, List, length, get_or, refl, ◌∙◌, ap, Result, Ok, Err, OnOk, OnErr}
use Rattle.pk_disk.specs.Disk.{IsPartWritten, in_range, written}
use Rattle.pk_disk.proofs.Ranges.{length-written, written_other}
use Rattle.pk_manifest.specs.Written.{DiffersIn}

pub differs_here : (t : ℕ → Bool) (bytes : List ℕ) → DiffersIn t bytes bytes
differs_here t bytes = record { size = refl; same = λ p out. refl }

-- one that succeeded
pub differs_written : (old new : List ℕ) (at : ℕ) (part : List ℕ) → at + length part ≤ length old → new ≡ written old at part → DiffersIn (in_range at (length part)) old new
differs_written old new at part room wrote = record {
  size = ap length wrote ∙ length-written old at part room;
  same = λ p out. ap (λ (l : List ℕ). get_or l p 0) wrote ∙ written_other old at part room p out;
}

-- and one that failed
pub differs_part : (old new : List ℕ) (o o' : ℕ → Bool) (at n : ℕ) → IsPartWritten old o at n new o' → DiffersIn (in_range at n) old new
differs_part old new o o' at n part = record { size = part.size; same = part.same }

pub differs_by : {T E : Type 0} (r : Result T E) (old new : List ℕ) (o o' : ℕ → Bool) (at : ℕ) (part : List ℕ) → at + length part ≤ length old
    → OnOk r (new ≡ written old at part) → OnErr r (IsPartWritten old o at (length part) new o') → DiffersIn (in_range at (length part)) old new
differs_by (Ok v) old new o o' at part room wrote failed = differs_written old new at part room wrote
differs_by (Err e) old new o o' at part room wrote failed = differs_part old new o o' at (length part) failed
