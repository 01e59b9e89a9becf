-- Reads write nothing: runs of reads compose, and nothing that a disk holds changes in them.
use Rattle.std.proofs.Common.{◌∙◌, ◌≤◌, ℕ, Bool, List, refl, sym, subst, arith}
use Rattle.pk_disk.specs.Since.{OnlyNew, IsOnlyRead}
use Rattle.pk_disk.proofs.Moments.{none_then, none_only, only_then}

module _ {D : Type 0} (content : D → List ℕ) (is_open : D → ℕ → Bool) (moment : D → ℕ) (images_since : D → ℕ → List ℕ → Type 0) where
  -- no read at all
  pub read_none : (disk : D) → IsOnlyRead content is_open moment images_since disk disk
  read_none disk = record {
    bytes = refl;
    positions = refl;
    images = record { later = omega arith; each = λ t image le since. since };
    known = λ t image le since. since;
  }

  -- one run of reads after another
  pub read_then : (old mid new : D) → IsOnlyRead content is_open moment images_since old mid → IsOnlyRead content is_open moment images_since mid new → IsOnlyRead content is_open moment images_since old new
  read_then old mid new first second = record {
    bytes = second.bytes ∙ first.bytes;
    positions = second.positions ∙ first.positions;
    images = none_then moment images_since old mid new first.images second.images;
    known = λ t image le since. second.known t image (let later : t ≤ moment mid = omega (arith, le, first.images.later) in later) (first.known t image le since);
  }

  -- what holds of the bytes and the open positions still does
  pub after_reads : (old new : D) → IsOnlyRead content is_open moment images_since old new → (P : List ℕ → (ℕ → Bool) → Type 0) → P (content old) (is_open old) → P (content new) (is_open new)
  after_reads old new read P was = subst (λ (bytes : List ℕ). P bytes (is_open new)) (sym read.bytes) (subst (λ (positions : ℕ → Bool). P (content old) positions) (sym read.positions) was)

  -- a run of reads, and then calls whose new images have P
  pub read_then_only : (old mid new : D) (P : List ℕ → Type 0) → IsOnlyRead content is_open moment images_since old mid → OnlyNew moment images_since mid new P → OnlyNew moment images_since old new P
  read_then_only old mid new P read only = only_then moment images_since old mid new P (none_only moment images_since old mid P read.images) only
