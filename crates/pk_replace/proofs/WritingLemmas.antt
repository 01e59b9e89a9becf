-- Runs of calls write what each of them writes.
use Rattle.std.proofs.Common.{◌≡◌, ◌≤◌, ℕ, ◌+◌, Bool, List, length, get_or, refl, ◌∙◌, ap}
use Rattle.pk_disk.specs.declared.disk.Disk.{Ghosts}
use Rattle.pk_disk.specs.Disk.{IsChangedOnly, IsImage, IsPartWritten, also, in_range, opened, written}
use Rattle.pk_disk.specs.Since.{IsOnlyRead, OnlyNew}
use Rattle.pk_disk.proofs.Changes.{IsWithin, changed_by, changed_then, changed_within, image_then, image_within}
use Rattle.pk_disk.proofs.Moments.{none_only, only_then, weaker}
use Rattle.pk_disk.proofs.Ranges.{opened_false, or_both, or_left, or_right}
use Rattle.pk_disk.proofs.Reading.{read_none}
use Rattle.pk_replace.specs.Writing.{WritesOnly}

-- a write that failed changed its range alone
changed_part : (b : List ℕ) (o : ℕ → Bool) (at n : ℕ) (b' : List ℕ) (o' : ℕ → Bool) → IsPartWritten b o at n b' o' → IsChangedOnly b o (in_range at n) b' o'
changed_part b o at n b' o' part = record { size = part.size; same = part.same; shut = λ p out shut. part.within p (opened_false o at n p shut out) }

module _ {D : Type 0} (d : Ghosts D) where
  -- reads write nothing
  pub reads_only : (touched : ℕ → Bool) (old new : D) → (d.honest → IsOnlyRead d.content d.is_open d.moment d.images_since old new) → length (d.content new) ≡ length (d.content old) → WritesOnly d touched old new
  reads_only touched old new read size = record {
    images = λ h. none_only d.moment d.images_since old new _ (read h).images;
    changed = λ h. record {
      size = ap length (read h).bytes;
      same = λ p out. same_at p (read h).bytes;
      shut = λ p out shut. (λ i. (read h).positions i p) ∙ shut;
    };
    size = size;
  }
    where
      same_at : (p : ℕ) → d.content new ≡ d.content old → get_or (d.content new) p 0 ≡ get_or (d.content old) p 0
      same_at p bytes = ap (λ (bs : List ℕ). get_or bs p 0) bytes

  pub writes_none : (touched : ℕ → Bool) (disk : D) → WritesOnly d touched disk disk
  writes_none touched disk = reads_only touched disk disk (λ h. read_none d.content d.is_open d.moment d.images_since disk) refl

  -- at more positions, too
  pub writes_within : (touched whole : ℕ → Bool) → IsWithin touched whole → (old new : D) → WritesOnly d touched old new → WritesOnly d whole old new
  writes_within touched whole within old new writes = record {
    images = λ h. weaker d.moment d.images_since old new _ _ (λ image is. image_within (d.content old) (also (d.is_open old) touched) (also (d.is_open old) whole)
        (λ p out. or_both (d.is_open old p) (touched p) (or_left (d.is_open old p) (whole p) out) (within p (or_right (d.is_open old p) (whole p) out))) image is) (writes.images h);
    changed = λ h. changed_within (d.content old) (d.is_open old) touched (d.content new) (d.is_open new) (writes.changed h) whole within;
    size = writes.size;
  }

  -- one run after another
  pub writes_then : (first more whole : ℕ → Bool) → IsWithin first whole → IsWithin more whole → (old mid new : D) → WritesOnly d first old mid → WritesOnly d more mid new → WritesOnly d whole old new
  writes_then first more whole in_first in_more old mid new one two = record {
    images = λ h. only_then d.moment d.images_since old mid new _ ((writes_within first whole in_first old mid one).images h)
        (weaker d.moment d.images_since mid new _ _ (λ image is. image_then (d.content old) (d.is_open old) first (d.content mid) (d.is_open mid) (one.changed h) more whole in_first in_more image is) (two.images h));
    changed = λ h. changed_then (d.content old) (d.is_open old) first (d.content mid) (d.is_open mid) (one.changed h) more whole in_first in_more (d.content new) (d.is_open new) (two.changed h);
    size = two.size ∙ one.size;
  }

  -- a write, and a write that failed
  module _ (at : ℕ) (bytes : List ℕ) (old new : D)
      (images : d.honest → OnlyNew d.moment d.images_since old new (IsImage (d.content old) (opened (d.is_open old) at (length bytes))))
      (size : length (d.content new) ≡ length (d.content old)) where
    pub wrote : at + length bytes ≤ length (d.content old) → (d.honest → d.content new ≡ written (d.content old) at bytes) → (d.honest → d.is_open new ≡ opened (d.is_open old) at (length bytes)) → WritesOnly d (in_range at (length bytes)) old new
    wrote fits is opens = record {
      images = images;
      changed = λ h. changed_by (d.content old) (d.is_open old) at bytes fits (d.content new) (d.is_open new) (is h) (opens h);
      size = size;
    }

    pub wrote_part : (d.honest → IsPartWritten (d.content old) (d.is_open old) at (length bytes) (d.content new) (d.is_open new)) → WritesOnly d (in_range at (length bytes)) old new
    wrote_part part = record {
      images = images;
      changed = λ h. changed_part (d.content old) (d.is_open old) at (length bytes) (d.content new) (d.is_open new) (part h);
      size = size;
    }
