-- Composing "each image since": over calls that follow one another, and what each image is at the end.
use Rattle.std.proofs.Common.{◌⊎◌, inl, inr, ⊎_elim, ℕ, ◌≤◌, Bool, List, arith}
use Rattle.pk_disk.specs.Disk.{IsImage}
use Rattle.pk_disk.specs.Since.{OnlyNew, NoneNew}

module _ {D : Type 0} (moment : D → ℕ) (images_since : D → ℕ → List ℕ → Type 0) where
  -- where none is new, what is new has whatever is asked
  pub none_only : (old new : D) (P : List ℕ → Type 0) → NoneNew moment images_since old new → OnlyNew moment images_since old new P
  none_only old new P none = record { later = none.later; each = λ t image le since. inl (none.each t image le since) }

  pub none_then : (old mid new : D) → NoneNew moment images_since old mid → NoneNew moment images_since mid new → NoneNew moment images_since old new
  none_then old mid new first second = record {
    later = omega (arith, first.later, second.later);
    each = λ t image le since. first.each t image le (second.each t image (omega (arith, le, first.later)) since);
  }

  -- one run after another
  pub only_then : (old mid new : D) (P : List ℕ → Type 0) → OnlyNew moment images_since old mid P → OnlyNew moment images_since mid new P → OnlyNew moment images_since old new P
  only_then old mid new P first second = record {
    later = omega (arith, first.later, second.later);
    each = λ t image le since. ⊎_elim (first.each t image le) (λ now. inr now) (second.each t image (omega (arith, le, first.later)) since);
  }

  pub only_none : (old mid new : D) (P : List ℕ → Type 0) → OnlyNew moment images_since old mid P → NoneNew moment images_since mid new → OnlyNew moment images_since old new P
  only_none old mid new P first second = only_then old mid new P first (none_only mid new P second)

  pub none_then_only : (old mid new : D) (P : List ℕ → Type 0) → NoneNew moment images_since old mid → OnlyNew moment images_since mid new P → OnlyNew moment images_since old new P
  none_then_only old mid new P first second = only_then old mid new P (none_only old mid P first) second

  pub weaker : (old new : D) (P Q : List ℕ → Type 0) → ((image : List ℕ) → P image → Q image) → OnlyNew moment images_since old new P → OnlyNew moment images_since old new Q
  weaker old new P Q f only = record { later = only.later; each = λ t image le since. ⊎_elim (λ before. inl before) (λ now. inr (f image now)) (only.each t image le since) }

  -- what is new has both
  pub both_new : (old new : D) (P Q : List ℕ → Type 0) → OnlyNew moment images_since old new P → OnlyNew moment images_since old new Q → OnlyNew moment images_since old new (λ image. P image × Q image)
  both_new old new P Q first second = record {
    later = first.later;
    each = λ t image le since. ⊎_elim (λ before. inl before) (λ p. ⊎_elim (λ before. inl before) (λ q. inr (p, q)) (second.each t image le since)) (first.each t image le since);
  }

-- each image after a run was there before it, or is new
module _ {D : Type 0} (moment : D → ℕ) (images_since : D → ℕ → List ℕ → Type 0) (content : D → List ℕ) (is_open : D → ℕ → Bool)
    (counts_now : (d : D) (t : ℕ) (image : List ℕ) → t ≤ moment d → IsImage (content d) (is_open d) image → images_since d t image)
    (only_now : (d : D) (image : List ℕ) → images_since d (moment d) image → IsImage (content d) (is_open d) image) where
  pub images_after : (old new : D) (P : List ℕ → Type 0) → OnlyNew moment images_since old new P → (image : List ℕ) → IsImage (content new) (is_open new) image → IsImage (content old) (is_open old) image ⊎ P image
  images_after old new P only image is = ⊎_elim (λ since. inl (only_now old image since)) (λ p. inr p) (only.each (moment old) image (omega arith) (counts_now new (moment old) image only.later is))
