-- For callers: what each image of a disk has, and that what is held stays held.
use Rattle.std.proofs.Common.{◌≡◌, ◌⊎◌, inl, inr, ⊎_elim, ℕ, ◌≤◌, Bool, List, refl, sym, ◌∙◌, subst}
use Rattle.pk_disk.specs.declared.disk.Disk.{Ghosts}
use Rattle.pk_disk.specs.Disk.{IsChangedOnly, IsImage, also, nowhere}
use Rattle.pk_disk.specs.Since.{IsOnlyRead, NoneNew, OnlyNew}
use Rattle.pk_disk.proofs.Changes.{image_within, within_left}
use Rattle.pk_disk.proofs.Moments.{images_after, none_only}
use Rattle.pk_disk.proofs.Reading.{after_reads}
use Rattle.pk_manifest.specs.declared.half.Half.{Half}
use Rattle.pk_manifest.specs.Bodies.{IsCurrent, other}
use Rattle.pk_manifest.specs.Firm.{IsFar}
use Rattle.pk_manifest.proofs.Firm.{firm_shut}
use Rattle.pk_manifest.proofs.Far.{after_far, far_body, while_far}
use Rattle.pk_replace.specs.Claims.{Claim, Each, IsThere, IsUntouched}
use Rattle.pk_replace.specs.Held.{Has, IsHeld}
use Rattle.pk_replace.proofs.ClaimLemmas.{all_in, all_still, steady, untouched_nowhere}

module _ (b : List ℕ) (o : ℕ → Bool) (s : Half) (body : List ℕ) (claims : List Claim) (held : IsHeld b o s body claims) where
  -- each image in the course of writes elsewhere has the body and its claims
  pub while_elsewhere : (t : ℕ → Bool) → IsFar t → Each (IsUntouched t) claims → (image : List ℕ) → IsImage b (also o t) image → Has image body claims
  while_elsewhere t far out image is = record {
    half = other s;
    current = subst (IsCurrent image (other s)) held.has_body (while_far b o s held.firm t far image is);
    there = all_in b o t image is claims out held.stands;
  }

  -- and after them they are held
  pub after_elsewhere : (t : ℕ → Bool) → IsFar t → Each (IsUntouched t) claims → (b' : List ℕ) (o' : ℕ → Bool) → IsChangedOnly b o t b' o' → IsHeld b' o' s body claims
  after_elsewhere t far out b' o' changed = record {
    firm = after_far b o s held.firm t far b' o' changed;
    has_body = far_body b o s held.firm t far b' o' changed (other s) ∙ held.has_body;
    stands = all_still b o t b' o' changed claims out held.stands;
  }

  -- each image has what is held
  pub held_has : (image : List ℕ) → IsImage b o image → Has image body claims
  held_has image is = while_elsewhere nowhere (λ p lt. refl) (untouched_nowhere claims) image (image_within b o (also o nowhere) (within_left o nowhere) image is)

  -- so do the bytes themselves
  pub held_now : Has b body claims
  held_now = held_has b (record { size = refl; same = λ p shut. refl })

-- with nothing open, a body in force is held with the claims that are there
pub held_closed : (b : List ℕ) (o : ℕ → Bool) (s : Half) (body : List ℕ) (claims : List Claim) → o ≡ nowhere → IsCurrent b (other s) body → Each (IsThere b) claims → IsHeld b o s body claims
held_closed b o s body claims closed current there = record {
  firm = firm_shut b o s current.in_force closed;
  has_body = current.has_body;
  stands = steady b o closed claims there;
}

module _ {D : Type 0} (d : Ghosts D) (s : Half) (body : List ℕ) (claims : List Claim) (old new : D) (held : IsHeld (d.content old) (d.is_open old) s body claims) where
  -- what is held stays held in a run of reads
  pub held_read : IsOnlyRead d.content d.is_open d.moment d.images_since old new → IsHeld (d.content new) (d.is_open new) s body claims
  held_read read = after_reads d.content d.is_open d.moment d.images_since old new read (λ b o. IsHeld b o s body claims) held

  -- and in a sync
  pub held_synced : d.content new ≡ d.content old → d.is_open new ≡ nowhere → IsHeld (d.content new) (d.is_open new) s body claims
  held_synced same closed =
      let has = held_now (d.content old) (d.is_open old) s body claims held in
      held_closed (d.content new) (d.is_open new) s body claims closed
      (subst (λ (bs : List ℕ). IsCurrent bs (other s) body) (sym same) (record { in_force = held.firm.in_force; has_body = held.has_body }))
      (subst (λ (bs : List ℕ). Each (IsThere bs) claims) (sym same) has.there)

  module _ (counts_now : (x : D) (t : ℕ) (image : List ℕ) → t ≤ d.moment x → IsImage (d.content x) (d.is_open x) image → d.images_since x t image)
      (only_now : (x : D) (image : List ℕ) → d.images_since x (d.moment x) image → IsImage (d.content x) (d.is_open x) image) where
    -- after calls whose new images have P, each image has what was held or P
    pub images_left : (P : List ℕ → Type 0) → OnlyNew d.moment d.images_since old new P → (image : List ℕ) → IsImage (d.content new) (d.is_open new) image → Has image body claims ⊎ P image
    images_left P only image is = ⊎_elim (λ was. inl (held_has (d.content old) (d.is_open old) s body claims held image was)) (λ now. inr now)
        (images_after d.moment d.images_since d.content d.is_open counts_now only_now old new P only image is)

    -- after calls with no new image, each image has what was held
    pub none_left : NoneNew d.moment d.images_since old new → (image : List ℕ) → IsImage (d.content new) (d.is_open new) image → Has image body claims
    none_left none image is = ⊎_elim (λ has. has) (λ has. has) (images_left (λ image. Has image body claims) (none_only d.moment d.images_since old new _ none) image is)

    -- after a replacement, whatever it answered, each image has the old body or the new one
    pub replaced_left : (body' : List ℕ) (claims' : List Claim) → OnlyNew d.moment d.images_since old new (λ image. Has image body claims ⊎ Has image body' claims') → (image : List ℕ) → IsImage (d.content new) (d.is_open new) image → Has image body claims ⊎ Has image body' claims'
    replaced_left body' claims' only image is = ⊎_elim (λ has. inl has) (λ now. now) (images_left (λ image. Has image body claims ⊎ Has image body' claims') only image is)
