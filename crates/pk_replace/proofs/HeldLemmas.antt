-- What the images in the course of a replacement have.
use Rattle.std.proofs.Common.{◌≡◌, length, ◌⊎◌, inl, inr, ⊎_elim, ℕ, Bool, List, [], ◌∷◌, Some, sym, ◌∙◌, ap, subst}
use Rattle.pk_disk.specs.declared.disk.Disk.{Ghosts}
use Rattle.pk_disk.specs.Disk.{IsChangedOnly, nowhere}
use Rattle.pk_disk.specs.Since.{OnlyNew, IsOnlyRead}
use Rattle.pk_disk.proofs.Moments.{weaker}
use Rattle.pk_disk.proofs.Reading.{after_reads, read_then_only}
use Rattle.pk_manifest.specs.declared.half.Half.{Half}
use Rattle.pk_manifest.specs.Bodies.{IsCurrent, body_of, other}
use Rattle.pk_manifest.specs.Firm.{IsShut}
use Rattle.pk_manifest.proofs.Firm.{firm_shut, other_other}
use Rattle.pk_replace.specs.Claims.{Claim, Each, IsAmong, IsBehind, IsThere, IsUntouched, Stands}
use Rattle.pk_replace.specs.Course.{IsAfter, IsBefore, touched_by}
use Rattle.pk_replace.specs.Held.{Has, IsHeld, IsNext}
use Rattle.pk_replace.proofs.ClaimLemmas.{all_in, all_still, of_among, steady, untouched_there}

module _ (b : List ℕ) (o : ℕ → Bool) (s : Half) (t : ℕ → Bool) (old_body : List ℕ) (claims : List Claim) (held : IsHeld b o s old_body claims) where
  -- before: the old body with its claims
  pub before_has : Each (IsUntouched (touched_by s t)) claims → (image : List ℕ) → IsBefore b o s t image → Has image old_body claims
  before_has out image is = record {
    half = other s;
    current = subst (IsCurrent image (other s)) held.has_body is.current;
    there = all_in b o (touched_by s t) image is.is_image claims out held.stands;
  }

  -- and where the writer stopped they are held
  pub still_held : Each (IsUntouched (touched_by s t)) claims → (b' : List ℕ) (o' : ℕ → Bool) → IsShut b' o' s (body_of b (other s)) → IsChangedOnly b o (touched_by s t) b' o' → IsHeld b' o' s old_body claims
  still_held out b' o' shut changed = record {
    firm = shut.firm;
    has_body = shut.body_is ∙ held.has_body;
    stands = all_still b o (touched_by s t) b' o' changed claims out held.stands;
  }

  module _ (P : Claim → Type 0) (new_claims : List Claim) (next : IsNext s t P claims new_claims) (body : List ℕ) (image : List ℕ) (is : IsAfter b s body t P image) where
    one : (c : Claim) → IsAmong c claims ⊎ (P c × IsBehind c) → IsThere image c
    one c among = ⊎_elim
        (λ old. untouched_there b (touched_by s t) image is.is_image c (of_among (IsUntouched (touched_by s t)) c claims old next.untouched) (of_among (Stands b o) c claims old held.stands).there)
        (λ new. is.there c new.0 new.1)
        among

    all : (cs : List Claim) → Each (λ c. IsAmong c claims ⊎ (P c × IsBehind c)) cs → Each (IsThere image) cs
    all [] among = tt
    all (c ∷ cs) among = (one c among.0, all cs among.1)

    -- after: the new one with its claims
    pub after_has : Has image body new_claims
    after_has = record { half = s; current = is.current; there = all new_claims next.among }

    -- and at the end, with nothing open, they are held
    pub after_held : (o' : ℕ → Bool) → o' ≡ nowhere → IsHeld image o' (other s) body new_claims
    after_held o' closed = record {
      firm = firm_shut image o' (other s) (is.current.in_force ∙ ap (λ (h : Half). Some h) (sym (other_other s))) closed;
      has_body = ap (λ (h : Half). body_of image h) (other_other s) ∙ is.current.has_body;
      stands = steady image o' closed new_claims (all new_claims next.among);
    }

-- the gate is read, and then the body is installed
module _ {D : Type 0} (d : Ghosts D) (s : Half) (t : ℕ → Bool) (old mid : D) (read : IsOnlyRead d.content d.is_open d.moment d.images_since old mid)
    (old_body : List ℕ) (claims : List Claim) (held : IsHeld (d.content old) (d.is_open old) s old_body claims) where
  pub held_mid : IsHeld (d.content mid) (d.is_open mid) s old_body claims
  held_mid = after_reads d.content d.is_open d.moment d.images_since old mid read (λ b o. IsHeld b o s old_body claims) held

  module _ (now : D) where
    -- a fault of the writer
    module _ (out : Each (IsUntouched (touched_by s t)) claims) where
      pub kept_held : IsShut (d.content now) (d.is_open now) s (body_of (d.content mid) (other s)) × IsChangedOnly (d.content mid) (d.is_open mid) (touched_by s t) (d.content now) (d.is_open now) → IsHeld (d.content now) (d.is_open now) s old_body claims
      kept_held kept = still_held (d.content mid) (d.is_open mid) s t old_body claims held_mid out (d.content now) (d.is_open now) kept.0 kept.1

      pub kept_images : OnlyNew d.moment d.images_since mid now (IsBefore (d.content mid) (d.is_open mid) s t)
          → OnlyNew d.moment d.images_since old now (λ image. (length image ≡ length (d.content old)) × Has image old_body claims)
      kept_images only = read_then_only d.content d.is_open d.moment d.images_since old mid now _ read
          (weaker d.moment d.images_since mid now _ _ (λ image is. (is.is_image.size ∙ ap length read.bytes, before_has (d.content mid) (d.is_open mid) s t old_body claims held_mid out image is)) only)

    module _ (body : List ℕ) (promises : List ℕ → Claim → Type 0) (new_claims : List Claim) (next : IsNext s t (promises (d.content old)) claims new_claims) where
      next_mid : IsNext s t (promises (d.content mid)) claims new_claims
      next_mid = subst (λ (b : List ℕ). IsNext s t (promises b) claims new_claims) (sym read.bytes) next

      pub replaced : OnlyNew d.moment d.images_since mid now (λ image. IsBefore (d.content mid) (d.is_open mid) s t image ⊎ IsAfter (d.content mid) s body t (promises (d.content mid)) image)
          → OnlyNew d.moment d.images_since old now (λ image. (length image ≡ length (d.content old)) × (Has image old_body claims ⊎ Has image body new_claims))
      replaced only = read_then_only d.content d.is_open d.moment d.images_since old mid now _ read
          (weaker d.moment d.images_since mid now _ _ (λ image is. ⊎_elim
          (λ before. (before.is_image.size ∙ ap length read.bytes, inl (before_has (d.content mid) (d.is_open mid) s t old_body claims held_mid next.untouched image before)))
          (λ after. (after.is_image.size ∙ ap length read.bytes, inr (after_has (d.content mid) (d.is_open mid) s t old_body claims held_mid (promises (d.content mid)) new_claims next_mid body image after))) is) only)

      pub replaced_held : IsAfter (d.content mid) s body t (promises (d.content mid)) (d.content now) → d.is_open now ≡ nowhere → IsHeld (d.content now) (d.is_open now) (other s) body new_claims
      replaced_held after closed = after_held (d.content mid) (d.is_open mid) s t old_body claims held_mid (promises (d.content mid)) new_claims next_mid body (d.content now) after (d.is_open now) closed
