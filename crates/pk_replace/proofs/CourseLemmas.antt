-- The stages of a replacement: the spare gate is shut, the writer writes, and the body takes force.
use Rattle.std.proofs.Common.{◌≡◌, ◌⊎◌, inl, inr, ⊎_elim, ℕ, ◌<◌, ◌≤◌, Bool, false, List, sym, ◌∙◌, subst, arith, Result, Ok, Err}
use Rattle.pk_disk.specs.declared.disk.Disk.{Ghosts}
use Rattle.pk_disk.specs.Disk.{IsImage, IsChangedOnly, also, in_range}
use Rattle.pk_disk.specs.Since.{OnlyNew}
use Rattle.pk_disk.proofs.Moments.{both_new, only_then, weaker}
use Rattle.pk_disk.proofs.Ranges.{outside_range, or_both, or_left, or_right}
use Rattle.pk_disk.proofs.Changes.{IsWithin, changed_then, image_then, image_within, within_left, within_right}
use Rattle.pk_manifest.specs.declared.half.Half.{Half}
use Rattle.pk_manifest.specs.Bodies.{IsCurrent, bodies_end, body_of, body_place, gate_place, generation_of, other}
use Rattle.pk_manifest.specs.Firm.{IsFar, IsShut, half_places}
use Rattle.pk_manifest.proofs.Firm.{gate_low, body_ends}
use Rattle.pk_manifest.proofs.Far.{after_far, far_body, far_gate, while_far}
use Rattle.pk_replace.specs.declared.stream.StreamFault.{StreamFault}
use Rattle.pk_replace.specs.declared.stream.StreamFault.TheVariants.{Read, Write, Damaged}
use Rattle.pk_replace.specs.Cause.{OnKept}
use Rattle.pk_replace.specs.Claims.{AgreeBehind, Claim, IsBehind, IsThere, IsUntouched}
use Rattle.pk_replace.specs.Course.{IsAfter, IsBefore, touched_by}
use Rattle.pk_replace.specs.Writing.{WritesOnly}
use Rattle.pk_replace.proofs.ClaimLemmas.{untouched_there}

-- of a fault that kept the body in force, what follows
pub on_kept_weaker : {T : Type 0} (r : Result T StreamFault) {P Q : Type 0} → (P → Q) → OnKept r P → OnKept r Q
on_kept_weaker (Ok v) f p = tt
on_kept_weaker (Err Read) f p = f p
on_kept_weaker (Err Write) f p = tt
on_kept_weaker (Err Damaged) f p = f p

-- and what holds anyhow
on_kept_any : {T : Type 0} (r : Result T StreamFault) {P : Type 0} → P → OnKept r P
on_kept_any (Ok v) p = tt
on_kept_any (Err Read) p = p
on_kept_any (Err Write) p = tt
on_kept_any (Err Damaged) p = p

-- a half lies before the end of the bodies
pub half_low : (h : Half) (p : ℕ) → bodies_end ≤ p → half_places h p ≡ false
half_low h p le = or_both (in_range (gate_place h) 1 p) (in_range (body_place h) 8192 p) (outside_range (gate_place h) 1 p (inr (omega (arith, gate_low h, le)))) (outside_range (body_place h) 8192 p (inr (omega (arith, body_ends h, le))))

-- so a claim behind them is no part of it
pub half_untouched : (h : Half) (c : Claim) → IsBehind c → IsUntouched (half_places h) c
half_untouched h c behind p le lt = half_low h p (omega (arith, behind, le))

-- and a change of a half alone leaves all that is behind them
pub agree_behind : (b : List ℕ) (o : ℕ → Bool) (s : Half) (b1 : List ℕ) (o1 : ℕ → Bool) → IsChangedOnly b o (half_places s) b1 o1 → AgreeBehind b b1
agree_behind b o s b1 o1 changed = record { size = changed.size; same = λ p le. changed.same p (half_low s p le) }

module _ (b : List ℕ) (o : ℕ → Bool) (s : Half) (t : ℕ → Bool) (far : IsFar t) where
  in_half : IsWithin (half_places s) (touched_by s t)
  in_half = within_left (half_places s) t

  in_writer : IsWithin t (touched_by s t)
  in_writer = within_right (half_places s) t

  -- the gate is shut
  pub first_stage : (image : List ℕ) → IsCurrent image (other s) (body_of b (other s)) → IsImage b (also o (half_places s)) image → IsBefore b o s t image
  first_stage image current is = record {
    current = current;
    is_image = image_within b (also o (half_places s)) (also o (touched_by s t))
        (λ p h. or_both (o p) (half_places s p) (or_left (o p) (touched_by s t p) h) (in_half p (or_right (o p) (touched_by s t p) h))) image is;
  }

  module _ (b1 : List ℕ) (o1 : ℕ → Bool) (changed1 : IsChangedOnly b o (half_places s) b1 o1) (shut1 : IsShut b1 o1 s (body_of b (other s))) where
    -- the writer writes
    pub second_stage : (image : List ℕ) → IsImage b1 (also o1 t) image → IsBefore b o s t image
    second_stage image is = record {
      current = subst (IsCurrent image (other s)) shut1.body_is (while_far b1 o1 s shut1.firm t far image is);
      is_image = image_then b o (half_places s) b1 o1 changed1 t (touched_by s t) in_half in_writer image is;
    }

    module _ (b2 : List ℕ) (o2 : ℕ → Bool) (changed2 : IsChangedOnly b1 o1 t b2 o2) where
      pub changed12 : IsChangedOnly b o (touched_by s t) b2 o2
      changed12 = changed_then b o (half_places s) b1 o1 changed1 t (touched_by s t) in_half in_writer b2 o2 changed2

      -- and the half in force stands fast behind a shut gate
      pub shut2 : IsShut b2 o2 s (body_of b (other s))
      shut2 = record {
        firm = after_far b1 o1 s shut1.firm t far b2 o2 changed2;
        shut = far_gate b1 o1 s shut1.firm t far b2 o2 changed2 s ∙ shut1.shut;
        body_is = far_body b1 o1 s shut1.firm t far b2 o2 changed2 (other s) ∙ shut1.body_is;
      }

-- The writer has written.
module _ (b : List ℕ) (o : ℕ → Bool) (s : Half) (t : ℕ → Bool) (b2 : List ℕ) (o2 : ℕ → Bool) (changed : IsChangedOnly b o (touched_by s t) b2 o2) (shut : IsShut b2 o2 s (body_of b (other s)))
    (P : Claim → Type 0) (there : (c : Claim) → P c → IsThere b2 c) (body : List ℕ) where
  -- the body has taken force
  pub done : (image : List ℕ) → IsCurrent image s body → IsImage b2 (half_places s) image → IsAfter b s body t P image
  done image current is = record {
    current = current;
    is_image = record { size = is.size ∙ changed.size; same = λ p out. is.same p (within_left (half_places s) t p out) ∙ changed.same p out };
    there = λ c promised behind. untouched_there b2 (half_places s) image is c (half_untouched s c behind) (there c promised);
  }

  -- the body takes force
  pub third_stage : (image : List ℕ) → IsCurrent image (other s) (body_of b2 (other s)) ⊎ (IsCurrent image s body × IsImage b2 (half_places s) image) → IsImage b2 (also o2 (half_places s)) image → IsBefore b o s t image ⊎ IsAfter b s body t P image
  third_stage image current is = ⊎_elim
      (λ old. inl (record { current = subst (IsCurrent image (other s)) shut.body_is old; is_image = image_then b o (touched_by s t) b2 o2 changed (half_places s) (touched_by s t) (λ p out. out) (within_left (half_places s) t) image is }))
      (λ new. inr (done image new.0 new.1))
      current

-- What is left of an honest disk once the writer has written, or was stopped: the old half in force
-- behind a shut gate, and each image since the start from before.
pub record IsPut {D : Type 0} (d : Ghosts D) (s : Half) (t : ℕ → Bool) (old put : D) : Type 0 where
  pub until : OnlyNew d.moment d.images_since old put (IsBefore (d.content old) (d.is_open old) s t)
  pub shut : IsShut (d.content put) (d.is_open put) s (body_of (d.content old) (other s))
  pub changed : IsChangedOnly (d.content old) (d.is_open old) (touched_by s t) (d.content put) (d.is_open put)

-- The calls of an installation, from a disk old over shut and put to now.
module _ {D : Type 0} (d : Ghosts D) (s : Half) (t : ℕ → Bool) (far : IsFar t) (old shut : D)
    (current1 : OnlyNew d.moment d.images_since old shut (λ image. IsCurrent image (other s) (body_of (d.content old) (other s))))
    (images1 : OnlyNew d.moment d.images_since old shut (IsImage (d.content old) (also (d.is_open old) (half_places s)))) where
  -- the gate is shut
  pub until_shut : OnlyNew d.moment d.images_since old shut (IsBefore (d.content old) (d.is_open old) s t)
  until_shut = weaker d.moment d.images_since old shut _ _ (λ image is. first_stage (d.content old) (d.is_open old) s t far image is.0 is.1)
      (both_new d.moment d.images_since old shut _ _ current1 images1)

  -- the writer writes
  pub put_by : IsChangedOnly (d.content old) (d.is_open old) (half_places s) (d.content shut) (d.is_open shut) → IsShut (d.content shut) (d.is_open shut) s (body_of (d.content old) (other s))
      → (put : D) → d.honest → WritesOnly d t shut put → IsPut d s t old put
  put_by changed1 shut1 put honest writes = record {
    until = only_then d.moment d.images_since old shut put _ until_shut
        (weaker d.moment d.images_since shut put _ _ (λ image is. second_stage (d.content old) (d.is_open old) s t far (d.content shut) (d.is_open shut) changed1 shut1 image is) (writes.images honest));
    shut = shut2 (d.content old) (d.is_open old) s t far (d.content shut) (d.is_open shut) changed1 shut1 (d.content put) (d.is_open put) (writes.changed honest);
    changed = changed12 (d.content old) (d.is_open old) s t far (d.content shut) (d.is_open shut) changed1 shut1 (d.content put) (d.is_open put) (writes.changed honest);
  }

-- what was promised at the start is there
pub promised_there : {D : Type 0} (d : Ghosts D) (s : Half) (old shut put : D) → IsChangedOnly (d.content old) (d.is_open old) (half_places s) (d.content shut) (d.is_open shut)
    → (promises : List ℕ → Claim → Type 0) → ((bytes bytes' : List ℕ) (c : Claim) → AgreeBehind bytes bytes' → promises bytes c → promises bytes' c)
    → ((c : Claim) → promises (d.content shut) c → IsThere (d.content put) c) → (c : Claim) → promises (d.content old) c → IsThere (d.content put) c
promised_there d s old shut put changed1 promises stay there c promised = there c (stay (d.content old) (d.content shut) c (agree_behind (d.content old) (d.is_open old) s (d.content shut) (d.is_open shut) changed1) promised)

module _ {D : Type 0} (d : Ghosts D) (s : Half) (t : ℕ → Bool) (old put : D) (is_put : IsPut d s t old put) where
  pub greater_put : (body : List ℕ) → generation_of (body_of (d.content old) (other s)) < generation_of body → generation_of (body_of (d.content put) (other s)) < generation_of body
  greater_put body lt = subst (λ (x : List ℕ). generation_of x < generation_of body) (sym is_put.shut.body_is) lt

  -- where the writer was stopped
  pub kept_put : {T : Type 0} (r : Result T StreamFault) → OnKept r (IsShut (d.content put) (d.is_open put) s (body_of (d.content old) (other s)) × IsChangedOnly (d.content old) (d.is_open old) (touched_by s t) (d.content put) (d.is_open put))
  kept_put r = on_kept_any r (is_put.shut, is_put.changed)

  pub still_put : {T : Type 0} (r : Result T StreamFault) → OnKept r (OnlyNew d.moment d.images_since old put (IsBefore (d.content old) (d.is_open old) s t))
  still_put r = on_kept_any r is_put.until

  -- the body takes force
  module _ (P : Claim → Type 0) (there : (c : Claim) → P c → IsThere (d.content put) c) (body : List ℕ) (now : D) where
    pub finished : IsCurrent (d.content now) s body → IsImage (d.content put) (half_places s) (d.content now) → IsAfter (d.content old) s body t P (d.content now)
    finished current is = done (d.content old) (d.is_open old) s t (d.content put) (d.is_open put) is_put.changed is_put.shut P there body (d.content now) current is

    pub while_finished : OnlyNew d.moment d.images_since put now (λ image. IsCurrent image (other s) (body_of (d.content put) (other s)) ⊎ (IsCurrent image s body × IsImage (d.content put) (half_places s) image))
        → OnlyNew d.moment d.images_since put now (IsImage (d.content put) (also (d.is_open put) (half_places s)))
        → OnlyNew d.moment d.images_since old now (λ image. IsBefore (d.content old) (d.is_open old) s t image ⊎ IsAfter (d.content old) s body t P image)
    while_finished current3 images3 = only_then d.moment d.images_since old put now _
        (weaker d.moment d.images_since old put _ _ (λ image is. inl is) is_put.until)
        (weaker d.moment d.images_since put now _ _ (λ image is. third_stage (d.content old) (d.is_open old) s t (d.content put) (d.is_open put) is_put.changed is_put.shut P there body image is.0 is.1)
        (both_new d.moment d.images_since put now _ _ current3 images3))

-- an image from before is one from before or after
pub of_old : {D : Type 0} (d : Ghosts D) (s : Half) (t : ℕ → Bool) (old now : D) (body : List ℕ) (P : Claim → Type 0) → OnlyNew d.moment d.images_since old now (IsBefore (d.content old) (d.is_open old) s t)
    → OnlyNew d.moment d.images_since old now (λ image. IsBefore (d.content old) (d.is_open old) s t image ⊎ IsAfter (d.content old) s body t P image)
of_old d s t old now body P until = weaker d.moment d.images_since old now _ _ (λ image is. inl is) until
