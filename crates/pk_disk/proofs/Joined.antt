-- One more call joins a record of calls, the oldest first: of a disk in memory, or of a file.
use Rattle.std.proofs.Common.{◌≡◌, ◌⊎◌, inl, inr, ⊎_elim, ℕ, suc, ◌+◌, ◌-◌, ◌≤◌, Bool, List, [], ◌∷◌, ◌++◌, length, length-drop, reverse, take, drop, sym, ◌∙◌, ap, subst, arith, length-append}
use Rattle.std.proofs.lemmas.List.{reverse-append, length-take-le}
use Rattle.pk_disk.specs.Disk.{IsImage, opened, written}
use Rattle.pk_disk.specs.Memory.{open_after, undone, ImageBack}
use Rattle.pk_disk.specs.Since.{NoneNew, OnlyNew}
use Rattle.pk_disk.proofs.Ranges.{written_back, image_written}

-- the images before some of the last calls, the newest first, step back by one call
pub record StepsBack {C : Type 0} (open_by : List C → ℕ → Bool) (undone_by : C → List ℕ → List ℕ) (Back : ℕ → List C → List ℕ → List ℕ → Type 0) : Type 0 where
  pub back : (n : ℕ) (call : C) (older : List C) (bytes image : List ℕ) → Back (suc n) (call ∷ older) bytes image → IsImage bytes (open_by (call ∷ older)) image ⊎ Back n older (undone_by call bytes) image
  pub forth : (n : ℕ) (call : C) (older : List C) (bytes image : List ℕ) → Back n older (undone_by call bytes) image → Back (suc n) (call ∷ older) bytes image

-- so do those of a disk in memory
pub disk_steps : StepsBack open_after undone ImageBack
disk_steps = record { back = λ n call older bytes image since. since; forth = λ n call older bytes image was. inr was }

module _ {C : Type 0} {open_by : List C → ℕ → Bool} {undone_by : C → List ℕ → List ℕ} {Back : ℕ → List C → List ℕ → List ℕ → Type 0} (steps : StepsBack open_by undone_by Back) (call : C) where
  module _ (old new : List C) (was now : List ℕ) (is_later : new ≡ old ++ call ∷ []) (is_undone : undone_by call now ≡ was) where
    one_more : length new ≡ suc (length old)
    one_more = omega (arith, ap length is_later, length-append old (call ∷ []))

    order : reverse new ≡ call ∷ reverse old
    order = ap reverse is_later ∙ reverse-append old (call ∷ [])

    -- what there was before this call, and what there is after it
    stepped : (t : ℕ) (image : List ℕ) → t ≤ length old → Back (length new - t) (reverse new) now image → IsImage now (open_by (call ∷ reverse old)) image ⊎ Back (length old - t) (reverse old) was image
    stepped t image le since =
        let one : length new - t ≡ suc (length old - t) = omega (arith, le, one_more) in
        let ordered = subst (λ (cs : List C). Back (suc (length old - t)) cs now image) order (subst (λ (k : ℕ). Back k (reverse new) now image) one since) in
        subst (λ (bs : List ℕ). IsImage now (open_by (call ∷ reverse old)) image ⊎ Back (length old - t) (reverse old) bs image) is_undone (steps.back (length old - t) call (reverse old) now image ordered)

    pub joined_known : (t : ℕ) (image : List ℕ) → t ≤ length old → Back (length old - t) (reverse old) was image → Back (length new - t) (reverse new) now image
    joined_known t image le since =
        let one : length new - t ≡ suc (length old - t) = omega (arith, le, one_more) in
        let stays = steps.forth (length old - t) call (reverse old) now image (subst (λ (bs : List ℕ). Back (length old - t) (reverse old) bs image) (sym is_undone) since) in
        subst (λ (k : ℕ). Back k (reverse new) now image) (sym one) (subst (λ (cs : List C). Back (suc (length old - t)) cs now image) (sym order) stays)

  module _ {D : Type 0} (calls : D → List C) (bytes : D → List ℕ) (old new : D) (is_later : calls new ≡ calls old ++ call ∷ []) (is_undone : undone_by call (bytes new) ≡ bytes old) where
    abbrev images_since : D → ℕ → List ℕ → Type 0
    images_since d t image = Back (length (calls d) - t) (reverse (calls d)) (bytes d) image

    later : length (calls old) ≤ length (calls new)
    later = omega (arith, one_more (calls old) (calls new) (bytes old) (bytes new) is_later is_undone)

    pub joined_new : (P : List ℕ → Type 0) → ((image : List ℕ) → IsImage (bytes new) (open_by (call ∷ reverse (calls old))) image → P image) → OnlyNew (λ d. length (calls d)) images_since old new P
    joined_new P has = record { later = later; each = λ t image le since. ⊎_elim (λ now. inr (has image now)) (λ older. inl older) (stepped (calls old) (calls new) (bytes old) (bytes new) is_later is_undone t image le since) }

    -- it adds none where its images were there before
    pub joined_none : ((n : ℕ) (image : List ℕ) → IsImage (bytes new) (open_by (call ∷ reverse (calls old))) image → Back n (reverse (calls old)) (bytes old) image) → NoneNew (λ d. length (calls d)) images_since old new
    joined_none was = record { later = later; each = λ t image le since. ⊎_elim (was (length (calls old) - t) image) (λ older. older) (stepped (calls old) (calls new) (bytes old) (bytes new) is_later is_undone t image le since) }

-- a write that kept the bytes of before is undone by them, and its images are those in its course
module _ (bytes now new before : List ℕ) (at : ℕ) (fits : at + length new ≤ length bytes) (was : before ≡ take (length new) (drop at bytes)) (is : now ≡ written bytes at new) where
  pub write_undone : written now at before ≡ bytes
  write_undone = ap (λ (bs : List ℕ). written bs at before) is ∙ written_back bytes at new fits before was

  pub write_image : (is_open : ℕ → Bool) (image : List ℕ) → IsImage now (opened is_open at (length before)) image → IsImage bytes (opened is_open at (length new)) image
  write_image is_open image seen =
      let long : length before ≡ length new = ap length was ∙ length-take-le (length new) (drop at bytes) (omega (arith, fits, length-drop at bytes)) in
      image_written bytes at new fits is_open image (subst (λ (bs : List ℕ). IsImage bs (opened is_open at (length new)) image) is (subst (λ (n : ℕ). IsImage now (opened is_open at n) image) long seen))
