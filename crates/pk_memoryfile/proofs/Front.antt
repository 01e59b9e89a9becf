-- What a disk below tells of the front of what a file was asked to put.
use Rattle.std.proofs.Common.{◌≡◌, Result, Ok, Err, IfOk, inl, inr, ℕ, ◌+◌, ◌-◌, ◌≤◌, Bool, false, List, length, get_or, take, sym, ◌∙◌, ap, subst, arith}
use Rattle.std.proofs.lemmas.List.{get_or-take, length-take-le}
use Rattle.std.proofs.lemmas.Bool.Decides.{nat_tests}
use Rattle.pk_disk.specs.Disk.{IsImage, in_range, opened, written}
use Rattle.pk_disk.specs.Since.{OnlyNew, StayKnown}
use Rattle.pk_disk.proofs.Ranges.{opened_false, opened_left, opened_right, length-written, written_other, written_in}
use Rattle.pk_disk.proofs.Images.{but_range}
use Rattle.pk_disk.proofs.Moments.{weaker}
use Rattle.pk_filedisk.specs.declared.raw.CallFault.{CallFault}
use Rattle.pk_filedisk.specs.Raw.{IsFileImageBut, IsPut, Wrote, moved}
use Rattle.pk_filedisk.proofs.Parts.{is_opened, wrote_fewer}

shorter_out : (at n m p : ℕ) → n ≤ m → in_range at m p ≡ false → in_range at n p ≡ false
shorter_out at n m p le out = grind (arith, nat_tests)

-- a disk took the first n of the bytes
module _ (bytes : List ℕ) (is_open : ℕ → Bool) (at : ℕ) (new : List ℕ) (n : ℕ) (fits : at + length new ≤ length bytes) (le : n ≤ length new) where
  front_long : length (take n new) ≡ n
  front_long = length-take-le n new le

  front_fits : at + length (take n new) ≤ length bytes
  front_fits = omega (arith, front_long, fits, le)

  out_of_front : (p : ℕ) → in_range at (length new) p ≡ false → in_range at (length (take n new)) p ≡ false
  out_of_front p out = ap (λ (m : ℕ). in_range at m p) front_long ∙ shorter_out at n (length new) p le out

  -- an image in its course is one of the file as it stood, but for the range
  pub front_images : {F : Type 0} (moment : F → ℕ) (images_since : F → ℕ → List ℕ → Type 0) (old : F) → ((image : List ℕ) → IsImage bytes is_open image → images_since old (moment old) image)
      → (image : List ℕ) → IsImage bytes (opened is_open at (length (take n new))) image → IsFileImageBut moment images_since old at (length new) image
  front_images moment images_since old counts image is =
      let but = but_range bytes is_open at (length (take n new)) image front_fits is in
      record { earlier = but.earlier; is_image = counts but.earlier but.is_image; size = but.size; same = λ p out. but.same p (out_of_front p out) }

  pub front_put : IsPut bytes is_open at new n (written bytes at (take n new)) (opened is_open at (length (take n new)))
  front_put = record {
    part = record {
      size = length-written bytes at (take n new) front_fits;
      same = λ p out. written_other bytes at (take n new) front_fits p (out_of_front p out);
      stays = λ p is. is_opened is_open at (length (take n new)) p (inl is);
      within = λ p shut. opened_false is_open at (length (take n new)) p (opened_left is_open at (length new) p shut) (out_of_front p (opened_right is_open at (length new) p shut));
    };
    put = λ i lt.
        let back : at + i - at ≡ i = omega arith in
        written_in bytes at (take n new) front_fits (at + i) (omega arith) (omega (arith, lt, front_long))
        ∙ ap (λ (m : ℕ). get_or (take n new) m 0) back ∙ get_or-take n new i 0 lt;
    opens = λ p inside. is_opened is_open at (length (take n new)) p (inr (ap (λ (m : ℕ). in_range at m p) front_long ∙ inside));
  }

-- a file over a disk, which took the front
pub wrote_front : {F : Type 0} (content : F → List ℕ) (is_open : F → ℕ → Bool) (moment : F → ℕ) (images_since : F → ℕ → List ℕ → Type 0) (at : ℕ) (new : List ℕ) (n : ℕ) (old now : F)
    → at + length new ≤ length (content old) → n ≤ length new
    → content now ≡ written (content old) at (take n new) → is_open now ≡ opened (is_open old) at (length (take n new))
    → OnlyNew moment images_since old now (IsImage (content old) (opened (is_open old) at (length (take n new))))
    → StayKnown moment images_since old now
    → ((image : List ℕ) → IsImage (content old) (is_open old) image → images_since old (moment old) image)
    → Wrote content is_open moment images_since at new n old now
wrote_front content is_open moment images_since at new n old now fits le bytes positions images known counts = record {
  put = subst (λ (b : List ℕ). IsPut (content old) (is_open old) at new n b (is_open now)) (sym bytes)
      (subst (λ (o : ℕ → Bool). IsPut (content old) (is_open old) at new n (written (content old) at (take n new)) o) (sym positions)
      (front_put (content old) (is_open old) at new n fits le));
  images = weaker moment images_since old now _ _ (front_images (content old) (is_open old) at new n fits le moment images_since old counts) images;
  known = known;
}

-- and told how many it put, or failed in the end
pub wrote_ending : {F : Type 0} (content : F → List ℕ) (is_open : F → ℕ → Bool) (moment : F → ℕ) (images_since : F → ℕ → List ℕ → Type 0) (at : ℕ) (new : List ℕ) (n : ℕ) (result : Result ℕ CallFault) (old now : F)
    → IfOk result (λ m. m ≡ n) → Wrote content is_open moment images_since at new n old now
    → Wrote content is_open moment images_since at new (moved result) old now
wrote_ending content is_open moment images_since at new n (Ok m) old now same wrote =
    subst (λ (k : ℕ). Wrote content is_open moment images_since at new k old now) (sym same) wrote
wrote_ending content is_open moment images_since at new n (Err fault) old now same wrote =
    wrote_fewer content is_open moment images_since at new n old now wrote
