-- The images of a write, in its course and after a sync, and the parts that images share.
use Rattle.std.proofs.Common.{◌≡◌, ◌⊎◌, inl, inr, ⊎_elim, ℕ, ◌+◌, ◌-◌, ◌<◌, ◌≤◌, Bool, false, List, length, get_or, take, drop, refl, sym, ◌∙◌, ap, subst, arith, length-drop}
use Rattle.std.proofs.lemmas.List.{length-take, length-take-le, get_or-take, get_or-drop, ext_get_or}
use Rattle.pk_disk.specs.Disk.{IsImage, IsImageBut, IsPartWritten, in_range, nowhere, opened, written}
use Rattle.pk_disk.proofs.Ranges.{range_cases, outside_range, opened_false, opened_right, length-written, written_other, written_in}

-- with nothing open the bytes are the only image
pub closed_image : (bytes image : List ℕ) → IsImage bytes nowhere image → image ≡ bytes
closed_image bytes image is = ext_get_or 0 image bytes is.size (λ i lt. is.same i refl)

-- after a write and a sync the only image is what was written
pub synced_image : (bytes : List ℕ) (at : ℕ) (new bytes' : List ℕ) (is_open' : ℕ → Bool) → bytes' ≡ written bytes at new → is_open' ≡ nowhere → (image : List ℕ) → IsImage bytes' is_open' image → image ≡ written bytes at new
synced_image bytes at new bytes' is_open' wrote closed image is = closed_image bytes' image (subst (λ (o : ℕ → Bool). IsImage bytes' o image) closed is) ∙ wrote

-- what a failed write leaves has only images of its course
pub image_of_part : (bytes : List ℕ) (is_open : ℕ → Bool) (at n : ℕ) (bytes' : List ℕ) (is_open' : ℕ → Bool) (image : List ℕ) → IsPartWritten bytes is_open at n bytes' is_open' → IsImage bytes' is_open' image → IsImage bytes (opened is_open at n) image
image_of_part bytes is_open at n bytes' is_open' image part is = record {
  size = is.size ∙ part.size;
  same = λ p out. is.same p (part.within p out) ∙ part.same p (opened_right is_open at n p out);
}

-- lists that agree at these positions have one part there
pub same_part : (xs ys : List ℕ) (at n : ℕ) → length xs ≡ length ys → ((p : ℕ) → at ≤ p → p < at + n → get_or xs p 0 ≡ get_or ys p 0) → take n (drop at xs) ≡ take n (drop at ys)
same_part xs ys at n long same =
    ext_get_or 0 (take n (drop at xs)) (take n (drop at ys))
    (omega (arith, long, length-take n (drop at xs), length-take n (drop at ys), length-drop at xs, length-drop at ys))
    (λ i lt.
    let below : i < n = omega (arith, lt, length-take n (drop at xs)) in
    get_or-take n (drop at xs) i 0 below ∙ get_or-drop at xs i 0
    ∙ same (at + i) (omega arith) (omega (arith, below))
    ∙ sym (get_or-take n (drop at ys) i 0 below ∙ get_or-drop at ys i 0))

-- an image in the course of a write is one from before it, but for the range
pub but_range : (bytes : List ℕ) (is_open : ℕ → Bool) (at n : ℕ) (image : List ℕ) → at + n ≤ length bytes → IsImage bytes (opened is_open at n) image → IsImageBut bytes is_open at n image
but_range bytes is_open at n image fits is =
    let put = take n (drop at bytes) in
    let long : length put ≡ n = length-take-le n (drop at bytes) (omega (arith, fits, length-drop at bytes)) in
    let room : at + length put ≤ length image = omega (arith, long, fits, is.size) in
    record {
      earlier = written image at put;
      is_image = record {
        size = length-written image at put room ∙ is.size;
        same = λ p shut. ⊎_elim
            (λ inside. written_in image at put room p inside.1 (omega (arith, inside.2, long)) ∙ get_or-take n (drop at bytes) (p - at) 0 (omega (arith, inside.1, inside.2)) ∙ get_or-drop at bytes (p - at) 0 ∙ ap (λ (k : ℕ). get_or bytes k 0) (let k : at + (p - at) ≡ p = omega (arith, inside.1) in k))
            (λ outside. written_other image at put room p (ap (λ (k : ℕ). in_range at k p) long ∙ outside.0) ∙ is.same p (opened_false is_open at n p shut outside.0))
            (range_cases at n p);
      };
      size = sym (length-written image at put room);
      same = λ p out. sym (written_other image at put room p (ap (λ (k : ℕ). in_range at k p) long ∙ out));
    }

-- a part that stands fast, and lies outside the range
pub part_kept : (bytes : List ℕ) (is_open : ℕ → Bool) (at n : ℕ) (image : List ℕ) (a m : ℕ) → IsImageBut bytes is_open at n image → ((p : ℕ) → a ≤ p → p < a + m → is_open p ≡ false) → (a + m ≤ at) ⊎ (at + n ≤ a) → take m (drop a image) ≡ take m (drop a bytes)
part_kept bytes is_open at n image a m but stable apart =
    same_part image bytes a m (but.size ∙ but.is_image.size)
    (λ p le lt. but.same p (outside_range at n p (⊎_elim (λ before. inl (omega (arith, before, lt))) (λ after. inr (omega (arith, after, le))) apart)) ∙ but.is_image.same p (stable p le lt))

-- the same of what a write leaves
pub part_written : (bytes : List ℕ) (at : ℕ) (new : List ℕ) (a m : ℕ) → at + length new ≤ length bytes → (a + m ≤ at) ⊎ (at + length new ≤ a) → take m (drop a (written bytes at new)) ≡ take m (drop a bytes)
part_written bytes at new a m fits apart =
    same_part (written bytes at new) bytes a m (length-written bytes at new fits)
    (λ p le lt. written_other bytes at new fits p (outside_range at (length new) p (⊎_elim (λ before. inl (omega (arith, before, lt))) (λ after. inr (omega (arith, after, le))) apart)))
