-- A file that gets longer and is written within the part that it had: its bytes, and what a crash leaves.
use Rattle.std.proofs.Common.{◌≡◌, ◌⊎◌, ⊎_elim, ℕ, ◌+◌, ◌-◌, ◌<◌, ◌≤◌, ◌++◌, Bool, false, List, length, get_or, take, drop, replicate, refl, sym, ◌∙◌, ap, subst, arith}
use Rattle.std.proofs.lemmas.List.{append_assoc, drop-append-le, get_or-take, get_or_past, length-take, take_all, take-append-le}
use Rattle.std.proofs.Math.Seq.{take-length}
use Rattle.pk_disk.specs.Disk.{IsImage, in_range, nowhere, opened, written}
use Rattle.pk_disk.specs.Since.{OnlyNew}
use Rattle.pk_disk.proofs.Moments.{only_then, weaker}
use Rattle.pk_disk.proofs.Ranges.{length-written, opened_left, opened_right}
use Rattle.pk_filedisk.specs.declared.raw.RawFile.{Ghosts}
use Rattle.pk_filedisk.specs.Raw.{IsExtended, IsPut, Wrote}
use Rattle.pk_filedisk.specs.Resized.{resized, resized_same}
use Rattle.pk_filedisk.proofs.Parts.{all_written}
use Rattle.pk_filedisk.proofs.ResizedLemmas.{length_resized, resized_parts}

-- ---- the bytes

-- the zeros stand behind them
filled_up : (n : ℕ) (bytes : List ℕ) → length bytes ≤ n → resized n bytes ≡ bytes ++ replicate (n - length bytes) 0
filled_up n bytes long = sym (resized_parts n bytes) ∙ ap (λ (l : List ℕ). l ++ replicate (n - length bytes) 0) (take_all n bytes long)

-- so it is one whether bytes are put before they are filled up, or after it
written_resized : (n : ℕ) (bytes : List ℕ) (at : ℕ) (new : List ℕ) → length bytes ≤ n → at + length new ≤ length bytes → written (resized n bytes) at new ≡ resized n (written bytes at new)
written_resized n bytes at new long fits =
    let zeros : List ℕ = replicate (n - length bytes) 0 in
    let size : length (written bytes at new) ≡ length bytes = length-written bytes at new fits in
    let first : take at (bytes ++ zeros) ≡ take at bytes = take-append-le at bytes zeros (omega (arith, fits)) in
    let rest : drop (at + length new) (bytes ++ zeros) ≡ drop (at + length new) bytes ++ zeros = drop-append-le (at + length new) bytes zeros fits in
    ap (λ (l : List ℕ). written l at new) (filled_up n bytes long)
    ∙ (λ i. first i ++ new ++ rest i)
    ∙ sym (append_assoc (take at bytes ++ new) (drop (at + length new) bytes) zeros)
    ∙ ap (λ (m : ℕ). written bytes at new ++ replicate (n - m) 0) (sym size)
    ∙ sym (filled_up n (written bytes at new) (omega (arith, size, long)))

-- what a disk shows of a file that got longer, in which all bytes were put, and which was synced
pub lengthened : (n len : ℕ) (bytes mid put now : List ℕ) (o o' : ℕ → Bool) (at : ℕ) (new : List ℕ) → length bytes ≡ len → len ≤ n → at + length new ≤ length (resized len bytes) → mid ≡ resized n bytes
    → IsPut mid o at new (length new) put o' → now ≡ put → resized n now ≡ resized n (written (resized len bytes) at new)
lengthened n len bytes mid put now o o' at new long le room is all same =
    let fits : at + length new ≤ length bytes = subst (λ (l : List ℕ). at + length new ≤ length l) (resized_same len bytes long) room in
    let size : length mid ≡ n = ap length is ∙ length_resized n bytes in
    resized_same n now (ap length same ∙ all.part.size ∙ size) ∙ same
    ∙ all_written mid o at new put o' (omega (arith, fits, size, long, le)) all
    ∙ ap (λ (l : List ℕ). written l at new) is
    ∙ written_resized n bytes at new (omega (arith, long, le)) fits
    ∙ ap (λ (l : List ℕ). resized n (written l at new)) (sym (resized_same len bytes long))

-- ---- what a crash leaves

-- bytes are an image of themselves
image_self : (bytes : List ℕ) (o : ℕ → Bool) → IsImage bytes o bytes
image_self bytes o = record { size = refl; same = λ p shut. refl }

-- what begins with them is one of bytes that get longer
extended_start : (bytes now : List ℕ) (o : ℕ → Bool) → take (length bytes) now ≡ bytes → IsExtended bytes o now
extended_start bytes now o start = subst (λ (l : List ℕ). IsImage bytes o l) (sym start) (image_self bytes o)

-- and so is an image of them
extended_image : (bytes image : List ℕ) (o : ℕ → Bool) → IsImage bytes o image → IsExtended bytes o image
extended_image bytes image o is = subst (λ (l : List ℕ). IsImage bytes o l) (sym (ap (λ (m : ℕ). take m image) (sym is.size) ∙ take-length image)) is

-- with more of them open, too
extended_opened : (bytes image : List ℕ) (o : ℕ → Bool) (at n : ℕ) → IsExtended bytes o image → IsExtended bytes (opened o at n) image
extended_opened bytes image o at n is = record { size = is.size; same = λ p shut. is.same p (opened_left o at n p shut) }

order : (p m : ℕ) → (p < m) ⊎ (m ≤ p)
order p m = grind arith

-- another one, but for a range
extended_but : (bytes earlier image : List ℕ) (o : ℕ → Bool) (at n : ℕ) → length image ≡ length earlier → ((p : ℕ) → in_range at n p ≡ false → get_or image p 0 ≡ get_or earlier p 0)
    → IsExtended bytes o earlier → IsExtended bytes (opened o at n) image
extended_but bytes earlier image o at n size same is =
    let m = length bytes in
    let all : length (take m image) ≡ m = omega (arith, is.size, size, length-take m image, length-take m earlier) in
    record {
      size = all;
      same = λ p shut. ⊎_elim
          (λ inside. get_or-take m image p 0 inside ∙ same p (opened_right o at n p shut) ∙ sym (get_or-take m earlier p 0 inside) ∙ is.same p (opened_left o at n p shut))
          (λ behind. get_or_past (take m image) p 0 (omega (arith, all, behind)) ∙ sym (get_or_past bytes p 0 behind))
          (order p m);
    }

-- a file got longer
pub record GotLonger {F : Type 0} (f : Ghosts F) (old mid : F) : Type 0 where
  pub start : take (length (f.content old)) (f.content mid) ≡ f.content old
  pub images : OnlyNew f.moment f.images_since old mid (IsExtended (f.content old) (f.is_open old))
  pub only_now : (image : List ℕ) → f.images_since old (f.moment old) image → IsImage (f.content old) (f.is_open old) image
  pub counts_before : (t u : ℕ) (image : List ℕ) → t ≤ u → f.images_since mid u image → f.images_since mid t image

module _ {F : Type 0} {f : Ghosts F} {old mid : F} (longer : GotLonger f old mid) where
  -- a part of what it had lies in it
  pub fits_longer : (n : ℕ) → n ≤ length (f.content old) → n ≤ length (f.content mid)
  fits_longer n le = omega (arith, le, ap length longer.start, length-take (length (f.content old)) (f.content mid))

  left : (image : List ℕ) → f.images_since mid (f.moment mid) image → IsExtended (f.content old) (f.is_open old) image
  left image since = ⊎_elim
      (λ was. extended_image (f.content old) image (f.is_open old) (longer.only_now image was))
      (λ now. now)
      (longer.images.each (f.moment old) image (omega arith) (longer.counts_before (f.moment old) (f.moment mid) image longer.images.later since))

  -- and then bytes were put there, whole or in part; the disk in it had that length before
  module _ (len at n : ℕ) (new : List ℕ) (now : F) (long : length (f.content old) ≡ len) (wrote : Wrote f.content f.is_open f.moment f.images_since at new n mid now) where
    same : f.content old ≡ resized len (f.content old)
    same = sym (resized_same len (f.content old) long)

    pub put_start : IsExtended (resized len (f.content old)) (in_range at (length new)) (f.content now)
    put_start = subst (λ (bytes : List ℕ). IsExtended bytes (in_range at (length new)) (f.content now)) same
        (extended_but (f.content old) (f.content mid) (f.content now) nowhere at (length new) wrote.put.part.size wrote.put.part.same
        (extended_start (f.content old) (f.content mid) nowhere longer.start))

    pub put_images : OnlyNew f.moment f.images_since old now (IsExtended (resized len (f.content old)) (opened (f.is_open old) at (length new)))
    put_images = subst (λ (bytes : List ℕ). OnlyNew f.moment f.images_since old now (IsExtended bytes (opened (f.is_open old) at (length new)))) same
        (only_then f.moment f.images_since old mid now _
        (weaker f.moment f.images_since old mid _ _ (λ image is. extended_opened (f.content old) image (f.is_open old) at (length new) is) longer.images)
        (weaker f.moment f.images_since mid now _ _ (λ image is. extended_but (f.content old) is.earlier image (f.is_open old) at (length new) is.size is.same (left is.earlier is.is_image)) wrote.images))
