-- What a refused write leaves open, and that nothing was written where no image is new.
use Rattle.std.proofs.Common.{◌≡◌, ◌⊎◌, ℕ, suc, ◌+◌, ◌-◌, ◌<◌, ◌≤◌, ◌==◌, ◌||◌, Bool, true, false, List, [], ◌∷◌, length, get_or, refl, sym, ◌∙◌, ap, subst, arith, Option, None, Some}
use Rattle.std.proofs.lemmas.List.{ext_get_or}
use Rattle.std.proofs.lemmas.Bool.Decides.{nat_tests}
use Rattle.pk_disk.specs.Disk.{IsImage, IsPartWritten, in_range, nowhere, written}
use Rattle.pk_disk.proofs.Images.{closed_image}
use Rattle.pk_disk.proofs.Ranges.{length-written, outside_range, written_in, written_other}
use Rattle.pk_snapshot.specs.Writes.{open_at}

-- of the same bytes the same images
pub same_images : (bytes bytes' : List ℕ) (at : Option ℕ) (image : List ℕ) → bytes' ≡ bytes → IsImage bytes' (open_at at) image → IsImage bytes (open_at at) image
same_images bytes bytes' at image same is = subst (λ (l : List ℕ). IsImage l (open_at at) image) same is

-- THE FIRST WRITE: of its range the first position is open
beside : (at n p : ℕ) → 0 < n → in_range at n p ≡ false → (p == at) ≡ false
beside at n p some out = grind (arith, nat_tests)

pub part_refused : (bytes : List ℕ) (at n : ℕ) → 0 < n → IsPartWritten bytes (open_at None) at n bytes (open_at (Some at))
part_refused bytes at n some = record {
  size = refl;
  same = λ p out. refl;
  stays = λ p no. absurd (cc);
  within = λ p out. beside at n p some out;
}

-- a later one leaves all
pub part_none : (bytes : List ℕ) (is_open : ℕ → Bool) (at n : ℕ) → IsPartWritten bytes is_open at n bytes is_open
part_none bytes is_open at n = record {
  size = refl;
  same = λ p out. refl;
  stays = λ p is. is;
  within = λ p out. shut (is_open p) (in_range at n p) out;
}
  where
    shut : (a b : Bool) → (a || b) ≡ false → a ≡ false
    shut true b out = out
    shut false b out = refl

-- a write of nothing leaves the bytes
pub written_nothing : (bytes new : List ℕ) (at : ℕ) → at + length new ≤ length bytes → length new ≡ 0 → bytes ≡ written bytes at new
written_nothing bytes new at fits none =
    sym (ext_get_or 0 (written bytes at new) bytes (length-written bytes at new fits) (λ i lt. written_other bytes at new fits i (outside_range at (length new) i (apart i))))
  where
    apart : (i : ℕ) → (i < at) ⊎ (at + length new ≤ i)
    apart i = grind (arith, none)

-- NOTHING WAS WRITTEN WHERE NO IMAGE IS NEW
module _ (bytes : List ℕ) (at : ℕ) (within : at < length bytes) where
  other : List ℕ
  other = written bytes at (suc (get_or bytes at 0) ∷ [])

  fits : at + length (suc (get_or bytes at 0) ∷ []) ≤ length bytes
  fits = omega (arith, within)

  is_other : IsImage bytes (open_at (Some at)) other
  unfolding other
  is_other = record {
    size = length-written bytes at _ fits;
    same = λ p shut. written_other bytes at _ fits p (outside_range at 1 p (apart p shut));
  }
    where
      apart : (p : ℕ) → (p == at) ≡ false → (p < at) ⊎ (at + 1 ≤ p)
      apart p shut = grind (arith, nat_tests)

  differs : other ≡ bytes → ⊥
  unfolding other
  differs same =
      let new : get_or other at 0 ≡ suc (get_or bytes at 0) = written_in bytes at _ fits at (omega arith) (omega arith) ∙ ap (λ (k : ℕ). get_or (suc (get_or bytes at 0) ∷ []) k 0) (let none : at - at ≡ 0 = omega arith in none) in
      omega (arith, new, ap (λ (l : List ℕ). get_or l at 0) same)

pub none_refused : (bytes bytes' : List ℕ) (at : Option ℕ) → bytes' ≡ bytes → ((p : ℕ) → at ≡ Some p → p < length bytes') → ((image : List ℕ) → IsImage bytes' (open_at at) image → IsImage bytes nowhere image) → at ≡ None
none_refused bytes bytes' None same within none = refl
none_refused bytes bytes' (Some at) same within none =
    let fits = within at refl in
    absurd (differs bytes' at fits (closed_image bytes (other bytes' at fits) (none (other bytes' at fits) (is_other bytes' at fits)) ∙ sym same))
