-- Positions in a range and outside it, and the bytes that a write puts and keeps.
use Rattle.std.proofs.Common.{◌≡◌, ◌⊎◌, inl, inr, ℕ, ◌+◌, ◌-◌, ◌<◌, ◌≤◌, ◌++◌, ◌||◌, Bool, true, false, List, length, get_or, take, drop, refl, sym, ◌∙◌, ap, arith, length-append, length-drop}
use Rattle.std.proofs.lemmas.Bool.Decides.{nat_tests}
use Rattle.std.proofs.lemmas.List.{append_assoc, take_at, drop_at, drop-drop, take-append-drop, length-take-le, places}
use Rattle.pk_disk.specs.Disk.{IsImage, in_range, opened, written}

-- where a position lies
pub range_cases : (at n p : ℕ) → ((in_range at n p ≡ true) × (at ≤ p) × (p < at + n)) ⊎ ((in_range at n p ≡ false) × ((p < at) ⊎ (at + n ≤ p)))
range_cases at n p = grind (arith, nat_tests)

pub outside_range : (at n p : ℕ) → (p < at) ⊎ (at + n ≤ p) → in_range at n p ≡ false
outside_range at n p out = grind (arith, nat_tests)

pub outside_cases : (at n p : ℕ) → in_range at n p ≡ false → (p < at) ⊎ (at + n ≤ p)
outside_cases at n p out = grind (arith, nat_tests)

pub opened_false : (is_open : ℕ → Bool) (at n p : ℕ) → is_open p ≡ false → in_range at n p ≡ false → opened is_open at n p ≡ false
opened_false is_open at n p shut out = ap (λ b. b || in_range at n p) shut ∙ out

-- of a position in neither of two sets
pub or_left : (a b : Bool) → (a || b) ≡ false → a ≡ false
or_left true b h = h
or_left false b h = refl

pub or_right : (a b : Bool) → (a || b) ≡ false → b ≡ false
or_right true b h = absurd cc
or_right false b h = h

pub or_both : (a b : Bool) → a ≡ false → b ≡ false → (a || b) ≡ false
or_both a b first second = ap (λ x. x || b) first ∙ second

pub opened_left : (is_open : ℕ → Bool) (at n p : ℕ) → opened is_open at n p ≡ false → is_open p ≡ false
opened_left is_open at n p h = or_left (is_open p) (in_range at n p) h

pub opened_right : (is_open : ℕ → Bool) (at n p : ℕ) → opened is_open at n p ≡ false → in_range at n p ≡ false
opened_right is_open at n p h = or_right (is_open p) (in_range at n p) h

module _ (bytes : List ℕ) (at : ℕ) (new : List ℕ) (fits : at + length new ≤ length bytes) where
  pub length-written : length (written bytes at new) ≡ length bytes
  length-written = omega (arith, fits, length-append (take at bytes ++ new) (drop (at + length new) bytes), length-append (take at bytes) new, length-take-le at bytes (omega (arith, fits)), length-drop (at + length new) bytes)

  pub written_other : (p : ℕ) → in_range at (length new) p ≡ false → get_or (written bytes at new) p 0 ≡ get_or bytes p 0
  written_other p out = elim (outside_cases at (length new) p out) [
    | inl below ↦ grind (arith, places)
    | inr above ↦ grind (arith, places)
  ]

  pub written_in : (p : ℕ) → at ≤ p → p < at + length new → get_or (written bytes at new) p 0 ≡ get_or new (p - at) 0
  written_in p above below = grind (arith, places)

  pub front_written : take at (written bytes at new) ≡ take at bytes
  front_written =
      ap (λ (l : List ℕ). take at l) (append_assoc (take at bytes) new (drop (at + length new) bytes))
      ∙ take_at (take at bytes) (new ++ drop (at + length new) bytes) at (length-take-le at bytes (omega (arith, fits)))

  pub back_written : drop (at + length new) (written bytes at new) ≡ drop (at + length new) bytes
  back_written = drop_at (take at bytes ++ new) (drop (at + length new) bytes) (at + length new) (omega (arith, length-append (take at bytes) new, length-take-le at bytes (omega (arith, fits))))

  pub middle_written : take (length new) (drop at (written bytes at new)) ≡ new
  middle_written =
      ap (λ (l : List ℕ). take (length new) (drop at l)) (append_assoc (take at bytes) new (drop (at + length new) bytes))
      ∙ ap (λ (l : List ℕ). take (length new) l) (drop_at (take at bytes) (new ++ drop (at + length new) bytes) at (length-take-le at bytes (omega (arith, fits))))
      ∙ take_at new (drop (at + length new) bytes) (length new) refl

  -- what was there, put back
  pub written_back : (before : List ℕ) → before ≡ take (length new) (drop at bytes) → written (written bytes at new) at before ≡ bytes
  written_back before is =
      let long : length before ≡ length new = ap length is ∙ length-take-le (length new) (drop at bytes) (omega (arith, fits, length-drop at bytes)) in
      let front = front_written in
      let back : drop (at + length before) (written bytes at new) ≡ drop (at + length new) bytes = ap (λ (k : ℕ). drop (at + k) (written bytes at new)) long ∙ back_written in
      let whole : (take at bytes ++ take (length new) (drop at bytes)) ++ drop (at + length new) bytes ≡ bytes =
      append_assoc (take at bytes) (take (length new) (drop at bytes)) (drop (at + length new) bytes)
      ∙ ap (λ (l : List ℕ). take at bytes ++ (take (length new) (drop at bytes) ++ l)) (sym (drop-drop (length new) at bytes))
      ∙ ap (λ (l : List ℕ). take at bytes ++ l) (take-append-drop (length new) (drop at bytes)) ∙ take-append-drop at bytes in
      (λ i. (front i ++ is i) ++ back i) ∙ whole

  -- each image after the write is one of those in its course
  pub image_written : (is_open : ℕ → Bool) (image : List ℕ) → IsImage (written bytes at new) (opened is_open at (length new)) image → IsImage bytes (opened is_open at (length new)) image
  image_written is_open image now = record {
    size = now.size ∙ length-written;
    same = λ p h. now.same p h ∙ written_other p (opened_right is_open at (length new) p h);
  }

  -- what a write that succeeds leaves is one of the images in its course
  pub image_of_written : (is_open : ℕ → Bool) → IsImage bytes (opened is_open at (length new)) (written bytes at new)
  image_of_written is_open = record { size = length-written; same = λ p h. written_other p (opened_right is_open at (length new) p h) }
