-- A copy in parts: what a part adds, and that all of it is the claim.
use Rattle.std.proofs.Common.{◌≡◌, ◌⊎◌, inl, inr, ⊎_elim, ℕ, ◌+◌, ◌-◌, ◌<◌, ◌≤◌, false, List, length, get_or, take, drop, refl, sym, ◌∙◌, ap, subst, arith, length-drop}
use Rattle.std.specs.Prelude.{slice_range}
use Rattle.std.proofs.lemmas.List.{length-take, length-take-le, get_or-take, get_or-drop, ext_get_or}
use Rattle.pk_disk.specs.declared.disk.Disk.{Ghosts}
use Rattle.pk_disk.specs.Disk.{in_range, written}
use Rattle.pk_disk.proofs.Changes.{IsWithin}
use Rattle.pk_disk.proofs.Ranges.{outside_cases, outside_range, written_in}
use Rattle.pk_replace.specs.Claims.{Claim, IsThere}
use Rattle.pk_replace.specs.Cause.{NoneFailed}
use Rattle.pk_replace.specs.Copying.{CanCopy, IsCopied, IsCopying}
use Rattle.pk_replace.specs.Writing.{WritesOnly}
use Rattle.pk_replace.proofs.WritingLemmas.{writes_none, writes_then}

range_is : (n at to : ℕ) (xs : List ℕ) → to ≡ at + n → slice_range xs at to ≡ take n (drop at xs)
range_is n at to xs e =
    let count : to - at ≡ n = omega (arith, e) in
    ap (λ (k : ℕ). take k (drop at xs)) count

-- what was read and written is a copy
pub part_copied : (b : List ℕ) (from to : ℕ) (part : List ℕ) (b' : List ℕ) → from + length part ≤ length b → to + length part ≤ length b → part ≡ slice_range b from (from + length part) → b' ≡ written b to part → IsCopied b b' from to (length part)
part_copied b from to part b' source target read wrote k lt =
    let here : to + k - to ≡ k = omega arith in
    ap (λ (bs : List ℕ). get_or bs (to + k) 0) wrote
    ∙ written_in b to part target (to + k) (omega arith) (omega (arith, lt))
    ∙ ap (λ (j : ℕ). get_or part j 0) here
    ∙ ap (λ (bs : List ℕ). get_or bs k 0) (read ∙ range_is (length part) from (from + length part) b refl)
    ∙ get_or-take (length part) (drop from b) k 0 lt ∙ get_or-drop from b k 0

-- a copy is the claim
pub copied_there : (b : List ℕ) (b' : List ℕ) (from to n : ℕ) (c : Claim) → length b' ≡ length b → from + n ≤ length b → to + n ≤ length b → c.at ≡ to → c.bytes ≡ take n (drop from b) → IsCopied b b' from to n → IsThere b' c
copied_there b b' from to n c long source target at bytes copied =
    let count : length c.bytes ≡ n = ap length bytes ∙ length-take-le n (drop from b) (omega (arith, source, length-drop from b)) in
    (λ i. take (count i) (drop (at i) b'))
    ∙ ext_get_or 0 (take n (drop to b')) (take n (drop from b))
    (omega (arith, long, source, target, length-take n (drop to b'), length-take n (drop from b), length-drop to b', length-drop from b))
    (λ i lt.
    let below : i < n = omega (arith, lt, length-take n (drop to b')) in
    get_or-take n (drop to b') i 0 below ∙ get_or-drop to b' i 0 ∙ copied i below
    ∙ sym (get_or-take n (drop from b) i 0 below ∙ get_or-drop from b i 0))
    ∙ sym bytes

-- a part of a range
part_within : (to n done m : ℕ) → done + m ≤ n → IsWithin (in_range (to + done) m) (in_range to n)
part_within to n done m fits p out = ⊎_elim
    (λ before. outside_range (to + done) m p (inl (omega (arith, before))))
    (λ after. outside_range (to + done) m p (inr (omega (arith, after, fits))))
    (outside_cases to n p out)

module _ {D : Type 0} (d : Ghosts D) (from to n : ℕ) (old : D) where
  pub begun : IsCopying d from to n 0 old old
  begun = record {
    most = omega arith;
    unfailed = record { reads = refl; writes = refl };
    writes = writes_none d (in_range to n) old;
    copied = λ h k lt. absurd (omega (arith, lt));
  }

  module _ (done m : ℕ) (mid new : D) (fits : done + m ≤ n) (was : IsCopying d from to n done old mid) (writes : WritesOnly d (in_range (to + done) m) mid new) where
    -- a part more was written
    pub writes_more : WritesOnly d (in_range to n) old new
    writes_more = writes_then d (in_range to n) (in_range (to + done) m) (in_range to n) (λ p out. out) (part_within to n done m fits) old mid new was.writes writes

    module _ (can : CanCopy from to n (length (d.content old))) where
      copied_more : d.honest → IsCopied (d.content mid) (d.content new) (from + done) (to + done) m → IsCopied (d.content old) (d.content new) from to (done + m)
      copied_more h copied k lt = ⊎_elim
          (λ (before : k < done). (writes.changed h).same (to + k) (outside_range (to + done) m (to + k) (inl (omega (arith, before)))) ∙ was.copied h k before)
          (λ (behind : done ≤ k).
          let j : k ≡ done + (k - done) = omega (arith, behind) in
          let here : to + k ≡ to + done + (k - done) = omega (arith, behind) in
          let there : from + done + (k - done) ≡ from + k = omega (arith, behind) in
          let source : in_range to n (from + k) ≡ false = ⊎_elim
          (λ (low : from + n ≤ to). outside_range to n (from + k) (inl (omega (arith, low, lt, fits))))
          (λ (high : to + n ≤ from). outside_range to n (from + k) (inr (omega (arith, high))))
          can.apart in
          ap (λ (p : ℕ). get_or (d.content new) p 0) here
          ∙ copied (k - done) (omega (arith, behind, lt))
          ∙ ap (λ (p : ℕ). get_or (d.content mid) p 0) there
          ∙ (was.writes.changed h).same (from + k) source)
          (split k done)
        where
          split : (a b : ℕ) → (a < b) ⊎ (b ≤ a)
          split a b = grind arith

      -- and copied
      pub more : (d.honest → IsCopied (d.content mid) (d.content new) (from + done) (to + done) m) → NoneFailed d mid new → IsCopying d from to n (done + m) old new
      more copied unfailed = record {
        most = fits;
        unfailed = record { reads = unfailed.reads ∙ was.unfailed.reads; writes = unfailed.writes ∙ was.unfailed.writes };
        writes = writes_more;
        copied = λ h. copied_more h (copied h);
      }

  -- the same of a part of a buffer
  module _ (done m : ℕ) (mid new : D) (fits : done + m ≤ n) (was : IsCopying d from to n done old mid) (part : List ℕ) (long : length part ≡ m) (writes : WritesOnly d (in_range (to + done) (length part)) mid new) where
    writes_part : WritesOnly d (in_range (to + done) m) mid new
    writes_part = subst (λ (k : ℕ). WritesOnly d (in_range (to + done) k) mid new) long writes

    pub part_written : WritesOnly d (in_range to n) old new
    part_written = writes_more done m mid new fits was writes_part

    pub part_more : CanCopy from to n (length (d.content old)) → (d.honest → IsCopied (d.content mid) (d.content new) (from + done) (to + done) (length part)) → NoneFailed d mid new → IsCopying d from to n (done + m) old new
    part_more can copied unfailed = more done m mid new fits was writes_part can
        (subst (λ (k : ℕ). d.honest → IsCopied (d.content mid) (d.content new) (from + done) (to + done) k) long copied) unfailed
