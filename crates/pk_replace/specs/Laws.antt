-- What the laws of the writers say: where they write, and what doesn't rest on the bodies.
use Rattle.std.specs.Prelude.{◌≡◌, ◌⊎◌, ◌≤◌, ◌+◌, ◌∷◌, [], ℕ, Bool, List, length}
use Rattle.std.proofs.Common.{inl, inr, refl, sym, ◌∙◌, arith}
use Rattle.pk_disk.specs.Disk.{also, in_range}
use Rattle.pk_disk.proofs.Images.{same_part}
use Rattle.pk_disk.proofs.Ranges.{or_both, outside_range}
use Rattle.pk_manifest.specs.Bodies.{bodies_end}
use Rattle.pk_manifest.specs.Firm.{IsFar}
use Rattle.pk_replace.specs.Claims.{AgreeBehind, Claim, Each, IsInside, places}
use Rattle.pk_replace.specs.Copying.{CanCopy, PromisesCopy}

-- claims behind the bodies take no position of theirs
pub far_places : (size : ℕ) (claims : List Claim) → Each (IsInside size) claims
    → IsFar (places claims)
far_places size [] inside p lt = refl
far_places size (c ∷ cs) inside p lt =
    or_both (in_range c.at (length c.bytes) p) (places cs p)
    (outside_range c.at (length c.bytes) p (inl (omega (arith, inside.0.0, lt))))
    (far_places size cs inside.1 p lt)

-- nor does a copy
pub far_copy : (from to n size : ℕ) → CanCopy from to n size → IsFar (in_range to n)
far_copy from to n size can p lt = outside_range to n p (inl (omega (arith, can.behind, lt)))

-- what a copy promises rests on no byte of gates and bodies
pub copy_stays : (from to n : ℕ) (bytes bytes' : List ℕ) (c : Claim) → AgreeBehind bytes bytes'
    → PromisesCopy from to n bytes c → PromisesCopy from to n bytes' c
copy_stays from to n bytes bytes' c agree is =
    let behind : bodies_end ≤ from = is.behind in
    let fits : from + n ≤ length bytes = is.fits in
    let long : length bytes' ≡ length bytes = agree.size in
    let same = same_part bytes' bytes from n agree.size
    (λ p le lt. agree.same p (omega (arith, behind, le))) in
    record {
      behind = is.behind;
      fits = omega (arith, fits, long);
      placed = is.placed;
      spelled = is.spelled ∙ sym same;
    }

-- nor do a writer and the pieces behind it
pub far_followed : (touched : ℕ → Bool) (size : ℕ) (claims : List Claim) → IsFar touched
    → Each (IsInside size) claims → IsFar (also touched (places claims))
far_followed touched size claims far inside p lt =
    or_both (touched p) (places claims p) (far p lt) (far_places size claims inside p lt)

-- what the first of two promises stays, and the pieces do
pub followed_stays : (P Q R : Type 0) → (P → Q) → P ⊎ R → Q ⊎ R
followed_stays P Q R stays (inl is) = inl (stays is)
followed_stays P Q R stays (inr is) = inr is
