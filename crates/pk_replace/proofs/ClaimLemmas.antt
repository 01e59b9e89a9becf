-- Claims under changes: those that nothing touches stay, and pieces written one after another are there.
use Rattle.std.proofs.Common.{◌≡◌, ⊎_elim, ℕ, ◌+◌, ◌<◌, ◌≤◌, Bool, List, [], ◌∷◌, ◌++◌, length, map, take, drop, get_or, refl, sym, ◌∙◌, ap, subst}
use Rattle.std.proofs.lemmas.List.{at_drop_more, map-append, take-append-drop, take_more}
use Rattle.pk_disk.specs.declared.disk.Disk.{Ghosts}
use Rattle.pk_disk.specs.Disk.{IsImage, IsChangedOnly, also, in_range, nowhere, written}
use Rattle.pk_disk.proofs.Ranges.{or_both, or_left, or_right}
use Rattle.pk_disk.proofs.Images.{same_part}
use Rattle.pk_disk.proofs.Changes.{IsWithin, part_in, part_left, there_by}
use Rattle.pk_replace.specs.declared.pieces.Piece.{Piece}
use Rattle.pk_replace.specs.Claims.{Claim, AreApart, Each, IsAmong, IsInside, IsThere, IsUntouched, Stands, claim_of, places}
use Rattle.pk_replace.specs.Writing.{WritesOnly}
use Rattle.pk_replace.proofs.WritingLemmas.{writes_then}

-- each has what follows from what it has
pub each_weaker : (P Q : Claim → Type 0) → ((c : Claim) → P c → Q c) → (cs : List Claim) → Each P cs → Each Q cs
each_weaker P Q f [] each = tt
each_weaker P Q f (c ∷ cs) each = (f c each.0, each_weaker P Q f cs each.1)

-- what each has, one among them has
pub of_among : (P : Claim → Type 0) (c : Claim) (cs : List Claim) → IsAmong c cs → Each P cs → P c
of_among P c [] is each = absurd is
of_among P c (d ∷ ds) is each = ⊎_elim (λ (same : c ≡ d). subst P (sym same) each.0) (λ later. of_among P c ds later each.1) is

-- no position is touched
pub untouched_nowhere : (cs : List Claim) → Each (IsUntouched nowhere) cs
untouched_nowhere [] = tt
untouched_nowhere (c ∷ cs) = (λ p le lt. refl, untouched_nowhere cs)

-- a claim that stands is in each image of a change that doesn't touch it
pub there_in : (b : List ℕ) (o t : ℕ → Bool) (image : List ℕ) → IsImage b (also o t) image → (c : Claim) → IsUntouched t c → Stands b o c → IsThere image c
there_in b o t image is c out stands = part_in b o t image is c.at (length c.bytes) stands.stable out ∙ stands.there

-- the same of each
pub all_in : (b : List ℕ) (o t : ℕ → Bool) (image : List ℕ) → IsImage b (also o t) image → (claims : List Claim) → Each (IsUntouched t) claims → Each (Stands b o) claims → Each (IsThere image) claims
all_in b o t image is [] out stand = tt
all_in b o t image is (c ∷ cs) out stand = (there_in b o t image is c out.0 stand.0, all_in b o t image is cs out.1 stand.1)

-- a claim is in an image that is the same where nothing is touched
pub untouched_there : (b : List ℕ) (t : ℕ → Bool) (image : List ℕ) → IsImage b t image → (c : Claim) → IsUntouched t c → IsThere b c → IsThere image c
untouched_there b t image is c out there = same_part image b c.at (length c.bytes) is.size (λ p le lt. is.same p (out p le lt)) ∙ there

-- with nothing open, what is there stands
pub steady : (b : List ℕ) (o : ℕ → Bool) → o ≡ nowhere → (claims : List Claim) → Each (IsThere b) claims → Each (Stands b o) claims
steady b o closed claims there = each_weaker (IsThere b) (Stands b o) (λ c is. record { there = is; stable = λ p le lt i. closed i p }) claims there

-- a claim that a change doesn't touch
module _ (b : List ℕ) (o t : ℕ → Bool) (b' : List ℕ) (o' : ℕ → Bool) (changed : IsChangedOnly b o t b' o') where
  pub there_still : (c : Claim) → IsUntouched t c → IsThere b c → IsThere b' c
  there_still c out there = part_left b o t b' o' changed c.at (length c.bytes) out ∙ there

  pub stands_still : (c : Claim) → IsUntouched t c → Stands b o c → Stands b' o' c
  stands_still c out stands = record {
    there = there_still c out stands.there;
    stable = λ p le lt. changed.shut p (out p le lt) (stands.stable p le lt);
  }

  pub all_still : (claims : List Claim) → Each (IsUntouched t) claims → Each (Stands b o) claims → Each (Stands b' o') claims
  all_still [] out stand = tt
  all_still (c ∷ cs) out stand = (stands_still c out.0 stand.0, all_still cs out.1 stand.1)

-- the positions of some of the claims, and of one among them
pub within_front : (front rest : List Claim) → IsWithin (places front) (places (front ++ rest))
within_front [] rest p out = refl
within_front (c ∷ front) rest p out =
    or_both (in_range c.at (length c.bytes) p) (places front p) (or_left (in_range c.at (length c.bytes) p) (places (front ++ rest) p) out)
    (within_front front rest p (or_right (in_range c.at (length c.bytes) p) (places (front ++ rest) p) out))

within_behind : (front rest : List Claim) → IsWithin (places rest) (places (front ++ rest))
within_behind [] rest p out = out
within_behind (c ∷ front) rest p out = within_behind front rest p (or_right (in_range c.at (length c.bytes) p) (places (front ++ rest) p) out)

pub within_one : (front : List Claim) (c : Claim) (rest : List Claim) → IsWithin (in_range c.at (length c.bytes)) (places (front ++ c ∷ rest))
within_one front c rest p out = or_left (in_range c.at (length c.bytes) p) (places rest p) (within_behind front (c ∷ rest) p out)

-- what each has, those behind others and those before them have
each_behind : (P : Claim → Type 0) (front rest : List Claim) → Each P (front ++ rest) → Each P rest
each_behind P [] rest each = each
each_behind P (c ∷ front) rest each = each_behind P front rest each.1

each_last : (P : Claim → Type 0) (front : List Claim) (c : Claim) → Each P front → P c → Each P (front ++ c ∷ [])
each_last P [] c each last = (last, tt)
each_last P (d ∷ front) c each last = (each.0, each_last P front c each.1 last)

-- of claims that are apart, none before one shares a position with it
before_one : (front : List Claim) (c : Claim) (rest : List Claim) → AreApart (front ++ c ∷ rest) → Each (IsUntouched (in_range c.at (length c.bytes))) front
before_one [] c rest apart = tt
before_one (d ∷ front) c rest apart = (λ p le lt. within_one front c rest p (apart.0 p le lt), before_one front c rest apart.1)

-- The calls that write, behind the pieces in front, one more piece c, whose bytes were lent as bs.
module _ {D : Type 0} (d : Ghosts D) (whole front : List Claim) (c : Claim) (rest : List Claim) (split : whole ≡ front ++ c ∷ rest) (bs : List ℕ) (lent : bs ≡ c.bytes) (old mid now : D) where
  in_one : (outer : ℕ → Bool) → IsWithin (in_range c.at (length c.bytes)) outer → IsWithin (in_range c.at (length bs)) outer
  in_one outer within = subst (λ (xs : List ℕ). IsWithin (in_range c.at (length xs)) outer) (sym lent) within

  pub fits_one : (size : ℕ) → Each (IsInside size) whole → c.at + length bs ≤ size
  fits_one size inside = subst (λ (xs : List ℕ). c.at + length xs ≤ size) (sym lent) (each_behind (IsInside size) front (c ∷ rest) (subst (Each (IsInside size)) split inside)).0.1

  -- among all of them
  pub put_within : WritesOnly d (places front) old mid → WritesOnly d (in_range c.at (length bs)) mid now → WritesOnly d (places whole) old now
  put_within before one =
      subst (λ (w : List Claim). WritesOnly d (places w) old now) (sym split)
      (writes_then d (places front) (in_range c.at (length bs)) (places (front ++ c ∷ rest)) (within_front front (c ∷ rest)) (in_one (places (front ++ c ∷ rest)) (within_one front c rest)) old mid now before one)

  -- and among those so far
  pub put_more : WritesOnly d (places front) old mid → WritesOnly d (in_range c.at (length bs)) mid now → WritesOnly d (places (front ++ c ∷ [])) old now
  put_more before one =
      writes_then d (places front) (in_range c.at (length bs)) (places (front ++ c ∷ [])) (within_front front (c ∷ [])) (in_one (places (front ++ c ∷ [])) (within_one front c [])) old mid now before one

  -- so that these are there
  pub put_there : AreApart whole → Each (IsThere (d.content mid)) front → IsChangedOnly (d.content mid) (d.is_open mid) (in_range c.at (length bs)) (d.content now) (d.is_open now)
      → c.at + length bs ≤ length (d.content mid) → d.content now ≡ written (d.content mid) c.at bs → Each (IsThere (d.content now)) (front ++ c ∷ [])
  put_there apart there changed fits wrote =
      let fits_c : c.at + length c.bytes ≤ length (d.content mid) = subst (λ (xs : List ℕ). c.at + length xs ≤ length (d.content mid)) lent fits in
      let wrote_c : d.content now ≡ written (d.content mid) c.at c.bytes = wrote ∙ ap (written (d.content mid) c.at) lent in
      let untouched = before_one front c rest (subst AreApart split apart) in
      each_last (IsThere (d.content now)) front c
      (still front (subst (λ (xs : List ℕ). Each (IsUntouched (in_range c.at (length xs))) front) (sym lent) untouched) there)
      (there_by (d.content mid) c.at c.bytes fits_c (d.content now) wrote_c)
    where
      still : (cs : List Claim) → Each (IsUntouched (in_range c.at (length bs))) cs → Each (IsThere (d.content mid)) cs → Each (IsThere (d.content now)) cs
      still [] out is = tt
      still (e ∷ cs) out is = (there_still (d.content mid) (d.is_open mid) (in_range c.at (length bs)) (d.content now) (d.is_open now) changed e out.0 is.0, still cs out.1 is.1)

-- the pieces, cut at one of them
pub pieces_split : (pieces : List Piece) (i : ℕ) (p : Piece) → i < length pieces → p ≡ get_or pieces i p → map claim_of pieces ≡ map claim_of (take i pieces) ++ claim_of p ∷ map claim_of (drop (i + 1) pieces)
pieces_split pieces i p lt is =
    let cut : drop i pieces ≡ p ∷ drop (i + 1) pieces = at_drop_more (λ (ps : List Piece). ps) pieces i p lt ∙ ap (λ (q : Piece). q ∷ drop (i + 1) pieces) (sym is) in
    ap (map claim_of) (sym (take-append-drop i pieces) ∙ ap (λ (ps : List Piece). take i pieces ++ ps) cut) ∙ map-append claim_of (take i pieces) (p ∷ drop (i + 1) pieces)

pub pieces_more : (pieces : List Piece) (i : ℕ) (p : Piece) → i < length pieces → p ≡ get_or pieces i p → map claim_of (take (i + 1) pieces) ≡ map claim_of (take i pieces) ++ claim_of p ∷ []
pieces_more pieces i p lt is =
    ap (map claim_of) (take_more pieces i p lt ∙ ap (λ (q : Piece). take i pieces ++ q ∷ []) (sym is)) ∙ map-append claim_of (take i pieces) (p ∷ [])
