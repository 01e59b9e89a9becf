-- What is written of a stretch, and where.
use Rattle.std.proofs.Common.{◌≡◌, ◌⊎◌, inl, inr, ⊎_elim, ℕ, ◌+◌, ◌-◌, ◌<◌, ◌≤◌, false, Bool, List, [], ◌++◌, length, take, drop, get_or, sym, ◌∙◌, ap, subst, append_assoc, append-nil, arith, length-drop}
use Rattle.std.proofs.lemmas.List.{drop-append-le, drop-drop, drop-take, length-take-le, take-append-drop, take-append-le, take_all}
use Rattle.std.proofs.lemmas.Bool.{cases_lt}
use Rattle.std.proofs.Math.Seq.{take-add, take-append-add}
use Rattle.pk_disk.specs.declared.disk.Disk.{Ghosts}
use Rattle.pk_disk.specs.Disk.{in_range, written}
use Rattle.pk_disk.proofs.Changes.{IsWithin}
use Rattle.pk_disk.proofs.Images.{same_part}
use Rattle.pk_disk.proofs.Ranges.{outside_cases, outside_range}
use Rattle.pk_segment.proofs.SegmentLemmas.{inside_part}
use Rattle.pk_replace.specs.Writing.{WritesOnly}
use Rattle.pk_replace.proofs.WritingLemmas.{writes_then}
use Rattle.pk_merge.specs.declared.output.Output.{Output}
use Rattle.pk_merge.specs.Output.{IsSameStretch, given, places_of}

-- a part of a stretch
pub range_within : (from n start end : ℕ) → start ≤ from → from + n ≤ end
    → IsWithin (in_range from n) (in_range start (end - start))
range_within from n start end le fits p out = ⊎_elim
    (λ before. outside_range from n p (inl (omega (arith, before, le))))
    (λ after. outside_range from n p (inr (omega (arith, after, le, fits))))
    (outside_cases start (end - start) p out)

-- what is held is written behind what was
pub written_behind : (b xs : List ℕ) (start at : ℕ) → start ≤ at → at + length xs ≤ length b
    → take (at + length xs - start) (drop start (written b at xs)) ≡ take (at - start) (drop start b) ++ xs
written_behind b xs start at le fits =
    let front = take (at - start) (drop start b) in
    let rest = drop (at + length xs) b in
    let long : length (take at b) ≡ at = length-take-le at b (omega (arith, fits)) in
    let size : length front ≡ at - start =
    length-take-le (at - start) (drop start b) (omega (arith, fits, le, length-drop start b)) in
    let split : start + (at - start) ≡ at = omega (arith, le) in
    let first : drop start (take at b) ≡ front = ap (λ (n : ℕ). drop start (take n b)) (sym split)
    ∙ drop-take start (at - start) b in
    let all : drop start (written b at xs) ≡ front ++ (xs ++ rest) =
    ap (drop start) (append_assoc (take at b) xs rest)
    ∙ drop-append-le start (take at b) (xs ++ rest) (omega (arith, long, le))
    ∙ ap (λ (l : List ℕ). l ++ (xs ++ rest)) first in
    let n : at + length xs - start ≡ length front + length xs = omega (arith, size, le) in
    ap (λ (l : List ℕ). take (at + length xs - start) l) all ∙ ap (λ (k : ℕ). take k (front ++ (xs ++ rest)))
    n
    ∙ take-append-add front (xs ++ rest) (length xs)
    ∙ ap (λ (l : List ℕ). front ++ l) (take-append-le (length xs) xs rest (omega arith)
    ∙ take_all (length xs) xs (omega arith))

-- ---- what is given

-- bytes that are held are given
pub given_held : (content : List ℕ) (mid new : Output) (xs : List ℕ) → new.start ≡ mid.start → new.at ≡ mid.at
    → take new.filled new.buffer.items ≡ take mid.filled mid.buffer.items ++ xs
    → given content new ≡ given content mid ++ xs
given_held content mid new xs start at held =
    ap (λ (n : ℕ). take (n - new.start) (drop new.start content) ++ take new.filled new.buffer.items) at
    ∙ ap (λ (n : ℕ). take (mid.at - n) (drop n content) ++ take new.filled new.buffer.items) start
    ∙ ap (λ (l : List ℕ). take (mid.at - mid.start) (drop mid.start content) ++ l) held
    ∙ sym (append_assoc (take (mid.at - mid.start) (drop mid.start content))
    (take mid.filled mid.buffer.items) xs)

-- a part more of some bytes
pub given_more : (old before mid now bytes rest : List ℕ) (done n : ℕ) → before ≡ old ++ take done bytes
    → mid ≡ before ++ [] → now ≡ mid ++ take n rest → rest ≡ drop done bytes
    → now ≡ old ++ take (done + n) bytes
given_more old before mid now bytes rest done n so_far room held is =
    held ∙ ap (λ (l : List ℕ). l ++ take n rest) (room ∙ append-nil before ∙ so_far)
    ∙ append_assoc old (take done bytes) (take n rest)
    ∙ ap (λ (l : List ℕ). old ++ (take done bytes ++ take n l)) is
    ∙ ap (λ (l : List ℕ). old ++ l) (sym (take-add done n bytes))

pub same_places : (old new : Output) → IsSameStretch old new → places_of new ≡ places_of old
same_places old new same = ap (λ (n : ℕ). in_range n (new.end - n)) same.start
    ∙ ap (λ (n : ℕ). in_range old.start (n - old.start)) same.end

pub stretch_then : (a b c : Output) → IsSameStretch a b → IsSameStretch b c → IsSameStretch a c
stretch_then a b c one two = record { start = two.start ∙ one.start; end = two.end ∙ one.end }

-- ---- one run after another

module _ {D : Type 0} (d : Ghosts D) where
  pub writes_next : (a b : Output) (old mid new : D) → IsSameStretch a b → WritesOnly d (places_of a) old mid
      → WritesOnly d (places_of b) mid new → WritesOnly d (places_of a) old new
  writes_next a b old mid new same one two =
      writes_then d (places_of a) (places_of a) (places_of a) (λ p out. out) (λ p out. out) old mid new one
      (subst (λ (t : ℕ → Bool). WritesOnly d t mid new) (same_places a b same) two)

-- a part more of some bytes, which stand elsewhere
pub given_part : (old before mid now bytes part : List ℕ) (done n : ℕ) → before ≡ old ++ take done bytes
    → mid ≡ before ++ [] → now ≡ mid ++ part → part ≡ take n (drop done bytes)
    → now ≡ old ++ take (done + n) bytes
given_part old before mid now bytes part done n so_far room held is =
    held ∙ ap (λ (l : List ℕ). l ++ part) (room ∙ append-nil before ∙ so_far)
    ∙ append_assoc old (take done bytes) part
    ∙ ap (λ (l : List ℕ). old ++ (take done bytes ++ l)) is
    ∙ ap (λ (l : List ℕ). old ++ l) (sym (take-add done n bytes))

-- bytes outside of the stretch stay, and so does a part of them
pub part_of : (now before : List ℕ) (from len done n start end : ℕ) → length now ≡ length before
    → ((p : ℕ) → in_range start (end - start) p ≡ false → get_or now p 0 ≡ get_or before p 0)
    → (from + len ≤ start) ⊎ (end ≤ from) → from + len ≤ length before → done + n ≤ len
    → take n (drop (from + done) now) ≡ take n (drop done (take len (drop from before)))
part_of now before from len done n start end long same apart inside le =
    let ys = drop from before in
    let size : length (take len ys) ≡ len =
    length-take-le len ys (omega (arith, inside, length-drop from before)) in
    same_part now before (from + done) n long
    (λ p above below. same p (outside_range start (end - start) p (place p above below)))
    ∙ ap (take n) (sym (drop-drop done from before) ∙ ap (drop done) (sym (take-append-drop len ys)))
    ∙ inside_part done n (take len ys) (drop len ys) (omega (arith, size, le))
  where
    place : (p : ℕ) → from + done ≤ p → p < from + done + n → (p < start) ⊎ (start + (end - start) ≤ p)
    place p above below = elim apart [
      | inl low ↦ inl (omega (arith, low, below, le))
      | inr high ↦ elim (cases_lt p start)
          [ inl less ↦ inl less | inr more ↦ inr (omega (arith, high, above, more)) ]
    ]
