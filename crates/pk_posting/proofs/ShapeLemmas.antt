-- Where the packed blocks of a list end, from its last skip entry.
use Rattle.std.proofs.Common.{◌≡◌, ℕ, ◌<◌, ◌≤◌, ◌+◌, ◌-◌, ◌*◌, ◌/◌, ◌%◌, ◌^◌, List, length, slice_index, arith, sym, ap, ◌∙◌}
use Rattle.pk_posting.specs.Posting.{word, Spells, base, offset, width, total, tail_place}
use Rattle.pk_posting.specs.Spelling.{widths_of}
use Rattle.pk_posting.proofs.EntryLemmas.{total_more, total_rises}
use Rattle.pk_posting.proofs.WritingLemmas.{total_is}
use Rattle.pk_posting.proofs.SpellingLemmas.{widths_most, small_at}

-- what `tail_of` reads, where a list is spelled
pub record Ends (bytes : List ℕ) (B : ℕ) : Type 0 where
  pub head : base B ≤ length bytes
  pub inside : tail_place bytes B ≤ length bytes
  pub small : tail_place bytes B < 2 ^ 32
  pub none : B ≡ 0 → tail_place bytes B ≡ 4
  pub row : 0 < B → 16 ≤ word bytes (4 + 20 * (16 * ((B - 1) / 16)))
  pub row_inside : 0 < B → base B + word bytes (4 + 20 * (16 * ((B - 1) / 16))) + (B - 1) % 16 - 16 < length bytes
  pub last : 0 < B → base B + (word bytes (4 + 20 * (B - 1)) + 16 * slice_index bytes (base B + word bytes (4 + 20 * (16 * ((B - 1) / 16))) + (B - 1) % 16 - 16)) ≡ tail_place bytes B

pub ends : (bytes : List ℕ) (B : ℕ) (xs : List ℕ) → Spells bytes xs → length xs / 128 ≡ B → Ends bytes B
unfolding total
ends bytes B xs s e =
    let whole : tail_place bytes B ≤ length bytes = rw e at s.whole in
    let short = s.posting.short in
    let t : total bytes B B ≡ widths_of B xs = rw e at (total_is bytes xs s (length xs / 128) (omega arith)) in
    let w = widths_most xs B (small_at xs s.posting) (omega arith) in
    let own : (k : ℕ) → k < B → offset bytes k ≡ 16 * (k / 16 + 1) + 16 * total bytes B k = λ k h. rw e at (s.offsets k (omega arith)) in
    let last : 0 < B → total bytes B B ≡ total bytes B (B - 1) + width bytes B (B - 1) = λ h. (
    let g : B - 1 + 1 ≡ B = omega arith in
    ap (total bytes B) (sym g) ∙ total_more bytes B (B - 1)) in
    let first : 0 < B → word bytes (4 + 20 * (16 * ((B - 1) / 16))) ≡ 16 * ((B - 1) / 16 + 1) + 16 * total bytes B (16 * ((B - 1) / 16)) = λ h. (
    let same : 16 * ((B - 1) / 16) / 16 ≡ (B - 1) / 16 = omega arith in
    own (16 * ((B - 1) / 16)) (omega arith) ∙ ap (λ n. 16 * (n + 1) + 16 * total bytes B (16 * ((B - 1) / 16))) same) in
    let rises : 0 < B → total bytes B (16 * ((B - 1) / 16)) ≤ total bytes B B = λ h. (
    let g : 16 * ((B - 1) / 16) + (B - 16 * ((B - 1) / 16)) ≡ B = omega arith in
    let r = total_rises bytes B (16 * ((B - 1) / 16)) (B - 16 * ((B - 1) / 16)) in
    omega (arith, r, ap (total bytes B) g)) in
    record {
      head = omega arith;
      inside = whole;
      small = omega arith;
      none = λ z. (let n = ap (total bytes B) z in omega (arith, n));
      row = λ h. omega (arith, first h);
      row_inside = λ h. omega (arith, first h, rises h, whole);
      last = λ h. (
          let f = first h in
          let place : base B + word bytes (4 + 20 * (16 * ((B - 1) / 16))) + (B - 1) % 16 - 16 ≡ base B + (offset bytes (16 * ((B - 1) / 16)) - 16) + (B - 1) % 16 = omega (arith, f) in
          let b = ap (slice_index bytes) place in
          let o = own (B - 1) (omega arith) in
          omega (arith, b, o, last h));
    }

-- the same of the two words as they were read
pub ends_at : (bytes : List ℕ) (B row entry : ℕ) (xs : List ℕ) → Spells bytes xs → length xs / 128 ≡ B → 0 < B
    → row ≡ word bytes (4 + 20 * (16 * ((B - 1) / 16))) → entry ≡ word bytes (4 + 20 * (B - 1))
    → base B + (entry + 16 * slice_index bytes (base B + row + (B - 1) % 16 - 16)) ≡ tail_place bytes B
ends_at bytes B row entry xs s e h r q = let l = (ends bytes B xs s e).last h in rw (r, q) l
