-- The block that a seek goes to has the first number that reaches the target.
use Rattle.std.proofs.Common.{arith, ap, ◌∙◌, ◌≡◌, ◌≤◌, ◌<◌, ◌+◌, ◌-◌, ◌*◌, ℕ, zero, suc, List, length, min, slice_index, inl, inr}
use Rattle.std.proofs.lemmas.Bool.{cases_lt}
use Rattle.pk_posting.specs.Posting.{IsPosting}
use Rattle.pk_posting.proofs.BlockLemmas.{one_zero}
use Rattle.pk_cursor.specs.Standing.{StandsAt}
use Rattle.pk_cursor.specs.Seeking.{IsFirst, block_end}
use Rattle.pk_cursor.specs.declared.standing.Standing.{Standing}

one_up : (xs : List ℕ) (i : ℕ) → IsPosting xs → i + 1 < length xs → slice_index xs i < slice_index xs (i + 1)
one_up xs i p h =
    let u = p.rising (i + 1) h in
    let e : 1 + i ≡ i + 1 = omega arith in
    let z = rw e at (one_zero xs i) in
    omega (arith, u, z)

pub climbs : (xs : List ℕ) (i n : ℕ) → IsPosting xs → i + n < length xs → slice_index xs i ≤ slice_index xs (i + n)
climbs xs i zero p h = (let e : i ≡ i + 0 = omega arith in omega (arith, ap (slice_index xs) e))
climbs xs i (suc n) p h =
    let e : i + suc n ≡ i + n + 1 = omega arith in
    omega (arith, climbs xs i n p (omega arith), one_up xs (i + n) p (omega arith), ap (slice_index xs) e)

-- what stands before a number is no greater
pub before_is : (xs : List ℕ) (i j : ℕ) → IsPosting xs → i ≤ j → j < length xs → slice_index xs i ≤ slice_index xs j
before_is xs i j p l h = let e : i + (j - i) ≡ j = omega arith in (let c = climbs xs i (j - i) p (omega arith) in omega (arith, c, ap (slice_index xs) e))

-- what the scan of the held numbers found
pub record Scanned (numbers : List ℕ) (at held target m : ℕ) : Type 0 where
  pub from : at ≤ m
  pub within : m ≤ held
  pub below : (i : ℕ) → at ≤ i → i < m → slice_index numbers i < target
  pub reaches : m < held → target ≤ slice_index numbers m

-- the first place in the held block is the first of the list, if the block reaches the target
pub first_here : (bytes : List ℕ) (standing : Standing) (xs : List ℕ) (n target m : ℕ) → StandsAt bytes standing xs n → standing.at ≤ standing.held → standing.block ≤ standing.shape.blocks
    → Scanned standing.numbers standing.at standing.held target m → (standing.block < standing.shape.blocks → target ≤ slice_index standing.numbers 127)
    → IsFirst xs n target (128 * standing.block + m)
first_here bytes standing xs n target m a o b s last =
    let blocks = a.shape.blocks in
    let index = a.index in
    let count = a.count in
    let from = s.from in
    let within = s.within in
    record {
      from = omega arith;
      within = omega arith;
      below = λ i l h. (
          let e : 128 * standing.block + (i - 128 * standing.block) ≡ i = omega arith in
          let v = a.numbers (i - 128 * standing.block) (omega arith) ∙ ap (slice_index xs) e in
          let u = s.below (i - 128 * standing.block) (omega arith) (omega arith) in
          omega (arith, u, v));
      reaches = λ h. elim (cases_lt m standing.held) [
        | inl l ↦ (let v = a.numbers m l in let u = s.reaches l in omega (arith, u, v))
        | inr g ↦ elim (cases_lt standing.block standing.shape.blocks) [
          | inl l ↦ (let i = a.inside l in let u = s.below 127 (omega arith) (omega arith) in let v = last l in absurd (omega (arith, u, v)))
          | inr z ↦ absurd (omega arith)
        ]
      ];
    }

pub first_inside : (bytes : List ℕ) (standing : Standing) (xs : List ℕ) (n target m : ℕ) → StandsAt bytes standing xs n → Scanned standing.numbers standing.at standing.held target m
    → (standing.block < standing.shape.blocks → target ≤ slice_index standing.numbers 127) → standing.block < standing.shape.blocks → m < 128
first_inside bytes standing xs n target m a s last l = elim (cases_lt m 128) [
  | inl h ↦ h
  | inr g ↦ (let i = a.inside l in let u = s.below 127 (omega arith) (omega arith) in let v = last l in absurd (omega (arith, u, v)))
]

-- the blocks that are passed are below the target
pub widen : (xs : List ℕ) (n j target m : ℕ) → IsPosting xs → n ≤ 128 * j → 0 < j → 128 * j ≤ length xs → block_end xs (j - 1) < target → IsFirst xs (128 * j) target m → IsFirst xs n target m
widen xs n j target m p l s r b f =
    let from = f.from in
    record {
      from = omega arith;
      within = f.within;
      below = λ i h k. elim (cases_lt i (128 * j)) [
        | inl low ↦ (let c = before_is xs i (128 * (j - 1) + 127) p (omega arith) (omega arith) in omega (arith, c, b))
        | inr up ↦ f.below i up k
      ];
      reaches = f.reaches;
    }

-- past the last number that is held it is one index on, to the end at most
pub last_held : (bytes : List ℕ) (standing : Standing) (xs : List ℕ) (n : ℕ) → StandsAt bytes standing xs n → standing.block ≤ standing.shape.blocks → standing.at ≤ standing.held
    → standing.held ≤ standing.at + 1 → min (n + 1) (length xs) ≡ n + (standing.held - standing.at)
last_held bytes standing xs n a b o h =
    let blocks = a.shape.blocks in
    let index = a.index in
    let count = a.count in
    elim (cases_lt standing.block standing.shape.blocks) [
      | inl l ↦ (let i = a.inside l in omega arith)
      | inr r ↦ omega arith
    ]
