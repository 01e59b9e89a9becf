-- One vector more of a block that is packed.
use Rattle.std.proofs.Common.{◌≡◌, ℕ, ◌<◌, ◌≤◌, ◌+◌, ◌-◌, ◌*◌, ◌/◌, ◌%◌, ◌^◌, List, length, slice_index, arith, sym, ap, ◌∙◌, inl, inr}
use Rattle.std.proofs.lemmas.Bool.{cases_lt}
use Rattle.std.proofs.lemmas.Nat.{mul-add-lt}
use Rattle.std.proofs.lemmas.Nat.Bits.{bit_at_above}
use Rattle.pk_lanes.specs.Packed.{Packed, bit, lane_bit}
use Rattle.pk_lanes.specs.Progress.{Filling}

next : (k b : ℕ) → (k + 1) * b ≡ k * b + b
next k b = omega arith

-- the bits of the vectors before k lie before those of vector k
before : (i j b k : ℕ) → i < 4 * k → j < b → i / 4 * b + j < k * b
before i j b k h hj = omega (arith, mul-add-lt (i / 4) b j k (omega arith) hj)

-- what is known of vector k, as it is shifted onto the word
pub record Shifted (xs : List ℕ) (b k : ℕ) (word x full : List ℕ) : Type 0 where
  pub small : (c : ℕ) → c < 4 → slice_index x c < 2 ^ b
  pub value : (c : ℕ) → c < 4 → slice_index x c ≡ slice_index xs (4 * k + c)
  pub lows : (c q : ℕ) → c < 4 → q < k * b % 32 → bit (slice_index full c) q ≡ bit (slice_index word c) q
  pub highs : (c q : ℕ) → c < 4 → k * b % 32 ≤ q → q < 32 → bit (slice_index word c) q ≡ 0
      → bit (slice_index full c) q ≡ bit (slice_index x c) (q - k * b % 32)

-- the words that are full, or not yet, hold each bit of the vectors up to k that falls into them
holds : (xs : List ℕ) (b k : ℕ) (out word x full : List ℕ) → Filling xs b k out word → Shifted xs b k word x full
    → (i j : ℕ) → i < 4 * (k + 1) → j < b → 32 * (k * b / 32) ≤ i / 4 * b + j → i / 4 * b + j < 32 * (k * b / 32) + 32
    → bit (slice_index full (i % 4)) (i / 4 * b + j - 32 * (k * b / 32)) ≡ bit (slice_index xs i) j
holds xs b k out word x full old new i j h hj low high = elim (cases_lt i (4 * k)) [
  | inl l ↦ (let at = before i j b k l hj in
      new.lows (i % 4) (i / 4 * b + j - 32 * (k * b / 32)) (omega arith) (omega arith) ∙ old.rest i j l hj low)
  | inr r ↦ (let vector : i / 4 ≡ k = omega arith in
      let product : i / 4 * b ≡ k * b = ap (λ m. m * b) vector in
      let q : i / 4 * b + j - 32 * (k * b / 32) - k * b % 32 ≡ j = omega arith in
      let lane : 4 * k + i % 4 ≡ i = omega arith in
      new.highs (i % 4) (i / 4 * b + j - 32 * (k * b / 32)) (omega arith) (omega arith) (omega arith)
      (old.short (i % 4) (i / 4 * b + j - 32 * (k * b / 32)) (omega arith) (omega arith) (omega arith))
      ∙ ap (bit (slice_index x (i % 4))) q
      ∙ ap (λ n. bit n j) (new.value (i % 4) (omega arith) ∙ ap (slice_index xs) lane))
]

pub filling_kept : (xs : List ℕ) (b k : ℕ) (out word x full : List ℕ) → Filling xs b k out word → Shifted xs b k word x full
    → k * b % 32 + b < 32 → Filling xs b (k + 1) out full
filling_kept xs b k out word x full old new fit =
    let product = next k b in
    let same_word : (k + 1) * b / 32 ≡ k * b / 32 = omega arith in
    let more : (k + 1) * b % 32 ≡ k * b % 32 + b = omega arith in
    record {
      done = λ i j h hj low. elim (cases_lt i (4 * k)) [
        | inl l ↦ old.done i j l hj (omega arith)
        | inr r ↦ absurd (let vector : i / 4 ≡ k = omega arith in let p : i / 4 * b ≡ k * b = ap (λ m. m * b) vector in omega arith)
      ];
      rest = λ i j h hj low. rw same_word
          (let at = before i j b (k + 1) h hj in
          holds xs b k out word x full old new i j h hj (omega arith) (omega arith));
      short = λ c q h low high.
          new.highs c q h (omega arith) high (old.short c q h (omega arith) high)
          ∙ bit_at_above (slice_index x c) b (q - k * b % 32) (new.small c h) (omega arith);
    }

pub filling_stored : (xs : List ℕ) (b k : ℕ) (out word x full out2 rest : List ℕ) → b ≤ 32 → Filling xs b k out word → Shifted xs b k word x full
    → 32 ≤ k * b % 32 + b
    → ((c j : ℕ) → c < 4 → j < 32 → lane_bit out2 c (32 * (k * b / 32) + j) ≡ bit (slice_index full c) j)
    → ((c q : ℕ) → c < 4 → q < 32 * (k * b / 32) → lane_bit out2 c q ≡ lane_bit out c q)
    → ((c q : ℕ) → c < 4 → bit (slice_index rest c) q ≡ bit (slice_index x c) (32 - k * b % 32 + q))
    → Filling xs b (k + 1) out2 rest
filling_stored xs b k out word x full out2 rest most old new over here past left =
    let product = next k b in
    let next_word : (k + 1) * b / 32 ≡ k * b / 32 + 1 = omega arith in
    let less : (k + 1) * b % 32 ≡ k * b % 32 + b - 32 = omega arith in
    record {
      done = λ i j h hj low. elim (cases_lt (i / 4 * b + j) (32 * (k * b / 32))) [
        | inl l ↦ (elim (cases_lt i (4 * k)) [
          | inl m ↦ past (i % 4) (i / 4 * b + j) (omega arith) l ∙ old.done i j m hj l
          | inr r ↦ absurd (let vector : i / 4 ≡ k = omega arith in let p : i / 4 * b ≡ k * b = ap (λ m. m * b) vector in omega arith)
        ])
        | inr r ↦ (let place : 32 * (k * b / 32) + (i / 4 * b + j - 32 * (k * b / 32)) ≡ i / 4 * b + j = omega arith in
            ap (lane_bit out2 (i % 4)) (sym place)
            ∙ here (i % 4) (i / 4 * b + j - 32 * (k * b / 32)) (omega arith) (omega arith)
            ∙ holds xs b k out word x full old new i j h hj r (omega arith))
      ];
      rest = λ i j h hj low. elim (cases_lt i (4 * k)) [
        | inl l ↦ absurd (let at = before i j b k l hj in omega arith)
        | inr r ↦ (let vector : i / 4 ≡ k = omega arith in
            let p : i / 4 * b ≡ k * b = ap (λ m. m * b) vector in
            let q : 32 - k * b % 32 + (i / 4 * b + j - 32 * ((k + 1) * b / 32)) ≡ j = omega arith in
            let lane : 4 * k + i % 4 ≡ i = omega arith in
            left (i % 4) (i / 4 * b + j - 32 * ((k + 1) * b / 32)) (omega arith)
            ∙ ap (bit (slice_index x (i % 4))) q
            ∙ ap (λ n. bit n j) (new.value (i % 4) (omega arith) ∙ ap (slice_index xs) lane))
      ];
      short = λ c q h low high.
          left c q h ∙ bit_at_above (slice_index x c) b (32 - k * b % 32 + q) (new.small c h) (omega arith);
    }

pub filling_none : (xs : List ℕ) (b : ℕ) (out word : List ℕ) → ((c : ℕ) → c < 4 → slice_index word c ≡ 0) → Filling xs b 0 out word
filling_none xs b out word clear = record {
  done = λ i j h hj low. absurd (omega arith);
  rest = λ i j h hj low. absurd (omega arith);
  short = λ c q h low high. ap (λ n. bit n q) (clear c h) ∙ bit_at_above 0 0 q (omega arith) (omega arith);
}

pub filling_all : (xs : List ℕ) (b : ℕ) (out word : List ℕ) → length out ≡ 16 * b → length xs ≡ 128
    → ((i : ℕ) → i < 128 → slice_index xs i < 2 ^ b) → Filling xs b 32 out word → Packed out b xs
filling_all xs b out word size count small all = record {
  size = size;
  count = count;
  below = small;
  bits = λ i j h hj.
      let at = before i j b 32 (omega arith) hj in
      sym (all.done i j (omega arith) hj (omega arith));
}
