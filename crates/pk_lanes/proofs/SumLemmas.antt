-- One vector more of a block that is unpacked and summed in one pass.
use Rattle.std.proofs.Common.{◌≡◌, ℕ, ◌<◌, ◌+◌, ◌-◌, ◌*◌, ◌%◌, ◌^◌, List, ◌++◌, length, slice_index, replicate, refl, sym, ap, ◌∙◌, arith}
use Rattle.pk_lanes.specs.Packed.{Packed, bit, lane_bit}
use Rattle.pk_lanes.specs.Differences.{Restores}
use Rattle.pk_lanes.specs.Progress.{RestoresTo, Summed}
use Rattle.pk_lanes.proofs.UnpackingLemmas.{written, written_before, written_here, length_written, unpacked_more, unpacked_none, unpacked_all}
use Rattle.pk_lanes.proofs.DifferenceLemmas.{restores_none, restores_more}

-- the differences behind the first k vectors do not matter yet
restores_same : (k : ℕ) (seed ds new xs last : List ℕ) → ((i : ℕ) → i < 4 * k → slice_index new i ≡ slice_index ds i)
    → RestoresTo k seed ds xs last → RestoresTo k seed new xs last
restores_same k seed ds new xs last same old = record {
  step = λ i h. old.step i h ∙ ap (λ n. (n + slice_index (seed ++ xs) i) % 2 ^ 32) (sym (same i h));
  carried = old.carried;
}

pub summed_none : (bytes : List ℕ) (b : ℕ) (seed xs : List ℕ) → length seed ≡ 4 → Summed bytes b 0 seed xs seed
summed_none bytes b seed xs four = record {
  differences = replicate 128 0;
  count = refl;
  unpacked = unpacked_none bytes b (replicate 128 0);
  restored = restores_none seed (replicate 128 0) xs four;
}

pub summed_more : (bytes : List ℕ) (b k : ℕ) (seed xs last ys new : List ℕ) → k < 32 → length seed ≡ 4 → length xs ≡ 128 → length ys ≡ 4 → length new ≡ 4
    → Summed bytes b k seed xs last
    → ((c : ℕ) → c < 4 → slice_index ys c < 2 ^ b)
    → ((c j : ℕ) → c < 4 → j < b → bit (slice_index ys c) j ≡ lane_bit bytes c (k * b + j))
    → ((c : ℕ) → c < 4 → slice_index new c ≡ (slice_index ys c + slice_index last c) % 2 ^ 32)
    → Summed bytes b (k + 1) seed (written (4 * k) (128 - 4 * k) xs new) new
summed_more bytes b k seed xs last ys new hk four hx hy hn old small bits sums =
    let ds = old.differences in
    let es = written (4 * k) (128 - 4 * k) ds ys in
    let hd = old.count in
    let before : (i : ℕ) → i < 4 * k → slice_index es i ≡ slice_index ds i =
    λ i h. written_before (4 * k) (128 - 4 * k) ds ys i h (omega arith) in
    let here : (c : ℕ) → c < 4 → slice_index ys c ≡ slice_index es (4 * k + c) =
    λ c h. sym (written_here (4 * k) (128 - 4 * k) ds ys c (omega arith) (omega arith) (omega arith)) in
    record {
      differences = es;
      count = length_written (4 * k) (128 - 4 * k) ds ys (omega arith) ∙ hd;
      unpacked = unpacked_more bytes b k ds ys hk hd hy old.unpacked small bits;
      restored = restores_more k seed es xs last ys new hk four hx hn (restores_same k seed ds es xs last before old.restored) here sums;
    }

pub summed_all : (bytes : List ℕ) (b : ℕ) (seed xs last : List ℕ) → length bytes ≡ 16 * b → Summed bytes b 32 seed xs last
    → (ds : List ℕ) × Packed bytes b ds × Restores seed ds xs
summed_all bytes b seed xs last size all = (
  all.differences,
  unpacked_all bytes b all.differences size all.count all.unpacked,
  record { step = λ i h. all.restored.step i (omega arith) },
)
