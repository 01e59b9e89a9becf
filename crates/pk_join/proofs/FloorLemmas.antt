-- Groups of keys whose floors are 0.
use Rattle.std.proofs.Common.{◌≡◌, ℕ, zero, suc, ◌+◌, ◌/◌, List, length, replicate, slice_index, refl, arith}
use Rattle.std.proofs.lemmas.List.{length-replicate}
use Rattle.pk_join.specs.HeadKeys.{AreFloors}

zero_at : (n k : ℕ) → slice_index (replicate n 0) k ≡ 0
zero_at zero k = refl
zero_at (suc n) zero = refl
zero_at (suc n) (suc k) = zero_at n k

-- no key is below 0
pub floors_none : (keys : List ℕ) (n : ℕ) → n ≡ length keys / 64 + 1 → AreFloors keys (replicate n 0)
floors_none keys n is =
    let long = length-replicate {A = ℕ} n 0 in
    record {
      each = omega (arith, long, is);
      few = omega (arith, long, is);
      below = λ k lt. omega (arith, zero_at n (k / 64));
    }
