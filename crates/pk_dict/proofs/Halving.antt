-- Each step of a halving takes one of the steps that are left.
use Rattle.std.proofs.Common.{arith, ◌≤◌, ◌<◌, ◌+◌, ◌*◌, ◌/◌, ◌^◌, ℕ, zero, suc}
use Rattle.std.proofs.Math.Pow.{pow_pos}
use Rattle.std.proofs.Math.Nat.{pow-suc, mul-le-mul_right}

-- with `left` steps of w asks each, all in all k + 1 of them, so many groups are decided
pub record AsksLeft (k w groups before now : ℕ) : Type 0 where
  pub left : ℕ
  pub groups_left : groups < 2 ^ left
  pub asks_left : now + left * w ≤ before + (k + 1) * w

twice : (k n : ℕ) → n ≤ 2 ^ k → n < 2 ^ (suc k)
twice k n h = omega (arith, pow-suc 2 k, pow_pos k)

pub first_left : (k w groups asked : ℕ) → groups ≤ 2 ^ k → AsksLeft k w groups asked asked
first_left k w groups asked h = record { left = suc k; groups_left = twice k groups h; asks_left = omega arith }

fewer : (k w groups less before now later left : ℕ) → groups < 2 ^ left → now + left * w ≤ before + (k + 1) * w → 0 < groups → less ≤ groups / 2 → later ≤ now + w → AsksLeft k w less before later
fewer k w groups less before now later zero g a pos h l = absurd (omega arith)
fewer k w groups less before now later (suc left) g a pos h l = record { left = left; groups_left = omega (arith, pow-suc 2 left); asks_left = omega arith }

-- a step goes on with half of the groups at most
pub step_left : (k w groups less before now later : ℕ) → AsksLeft k w groups before now → 0 < groups → less ≤ groups / 2 → later ≤ now + w → AsksLeft k w less before later
step_left k w groups less before now later a pos h l = fewer k w groups less before now later a.left a.groups_left a.asks_left pos h l

pub all_asks : (k w groups before now : ℕ) → AsksLeft k w groups before now → now ≤ before + (k + 1) * w
all_asks k w groups before now a = omega (arith, a.asks_left)

-- the last step is one of them
pub last_ask : (k w groups before now later : ℕ) → AsksLeft k w groups before now → 0 < groups → later ≤ now + w → later ≤ before + (k + 1) * w
last_ask k w groups before now later a pos h = all_asks k w 0 before later (step_left k w groups 0 before now later a pos (omega arith) h)

-- after the halving, a scan of at most fifteen terms
pub then_scan : (k w n before now later : ℕ) → now ≤ before + (k + 1) * w → later ≤ now + n * w → n ≤ 15 → later ≤ before + (k + 16) * w
then_scan k w n before now later a s h = let few : n * w ≤ 15 * w = mul-le-mul_right w h in omega (arith, few)
