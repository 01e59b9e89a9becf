-- The lists before the place are cut, the others are as they were.
use Rattle.std.proofs.Common.{◌≡◌, ◌≤◌, ◌<◌, ℕ, filter, get_or, length, nat_lt}
use Rattle.smallvec.specs.SmallVec.{SmallVec}
use Rattle.pk_index.proofs.lists.cut_all.Given as goal

abbrev pub invariant-lists : goal.invariant-lists
invariant-lists l = record {
  len : length l.lists ≡ length l.fn.lists;
  cut : (k : ℕ) (d : SmallVec ℕ) → k < l.place → (get_or l.lists k d).items ≡ filter (λ n. nat_lt n l.number) (get_or l.fn.lists k d).items;
  rest : (k : ℕ) (d : SmallVec ℕ) → l.place ≤ k → get_or l.lists k d ≡ get_or l.fn.lists k d;
}
