-- What a search for a number in a rising list answers.
use Rattle.std.specs.Prelude.{◌≡◌, ◌==◌, ◌≤◌, ℕ, List, length, true, false, Result, MatchResult}
use Rattle.std.specs.List.{insert, list_any}
use Rattle.pk_dead.specs.Sets.{with_number}

-- n is in the list, so it changes nothing
pub record IsFound (ns : List ℕ) (n : ℕ) : Type 0 where
  pub present : list_any (λ m. m == n) ns ≡ true
  pub kept : with_number n ns ≡ ns

-- n is not in the list, and its place there is this one
pub record IsGap (ns : List ℕ) (n at : ℕ) : Type 0 where
  pub within : at ≤ length ns
  pub absent : list_any (λ m. m == n) ns ≡ false
  pub put_in : with_number n ns ≡ insert ns at n

-- a search finds n, or the place where it is to be put in
abbrev pub IsSearched : List ℕ → ℕ → Result ℕ ℕ → Type 0
IsSearched ns n r = MatchResult r (λ at. IsFound ns n) (IsGap ns n)
