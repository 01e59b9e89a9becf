-- Deletion lists as posting lists: they rise, and stay posting lists with a number put in.
use Rattle.std.proofs.Common.{◌≡◌, ℕ, zero, suc, ◌<◌, ◌≤◌, ◌+◌, ◌^◌, List, [], ◌∷◌, length, slice_index, arith, sym, ap, subst}
use Rattle.std.specs.List.Sorted.{IsStrictlyIncreasing}
use Rattle.pk_posting.specs.Limits.{longest_list}
use Rattle.pk_posting.specs.Posting.{IsPosting}
use Rattle.pk_posting.specs.Tails.{Climbs}
use Rattle.pk_posting.proofs.WholeLemmas.{climbs_from}
use Rattle.pk_dead.specs.Sets.{with_number}
use Rattle.pk_dead.proofs.SetLemmas.{with_none, with_cases}

-- a posting list rises strictly
pub posting_rises : (xs : List ℕ) → IsPosting xs → IsStrictlyIncreasing xs
posting_rises xs p k l =
    let e : suc k ≡ k + 1 = omega arith in
    subst (λ i. slice_index (0 ∷ xs) i < slice_index xs (k + 1)) (sym e) (p.rising (k + 1) l)

posting_from : (xs : List ℕ) → Climbs 0 xs → length xs ≤ longest_list → IsPosting xs
posting_from xs c h = record { rising = rises 0 xs c; below = below 0 xs c; short = h }
  where
    rises : (before : ℕ) (xs : List ℕ) → Climbs before xs → (i : ℕ) → i < length xs → slice_index (before ∷ xs) i < slice_index xs i
    rises before [] c i l = absurd (omega arith)
    rises before (x ∷ xs) c zero l = c.0
    rises before (x ∷ xs) c (suc i) l = rises x xs c.2 i (omega arith)

    below : (before : ℕ) (xs : List ℕ) → Climbs before xs → (i : ℕ) → i < length xs → slice_index xs i < 2 ^ 32
    below before [] c i l = absurd (omega arith)
    below before (x ∷ xs) c zero l = c.1
    below before (x ∷ xs) c (suc i) l = below x xs c.2 i (omega arith)

climbs_with : (before n : ℕ) (ns : List ℕ) → before < n → n < 2 ^ 32 → Climbs before ns → Climbs before (with_number n ns)
climbs_with before n [] h l c = subst (Climbs before) (sym (with_none n)) (h, l, tt)
climbs_with before n (m ∷ ms) h l c = with_cases n m ms (Climbs before)
    (λ less. (h, l, (less, c.1, c.2))) (λ e. c) (λ past. (c.0, c.1, climbs_with m n ms past l c.2))

at_most_one_more : (n : ℕ) (ns : List ℕ) → length (with_number n ns) ≤ length ns + 1
at_most_one_more n [] = omega (arith, ap length (with_none n))
at_most_one_more n (m ∷ ms) = with_cases n m ms (λ l. length l ≤ length (m ∷ ms) + 1)
    (λ l. omega arith) (λ e. omega arith) (λ l. omega (arith, at_most_one_more n ms))

-- a posting list with a number put in is one
pub posting_with : (n : ℕ) (ns : List ℕ) → IsPosting ns → 1 ≤ n → n < 2 ^ 32 → length ns < longest_list → IsPosting (with_number n ns)
posting_with n ns p one small room =
    posting_from (with_number n ns) (climbs_with 0 n ns (omega arith) small (climbs_from 0 ns p.rising p.below)) (omega (arith, at_most_one_more n ns))
