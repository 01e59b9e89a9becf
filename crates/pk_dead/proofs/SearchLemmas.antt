-- What a search by halving tells of a list that rises.
use Rattle.std.proofs.Common.{◌≡◌, ◌==◌, ℕ, ◌<◌, ◌≤◌, ◌+◌, ◌-◌, ◌/◌, ◌^◌, ◌∙◌, List, length, get_or, slice_index, Result, Ok, Err, true, arith, sym, subst, inl, inr}
use Rattle.std.specs.List.{insert, list_any}
use Rattle.std.specs.List.Sorted.{IsBinarySearchResult}
use Rattle.std.specs.Ordering.{nat_cmp}
use Rattle.std.proofs.lemmas.Bool.{cases_lt}
use Rattle.std.proofs.lemmas.List.Folds.{list_any_at}
use Rattle.std.proofs.lemmas.List.Kept.{AllPairs-from_increasing}
use Rattle.std.proofs.lemmas.List.Sorted.{searched}
use Rattle.pk_posting.specs.Limits.{longest_list}
use Rattle.pk_posting.specs.Posting.{IsPosting}
use Rattle.pk_dead.specs.Searching.{IsFound, IsGap, IsSearched}
use Rattle.pk_dead.proofs.SetLemmas.{has, eq_same, eq_less, eq_more, has_none, with_place, with_there}
use Rattle.pk_dead.proofs.PostingLemmas.{posting_rises, posting_with}

no_lower : (ns : List ℕ) → IsPosting ns → (i j : ℕ) → i ≤ j → j < length ns → get_or ns i 0 ≤ get_or ns j 0
no_lower ns p i j h l = elim (cases_lt i j) [
  | inl m ↦ (let b : get_or ns i 0 < get_or ns j 0 = AllPairs-from_increasing ns (posting_rises ns p) i j 0 m l in omega arith)
  | inr m ↦ (let e : i ≡ j = omega arith in rw e (omega arith))
]

found_at : (ns : List ℕ) (n at : ℕ) → IsPosting ns → IsBinarySearchResult (λ m. nat_cmp m n) ns (Ok at) → IsFound ns n
found_at ns n at p h =
    let found = searched ns n (Ok at) h (no_lower ns p) in
    let present : has ns n ≡ true = list_any_at (λ m. m == n) ns at 0 found.0 (eq_same (get_or ns at 0) n found.1) in
    record { present = present; kept = with_there n ns (posting_rises ns p) present }

gap_at : (ns : List ℕ) (n at : ℕ) → IsPosting ns → IsBinarySearchResult (λ m. nat_cmp m n) ns (Err at) → IsGap ns n at
gap_at ns n at p h =
    let gap = searched ns n (Err at) h (no_lower ns p) in
    record {
      within = gap.0;
      absent = has_none n ns (λ k l e. elim (cases_lt k at) [
        | inl m ↦ (let b = gap.1 k m in omega arith)
        | inr m ↦ (let b = gap.2 k m l in omega arith)
      ]);
      put_in = with_place n ns at gap.0 gap.1 gap.2;
    }

-- the search of a slice finds the number or its place
pub is_searched : (ns : List ℕ) (n : ℕ) (r : Result ℕ ℕ) → IsPosting ns → IsBinarySearchResult (λ m. nat_cmp m n) ns r → IsSearched ns n r
is_searched ns n (Ok at) p h = found_at ns n at p h
is_searched ns n (Err at) p h = gap_at ns n at p h

-- put into its gap, the number leaves a posting list
pub posting_put : (ns new : List ℕ) (n at : ℕ) → IsPosting ns → IsGap ns n at → 1 ≤ n → n < 2 ^ 32 → length ns < longest_list → new ≡ insert ns at n → IsPosting new
posting_put ns new n at p g one small room e = subst IsPosting (g.put_in ∙ sym e) (posting_with n ns p one small room)

-- a number is in the list just where the last one that is not above it is the number
pub only_there : (ns : List ℕ) (n at : ℕ) → IsPosting ns → at < length ns → (0 < at → get_or ns at 0 ≤ n) → (at + 1 < length ns → n < get_or ns (at + 1) 0) → (get_or ns at 0 == n) ≡ list_any (λ m. m == n) ns
only_there ns n at p l upto above = elim (cases_lt (get_or ns at 0) n) [
  | inl m ↦ eq_less (get_or ns at 0) n m ∙ sym (has_none n ns (λ k h e. elim (cases_lt at k) [
    | inl b ↦ (let up = no_lower ns p (at + 1) k (omega (arith, b)) h in let over = above (omega (arith, b, h)) in omega arith)
    | inr b ↦ (let up = no_lower ns p k at b l in omega arith)
  ]))
  | inr m ↦ elim (cases_lt n (get_or ns at 0)) [
    | inl b ↦ eq_more (get_or ns at 0) n b ∙ sym (has_none n ns (λ k h e. elim (cases_lt at k) [
      | inl c ↦ (let up = no_lower ns p at k (omega (arith, c)) h in omega arith)
      | inr c ↦ elim (cases_lt 0 at) [
        | inl d ↦ (let over = upto d in omega arith)
        | inr d ↦ (let up = no_lower ns p at k (omega (arith, c, d)) h in omega arith)
      ]
    ]))
    | inr b ↦ (let e : get_or ns at 0 ≡ n = omega arith in eq_same (get_or ns at 0) n e ∙ sym (list_any_at (λ m. m == n) ns at 0 l (eq_same (get_or ns at 0) n e)))
  ]
]

-- The last number that is not above n is among so many from this place on.
pub record Leaves (ns : List ℕ) (n at size : ℕ) : Type 0 where
  pub within : at + size ≤ length ns
  pub upto : 0 < at → slice_index ns at ≤ n
  pub above : at + size < length ns → n < slice_index ns (at + size)

-- where the number at the half is above n, the lower half is left
pub leaves_lower : (ns : List ℕ) (n at size step : ℕ) → IsPosting ns → at + size ≤ length ns → (0 < at → slice_index ns at ≤ n) → n < slice_index ns (at + size / 2) → step ≡ 0
    → Leaves ns n (at + step) (size - size / 2)
leaves_lower ns n at size step p within upto over e =
    let here : at + step ≡ at = omega (arith, e) in
    rw here (record {
      within = omega (arith, within);
      upto = upto;
      above = λ l. (let up = no_lower ns p (at + size / 2) (at + (size - size / 2)) (omega arith) l in omega (arith, up, over));
    })

-- where it is not above n, the upper half is left
pub leaves_upper : (ns : List ℕ) (n at size step : ℕ) → at + size ≤ length ns → (at + size < length ns → n < slice_index ns (at + size)) → slice_index ns (at + size / 2) ≤ n → step ≡ size / 2
    → Leaves ns n (at + step) (size - size / 2)
leaves_upper ns n at size step within above upto e =
    let whole : at + size / 2 + (size - size / 2) ≡ at + size = omega arith in
    rw e (record {
      within = subst (λ i. i ≤ length ns) (sym whole) within;
      upto = λ h. upto;
      above = subst (λ i. i < length ns → n < slice_index ns i) (sym whole) above;
    })
