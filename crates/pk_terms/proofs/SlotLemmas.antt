-- What is reached in slots, and how one more is put into a free one.
use Rattle.std.proofs.Common.{◌≡◌, ◌≢◌, ℕ, suc, ◌+◌, ◌<◌, ◌≤◌, List, [], ◌∷◌, ◌++◌, length, set, slice_index, sym, ap, subst, ◌∙◌, arith, inl, inr, length-append, length-set}
use Rattle.std.proofs.lemmas.Bool.{cases_lt, cases_eq}
use Rattle.std.proofs.lemmas.List.{get_or-set_same, get_or-set_other, get_or_append_left, get_or_at, get_or_past}
use Rattle.pk_terms.specs.Slots.{slot_of, step_of, AreTaken, HaveSlots, IsFree, IsReached}

pub step_more : (count hash n : ℕ) → step_of count hash (n + 1) ≡ slot_of count (step_of count hash n + 1)
unfolding step_of
step_more count hash n = let one : n + 1 ≡ suc n = omega arith in ap (step_of count hash) one

module _ (count : ℕ) (nexts : List ℕ) where
  pub taken_none : (hash : ℕ) → AreTaken count nexts hash 0
  taken_none hash k lt = absurd (omega (arith, lt))

  -- one more slot is taken
  pub taken_more : (hash steps at : ℕ) → at ≡ step_of count hash steps → 0 < slice_index nexts at → AreTaken count nexts hash steps → AreTaken count nexts hash (steps + 1)
  taken_more hash steps at is some taken k lt = elim (cases_lt k steps) [
    | inl before ↦ taken k before
    | inr from ↦
        let last : steps ≡ k = omega (arith, lt, from) in
        subst (λ j. 0 < slice_index nexts (step_of count hash j)) last (subst (λ i. 0 < slice_index nexts i) is some)
  ]

  -- slots that are taken stay as they are where a free one is filled
  stays : (at n k : ℕ) → slice_index nexts at ≡ 0 → 0 < slice_index nexts k → slice_index (set nexts at n) k ≡ slice_index nexts k
  stays at n k free taken =
      get_or-set_other nexts at k n 0 (λ (e : k ≡ at). let f = ap (slice_index nexts) e in omega (arith, f))

  taken_still : (hash at n steps : ℕ) → slice_index nexts at ≡ 0 → AreTaken count nexts hash steps → AreTaken count (set nexts at n) hash steps
  taken_still hash at n steps free taken k lt =
      let was = taken k lt in let same = stays at n (step_of count hash k) free was in omega (arith, same, was)

  -- what was put into the free slot is reached
  pub reached : (hash at n : ℕ) → IsFree count nexts hash at → IsReached count (set nexts at n) hash n
  reached hash at n f = record {
    steps = f.steps;
    few = f.few;
    here = ap (slice_index (set nexts at n)) (sym f.is) ∙ get_or-set_same nexts at n 0 f.within;
    taken = taken_still hash at n f.steps f.free f.taken;
  }

  -- and what was reached still is
  pub reached_still : (hash next at n : ℕ) → slice_index nexts at ≡ 0 → 0 < next → IsReached count nexts hash next → IsReached count (set nexts at n) hash next
  reached_still hash next at n free some r =
      let here = r.here in
      record {
        steps = r.steps;
        few = r.few;
        here = stays at n (step_of count hash r.steps) free (omega (arith, here, some)) ∙ here;
        taken = taken_still hash at n r.steps free r.taken;
      }

  -- ---- a walk over the slots of a hash

  -- so many slots are passed: all are taken, and none has `next`
  pub record IsPassed (hash next steps : ℕ) : Type 0 where
    pub taken : AreTaken count nexts hash steps
    pub others : (k : ℕ) → k < steps → slice_index nexts (step_of count hash k) ≢ next

  -- past a free slot, and past all slots, it is not reached
  pub not_reached : (hash next steps : ℕ) → 0 < next → IsPassed hash next steps → slice_index nexts (step_of count hash steps) ≡ 0 → IsReached count nexts hash next → ⊥
  not_reached hash next steps some p free r = elim (cases_lt r.steps steps) [
    | inl before ↦ p.others r.steps before r.here
    | inr from ↦ elim (cases_eq steps r.steps) [
      | inl same ↦ let here = ap (λ k. slice_index nexts (step_of count hash k)) same ∙ r.here in omega (arith, here, free, some)
      | inr other ↦ let taken = r.taken steps (omega (arith, from, other)) in omega (arith, taken, free)
    ]
  ]

  pub not_reached_all : (hash next steps : ℕ) → count ≤ steps → IsPassed hash next steps → IsReached count nexts hash next → ⊥
  not_reached_all hash next steps all p r = let few = r.few in p.others r.steps (omega (arith, few, all)) r.here

-- ---- the slots of hashes

-- where no slot is taken
pub no_slots : (slots : List ℕ) → ((k : ℕ) → k < length slots → slice_index slots k ≡ 0) → HaveSlots [] slots
no_slots slots free = record {
  within = λ k. elim (cases_lt k (length slots)) [
    | inl below ↦ let none = free k below in omega (arith, none)
    | inr past ↦ let none = get_or_past slots k 0 past in omega (arith, none)
  ];
  reached = λ place lt. absurd (omega (arith, lt));
}

-- one more hash
module _ (hashes slots : List ℕ) (hash at place : ℕ) (len : length hashes ≡ place) (free : IsFree (length slots) slots hash at) (all : HaveSlots hashes slots) where
  abbrev more : List ℕ
  more = hashes ++ hash ∷ []

  abbrev filled : List ℕ
  filled = set slots at (place + 1)

  more_len : length more ≡ place + 1
  more_len = length-append hashes (hash ∷ []) ∙ (omega (arith, len))

  each_slot : (k : ℕ) → slice_index filled k ≤ length more
  each_slot k = elim (cases_eq k at) [
    | inl same ↦ let is = ap (slice_index filled) same ∙ get_or-set_same slots at (place + 1) 0 free.within in omega (arith, is, more_len)
    | inr other ↦ let is = get_or-set_other slots at k (place + 1) 0 other in let was = all.within k in omega (arith, is, was, len, more_len)
  ]

  each_hash : (k : ℕ) → k < length more → IsReached (length slots) filled (slice_index more k) (k + 1)
  each_hash k lt = elim (cases_lt k place) [
    | inl before ↦
        subst (λ h. IsReached (length slots) filled h (k + 1)) (sym (get_or_append_left hashes (hash ∷ []) 0 k (omega (arith, before, len))))
        (reached_still (length slots) slots (slice_index hashes k) (k + 1) at (place + 1) free.free (omega arith) (all.reached k (omega (arith, before, len))))
    | inr from ↦
        let same : place ≡ k = omega (arith, from, lt, more_len) in
        subst (λ j. IsReached (length slots) filled (slice_index more j) (j + 1)) same
        (subst (λ h. IsReached (length slots) filled h (place + 1)) (sym (get_or_at hashes hash [] 0 place len)) (reached (length slots) slots hash at (place + 1) free))
  ]

  pub one_more : HaveSlots more filled
  one_more = record {
    within = each_slot;
    reached = λ k lt. subst (λ n. IsReached n filled (slice_index more k) (k + 1)) (sym (length-set slots at (place + 1))) (each_hash k lt);
  }
