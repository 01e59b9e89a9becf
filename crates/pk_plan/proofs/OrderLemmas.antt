-- A place put at its rank keeps the order.
use Rattle.std.proofs.Common.{◌≡◌, ◌<◌, ◌≤◌, ◌+◌, ℕ, List, [], ◌∷◌, length, insert, slice_index, Bool, true, false, ◌&&◌, ◌||◌, nat_lt, nat_eq, refl, zero, suc, arith}
use Rattle.std.proofs.lemmas.Bool.{eq-eqb, lt-ltb, ltb-false}
use Rattle.std.specs.Simd.Lanes.{Each1}
use Rattle.pk_plan.specs.declared.operands.Operands.{Operands}
use Rattle.pk_plan.specs.Operands.{IsInOrder}
use Rattle.pk_plan.specs.Order.{frequency_of, in_order, precedes}

pub both_true : (b c : Bool) → b ≡ true → c ≡ true → (b && c) ≡ true
both_true b c e f = rw (e, f) refl

pub first_true : (b c : Bool) → (b && c) ≡ true → b ≡ true
first_true true c e = refl
first_true false c e = e

pub second_true : (b c : Bool) → (b && c) ≡ true → c ≡ true
second_true true c e = e
second_true false c e = absurd (cc)

either_true : (b c : Bool) → b ≡ true → (b || c) ≡ true
either_true b c e = rw e refl

other_true : (b c : Bool) → c ≡ true → (b || c) ≡ true
other_true true c e = refl
other_true false c e = e

-- no rarer and earlier goes before
tie : (m n p q : ℕ) (less : Bool) → nat_lt m n ≡ less → m ≤ n → p < q → (nat_lt m n || (nat_eq m n && nat_lt p q)) ≡ true
tie m n p q true e le lt = either_true (nat_lt m n) (nat_eq m n && nat_lt p q) e
tie m n p q false e le lt = other_true (nat_lt m n) (nat_eq m n && nat_lt p q)
    (both_true (nat_eq m n) (nat_lt p q) (eq-eqb m n (omega (arith, ltb-false m n e))) (lt-ltb p q lt))

module _ (table : List ℕ) where
  rarer : (p q : ℕ) → frequency_of table p < frequency_of table q → precedes table p q ≡ true
  rarer p q lt = either_true (nat_lt (frequency_of table p) (frequency_of table q)) (nat_eq (frequency_of table p) (frequency_of table q) && nat_lt p q) (lt-ltb (frequency_of table p) (frequency_of table q) lt)

  earlier : (p q : ℕ) → frequency_of table p ≤ frequency_of table q → p < q → precedes table p q ≡ true
  earlier p q le lt = tie (frequency_of table p) (frequency_of table q) p q (nat_lt (frequency_of table p) (frequency_of table q)) refl le lt

  -- the first place whose frequency is no lower stands after the new one, and those before are rarer
  pub insert_ordered : (ps : List ℕ) (k p : ℕ) → in_order table ps ≡ true → k ≤ length ps
      → ((i : ℕ) → i < k → frequency_of table (slice_index ps i) < frequency_of table p)
      → (k < length ps → frequency_of table p ≤ frequency_of table (slice_index ps k))
      → Each1 (λ q. p + 1 ≤ q) ps → in_order table (insert ps k p) ≡ true
  insert_ordered [] zero p r h below reaches above = refl
  insert_ordered [] (suc k) p r h below reaches above = absurd (omega arith)
  insert_ordered (q ∷ qs) zero p r h below reaches above = both_true (precedes table p q) (in_order table (q ∷ qs)) (earlier p q (reaches (omega arith)) (omega (arith, above.0))) r
  insert_ordered (q ∷ []) (suc zero) p r h below reaches above = both_true (precedes table q p) true (rarer q p (below 0 (omega arith))) refl
  insert_ordered (q ∷ s ∷ ss) (suc zero) p r h below reaches above =
      both_true (precedes table q p) (precedes table p s && in_order table (s ∷ ss)) (rarer q p (below 0 (omega arith)))
      (both_true (precedes table p s) (in_order table (s ∷ ss)) (earlier p s (reaches (omega arith)) (omega (arith, above.1.0))) (second_true (precedes table q s) (in_order table (s ∷ ss)) r))
  insert_ordered (q ∷ []) (suc (suc k)) p r h below reaches above = absurd (omega arith)
  insert_ordered (q ∷ s ∷ ss) (suc (suc k)) p r h below reaches above =
      both_true (precedes table q s) (in_order table (insert (s ∷ ss) (suc k) p)) (first_true (precedes table q s) (in_order table (s ∷ ss)) r)
      (insert_ordered (s ∷ ss) (suc k) p (second_true (precedes table q s) (in_order table (s ∷ ss)) r) (omega arith) (λ i l. below (suc i) (omega arith)) (λ l. reaches (omega arith)) above.1)

-- places above one are above a lower one
lower : (ps : List ℕ) (high low : ℕ) → low ≤ high → Each1 (λ p. high ≤ p) ps → Each1 (λ p. low ≤ p) ps
lower [] high low le above = above
lower (p ∷ ps) high low le above = (omega (arith, above.0), lower ps high low le above.1)

pub still_in_order : (table : List ℕ) (high low : ℕ) (o : Operands) → low ≤ high → IsInOrder table high o → IsInOrder table low o
still_in_order table high low o le ordered = record {
  places = ordered.places;
  above = lower o.places.items high low le ordered.above;
  parts = ordered.parts;
  excluded = ordered.excluded;
}

-- and so is the new one among them
pub insert_above : (ps : List ℕ) (k p : ℕ) → Each1 (λ q. p + 1 ≤ q) ps → Each1 (λ q. p ≤ q) (insert ps k p)
insert_above ps zero p above = (omega arith, lower ps (p + 1) p (omega arith) above)
insert_above [] (suc k) p above = (omega arith, above)
insert_above (q ∷ ps) (suc k) p above = (omega (arith, above.0), insert_above ps k p above.1)
