-- How many numbers of a deletion list were passed, and how many documents the inputs say.
use Rattle.std.proofs.Common.{◌≡◌, ℕ, ◌+◌, ◌<◌, ◌≤◌, Bool, true, false, List, [], ◌∷◌, ◌++◌, length, refl, ap, arith, length-append, Result, Ok, Err}
use Rattle.std.specs.Prelude.{◌==◌, ◌||◌, OnOk}
use Rattle.std.proofs.lemmas.Bool.{eqb-true}
use Rattle.pk_disk.specs.Units.{extent_bytes}
use Rattle.pk_join.specs.declared.input.MergeInput.{MergeInput}
use Rattle.pk_state.specs.Committed.{lists}
use Rattle.pk_merge.specs.declared.fault.MergeFault.{MergeFault}
use Rattle.pk_merge.specs.declared.kept.Kept.{Kept}
use Rattle.pk_merge.specs.declared.left.Left.{Left}
use Rattle.pk_merge.specs.Counting.{count_said, count_to, counts_said, numbers_listed}
use Rattle.pk_merge.specs.Left.{KeepsOneAs, kept_in}

pub to_most : (n : ℕ) (xs : List ℕ) → count_to n xs ≤ length xs
to_most n [] = omega arith
to_most n (x ∷ xs) = omega (arith, to_most n xs)

pub to_rise : (m n : ℕ) (xs : List ℕ) → m ≤ n → count_to m xs ≤ count_to n xs
to_rise m n [] le = omega arith
to_rise m n (x ∷ xs) le = omega (arith, le, to_rise m n xs le)

-- a listed number above m counts up to itself, and not up to m
pub to_more : (m n : ℕ) (xs : List ℕ) → m < n → lists n xs ≡ true → count_to m xs + 1 ≤ count_to n xs
to_more m n [] lt there = absurd (cc (there))
to_more m n (x ∷ xs) lt there = by_test (to_more m n xs lt) (x == n) refl there
  where
    by_test : (lists n xs ≡ true → count_to m xs + 1 ≤ count_to n xs) → (b : Bool) → (x == n) ≡ b
        → (b || lists n xs) ≡ true → count_to m (x ∷ xs) + 1 ≤ count_to n (x ∷ xs)
    by_test behind true e t = omega (arith, eqb-true x n e, lt, to_rise m n xs (omega (arith, lt)))
    by_test behind false e t = omega (arith, lt, behind t)

-- one more that is kept
pub keeps_more : {T : Type 0} (ks : List Kept) (bytes : ℕ) (k : Kept) (new : Left) (last : ℕ) (dead : List ℕ)
    (r : Result T MergeFault) → last ≤ new.last → KeepsOneAs ks bytes k new r
    → OnOk r (length ks + count_to last dead + 1 ≤ length (kept_in new) + count_to new.last dead)
keeps_more ks bytes k new last dead (Ok u) le kept =
    omega (arith, ap length kept, length-append ks (k ∷ []), to_rise last new.last dead le)
keeps_more ks bytes k new last dead (Err x) le kept = tt

-- one input more
pub counts_next : (bytes : List ℕ) (is : List MergeInput) (x : MergeInput)
    → counts_said bytes (is ++ x ∷ []) ≡ counts_said bytes is + count_said (extent_bytes bytes x.extent)
counts_next bytes [] x = omega arith
counts_next bytes (i ∷ is) x = omega (arith, counts_next bytes is x)

pub numbers_next : (is : List MergeInput) (x : MergeInput)
    → numbers_listed (is ++ x ∷ []) ≡ numbers_listed is + length x.dead.now
numbers_next [] x = omega arith
numbers_next (i ∷ is) x = omega (arith, numbers_next is x)
