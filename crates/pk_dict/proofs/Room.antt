-- How long a dictionary is at least.
use Rattle.std.proofs.Common.{arith, ap, ◌≤◌, ◌+◌, ◌-◌, ◌%◌, ◌==◌, ◌++◌, ◌∷◌, [], ℕ, suc, List, length, drop, true, false, Bool, cond}
use Rattle.std.specs.List.{AllByRecursion}
use Rattle.std.proofs.lemmas.List.{length-append, length-drop}
use Rattle.pk_vbyte.specs.VariableByte.{vbyte}
use Rattle.pk_vbyte.proofs.Prefix.{length_vbyte}
use Rattle.pk_dict.specs.Dictionary.{Item, rest_of, numbers, shared, spelled_item, spelled_items, groups, spelling}
use Rattle.pk_dict.specs.Lists.{last_of}
use Rattle.pk_dict.proofs.Bounds.{pieces_append}
use Rattle.pk_dict.proofs.Growing.{size_is}

-- two terms share no more than the first has
shared_most : (xs ys : List ℕ) → shared xs ys ≤ length xs
shared_most [] ys = omega arith
shared_most (x ∷ xs) [] = omega arith
shared_most (x ∷ xs) (y ∷ ys) = at (x == y) (shared_most xs ys)
  where
    at : (b : Bool) → shared xs ys ≤ length xs → cond b (suc (shared xs ys)) 0 ≤ length (x ∷ xs)
    at true le = omega (arith, le)
    at false le = omega arith

rest_long : (before : List ℕ) (e : Item) → length e.term + 1 ≤ length before + length (rest_of before e)
unfolding rest_of
rest_long before e =
    let s = shared before e.term in
    omega (
      arith,
      shared_most before e.term,
      length_vbyte (length e.term - s),
      length-append (vbyte (length e.term - s)) (drop s e.term ++ numbers e.entry),
      length-append (drop s e.term) (numbers e.entry),
      length-drop s e.term,
    )

item_long : (i : ℕ) (before : List ℕ) (e : Item) → length e.term + 1 ≤ length before + length (spelled_item i before e)
unfolding spelled_item
item_long i before e = at (i % 16 == 0)
  where
    at : (b : Bool) → length e.term + 1 ≤ length before + length (cond b (rest_of [] e) (vbyte (shared before e.term) ++ rest_of before e))
    at true = omega (arith, rest_long [] e)
    at false = omega (arith, rest_long before e, length-append (vbyte (shared before e.term)) (rest_of before e))

item_some : (i : ℕ) (before : List ℕ) (e : Item) → 1 ≤ length (spelled_item i before e)
unfolding spelled_item rest_of
item_some i before e = at (i % 16 == 0)
  where
    rest : (b : List ℕ) → 1 ≤ length (rest_of b e)
    rest b = omega (arith, length_vbyte (length e.term - shared b e.term), length-append (vbyte (length e.term - shared b e.term)) (drop (shared b e.term) e.term ++ numbers e.entry))

    at : (b : Bool) → 1 ≤ length (cond b (rest_of [] e) (vbyte (shared before e.term) ++ rest_of before e))
    at true = rest []
    at false = omega (arith, rest before, length-append (vbyte (shared before e.term)) (rest_of before e))

-- no term is longer than the groups
within : (i size : ℕ) (before : List ℕ) (es : List Item) → length before + length (spelled_items i before es) ≤ size → AllByRecursion (λ (e : Item). length e.term ≤ size) es
within i size before [] le = tt
within i size before (e ∷ es) le =
    let parts = length-append (spelled_item i before e) (spelled_items (i + 1) e.term es) in
    let long = item_long i before e in
    (omega (arith, le, parts, long), within (i + 1) size e.term es (omega (arith, le, parts, long)))

-- a byte for each term at least
counted : (i : ℕ) (before : List ℕ) (es : List Item) → length es ≤ length (spelled_items i before es)
counted i before [] = omega arith
counted i before (e ∷ es) = omega (arith, item_some i before e, counted (i + 1) e.term es, length-append (spelled_item i before e) (spelled_items (i + 1) e.term es))

pub terms_within : (es : List Item) → AllByRecursion (λ (e : Item). length e.term ≤ length (spelling es)) es
unfolding groups
terms_within es = within 0 (length (spelling es)) [] es (omega (arith, size_is es))

pub as_long : (es : List Item) → length es ≤ length (spelling es)
unfolding groups
as_long es = omega (arith, size_is es, counted 0 [] es)

-- more terms make it no shorter
pub longer : (es fs : List Item) → length (spelling es) ≤ length (spelling (es ++ fs))
unfolding groups
longer es fs = omega (arith, size_is es, size_is (es ++ fs), length-append es fs, ap length (pieces_append 0 [] es fs), length-append (spelled_items 0 [] es) (spelled_items (0 + length es) (last_of [] es) fs))
