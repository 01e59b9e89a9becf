-- What a deletion list leaves of numbers is their difference.
use Rattle.std.proofs.Common.{◌≡◌, ℕ, ◌||◌, ◌==◌, not, cond, List, [], ◌∷◌, filter, nat_eq, refl, ap, ◌∙◌, arith}
use Rattle.std.proofs.lemmas.Bool.Decides.{nat_tests}
use Rattle.pk_sets.specs.Sets.{difference, has}
use Rattle.pk_state.specs.Committed.{lists}

eq_turned : (m n : ℕ) → (m == n) ≡ nat_eq n m
eq_turned m n = grind (arith, nat_tests)

pub lists_has : (n : ℕ) (ns : List ℕ) → lists n ns ≡ has ns n
lists_has n [] = refl
lists_has n (m ∷ ns) = ap (λ e. e || lists n ns) (eq_turned m n) ∙ ap (λ e. nat_eq n m || e) (lists_has n ns)

-- the numbers that are not on the list are those of the difference
pub left_without : (dead ns : List ℕ) → filter (λ n. not (lists n dead)) ns ≡ difference ns dead
left_without dead [] = refl
left_without dead (n ∷ ns) =
    let left = filter (λ n. not (lists n dead)) ns in
    ap (λ e. cond (not e) (n ∷ left) left) (lists_has n dead) ∙ ap (λ l. cond (not (has dead n)) (n ∷ l) l) (left_without dead ns)
