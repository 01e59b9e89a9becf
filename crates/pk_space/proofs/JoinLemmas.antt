-- Extents of which one begins where the other ends.
use Rattle.std.proofs.Common.{◌≡◌, ◌∙◌, ℕ, ◌+◌, ◌≤◌, ◌||◌, Bool, true, false, List, [], ◌∷◌, ◌++◌, refl, sym, ap, arith}
use Rattle.std.specs.List.{list_all, list_any}
use Rattle.std.proofs.lemmas.Bool.{and_from, and_parts}
use Rattle.std.proofs.lemmas.Bool.Decides.{nat_tests}
use Rattle.std.proofs.lemmas.List.Folds.{list_all-append, list_any-append}
use Rattle.pk_disk.specs.declared.units.Extent.{Extent}
use Rattle.pk_disk.specs.Disk.{in_range}
use Rattle.pk_disk.specs.Units.{lies_within}
use Rattle.pk_space.specs.Free.{has_unit}

-- one goes with the one before it
pub record AreJoined (x e y : Extent) : Type 0 where
  pub first : y.first ≡ x.first
  pub units : y.units ≡ x.units + e.units
  pub meet : x.first + x.units ≡ e.first

joined_range : (at a b u : ℕ) → in_range at (a + b) u ≡ (in_range at a u || in_range (at + a) b u)
joined_range at a b u = grind (arith, nat_tests)

pub has_joined : (u : ℕ) (x e y : Extent) → AreJoined x e y → has_unit u y ≡ (has_unit u x || has_unit u e)
has_joined u x e y j =
    ap (λ (at : ℕ). in_range at y.units u) j.first ∙ ap (λ (n : ℕ). in_range x.first n u) j.units
    ∙ joined_range x.first x.units e.units u ∙ ap (λ (at : ℕ). has_unit u x || in_range at e.units u) j.meet

pub lies_joined : (n : ℕ) (x e y : Extent) → AreJoined x e y → lies_within n x ≡ true → lies_within n e ≡ true → lies_within n y ≡ true
lies_joined n x e y j one other = grind (arith, nat_tests, j.first, j.units, j.meet, one, other)

or_assoc : (a b c : Bool) → ((a || b) || c) ≡ (a || (b || c))
or_assoc true b c = refl
or_assoc false b c = refl

pub any_joined : (u : ℕ) (xs es : List Extent) (x e y : Extent) → AreJoined x e y → list_any (has_unit u) (xs ++ y ∷ es) ≡ list_any (has_unit u) (xs ++ x ∷ e ∷ es)
any_joined u xs es x e y j =
    list_any-append (has_unit u) xs (y ∷ es)
    ∙ ap (λ b. list_any (has_unit u) xs || b) (ap (λ b. b || list_any (has_unit u) es) (has_joined u x e y j) ∙ or_assoc (has_unit u x) (has_unit u e) (list_any (has_unit u) es))
    ∙ sym (list_any-append (has_unit u) xs (x ∷ e ∷ es))

-- the one behind the first of these lies within
pub lies_next : (n : ℕ) (xs es : List Extent) (x e : Extent) → list_all (lies_within n) (xs ++ x ∷ e ∷ es) ≡ true → (lies_within n x ≡ true) × (lies_within n e ≡ true)
lies_next n xs es x e all =
    let behind = (and_parts (list_all (lies_within n) xs) (list_all (lies_within n) (x ∷ e ∷ es)) (sym (list_all-append (lies_within n) xs (x ∷ e ∷ es)) ∙ all)).1 in
    let rest = and_parts (lies_within n x) (list_all (lies_within n) (e ∷ es)) behind in
    (rest.0, (and_parts (lies_within n e) (list_all (lies_within n) es) rest.1).0)

pub all_joined : (n : ℕ) (xs es : List Extent) (x e y : Extent) → AreJoined x e y → list_all (lies_within n) (xs ++ x ∷ e ∷ es) ≡ true → list_all (lies_within n) (xs ++ y ∷ es) ≡ true
all_joined n xs es x e y j all =
    let p = lies_within n in
    let parts = and_parts (list_all p xs) (list_all p (x ∷ e ∷ es)) (sym (list_all-append p xs (x ∷ e ∷ es)) ∙ all) in
    let rest = and_parts (p x) (list_all p (e ∷ es)) parts.1 in
    let last = and_parts (p e) (list_all p es) rest.1 in
    list_all-append p xs (y ∷ es) ∙ and_from (list_all p xs) (list_all p (y ∷ es)) parts.0 (and_from (p y) (list_all p es) (lies_joined n x e y j rest.0 last.0) last.1)

-- what lies within some units lies within more
pub lies_wider : (n m : ℕ) (es : List Extent) → n ≤ m → list_all (lies_within n) es ≡ true → list_all (lies_within m) es ≡ true
lies_wider n m [] le all = refl
lies_wider n m (e ∷ es) le all =
    let parts = and_parts (lies_within n e) (list_all (lies_within n) es) all in
    let one = parts.0 in
    and_from (lies_within m e) (list_all (lies_within m) es) (grind (arith, nat_tests, le, one)) (lies_wider n m es le parts.1)
