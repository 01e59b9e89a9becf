-- The rows of a table: one that is put behind the others is the last, and the others stay as they are.
use Rattle.std.proofs.Common.{◌≡◌, ◌∙◌, ◌+◌, ◌*◌, ◌<◌, ◌≤◌, ◌++◌, ℕ, List, length, take, drop, ap, arith}
use Rattle.std.proofs.Math.Nat.{mul-le-mul_right}
use Rattle.std.proofs.lemmas.List.{drop_at, drop-append-le, length-drop, take-append-le, take_all}
use Rattle.pk_lookup.specs.Rows.{row_of}

pub rows_fit : (i n words : ℕ) → i < n → i * words + words ≤ n * words
rows_fit i n words lt = let high : (i + 1) * words ≤ n * words = mul-le-mul_right words (omega arith) in omega (arith, high)

pub last_row : {X : Type 0} (words i : ℕ) (table row : List X) → length table ≡ i * words → length row ≡ words → row_of words i (table ++ row) ≡ row
last_row words i table row long wide = ap (take words) (drop_at table row (i * words) long) ∙ take_all words row (omega (arith, wide))

pub row_before : {X : Type 0} (words i j : ℕ) (table row : List X) → length table ≡ i * words → j < i → row_of words j (table ++ row) ≡ row_of words j table
row_before words i j table row long lt =
    let fit = rows_fit j i words lt in
    let rest = length-drop (j * words) table in
    ap (take words) (drop-append-le (j * words) table row (omega (arith, fit, long)))
    ∙ take-append-le words (drop (j * words) table) row (omega (arith, fit, long, rest))
