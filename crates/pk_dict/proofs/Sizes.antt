-- Terms are no longer than the groups that hold them.
use Rattle.std.proofs.Common.{arith, ap, ◌≤◌, ◌+◌, ◌-◌, ◌%◌, ◌++◌, ◌∷◌, [], ℕ, List, length, drop, inl, inr}
use Rattle.std.proofs.lemmas.List.{length-append, length-drop}
use Rattle.std.proofs.lemmas.Bool.{cases_eq}
use Rattle.pk_vbyte.specs.VariableByte.{vbyte}
use Rattle.pk_dict.specs.Dictionary.{Item, numbers, rest_of, shared, spelled_item, spelled_items, groups, offsets, group_count, spelling}
use Rattle.pk_dict.specs.Lists.{last_of}
use Rattle.pk_dict.proofs.Shared.{shared_most}
use Rattle.pk_dict.proofs.Bounds.{piece_first}
use Rattle.pk_dict.proofs.Terms.{piece_not}
use Rattle.pk_dict.proofs.Adding.{last_push, groups_push}

rest_holds : (b : List ℕ) (e : Item) → length e.term - shared b e.term ≤ length (rest_of b e)
unfolding rest_of
rest_holds b e =
    let s : ℕ = shared b e.term in
    omega (arith, length-append (vbyte (length e.term - s)) (drop s e.term ++ numbers e.entry), length-append (drop s e.term) (numbers e.entry), length-drop s e.term)

piece_holds : (i : ℕ) (b : List ℕ) (e : Item) → length e.term ≤ length b + length (spelled_item i b e)
piece_holds i b e =
    elim (cases_eq (i % 16) 0) [
      | inl z ↦ (let p = ap (λ (l : List ℕ). length l) (piece_first i b e z) in let r = rest_holds [] e in omega (arith, p, r))
      | inr n ↦
          (let p = ap (λ (l : List ℕ). length l) (piece_not i b e (omega (arith, n))) in
          let r = rest_holds b e in
          omega (arith, p, r, length-append (vbyte (shared b e.term)) (rest_of b e), shared_most b e.term))
    ]

last_holds : (i : ℕ) (b : List ℕ) (es : List Item) → length (last_of b es) ≤ length b + length (spelled_items i b es)
last_holds i b [] = omega arith
last_holds i b (e ∷ es) =
    omega (arith, last_holds (i + 1) e.term es, piece_holds i b e, length-append (spelled_item i b e) (spelled_items (i + 1) e.term es))

pub groups_within : (es : List Item) → length (groups es) ≤ length (spelling es)
unfolding spelling
groups_within es = omega (arith, length-append (offsets es (group_count (length es))) (groups es))

-- the last term is no longer than the whole
pub last_within : (es : List Item) (e : Item) → length e.term ≤ length (spelling (es ++ e ∷ []))
unfolding groups
last_within es e =
    let l = ap (λ (l : List ℕ). length l) (last_push [] es e) in
    omega (arith, l, last_holds 0 [] (es ++ e ∷ []), groups_within (es ++ e ∷ []))

-- what was written is shorter than the whole
pub body_within : (es : List Item) (e : Item) → length (groups es) ≤ length (spelling (es ++ e ∷ []))
body_within es e =
    let p = ap (λ (l : List ℕ). length l) (groups_push es e) in
    omega (arith, p, length-append (groups es) (spelled_item (length es) (last_of [] es) e), groups_within (es ++ e ∷ []))
