-- Lists united in any order.
use Rattle.std.proofs.Common.{◌≡◌, ◌∙◌, ◌||◌, ◌<◌, ◌+◌, ℕ, zero, suc, Bool, true, false, List, [], ◌∷◌, ◌++◌, length, take, get_or, add-one, All, refl, sym, ap, subst, arith}
use Rattle.std.specs.Global.{Vec}
use Rattle.std.specs.List.{list_any}
use Rattle.std.proofs.lemmas.List.Elements.{All-append}
use Rattle.std.specs.List.Sorted.{IsStrictlyIncreasing}
use Rattle.pk_union.specs.Uniting.{items_of, union_of}
use Rattle.pk_sets.proofs.CallerLemmas.{has_union, same_members, union_rises, union_turned}
use Rattle.pk_sets.proofs.PartLemmas.{rising_all}
use Rattle.pk_sets.specs.Sets.{has, union}

or_assoc : (b c d : Bool) → (b || (c || d)) ≡ ((b || c) || d)
or_assoc true c d = refl
or_assoc false c d = refl

pub union_assoc : (xs ys zs : List ℕ) → IsStrictlyIncreasing zs → union xs (union ys zs) ≡ union (union xs ys) zs
union_assoc xs ys zs h =
    same_members (union xs (union ys zs)) (union (union xs ys) zs)
    (rising_all _ (union_rises xs (union ys zs) (union_rises ys zs h)))
    (rising_all _ (union_rises (union xs ys) zs h))
    (λ n. has_union xs (union ys zs) n ∙ ap (λ b. has xs n || b) (has_union ys zs n) ∙ or_assoc (has xs n) (has ys n) (has zs n)
    ∙ sym (has_union (union xs ys) zs n ∙ ap (λ b. b || has zs n) (has_union xs ys n)))

or_false : (b : Bool) → (b || false) ≡ b
or_false true = refl
or_false false = refl

-- a list alone
pub union_nil : (xs : List ℕ) → IsStrictlyIncreasing xs → union xs [] ≡ xs
union_nil xs h =
    same_members (union xs []) xs (rising_all _ (union_rises xs [] (λ i l. absurd (omega (arith, l))))) (rising_all xs h)
    (λ n. has_union xs [] n ∙ or_false (has xs n))

-- the last list, taken first
pub union_last : (lists : List (List ℕ)) (list : List ℕ) → IsStrictlyIncreasing list → union_of (lists ++ list ∷ []) ≡ union (union_of lists) list
union_last [] list h = union_nil list h
union_last (x ∷ lists) list h = ap (λ ns. union x ns) (union_last lists list h) ∙ union_assoc x (union_of lists) list h

-- ---- THE STACK
items_append : (a b : List (Vec ℕ)) → items_of (a ++ b) ≡ items_of a ++ items_of b
items_append [] b = refl
items_append (v ∷ a) b = ap (λ ls. v.items ∷ ls) (items_append a b)

-- one list more
pub stacked : (lists new : List (Vec ℕ)) (top : Vec ℕ) → new ≡ lists ++ top ∷ [] → IsStrictlyIncreasing top.items → union_of (items_of new) ≡ union (union_of (items_of lists)) top.items
stacked lists new top e h = ap (λ ls. union_of (items_of ls)) e ∙ ap union_of (items_append lists (top ∷ [])) ∙ union_last (items_of lists) top.items h

one_all : (P : List ℕ → Type 0) (x : List ℕ) → P x → All P (x ∷ [])
one_all P x p zero d l = p
one_all P x p (suc k) d l = absurd (omega arith)

pub all_stacked : (lists new : List (Vec ℕ)) (top : Vec ℕ) → new ≡ lists ++ top ∷ [] → All IsStrictlyIncreasing (items_of lists) → IsStrictlyIncreasing top.items → All IsStrictlyIncreasing (items_of new)
all_stacked lists new top e all h =
    subst (λ ls. All IsStrictlyIncreasing ls) (sym (ap items_of e ∙ items_append lists (top ∷ [])))
    (All-append IsStrictlyIncreasing (items_of lists) (top.items ∷ []) all (one_all IsStrictlyIncreasing top.items h))

-- the list at the top is taken off
all_front : (P : List ℕ → Type 0) (xs : List (List ℕ)) (x : List ℕ) → All P (xs ++ x ∷ []) → All P xs
all_front P [] x h = λ k d l. absurd (omega arith)
all_front P (y ∷ xs) x h = first_and_rest P y xs (h 0 y (omega arith)) (all_front P xs x (λ k d l. h (suc k) d (omega arith)))
  where
    first_and_rest : (P : List ℕ → Type 0) (y : List ℕ) (xs : List (List ℕ)) → P y → All P xs → All P (y ∷ xs)
    first_and_rest P y xs p r zero d l = p
    first_and_rest P y xs p r (suc k) d l = r k d (omega arith)

all_last : (P : List ℕ → Type 0) (xs : List (List ℕ)) (x : List ℕ) → All P (xs ++ x ∷ []) → P x
all_last P [] x h = h 0 x (omega arith)
all_last P (y ∷ xs) x h = all_last P xs x (λ k d l. h (suc k) d (omega arith))

pub rest_rise : (lists left : List (Vec ℕ)) (below : Vec ℕ) → lists ≡ left ++ below ∷ [] → All IsStrictlyIncreasing (items_of lists) → All IsStrictlyIncreasing (items_of left)
rest_rise lists left below e all = all_front IsStrictlyIncreasing (items_of left) below.items (subst (λ ls. All IsStrictlyIncreasing ls) (ap items_of e ∙ items_append left (below ∷ [])) all)

pub top_rises : (lists left : List (Vec ℕ)) (below : Vec ℕ) → lists ≡ left ++ below ∷ [] → All IsStrictlyIncreasing (items_of lists) → IsStrictlyIncreasing below.items
top_rises lists left below e all = all_last IsStrictlyIncreasing (items_of left) below.items (subst (λ ls. All IsStrictlyIncreasing ls) (ap items_of e ∙ items_append left (below ∷ [])) all)

-- and united with another one
pub taken_off : (lists left : List (Vec ℕ)) (below : Vec ℕ) (top : List ℕ) → lists ≡ left ++ below ∷ [] → All IsStrictlyIncreasing (items_of lists) → IsStrictlyIncreasing top
    → union (union_of (items_of left)) (union top below.items) ≡ union (union_of (items_of lists)) top
taken_off lists left below top e all h =
    let low = top_rises lists left below e all in
    ap (union (union_of (items_of left))) (union_turned top below.items (rising_all top h) (rising_all below.items low))
    ∙ union_assoc (union_of (items_of left)) below.items top h
    ∙ ap (λ ns. union ns top) (sym (stacked left lists below e low))

pub union_of_rises : (lists : List (List ℕ)) → All IsStrictlyIncreasing lists → IsStrictlyIncreasing (union_of lists)
union_of_rises [] all = λ i l. absurd (omega (arith, l))
union_of_rises (x ∷ lists) all = union_rises x (union_of lists) (union_of_rises lists (λ k d l. all (suc k) d (omega arith)))

-- ---- LISTS one after the other, by their members
pub any_more : {X : Type 0} (p : X → Bool) (xs : List X) (i : ℕ) (x : X) → i < length xs → x ≡ get_or xs i x → list_any p (take (i + 1) xs) ≡ (list_any p (take i xs) || p x)
any_more p xs i x lt at = rw add-one (step p xs i x lt at)
  where
    step : {X : Type 0} (p : X → Bool) (xs : List X) (i : ℕ) (x : X) → i < length xs → x ≡ get_or xs i x → list_any p (take (suc i) xs) ≡ (list_any p (take i xs) || p x)
    step p [] i x lt at = absurd (omega arith)
    step p (y ∷ xs) zero x lt at = or_false (p y) ∙ ap p (sym at)
    step p (y ∷ xs) (suc i) x lt at = ap (λ b. p y || b) (step p xs i x (omega arith) at) ∙ or_assoc (p y) (list_any p (take i xs)) (p x)
