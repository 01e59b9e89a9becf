-- What one item more does to the order and to the size.
use Rattle.std.proofs.Common.{arith, refl, sym, ap, subst, ◌∙◌, ◌≡◌, ◌<◌, ◌+◌, ◌-◌, ◌*◌, ◌%◌, ◌^◌, ◌++◌, ◌∷◌, [], ℕ, List, length, drop, true, inl, inr}
use Rattle.std.specs.List.{AllByRecursion}
use Rattle.std.specs.List.Sorted.{IsStrictlySortedBy}
use Rattle.std.specs.Cmp.Lexicographic.{slice_cmp}
use Rattle.std.specs.Ordering.{nat_cmp, ordering_then}
use Rattle.std.specs.declared.cmp.Ordering.{Ordering}
use Rattle.std.specs.declared.cmp.Ordering.TheVariants.{Less}
use Rattle.std.proofs.lemmas.Bool.{cases_order, false≢true}
use Rattle.std.proofs.lemmas.List.{length-append, length-drop}
use Rattle.pk_vbyte.specs.VariableByte.{vbyte}
use Rattle.pk_dict.specs.declared.writer.DictWriter.{DictWriter}
use Rattle.pk_dict.specs.Dictionary.{Item, IsRising, terms_of, numbers, rest_of, shared, spelled_item, groups, offsets, group_count, spelling}
use Rattle.pk_dict.specs.Lists.{last_of}
use Rattle.pk_dict.specs.Order.{less, Rising}
use Rattle.pk_dict.specs.Writer.{HasAdded, MayFollow}
use Rattle.pk_dict.proofs.Adding.{groups_push}
use Rattle.pk_dict.proofs.Bounds.{piece_first, offsets_size}
use Rattle.pk_dict.proofs.Ends.{less_then}
use Rattle.pk_dict.proofs.Order.{less_same, less_not}
use Rattle.pk_dict.proofs.Rising.{rises, cmp_lt, cmp_eq}
use Rattle.pk_dict.proofs.Same.{starts_size}
use Rattle.pk_dict.proofs.Terms.{piece_not}

-- terms that are less by the scan's order are less by std's
cmp_less : (xs ys : List ℕ) → less xs ys ≡ true → slice_cmp nat_cmp xs ys ≡ Less
cmp_less xs [] h = absurd (false≢true h)
cmp_less [] (y ∷ ys) h = refl
cmp_less (x ∷ xs) (y ∷ ys) h =
    elim (cases_order x y) [
      | inl e ↦ ap (λ (o : Ordering). ordering_then o (slice_cmp nat_cmp xs ys)) (cmp_eq x y e) ∙ cmp_less xs ys (sym (less_same x y xs ys e) ∙ h)
      | inr o ↦ elim o [
        | inl l ↦ ap (λ (o : Ordering). ordering_then o (slice_cmp nat_cmp xs ys)) (cmp_lt x y l)
        | inr l ↦ absurd (false≢true (sym (less_not x y xs ys l) ∙ h))
      ]
    ]

-- each term before is less than one that is greater than the last
reaches_last : (b : List ℕ) (es : List Item) (t : List ℕ) → Rising b es → less (last_of b es) t ≡ true → less b t ≡ true
reaches_last b [] t r l = l
reaches_last b (e ∷ es) t r l = less_then b e.term t r.0 (reaches_last e.term es t r.1 l)

all_push : (t : List ℕ) (es : List Item) (e : Item) → AllByRecursion (λ (y : List ℕ). slice_cmp nat_cmp t y ≡ Less) (terms_of es) → slice_cmp nat_cmp t e.term ≡ Less
    → AllByRecursion (λ (y : List ℕ). slice_cmp nat_cmp t y ≡ Less) (terms_of (es ++ e ∷ []))
all_push t [] e h l = (l, tt)
all_push t (x ∷ es) e h l = (h.0, all_push t es e h.1 l)

rising_from : (x : Item) (es : List Item) (e : Item) → IsStrictlySortedBy (slice_cmp nat_cmp) (terms_of (x ∷ es)) → less (last_of x.term es) e.term ≡ true → IsStrictlySortedBy (slice_cmp nat_cmp) (terms_of (x ∷ es ++ e ∷ []))
unfolding IsStrictlySortedBy
rising_from x [] e h l = ((cmp_less x.term e.term l, tt), (tt, tt))
rising_from x (y ∷ es) e h l =
    (all_push x.term (y ∷ es) e h.0 (cmp_less x.term e.term (reaches_last x.term (y ∷ es) e.term (rises (x ∷ y ∷ es) h) l)), rising_from y es e h.1 l)

pub rising_push : (es : List Item) (e : Item) → IsRising es → (0 < length es → less (last_of [] es) e.term ≡ true) → IsRising (es ++ e ∷ [])
unfolding IsStrictlySortedBy
rising_push [] e h l = (tt, tt)
rising_push (x ∷ es) e h l = rising_from x es e h (l (omega arith))

pub size_is : (es : List Item) → length (spelling es) ≡ 4 * group_count (length es) + length (groups es)
unfolding spelling
size_is es = omega (arith, length-append (offsets es (group_count (length es))) (groups es), offsets_size es (group_count (length es)))

-- what an item adds to the groups, and a group's first one to the offsets
grown : (es : List Item) (e : Item) → length (spelling (es ++ e ∷ [])) + 4 * group_count (length es) ≡ length (spelling es) + length (spelled_item (length es) (last_of [] es) e) + 4 * group_count (length es + 1)
grown es e =
    let p = ap (λ (l : List ℕ). length l) (groups_push es e) in
    omega (arith, p, size_is es, size_is (es ++ e ∷ []), length-append (groups es) (spelled_item (length es) (last_of [] es) e), length-append es (e ∷ []))

-- a term's rest with its length and its numbers
rest_long : (b : List ℕ) (e : Item) (n s : ℕ) → s ≡ shared b e.term → n + s ≡ length e.term → length (rest_of b e) ≡ length (vbyte n) + n + length (numbers e.entry)
unfolding rest_of
rest_long b e n s h k =
    let m : ℕ = length e.term - shared b e.term in
    let same : m ≡ n = omega (arith, h, k) in
    omega (
      arith,
      length-append (vbyte m) (drop (shared b e.term) e.term ++ numbers e.entry),
      length-append (drop (shared b e.term) e.term) (numbers e.entry),
      length-drop (shared b e.term) e.term,
      same,
      ap (λ (k : ℕ). length (vbyte k)) same,
    )

-- an item that begins a group
pub grown_first : (es : List Item) (e : Item) (n : ℕ) → length es % 16 ≡ 0 → n ≡ length e.term → length (spelling (es ++ e ∷ [])) ≡ length (spelling es) + (4 + (length (vbyte n) + n + length (numbers e.entry)))
grown_first es e n z h =
    let p = ap (λ (l : List ℕ). length l) (piece_first (length es) (last_of [] es) e z) in
    omega (arith, grown es e, p, rest_long [] e n 0 refl (omega (arith, h)))

-- any other item
pub grown_other : (es : List Item) (e : Item) (n s : ℕ) → 0 < length es % 16 → s ≡ shared (last_of [] es) e.term → n + s ≡ length e.term
    → length (spelling (es ++ e ∷ [])) ≡ length (spelling es) + (length (vbyte s) + (length (vbyte n) + n + length (numbers e.entry)))
grown_other es e n s z h k =
    let b : List ℕ = last_of [] es in
    let p = ap (λ (l : List ℕ). length l) (piece_not (length es) b e z) in
    let v = ap (λ (k : ℕ). length (vbyte k)) h in
    omega (arith, grown es e, p, length-append (vbyte (shared b e.term)) (rest_of b e), rest_long b e n s h k, v)

-- a term that may follow is greater than the last
rising_last : (b : List ℕ) (es : List Item) (e : Item) → Rising b (es ++ e ∷ []) → less (last_of b es) e.term ≡ true
rising_last b [] e r = r.0
rising_last b (x ∷ es) e r = rising_last x.term es e r.1

pub greater_last : (es : List Item) (e : Item) → IsRising (es ++ e ∷ []) → 0 < length es → less (last_of [] es) e.term ≡ true
greater_last [] e r h = absurd (omega arith)
greater_last (x ∷ es) e r h = rising_last x.term es e (rises (x ∷ es ++ e ∷ []) r)

-- what a writer's parts add up to
pub added_size : (w : DictWriter) (es : List Item) → HasAdded w es → 4 * length w.starts.items + length w.body.items ≡ length (spelling es)
added_size w es a =
    omega (arith, size_is es, ap (λ (l : List ℕ). length l) a.starts, starts_size es (group_count (length es)), ap (λ (l : List ℕ). length l) a.body)

-- terms were added exactly where groups began
pub some_added : (w : DictWriter) (es : List Item) → HasAdded w es → length w.starts.items ≡ group_count (length es)
some_added w es a = ap (λ (s : List ℕ). length s) a.starts ∙ starts_size es (group_count (length es))

-- a term that is greater than the last, where there is one, and leaves room
pub may_follow : (w : DictWriter) (es : List Item) (e : Item) → HasAdded w es → (0 < length w.starts.items → less w.last.items e.term ≡ true) → length (spelling (es ++ e ∷ [])) < 2 ^ 32 → MayFollow es e
may_follow w es e a l h = record {
  rising = rising_push es e a.rising (λ (z : 0 < length es). subst (λ (t : List ℕ). less t e.term ≡ true) a.last (l (omega (arith, some_added w es a))));
  size = h;
}
