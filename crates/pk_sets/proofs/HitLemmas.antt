-- Which of four numbers are among those before a place of a rising list.
use Rattle.std.proofs.Common.{◌≡◌, ℕ, ◌<◌, ◌≤◌, ◌+◌, ◌-◌, ◌/◌, ◌%◌, ◌^◌, List, ◌++◌, length, take, drop, slice_index, Bool, true, false, cond, not, ◌||◌, bit_or, nat_le, max, append_assoc, arith, refl, sym, ap, ap₂, ◌∙◌}
use Rattle.std.specs.Simd.Lanes.{chunk}
use Rattle.std.specs.List.Sorted.{IsStrictlyIncreasing}
use Rattle.std.proofs.lemmas.Simd.{chunk-drop, get_or-chunk}
use Rattle.std.proofs.lemmas.List.{take-append-drop, take-take, drop-take, take-append-le, length-take}
use Rattle.std.proofs.lemmas.Bool.Decides.{nat_tests}
use Rattle.std.proofs.lemmas.List.Elements.{filter-append}
use Rattle.std.proofs.lemmas.Nat.Bits.{bit_at_or, bit_at-zero}
use Rattle.pk_sets.specs.Sets.{has, difference}
use Rattle.pk_sets.proofs.IntersectionLemmas.{none_above, none_below, filter_same, has_append, or_false}
use Rattle.pk_sets.proofs.PartLemmas.{at_most, below, each_drop, each_chunk}

-- the numbers up to one that is below x are not x
pub none_through : (b : List ℕ) → IsStrictlyIncreasing b → (m j x : ℕ) → m ≡ j + 1 → j < length b → slice_index b j < x → has (take m b) x ≡ false
none_through b inc m j x e room h =
    none_below x (take m b) (each_chunk (λ y. y < x) 0 m b (omega arith) (λ k l n. omega (arith, at_most b inc k j (omega arith) room)))

-- the numbers up to one that is not below x have x, if any have
pub all_through : (b : List ℕ) → IsStrictlyIncreasing b → (m j x : ℕ) → m ≡ j + 1 → j < length b → x ≤ slice_index b j → has (take m b) x ≡ has b x
all_through b inc m j x e room h =
    let past : has (drop m b) x ≡ false = none_above x (drop m b) (each_drop (λ y. x < y) m b (λ k l n. omega (arith, below b inc j k (omega arith) n))) in
    sym (ap (λ l. has l x) (sym (take-append-drop m b)) ∙ has_append x (take m b) (drop m b) ∙ ap (λ q. has (take m b) x || q) past ∙ or_false (has (take m b) x))

take_more : (j n : ℕ) (b : List ℕ) → take (j + n) b ≡ take j b ++ chunk j n b
take_more j n b =
    sym (ap₂ (λ l m. l ++ m) (sym (take-take j (j + n) b (omega arith))) (sym (drop-take j n b)) ∙ take-append-drop j (take (j + n) b))

max_case : (p q : Bool) → max (cond p 1 0) (cond q 1 0) ≡ cond (p || q) 1 0
max_case true true = refl
max_case true false = refl
max_case false true = refl
max_case false false = refl

-- bits of both kinds together: what is seen before place j, and what is met in the four from j on
pub hits_are : (a b : List ℕ) (i j s h : ℕ) → i + 4 ≤ length a
    → ((t : ℕ) → t < 4 → i + t < length a → s / 2 ^ t % 2 ≡ cond (has (take j b) (slice_index a (i + t))) 1 0)
    → ((t : ℕ) → t < 4 → h / 2 ^ t % 2 ≡ cond (has (chunk j 4 b) (slice_index (chunk i 4 a) t)) 1 0)
    → (t : ℕ) → t < 4 → bit_or s h / 2 ^ t % 2 ≡ cond (has (take (j + 4) b) (slice_index a (i + t))) 1 0
hits_are a b i j s h room seen met t four =
    let x = slice_index a (i + t) in
    let here : h / 2 ^ t % 2 ≡ cond (has (chunk j 4 b) x) 1 0 =
    met t four ∙ ap (λ y. cond (has (chunk j 4 b) y) 1 0) (get_or-chunk i 4 a t 0 four) in
    bit_at_or s h t
    ∙ ap₂ max (seen t four (omega arith)) here
    ∙ max_case (has (take j b) x) (has (chunk j 4 b) x)
    ∙ ap (λ q. cond q 1 0) (sym (ap (λ l. has l x) (take_more j 4 b) ∙ has_append x (take j b) (chunk j 4 b)))

-- no bit is set, where nothing is met
pub no_hit : (ys : List ℕ) (x t : ℕ) → has ys x ≡ false → 0 / 2 ^ t % 2 ≡ cond (has ys x) 1 0
no_hit ys x t none = bit_at-zero t ∙ sym (ap (λ q. cond q 1 0) none)

pub left_out : (k : ℕ) (p : Bool) → k ≡ cond p 1 0 → 1 - k ≡ cond (not p) 1 0
left_out k true e = omega arith
left_out k false e = omega arith

-- four numbers of the first list, and the rest
pub difference_parts : (a b : List ℕ) (i : ℕ) → difference (drop i a) b ≡ difference (chunk i 4 a) b ++ difference (drop (i + 4) a) b
difference_parts a b i = ap (λ l. difference l b) (chunk-drop i 4 a) ∙ filter-append (λ x. not (has b x)) (chunk i 4 a) (drop (i + 4) a)

-- numbers of the second list that none of the first is among can be left out
pub start_over : (a b : List ℕ) (i s : ℕ) → ((k : ℕ) → i ≤ k → k < length a → has (take s b) (slice_index a k) ≡ false)
    → difference (drop i a) b ≡ difference (drop i a) (drop s b)
start_over a b i s none =
    filter_same (λ x. not (has b x)) (λ x. not (has (drop s b) x)) (drop i a)
    (each_drop (λ x. not (has b x) ≡ not (has (drop s b) x)) i a (λ k h l.
    let x = slice_index a k in
    ap not (ap (λ l. has l x) (sym (take-append-drop s b)) ∙ has_append x (take s b) (drop s b) ∙ ap (λ q. q || has (drop s b) x) (none k h l))))

-- what was picked, where the test holds and where it does not
pub picked : (x y u v r : ℕ) → r ≡ cond (nat_le x y) u v → x ≤ y → r ≡ u
picked x y u v r e h =
    let yes : nat_le x y ≡ true = grind (arith, nat_tests) in
    e ∙ ap (λ q. cond q u v) yes

pub not_picked : (x y u v r : ℕ) → r ≡ cond (nat_le x y) u v → y < x → r ≡ v
not_picked x y u v r e h =
    let no : nat_le x y ≡ false = grind (arith, nat_tests) in
    e ∙ ap (λ q. cond q u v) no

-- what was written first still stands
pub still_there : (n m : ℕ) (xs out rest : List ℕ) → n ≤ m → n ≤ length xs → take m out ≡ take n xs ++ rest → take n out ≡ take n xs
still_there n m xs out rest h room e =
    sym (take-take n m out h) ∙ ap (take n) e
    ∙ take-append-le n (take n xs) rest (omega (arith, length-take n xs))
    ∙ take-take n n xs (omega arith)

-- WHERE A MERGE OF FOUR AGAINST FOUR STANDS: what is written, and what is left; which of the four at i are
-- among the numbers of b before j, that no later one is, and an index with none of what is left before it
pub record IsMet (a b out : List ℕ) (i j n bits start : ℕ) : Type 0 where
  pub in_a : i ≤ length a
  pub in_b : j ≤ length b
  pub in_start : start ≤ length b
  pub written : n ≤ i
  pub found : take n out ++ difference (drop i a) b ≡ difference a b
  pub seen : (t : ℕ) → t < 4 → i + t < length a → bits / 2 ^ t % 2 ≡ cond (has (take j b) (slice_index a (i + t))) 1 0
  pub ahead : (k : ℕ) → i + 4 ≤ k → k < length a → has (take j b) (slice_index a k) ≡ false
  pub behind : (k : ℕ) → i ≤ k → k < length a → has (take start b) (slice_index a k) ≡ false

module _ {a b out : List ℕ} {i j n bits start : ℕ} (is : IsMet a b out i j n bits start) where
  -- what is left can do without the numbers of b before that index
  pub left_over : take n out ++ difference (drop i a) (drop start b) ≡ difference a b
  left_over = ap (λ l. take n out ++ l) (sym (start_over a b i start is.behind)) ∙ is.found

  -- ONE STEP, where the four of both sides were compared
  module _ (inc_a : IsStrictlyIncreasing a) (inc_b : IsStrictlyIncreasing b) (met : ℕ) (room : i + 4 ≤ length a) (room_b : j + 4 ≤ length b)
      (met_are : (t : ℕ) → t < 4 → met / 2 ^ t % 2 ≡ cond (has (chunk j 4 b) (slice_index (chunk i 4 a) t)) 1 0) where
    pub through : (t : ℕ) → t < 4 → bit_or bits met / 2 ^ t % 2 ≡ cond (has (take (j + 4) b) (slice_index a (i + t))) 1 0
    through = hits_are a b i j bits met room is.seen met_are

    -- the four of b are passed, and those of a stay
    pub past_b : (now : List ℕ) → slice_index b (j + 3) < slice_index a (i + 3) → take n now ≡ take n out → IsMet a b now i (j + 4) n (bit_or bits met) start
    past_b now lt same = record {
      in_a = is.in_a;
      in_b = room_b;
      in_start = is.in_start;
      written = is.written;
      found = ap (λ l. l ++ difference (drop i a) b) same ∙ is.found;
      seen = λ t h l. through t h;
      ahead = λ k h l. none_through b inc_b (j + 4) (j + 3) (slice_index a k) (omega arith) (omega (arith, room_b))
          (omega (arith, lt, at_most a inc_a (i + 3) k (omega (arith, h)) l));
      behind = is.behind;
    }

    -- the four of a are decided, and b goes on to where no later one is met
    pub past_a : (now : List ℕ) (m later : ℕ) → slice_index a (i + 3) ≤ slice_index b (j + 3) → m ≤ n + 4
        → ((ys : List ℕ) → ((t : ℕ) → t < 4 → bit_or bits met / 2 ^ t % 2 ≡ cond (has ys (slice_index a (i + t))) 1 0) → take m now ≡ take n out ++ difference (chunk i 4 a) ys)
        → later ≤ length b → ((k : ℕ) → i + 4 ≤ k → k < length a → has (take later b) (slice_index a k) ≡ false) → IsMet a b now (i + 4) later m 0 j
    past_a now m later le most put in_b passed =
        let front = take n out in
        let after = difference (drop (i + 4) a) b in
        let decided : (t : ℕ) → t < 4 → bit_or bits met / 2 ^ t % 2 ≡ cond (has b (slice_index a (i + t))) 1 0 =
        λ t h. through t h ∙ ap (λ q. cond q 1 0) (all_through b inc_b (j + 4) (j + 3) (slice_index a (i + t)) (omega arith) (omega (arith, room_b))
        (omega (arith, le, at_most a inc_a (i + t) (i + 3) (omega (arith, h)) (omega (arith, room))))) in
        record {
          in_a = room;
          in_b = in_b;
          in_start = is.in_b;
          written = omega (arith, most, is.written);
          found = ap (λ l. l ++ after) (put b decided) ∙ append_assoc front (difference (chunk i 4 a) b) after
              ∙ ap (λ l. front ++ l) (sym (difference_parts a b i)) ∙ is.found;
          seen = λ t h l. no_hit (take later b) (slice_index a (i + 4 + t)) t (passed (i + 4 + t) (omega arith) l);
          ahead = λ k h l. passed k (omega (arith, h)) l;
          behind = is.ahead;
        }
