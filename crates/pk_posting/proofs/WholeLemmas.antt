-- A list from its blocks and its tail.
use Rattle.std.proofs.Common.{◌≡◌, ℕ, zero, suc, ◌<◌, ◌≤◌, ◌+◌, ◌-◌, ◌*◌, ◌/◌, ◌%◌, ◌^◌, inl, inr, List, [], ◌∷◌, ◌++◌, length, take, drop, slice_index, arith, refl, sym, ap, ap₂, ◌∙◌, length-append, length-drop}
use Rattle.std.proofs.lemmas.Bool.{cases_lt}
use Rattle.std.proofs.lemmas.List.{take-append-drop, drop_at, get_or_append_left, get_or-append_right, get_or-drop, get_or-take, length-take-le}
use Rattle.pk_posting.specs.Posting.{word, Spells, tail_place, tail_bytes}
use Rattle.pk_posting.specs.Reading.{ReadTo}
use Rattle.pk_posting.specs.declared.decoding.DecodeFault.{DecodeFault}
use Rattle.pk_posting.specs.declared.decoding.DecodeFault.TheVariants.{Damaged, Memory}
use Rattle.pk_posting.specs.Tails.{Climbs, IsTail, TailRead, NoTail, NoList}
use Rattle.pk_posting.proofs.ReadingLemmas.{grown}
use Rattle.pk_posting.specs.Limits.{longest_list}

climbs_at : (before : ℕ) (xs : List ℕ) → Climbs before xs → (i : ℕ) → i < length xs → (slice_index (before ∷ xs) i < slice_index xs i) × (slice_index xs i < 2 ^ 32)
climbs_at before [] c i h = absurd (omega arith)
climbs_at before (x ∷ xs) c zero h = (c.0, c.1)
climbs_at before (x ∷ xs) c (suc i) h = climbs_at x xs c.2 i (omega arith)

-- from the number that they climb from on they rise
pub climbs_on : (before n : ℕ) (xs : List ℕ) → n ≤ length xs → Climbs before (take n xs) → (i : ℕ) → i < n → slice_index (before ∷ xs) i < slice_index xs i
climbs_on before n xs h c zero l =
    let long = length-take-le n xs h in
    omega (arith, (climbs_at before (take n xs) c 0 (omega (arith, long))).0, get_or-take n xs 0 0 l)
climbs_on before n xs h c (suc i) l =
    let long = length-take-le n xs h in
    omega (arith, (climbs_at before (take n xs) c (suc i) (omega (arith, long))).0, get_or-take n xs i 0 (omega arith), get_or-take n xs (suc i) 0 l)

-- so they do from 0 on
pub climbs_rise : (before n : ℕ) (xs : List ℕ) → n ≤ length xs → Climbs before (take n xs) → (i : ℕ) → i < n → slice_index (0 ∷ xs) i < slice_index xs i
climbs_rise before n xs h c zero l = let u = climbs_on before n xs h c 0 l in omega (arith, u)
climbs_rise before n xs h c (suc i) l = climbs_on before n xs h c (suc i) l

pub climbs_from : (before : ℕ) (xs : List ℕ) → ((i : ℕ) → i < length xs → slice_index (before ∷ xs) i < slice_index xs i) → ((i : ℕ) → i < length xs → slice_index xs i < 2 ^ 32) → Climbs before xs
climbs_from before [] f g = tt
climbs_from before (x ∷ xs) f g = (f 0 (omega arith), g 0 (omega arith), climbs_from x xs (λ i h. f (suc i) (omega arith)) (λ i h. g (suc i) (omega arith)))

-- one number on, in lists that begin with the number before
shifted : (a : ℕ) (xs : List ℕ) (i : ℕ) → 0 < i → slice_index (a ∷ xs) i ≡ slice_index xs (i - 1)
shifted a xs zero h = absurd (omega arith)
shifted a xs (suc i) h = let e : i ≡ suc i - 1 = omega arith in ap (slice_index xs) e

before_tail : (out xs : List ℕ) (n i : ℕ) → length out ≡ n → slice_index (0 ∷ (out ++ xs)) (n + i) ≡ slice_index (slice_index (0 ∷ out) n ∷ xs) i
before_tail out xs n zero l = elim (cases_lt 0 n) [
  | inl h ↦ (let e : n + 0 ≡ n = omega arith in
      ap (slice_index (0 ∷ (out ++ xs))) e ∙ shifted 0 (out ++ xs) n h ∙ get_or_append_left out xs 0 (n - 1) (omega arith) ∙ sym (shifted 0 out n h))
  | inr h ↦ (let e : n ≡ 0 = omega arith in
      let f : n + 0 ≡ 0 = omega arith in
      ap (slice_index (0 ∷ (out ++ xs))) f ∙ ap (slice_index (0 ∷ out)) (sym e))
]
before_tail out xs n (suc i) l =
    let d : n + suc i - 1 - n ≡ i = omega arith in
    shifted 0 (out ++ xs) (n + suc i) (omega arith) ∙ get_or-append_right out xs n (n + suc i - 1) 0 l (omega arith) ∙ ap (slice_index xs) d

pub whole : (bytes : List ℕ) (count B : ℕ) (out before : List ℕ) (at widths last : ℕ) (all : List ℕ) → 4 ≤ length bytes → word bytes 0 ≡ count → count ≤ longest_list
    → B ≡ count / 128 → ReadTo bytes B B out before at widths → last ≡ slice_index (0 ∷ out) (length out)
    → (t : TailRead bytes at last (count % 128) out all) → Spells bytes all
whole bytes count B out before at widths last all room word_is short b r l t =
    let long : length out ≡ 128 * B = r.long in
    let all_long : length all ≡ count = (let a = t.tail.long in omega (arith, a, ap length t.out_is, length-append out t.done)) in
    let e : length all / 128 ≡ B = omega arith in
    let last_is : last ≡ slice_index (0 ∷ out) (128 * B) = l ∙ ap (slice_index (0 ∷ out)) long in
    let here = r.here in
    let split = t.out_is in
    let at_is : tail_place bytes B ≡ at = sym here in
    let tail_long : length t.done ≡ count % 128 = t.tail.long in
    let prior : (i : ℕ) → slice_index (0 ∷ all) (128 * B + i) ≡ slice_index (last ∷ t.done) i =
    λ i. ap (λ xs. slice_index (0 ∷ xs) (128 * B + i)) split ∙ before_tail out t.done (128 * B) i long ∙ ap (λ x. slice_index (x ∷ t.done) i) (sym last_is) in
    let high : (i : ℕ) → slice_index all (128 * B + i) ≡ slice_index t.done i =
    λ i. (let d : 128 * B + i - 128 * B ≡ i = omega arith in
    ap (λ xs. slice_index xs (128 * B + i)) split ∙ get_or-append_right out t.done (128 * B) (128 * B + i) 0 long (omega arith) ∙ ap (slice_index t.done) d) in
    let low : (i : ℕ) → i < 128 * B → slice_index all i ≡ slice_index out i =
    λ i h. ap (λ xs. slice_index xs i) split ∙ get_or_append_left out t.done 0 i (omega arith) in
    let low_prior : (i : ℕ) → i < 128 * B → slice_index (0 ∷ all) i ≡ slice_index (0 ∷ out) i =
    λ i h. elim (cases_lt 0 i) [
      | inl m ↦ shifted 0 all i m ∙ low (i - 1) (omega arith) ∙ sym (shifted 0 out i m)
      | inr n ↦ (let z : i ≡ 0 = omega arith in ap (slice_index (0 ∷ all)) z ∙ ap (slice_index (0 ∷ out)) (sym z))
    ] in
    let back : (i : ℕ) → 128 * B ≤ i → 128 * B + (i - 128 * B) ≡ i = λ i h. omega arith in
    record {
      posting = record {
        rising = λ i h. elim (cases_lt i (128 * B)) [
          | inl m ↦ (let u = r.rising i m in omega (arith, u, low i m, low_prior i m))
          | inr m ↦ (
              let c = climbs_at last t.done t.tail.climbs (i - 128 * B) (omega arith) in
              let u = c.0 in
              let p = rw (back i m) at (prior (i - 128 * B)) in
              let q = rw (back i m) at (high (i - 128 * B)) in
              omega (arith, u, p, q))
        ];
        below = λ i h. elim (cases_lt i (128 * B)) [
          | inl m ↦ (let u = r.below i m in omega (arith, u, low i m))
          | inr m ↦ (
              let c = climbs_at last t.done t.tail.climbs (i - 128 * B) (omega arith) in
              let u = c.1 in
              let q = rw (back i m) at (high (i - 128 * B)) in
              omega (arith, u, q))
        ];
        short = omega arith;
      };
      count = word_is ∙ sym all_long;
      offsets = λ k h. rw e (r.offsets k (omega arith));
      blocks = λ k h. rw e (rw split (grown bytes B k B out t.done (omega arith) long (r.blocks k (omega arith))));
      padding = λ k h g. rw e (r.padding k (omega arith) (omega arith));
      whole = (let room = r.room in let at_most : tail_place bytes B ≤ length bytes = omega arith in rw e at_most);
      tail = rw e (
          let rest : drop (128 * B) all ≡ t.done = ap (drop (128 * B)) split ∙ drop_at out t.done (128 * B) long in
          let zero : 128 * B + 0 ≡ 128 * B = omega arith in
          let first : slice_index (0 ∷ all) (128 * B) ≡ last = rw zero at (prior 0) in
          ap (λ n. drop n bytes) at_is ∙ t.tail.spelled ∙ sym (ap₂ tail_bytes first rest));
    }

-- the tail of a list that is spelled
pub tail_of : (bytes : List ℕ) (count B : ℕ) (out before : List ℕ) (at widths last : ℕ) → word bytes 0 ≡ count
    → B ≡ count / 128 → ReadTo bytes B B out before at widths → last ≡ slice_index (0 ∷ out) (length out)
    → (xs : List ℕ) → Spells bytes xs → (take (128 * B) xs ≡ out) × IsTail bytes at last (count % 128) (drop (128 * B) xs)
tail_of bytes count B out before at widths last word_is b r l xs s =
    let long : length xs ≡ count = sym s.count ∙ word_is in
    let e : length xs / 128 ≡ B = omega arith in
    let front : take (128 * B) xs ≡ out = r.only xs s e in
    let rest = drop (128 * B) xs in
    let split : xs ≡ out ++ rest = sym (take-append-drop (128 * B) xs) ∙ ap (λ ys. ys ++ rest) front in
    let out_long : length out ≡ 128 * B = r.long in
    let last_is : last ≡ slice_index (0 ∷ out) (128 * B) = l ∙ ap (slice_index (0 ∷ out)) out_long in
    let rest_long : length rest ≡ count % 128 = omega (arith, length-drop (128 * B) xs) in
    let prior : (i : ℕ) → slice_index (0 ∷ xs) (128 * B + i) ≡ slice_index (last ∷ rest) i =
    λ i. ap (λ ys. slice_index (0 ∷ ys) (128 * B + i)) split ∙ before_tail out rest (128 * B) i out_long ∙ ap (λ x. slice_index (x ∷ rest) i) (sym last_is) in
    let value : (i : ℕ) → slice_index rest i ≡ slice_index xs (128 * B + i) = λ i. get_or-drop (128 * B) xs i 0 in
    let at_is : tail_place bytes B ≡ at = sym r.here in
    let tail : drop (tail_place bytes B) bytes ≡ tail_bytes (slice_index (0 ∷ xs) (128 * B)) rest = rw e at s.tail in
    let zero : 128 * B + 0 ≡ 128 * B = omega arith in
    let first : slice_index (0 ∷ xs) (128 * B) ≡ last = rw zero at (prior 0) in (
      front,
      record {
        long = rest_long;
        climbs = climbs_from last rest
            (λ i h. (let u = s.posting.rising (128 * B + i) (omega arith) in omega (arith, u, prior i, value i)))
            (λ i h. (let u = s.posting.below (128 * B + i) (omega arith) in omega (arith, u, value i)));
        spelled = ap (λ n. drop n bytes) (sym at_is) ∙ tail ∙ ap (λ x. tail_bytes x rest) first;
      },
    )

pub only_list : (bytes : List ℕ) (count B : ℕ) (out before : List ℕ) (at widths last : ℕ) (all : List ℕ) → word bytes 0 ≡ count
    → B ≡ count / 128 → ReadTo bytes B B out before at widths → last ≡ slice_index (0 ∷ out) (length out)
    → TailRead bytes at last (count % 128) out all → (xs : List ℕ) → Spells bytes xs → xs ≡ all
only_list bytes count B out before at widths last all word_is b r l t xs s =
    let both = tail_of bytes count B out before at widths last word_is b r l xs s in
    sym (take-append-drop (128 * B) xs) ∙ ap₂ (λ a c. a ++ c) both.0 (t.only _ both.1) ∙ sym t.out_is

pub at_least_head : (bytes xs : List ℕ) → Spells bytes xs → (4 + 20 * (length xs / 128) ≤ length bytes) × (word bytes 0 ≡ length xs) × (length xs ≤ longest_list)
at_least_head bytes xs s = (let w = s.whole in omega arith, s.count, s.posting.short)

pub no_list : (bytes : List ℕ) (count B : ℕ) (out before : List ℕ) (at widths last : ℕ) → word bytes 0 ≡ count
    → B ≡ count / 128 → ReadTo bytes B B out before at widths → last ≡ slice_index (0 ∷ out) (length out)
    → (f : DecodeFault) → NoTail bytes at last (count % 128) f → NoList bytes f
no_list bytes count B out before at widths last word_is b r l Damaged n = λ xs s. n _ (tail_of bytes count B out before at widths last word_is b r l xs s).1
no_list bytes count B out before at widths last word_is b r l Memory n = tt

-- where a list is spelled, the fault is Memory
pub memory_only : (bytes : List ℕ) (fault : DecodeFault) → NoList bytes fault → (xs : List ℕ) → Spells bytes xs → fault ≡ Memory
memory_only bytes Damaged n xs s = absurd (n xs s)
memory_only bytes Memory n xs s = refl
