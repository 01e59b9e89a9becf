-- Bits that are set stay set, and a word that does not pass is none of the words.
use Rattle.std.proofs.Common.{◌≡◌, ◌∙◌, ℕ, ◌*◌, ◌+◌, ◌/◌, ◌<◌, ◌≤◌, ◌^◌, Bool, true, false, List, [], ◌∷◌, None, length, max, min, set, slice_index, inl, inr, refl, sym, ap, subst, arith}
use Rattle.std.specs.Prelude.{bit_and, bit_or}
use Rattle.std.specs.Int.{bit_at}
use Rattle.std.specs.Str.{bytes_eq}
use Rattle.std.proofs.lemmas.Bool.{cases_eq, cases_lt}
use Rattle.std.proofs.lemmas.List.{get_or-set_other, get_or-set_same}
use Rattle.std.proofs.lemmas.List.Elements.{All-head, All-tail, All-weaker}
use Rattle.std.proofs.Math.Nat.{mul-lt-mul_of_pos_right, mul_comm}
use Rattle.std.proofs.lemmas.Nat.{and_or_self, div_below}
use Rattle.std.proofs.lemmas.Nat.Bits.{bit_at_and, bit_at_or, same_from_bits}
use Rattle.std.proofs.lemmas.Slice.Eq.{bytes_eq-Decides}
use Rattle.pk_dict.specs.Dictionary.{Item, entry_of}
use Rattle.pk_filter.specs.declared.filter.WordFilter.{WordFilter}
use Rattle.pk_filter.specs.declared.hash.WordHash.{WordHash}
use Rattle.pk_filter.specs.Bits.{Grows, HasBit, IsIn}
use Rattle.pk_filter.specs.Filter.{HasAll, Passes}
use Rattle.pk_filter.specs.Hashed.{hashed, mask_of}

-- ---- bits of one number in another
lesser : (m a x : ℕ) → m ≡ min x a → m ≡ a → a ≤ x
lesser m a x both same = omega arith

both_is : (m a x : ℕ) → m ≡ min x a → a ≤ x → m ≡ a
both_is m a x both le = omega arith

in_below : (a x : ℕ) → IsIn a x → (i : ℕ) → bit_at a i ≤ bit_at x i
in_below a x is i = lesser (bit_at (bit_and x a) i) (bit_at a i) (bit_at x i) (bit_at_and x a i) (ap (λ (n : ℕ). bit_at n i) is)

in_from : (a x : ℕ) → ((i : ℕ) → bit_at a i ≤ bit_at x i) → IsIn a x
in_from a x le = same_from_bits (bit_and x a) a (λ i. both_is (bit_at (bit_and x a) i) (bit_at a i) (bit_at x i) (bit_at_and x a i) (le i))

le_then : (a b c : ℕ) → a ≤ b → b ≤ c → a ≤ c
le_then a b c first second = omega arith

in_then : (a b c : ℕ) → IsIn a b → IsIn b c → IsIn a c
in_then a b c first second = in_from a c (λ i. le_then (bit_at a i) (bit_at b i) (bit_at c i) (in_below a b first i) (in_below b c second i))

le_self : (n : ℕ) → n ≤ n
le_self n = omega arith

in_self : (a : ℕ) → IsIn a a
in_self a = in_from a a (λ i. le_self (bit_at a i))

le_max : (n a b : ℕ) → n ≡ max a b → a ≤ n
le_max n a b is = omega arith

in_or : (a b : ℕ) → IsIn a (bit_or a b)
in_or a b = in_from a (bit_or a b) (λ i. le_max (bit_at (bit_or a b) i) (bit_at a i) (bit_at b i) (bit_at_or a b i))

-- ---- lanes that grow
pub grows_none : (lanes : List ℕ) → Grows lanes lanes
grows_none lanes = record { each = λ i. in_self (slice_index lanes i) }

pub grows_then : {a b c : List ℕ} → Grows a b → Grows b c → Grows a c
grows_then {a = a} {b = b} {c = c} first second = record {
  each = λ i. in_then (slice_index a i) (slice_index b i) (slice_index c i) (first.each i) (second.each i);
}

-- bits that are set in one lane
pub grows_or : (lanes : List ℕ) (k x bits : ℕ) → k < length lanes → x ≡ slice_index lanes k → Grows lanes (set lanes k (bit_or x bits))
grows_or lanes k x bits lt at = record { each = by }
  where
    by : (i : ℕ) → IsIn (slice_index lanes i) (slice_index (set lanes k (bit_or x bits)) i)
    by i = elim (cases_eq i k) [
      | inl same ↦ (
          let there : slice_index (set lanes k (bit_or x bits)) i ≡ bit_or x bits = ap (λ (j : ℕ). slice_index (set lanes k (bit_or x bits)) j) same ∙ get_or-set_same lanes k (bit_or x bits) 0 lt in
          let was : slice_index lanes i ≡ x = ap (λ (j : ℕ). slice_index lanes j) same ∙ sym at in
          subst (λ (n : ℕ). IsIn n (slice_index (set lanes k (bit_or x bits)) i)) (sym was) (subst (λ (n : ℕ). IsIn x n) (sym there) (in_or x bits)))
      | inr other ↦ subst (λ (n : ℕ). IsIn (slice_index lanes i) n) (sym (get_or-set_other lanes k i (bit_or x bits) 0 other)) (in_self (slice_index lanes i))
    ]

pub has_or : (lanes : List ℕ) (k x bits : ℕ) → k < length lanes → IsIn bits (slice_index (set lanes k (bit_or x bits)) k)
has_or lanes k x bits lt = subst (λ (n : ℕ). IsIn bits n) (sym (get_or-set_same lanes k (bit_or x bits) 0 lt)) (and_or_self bits x)

pub has_still : {lanes now : List ℕ} (start : ℕ) (hash : WordHash) (lane : ℕ) → Grows lanes now → HasBit lanes start hash lane → HasBit now start hash lane
has_still {lanes = lanes} {now = now} start hash lane grows has =
    in_then (mask_of hash lane) (slice_index lanes (start + lane)) (slice_index now (start + lane)) has (grows.each (start + lane))

-- one lane more
pub has_more : (lanes : List ℕ) (start lane bits : ℕ) (hash : WordHash) → start + lane < length lanes → bits ≡ mask_of hash lane → ((j : ℕ) → j < lane → HasBit lanes start hash j)
    → (j : ℕ) → j < lane + 1 → HasBit (set lanes (start + lane) (bit_or (slice_index lanes (start + lane)) bits)) start hash j
has_more lanes start lane bits hash within is before j lt = elim (cases_lt j lane) [
  | inl l ↦ has_still start hash j (grows_or lanes (start + lane) (slice_index lanes (start + lane)) bits within refl) (before j l)
  | inr g ↦ (
      let now : List ℕ = set lanes (start + lane) (bit_or (slice_index lanes (start + lane)) bits) in
      let here : HasBit now start hash lane = subst (λ (n : ℕ). IsIn n (slice_index now (start + lane))) is (has_or lanes (start + lane) (slice_index lanes (start + lane)) bits within) in
      let same : lane ≡ j = omega arith in
      subst (HasBit now start hash) same here)
]

-- ---- the block of a hash
pub block_below : (high count : ℕ) → high < 2 ^ 32 → 0 < count → (high * count) / 2 ^ 32 < count
block_below high count lt some = div_below (high * count) (2 ^ 32) count (omega arith) (row high count lt some)
  where
    row : (high count : ℕ) → high < 2 ^ 32 → 0 < count → high * count < count * 2 ^ 32
    row high count lt some = subst (λ (n : ℕ). high * count < n) (mul_comm (2 ^ 32) count) (mul-lt-mul_of_pos_right lt some)

-- ---- words that pass
pub all_still : (es : List Item) (old new : WordFilter) → ((other : WordHash) → Passes old other → Passes new other) → HasAll es old → HasAll es new
all_still es old new keeps all = All-weaker (λ (e : Item). Passes old (hashed e.term)) (λ (e : Item). Passes new (hashed e.term)) (λ e passes. keeps (hashed e.term) passes) es all

-- A WORD THAT DOES NOT PASS is none of them
none_first : (e : Item) (es : List Item) (filter : WordFilter) (word : List ℕ) (b : Bool) → bytes_eq e.term word ≡ b → Passes filter (hashed e.term) → (Passes filter (hashed word) → ⊥) → entry_of es word ≡ None → entry_of (e ∷ es) word ≡ None
none_first e es filter word true same passes lacks rest = absurd (lacks (subst (λ (w : List ℕ). Passes filter (hashed w)) ((bytes_eq-Decides e.term word).0 same) passes))
none_first e es filter word false other passes lacks rest = rw other rest

pub none_of : (es : List Item) (filter : WordFilter) (word : List ℕ) → HasAll es filter → (Passes filter (hashed word) → ⊥) → entry_of es word ≡ None
none_of [] filter word all lacks = refl
none_of (e ∷ es) filter word all lacks =
    none_first e es filter word (bytes_eq e.term word) refl (All-head (λ (x : Item). Passes filter (hashed x.term)) e es all) lacks
    (none_of es filter word (All-tail (λ (x : Item). Passes filter (hashed x.term)) e es all) lacks)
