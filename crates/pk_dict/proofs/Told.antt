-- What first terms of groups say of a search, for any bytes.
use Rattle.std.proofs.Common.{arith, refl, sym, subst, ◌∙◌, ◌≡◌, ◌≤◌, ◌<◌, ◌+◌, ◌-◌, ◌*◌, ℕ, zero, suc, List, Ok, Err, Option, Result, inl, inr}
use Rattle.std.specs.Prelude.{IfOk}
use Rattle.std.proofs.lemmas.Bool.{cases_lt, lt-ltb}
use Rattle.pk_keys.specs.declared.pivots.Bounds.{Bounds}
use Rattle.pk_keys.specs.Keys.{decided, pivot_at}
use Rattle.pk_posting.specs.declared.source.SourceFault.{SourceFault}
use Rattle.pk_dict.specs.declared.entry.Entry.{Entry}
use Rattle.pk_dict.specs.declared.head.Between.{Between}
use Rattle.pk_dict.specs.declared.head.Search.{Search}
use Rattle.pk_dict.specs.declared.head.Search.TheVariants.{Open}
use Rattle.pk_dict.specs.declared.head.Standing.{Standing}
use Rattle.pk_dict.specs.declared.head.Step.{Step}
use Rattle.pk_dict.specs.declared.head.Step.TheVariants.{Less, Found, Past}
use Rattle.pk_dict.specs.Dictionary.{group_count}
use Rattle.pk_dict.specs.LookUp.{AreTold, IsSaid, IsToldAt, halved, narrow_at, scanned, standing_at}
use Rattle.pk_dict.specs.Reading.{◌>>=◌, Gives, group_at}
use Rattle.pk_dict.proofs.Narrowing.{middle_of, narrow_by, narrow_done}

-- of all groups nothing has to be said
pub told_none : (bytes : List ℕ) (terms : ℕ) (term : List ℕ) (groups matched next : ℕ) → groups ≡ group_count terms → AreTold bytes terms term 0 groups matched next
told_none bytes terms term groups matched next e = record { under = λ h. absurd (omega arith); above = λ h. absurd (omega (arith, e, h)) }

-- a halving that ends has its end told
abbrev Tells : ℕ → List ℕ → ℕ → List ℕ → Type 0
Tells n bytes terms term =
    (low high matched next : ℕ) (s : Standing) → AreTold bytes terms term low high matched next → low ≤ high → high ≤ group_count terms → high - low ≤ n → narrow_at n bytes (4 * group_count terms) term low high matched next ≡ Ok s → IsToldAt bytes terms term s

same_standing : (x y : Standing) (r : Result Standing SourceFault) → r ≡ Ok x → r ≡ Ok y → x ≡ y
same_standing x y r a b = cc

told_done : (n : ℕ) (bytes : List ℕ) (terms : ℕ) (term : List ℕ) (low high matched next : ℕ) (s : Standing) → AreTold bytes terms term low high matched next → low ≤ high → high ≤ group_count terms → high ≤ low
    → narrow_at n bytes (4 * group_count terms) term low high matched next ≡ Ok s → IsToldAt bytes terms term s
told_done n bytes terms term low high matched next s t order most h is =
    let same : high ≡ low = omega arith in
    subst (IsToldAt bytes terms term) (same_standing _ _ _ (narrow_done n bytes (4 * group_count terms) term low high matched next h) is)
    (omega arith, subst (λ (i : ℕ). AreTold bytes terms term low i matched next) same t)

told_on : (n : ℕ) (bytes : List ℕ) (terms : ℕ) (term : List ℕ) (low high matched next : ℕ) (r : Result Step SourceFault) (s : Standing) → Tells n bytes terms term → AreTold bytes terms term low high matched next → low < high → high ≤ group_count terms → high - low ≤ suc n
    → group_at bytes (4 * group_count terms) (middle_of low high) term ≡ r → (r >>= halved (narrow_at n bytes (4 * group_count terms) term) low high matched next (middle_of low high)) ≡ Ok s → IsToldAt bytes terms term s
told_on n bytes terms term low high matched next (Err e) s tells t lt most few at is = absurd cc
told_on n bytes terms term low high matched next (Ok (Less now after)) s tells t lt most few at is =
    let back : middle_of low high ≡ middle_of low high + 1 - 1 = omega arith in
    tells (middle_of low high + 1) high now after s
    (record { under = λ h. subst (λ (g : ℕ). group_at bytes (4 * group_count terms) g term ≡ Ok (Less now after)) back at; above = t.above }) (omega arith) most (omega arith) is
told_on n bytes terms term low high matched next (Ok (Found entry)) s tells t lt most few at is =
    subst (IsToldAt bytes terms term) (same_standing _ _ _ refl is) (omega arith, at)
told_on n bytes terms term low high matched next (Ok Past) s tells t lt most few at is =
    tells low (middle_of low high) matched next s (record { under = t.under; above = λ h. at }) (omega arith) (omega arith) (omega arith) is

narrow_tells : (n : ℕ) (bytes : List ℕ) (terms : ℕ) (term : List ℕ) → Tells n bytes terms term
narrow_tells zero bytes terms term low high matched next s t order most few is = told_done zero bytes terms term low high matched next s t order most (omega arith) is
narrow_tells (suc n) bytes terms term low high matched next s t order most few is =
    elim (cases_lt low high) [
      | inr h ↦ told_done (suc n) bytes terms term low high matched next s t order most h is
      | inl lt ↦ told_on n bytes terms term low high matched next _ s (narrow_tells n bytes terms term) t lt most few refl
          (sym (narrow_by n bytes (4 * group_count terms) term low high matched next _ lt refl) ∙ is)
    ]

-- where what was known was told, so is where a term stands
pub stands_told : (bytes : List ℕ) (terms : ℕ) (term : List ℕ) (low high matched next : ℕ) (r : Result Standing SourceFault) → AreTold bytes terms term low high matched next → low ≤ high → high ≤ group_count terms
    → Gives r (narrow_at (high - low) bytes (4 * group_count terms) term low high matched next) → IfOk r (IsToldAt bytes terms term)
stands_told bytes terms term low high matched next (Ok s) t order most is = narrow_tells (high - low) bytes terms term low high matched next s t order most (omega arith) is
stands_told bytes terms term low high matched next (Err e) t order most is = tt

-- what is said where a term stands is an answer
pub answer_said : (bytes : List ℕ) (terms : ℕ) (term : List ℕ) (s : Standing) (r : Result (Option Entry) SourceFault) → IsToldAt bytes terms term s → Gives r (scanned bytes terms term s) → IfOk r (IsSaid bytes terms term)
answer_said bytes terms term s (Ok x) t is = record { standing = s; told = t; said = is }
answer_said bytes terms term s (Err e) t is = tt

-- where the search among all groups ends is told
pub all_told : (bytes : List ℕ) (terms : ℕ) (term : List ℕ) (r : Result Standing SourceFault) → Gives r (standing_at bytes terms term) → IfOk r (IsToldAt bytes terms term)
all_told bytes terms term r gives =
    let n : ℕ = group_count terms in
    let whole : n ≡ n - 0 = omega arith in
    stands_told bytes terms term 0 n 0 0 r (told_none bytes terms term n 0 0 refl) (omega arith) (omega arith)
    (subst (λ (k : ℕ). Gives r (narrow_at k bytes (4 * n) term 0 n 0 0)) whole gives)

-- where the key in the middle of all words is not known, all of them are left
pub all_left : (words : ℕ) (pivots : List ℕ) (key : ℕ) (b : Bounds) → b ≡ decided words pivots key 0 words 1 → pivot_at pivots 1 ≡ 0 → (b.low ≡ 0) × (b.high ≡ words)
unfolding decided
all_left zero pivots key b is e = rw is (refl, refl)
all_left (suc n) pivots key b is e = let all : b ≡ record { low = 0; high = suc n; node = 1 } = is ∙ rw (lt-ltb 0 (suc n) (omega arith)) (rw e refl) in rw all (refl, refl)

-- the search among all groups
pub all_stand : (bytes : List ℕ) (terms : ℕ) (term : List ℕ) (groups node : ℕ) (b : Between) (r : Result Standing SourceFault) → groups ≡ group_count terms → b ≡ record { low = 0; high = groups; matched = 0; next = 0; node = node }
    → Gives r (narrow_at (b.high - b.low) bytes (4 * group_count terms) term b.low b.high b.matched b.next) → Gives r (standing_at bytes terms term)
all_stand bytes terms term groups node b r e is gives =
    let whole : groups - 0 ≡ groups = omega arith in
    let all = subst (λ (b : Between). Gives r (narrow_at (b.high - b.low) bytes (4 * group_count terms) term b.low b.high b.matched b.next)) is gives in
    subst (λ (n : ℕ). Gives r (narrow_at n bytes (4 * group_count terms) term 0 n 0 0)) e
    (subst (λ (n : ℕ). Gives r (narrow_at n bytes (4 * group_count terms) term 0 groups 0 0)) whole all)

pub same_search : (x y : Search) (r : Result Search SourceFault) → r ≡ Ok x → r ≡ Ok y → x ≡ y
same_search x y r a b = cc

pub same_between : (x y : Between) → Open x ≡ Open y → x ≡ y
same_between x y e = cc
