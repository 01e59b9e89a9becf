-- Numbers as marks: one set, gone through, and put beside lists.
use Rattle.std.proofs.Common.{◌≡◌, ◌∙◌, ◌+◌, ◌<◌, ◌≤◌, ◌||◌, ℕ, zero, suc, Bool, true, false, List, [], ◌∷◌, ◌++◌, All, length, take, get_or, replicate, nat_eq, append-nil, add-one, refl, sym, ap, ap₂, arith}
use mir.Val.{bool_byte}
use Rattle.std.specs.Global.{Vec}
use Rattle.std.specs.List.Sorted.{IsStrictlyIncreasing}
use Rattle.std.specs.Prelude.{slice_set}
use Rattle.std.specs.Simd.Lanes.{Each1}
use Rattle.std.proofs.lemmas.List.{take-set-le, take_all}
use Rattle.std.proofs.lemmas.Simd.{Each1-weaker}
use Rattle.pk_union.proofs.UnionLemmas.{any_more, union_assoc, union_nil, union_of_rises}
use Rattle.pk_union.specs.Union.{marked, numbers_put}
use Rattle.pk_union.specs.Uniting.{items_of, union_of}
use Rattle.pk_sets.proofs.CallerLemmas.{has_union, increasing_of, same_members, union_rises, union_turned}
use Rattle.pk_sets.proofs.IntersectionLemmas.{Rising}
use Rattle.pk_sets.proofs.PartLemmas.{rising_all, stored_one}
use Rattle.pk_sets.proofs.UnionLemmas.{rising_union}
use Rattle.pk_sets.specs.Sets.{has, union}

-- ---- ORDER
from_first : (first : ℕ) (marks : List Bool) → Each1 (λ n. first ≤ n) (marked first marks)
from_first first [] = tt
from_first first (true ∷ marks) = (omega arith, Each1-weaker (λ n. suc first ≤ n) (λ n. first ≤ n) (λ n l. omega arith) (marked (suc first) marks) (from_first (suc first) marks))
from_first first (false ∷ marks) = Each1-weaker (λ n. suc first ≤ n) (λ n. first ≤ n) (λ n l. omega arith) (marked (suc first) marks) (from_first (suc first) marks)

rising : (first : ℕ) (marks : List Bool) → Rising (marked first marks)
rising first [] = tt
rising first (true ∷ marks) = (Each1-weaker (λ n. suc first ≤ n) (λ n. first < n) (λ n l. omega arith) (marked (suc first) marks) (from_first (suc first) marks), rising (suc first) marks)
rising first (false ∷ marks) = rising (suc first) marks

pub marked_rises : (first : ℕ) (marks : List Bool) → IsStrictlyIncreasing (marked first marks)
marked_rises first marks = increasing_of (marked first marks) (rising first marks)

-- no mark is set
pub marked_none : (first n : ℕ) → marked first (replicate n false) ≡ []
marked_none first zero = refl
marked_none first (suc n) = marked_none (suc first) n

-- ---- ONE MARK SET
or_twice : (b c : Bool) → (b || c) ≡ (b || (b || c))
or_twice true c = refl
or_twice false c = refl

or_swap : (b c d : Bool) → (b || (c || d)) ≡ (c || (b || d))
or_swap true true d = refl
or_swap true false d = refl
or_swap false c d = refl

has_set : (first : ℕ) (marks : List Bool) (i n : ℕ) → i < length marks → has (marked first (slice_set marks i true)) n ≡ (nat_eq n (first + i) || has (marked first marks) n)
has_set first [] i n lt = absurd (omega arith)
has_set first (true ∷ marks) zero n lt =
    let rest = has (marked (suc first) marks) n in
    let same : first ≡ first + 0 = omega arith in
    or_twice (nat_eq n first) rest ∙ ap (λ (x : ℕ). nat_eq n x || (nat_eq n first || rest)) same
has_set first (false ∷ marks) zero n lt =
    let same : first ≡ first + 0 = omega arith in
    ap (λ (x : ℕ). nat_eq n x || has (marked (suc first) marks) n) same
has_set first (true ∷ marks) (suc i) n lt =
    let rest = has (marked (suc first) marks) n in
    let same : suc first + i ≡ first + suc i = omega arith in
    ap (λ b. nat_eq n first || b) (has_set (suc first) marks i n (omega arith))
    ∙ or_swap (nat_eq n first) (nat_eq n (suc first + i)) rest
    ∙ ap (λ (x : ℕ). nat_eq n x || (nat_eq n first || rest)) same
has_set first (false ∷ marks) (suc i) n lt =
    let same : suc first + i ≡ first + suc i = omega arith in
    has_set (suc first) marks i n (omega arith) ∙ ap (λ (x : ℕ). nat_eq n x || has (marked (suc first) marks) n) same

or_turned : (b c d : Bool) → (b || (c || d)) ≡ ((c || b) || d)
or_turned true true d = refl
or_turned true false d = refl
or_turned false true d = refl
or_turned false false d = refl

-- one number of a list more
pub set_more : (first i at x : ℕ) (list : List ℕ) (marks old : List Bool) → at < length marks → first + at ≡ x → i < length list → x ≡ get_or list i x
    → ((n : ℕ) → has (marked first marks) n ≡ (has (take i list) n || has (marked first old) n))
    → (n : ℕ) → has (marked first (slice_set marks at true)) n ≡ (has (take (i + 1) list) n || has (marked first old) n)
set_more first i at x list marks old inside is lt here so_far n =
    let before = has (take i list) n in
    let was = has (marked first old) n in
    has_set first marks at n inside
    ∙ ap (λ (y : ℕ). nat_eq n y || has (marked first marks) n) is
    ∙ ap (λ b. nat_eq n x || b) (so_far n)
    ∙ or_turned (nat_eq n x) before was
    ∙ ap (λ b. b || was) (sym (any_more (λ y. nat_eq n y) list i x lt here))

-- all of them
pub set_all : (first : ℕ) (list : List ℕ) (marks old : List Bool) → ((n : ℕ) → has (marked first marks) n ≡ (has list n || has (marked first old) n)) → marked first marks ≡ union list (marked first old)
set_all first list marks old same =
    same_members (marked first marks) (union list (marked first old)) (rising first marks) (rising_union list (marked first old) (rising first old))
    (λ n. same n ∙ sym (has_union list (marked first old) n))

-- ---- GONE THROUGH
one_mark : (first : ℕ) (mark : Bool) → marked first (mark ∷ []) ≡ take (bool_byte mark) (first ∷ [])
one_mark first true = refl
one_mark first false = refl

-- one mark more
step : (first : ℕ) (marks : List Bool) (i : ℕ) (mark : Bool) → i < length marks → mark ≡ get_or marks i mark → marked first (take (suc i) marks) ≡ marked first (take i marks) ++ take (bool_byte mark) ((first + i) ∷ [])
step first [] i mark lt at = absurd (omega arith)
step first (m ∷ marks) zero mark lt at =
    let same : first ≡ first + 0 = omega arith in
    one_mark first m ∙ ap (λ b. take (bool_byte b) (first ∷ [])) (sym at) ∙ ap (λ (x : ℕ). take (bool_byte mark) (x ∷ [])) same
step first (true ∷ marks) (suc i) mark lt at =
    let same : suc first + i ≡ first + suc i = omega arith in
    ap (λ ns. first ∷ ns) (step (suc first) marks i mark (omega arith) at ∙ ap (λ (x : ℕ). marked (suc first) (take i marks) ++ take (bool_byte mark) (x ∷ [])) same)
step first (false ∷ marks) (suc i) mark lt at =
    let same : suc first + i ≡ first + suc i = omega arith in
    step (suc first) marks i mark (omega arith) at ∙ ap (λ (x : ℕ). marked (suc first) (take i marks) ++ take (bool_byte mark) (x ∷ [])) same

written : (out : List ℕ) (count x : ℕ) (mark : Bool) → count < length out → take (count + bool_byte mark) (slice_set out count x) ≡ take count out ++ take (bool_byte mark) (x ∷ [])
written out count x true lt = stored_one count out x lt
written out count x false lt =
    let same : count + 0 ≡ count = omega arith in
    ap (λ (n : ℕ). take n (slice_set out count x)) same ∙ take-set-le count out count x (omega arith) ∙ sym (append-nil (take count out))

-- its number is written in either case, and counted where the mark is set
pub write_more : (first : ℕ) (marks : List Bool) (out : List ℕ) (count i x more : ℕ) (mark : Bool) → i < length marks → mark ≡ get_or marks i mark → x ≡ first + i → more ≡ bool_byte mark → count < length out
    → take count out ≡ marked first (take i marks) → take (count + more) (slice_set out count x) ≡ marked first (take (i + 1) marks)
write_more first marks out count i x more mark lt at is one room so_far =
    ap (λ (n : ℕ). take (count + n) (slice_set out count x)) one
    ∙ written out count x mark room
    ∙ ap (λ ns. ns ++ take (bool_byte mark) (x ∷ [])) so_far
    ∙ ap (λ (y : ℕ). marked first (take i marks) ++ take (bool_byte mark) (y ∷ [])) is
    ∙ sym (rw add-one (step first marks i mark lt at))

-- ---- BESIDE LISTS
put_rises : (first : ℕ) (marks : List Bool) (lists : List (Vec ℕ)) → All IsStrictlyIncreasing (items_of lists) → IsStrictlyIncreasing (numbers_put first marks lists)
put_rises first marks lists rise = union_rises (marked first marks) (union_of (items_of lists)) (union_of_rises (items_of lists) rise)

-- a list that is marked
pub put_marked : (first : ℕ) (list : List ℕ) (new old : List Bool) (lists : List (Vec ℕ)) → IsStrictlyIncreasing list → All IsStrictlyIncreasing (items_of lists) → marked first new ≡ union list (marked first old)
    → numbers_put first new lists ≡ union (numbers_put first old lists) list
put_marked first list new old lists h rise is =
    let stacked = union_of (items_of lists) in
    ap (λ ns. union ns stacked) is
    ∙ sym (union_assoc list (marked first old) stacked (union_of_rises (items_of lists) rise))
    ∙ union_turned list (numbers_put first old lists) (rising_all list h) (rising_all (numbers_put first old lists) (put_rises first old lists rise))

-- a list that is put on the stack
pub put_stacked : (first : ℕ) (list : List ℕ) (marks : List Bool) (new old : List (Vec ℕ)) → IsStrictlyIncreasing list → union_of (items_of new) ≡ union (union_of (items_of old)) list
    → numbers_put first marks new ≡ union (numbers_put first marks old) list
put_stacked first list marks new old h is =
    ap (union (marked first marks)) is ∙ union_assoc (marked first marks) (union_of (items_of old)) list h

-- the lists united onto what is marked
pub put_united : (first : ℕ) (marks : List Bool) (lists : List (Vec ℕ)) (out : List ℕ) → All IsStrictlyIncreasing (items_of lists) → out ≡ union (union_of (items_of lists)) (marked first marks) → out ≡ numbers_put first marks lists
put_united first marks lists out rise is =
    is ∙ union_turned (union_of (items_of lists)) (marked first marks) (rising_all _ (union_of_rises (items_of lists) rise)) (rising first marks)

-- all of them put again, where no mark is set and no list is on the stack
take_none : (n : ℕ) (marks : List Bool) → marks ≡ [] → take n marks ≡ []
take_none n [] none = take_all n [] (omega arith)
take_none n (m ∷ marks) none = absurd (omega (arith, ap length none))

pub put_again : (first n k : ℕ) (marks new : List Bool) (lists left : List (Vec ℕ)) (all : List ℕ) → marks ≡ [] → new ≡ take n marks ++ replicate k false → left ≡ [] → All IsStrictlyIncreasing (items_of lists) → all ≡ union (union_of (items_of lists)) []
    → union (numbers_put first new left) all ≡ numbers_put first marks lists
put_again first n k marks new lists left all none fresh empty rise is =
    let unset : new ≡ replicate k false = fresh ∙ ap (λ (ms : List Bool). ms ++ replicate k false) (take_none n marks none) in
    ap₂ (λ (ms : List Bool) (ls : List (Vec ℕ)). union (numbers_put first ms ls) all) unset empty
    ∙ ap (λ (ns : List ℕ). union (union ns []) all) (marked_none first k)
    ∙ is ∙ union_nil (union_of (items_of lists)) (union_of_rises (items_of lists) rise)
    ∙ ap (λ (ms : List Bool). numbers_put first ms lists) (sym none)
