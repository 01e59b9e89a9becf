-- Four against four.
use Rattle.std.proofs.Common.{◌≡◌, ℕ, zero, suc, ◌<◌, ◌≤◌, ◌+◌, ◌/◌, ◌%◌, ◌^◌, ◌*◌, List, [], ◌∷◌, ◌++◌, ◌-◌, length, take, slice_index, get_or, cond, Bool, true, false, ◌||◌, nat_eq, bit_or, arith, refl, sym, ap, ap₂, ◌∙◌}
use Rattle.std.specs.List.{filter}
use Rattle.std.specs.Simd.Lanes.{zip2, mask_l, top, chunk}
use Rattle.std.proofs.Common.{bit_and, append_assoc}
use Rattle.std.proofs.lemmas.Nat.{and_mask}
use Rattle.std.proofs.Common.{map}
use Rattle.std.proofs.lemmas.List.Elements.{filter-append}
use Rattle.std.proofs.lemmas.Simd.{mask_l-mod, bit_mask_l, get_or-chunk, length-chunk, tops_compared, zip2_splat_left}
use Rattle.std.proofs.Common.{not, w32, replicate}
use Rattle.std.specs.List.{list_any}
use Rattle.std.proofs.lemmas.Bool.Decides.{nat_tests}
use Rattle.std.proofs.lemmas.List.{length-map}
use Rattle.pk_sets.specs.Sets.{has}

-- what holds of each list of four elements
pub four_lanes : (P : List ℕ → Type 0) → ((a b c d : ℕ) → P (a ∷ b ∷ c ∷ d ∷ [])) → (xs : List ℕ) → length xs ≡ 4 → P xs
four_lanes P p (a ∷ b ∷ c ∷ d ∷ []) h = p a b c d
four_lanes P p [] h = absurd (omega arith)
four_lanes P p (a ∷ []) h = absurd (omega arith)
four_lanes P p (a ∷ b ∷ []) h = absurd (omega arith)
four_lanes P p (a ∷ b ∷ c ∷ []) h = absurd (omega arith)
four_lanes P p (a ∷ b ∷ c ∷ d ∷ e ∷ xs) h = absurd (omega arith)

pub below_four : (P : ℕ → Type 0) → P 0 → P 1 → P 2 → P 3 → (j : ℕ) → j < 4 → P j
below_four P p0 p1 p2 p3 zero h = p0
below_four P p0 p1 p2 p3 (suc zero) h = p1
below_four P p0 p1 p2 p3 (suc (suc zero)) h = p2
below_four P p0 p1 p2 p3 (suc (suc (suc zero))) h = p3
below_four P p0 p1 p2 p3 (suc (suc (suc (suc n)))) h = absurd (omega arith)

abbrev pub ones : Bool → ℕ
ones b = cond b (2 ^ 32 - 1) 0

abbrev pub any_of : ℕ → ℕ → ℕ → ℕ → ℕ
any_of k l m n = bit_or (bit_or (bit_or k l) m) n

lane : (p q r s : Bool) → top 31 (any_of (ones p) (ones q) (ones r) (ones s)) ≡ (p || (q || (r || (s || false))))
lane true true true true = refl
lane true true true false = refl
lane true true false true = refl
lane true true false false = refl
lane true false true true = refl
lane true false true false = refl
lane true false false true = refl
lane true false false false = refl
lane false true true true = refl
lane false true true false = refl
lane false true false true = refl
lane false true false false = refl
lane false false true true = refl
lane false false true false = refl
lane false false false true = refl
lane false false false false = refl

turn : (p q r s : Bool) → (q || (r || (s || (p || false)))) ≡ (p || (q || (r || (s || false))))
turn true true true true = refl
turn true true true false = refl
turn true true false true = refl
turn true true false false = refl
turn true false true true = refl
turn true false true false = refl
turn true false false true = refl
turn true false false false = refl
turn false true true true = refl
turn false true true false = refl
turn false true false true = refl
turn false true false false = refl
turn false false true true = refl
turn false false true false = refl
turn false false false true = refl
turn false false false false = refl

lane2 : (p q r s : Bool) → top 31 (any_of (ones q) (ones r) (ones s) (ones p)) ≡ (p || (q || (r || (s || false))))
lane2 p q r s = lane q r s p ∙ turn p q r s

lane3 : (p q r s : Bool) → top 31 (any_of (ones r) (ones s) (ones p) (ones q)) ≡ (p || (q || (r || (s || false))))
lane3 p q r s = lane2 q r s p ∙ turn p q r s

lane4 : (p q r s : Bool) → top 31 (any_of (ones s) (ones p) (ones q) (ones r)) ≡ (p || (q || (r || (s || false))))
lane4 p q r s = lane3 q r s p ∙ turn p q r s

abbrev pub equals : ℕ → ℕ → ℕ
equals x y = ones (nat_eq x y)

abbrev pub rotated : List ℕ → ℕ → ℕ → ℕ → ℕ → List ℕ
rotated ys k l m n = get_or (ys ++ ys) k 0 ∷ get_or (ys ++ ys) l 0 ∷ get_or (ys ++ ys) m 0 ∷ get_or (ys ++ ys) n 0 ∷ []

abbrev pub tops : List ℕ → List ℕ → List Bool
tops xs ys =
    map (top 31) (zip2 bit_or (zip2 bit_or (zip2 bit_or (zip2 equals xs ys) (zip2 equals xs (rotated ys 1 2 3 0))) (zip2 equals xs (rotated ys 2 3 0 1))) (zip2 equals xs (rotated ys 3 0 1 2)))

pub tops_has : (xs : List ℕ) → length xs ≡ 4 → (ys : List ℕ) → length ys ≡ 4 → (t : ℕ) → t < 4
    → get_or (tops xs ys) t false ≡ has ys (slice_index xs t)
tops_has =
    four_lanes (λ xs. (ys : List ℕ) → length ys ≡ 4 → (t : ℕ) → t < 4 → get_or (tops xs ys) t false ≡ has ys (slice_index xs t)) (λ x0 x1 x2 x3.
    four_lanes (λ ys. (t : ℕ) → t < 4 → get_or (tops (x0 ∷ x1 ∷ x2 ∷ x3 ∷ []) ys) t false ≡ has ys (slice_index (x0 ∷ x1 ∷ x2 ∷ x3 ∷ []) t)) (λ y0 y1 y2 y3.
    below_four (λ t. get_or (tops (x0 ∷ x1 ∷ x2 ∷ x3 ∷ []) (y0 ∷ y1 ∷ y2 ∷ y3 ∷ [])) t false ≡ has (y0 ∷ y1 ∷ y2 ∷ y3 ∷ []) (slice_index (x0 ∷ x1 ∷ x2 ∷ x3 ∷ []) t))
    (lane (nat_eq x0 y0) (nat_eq x0 y1) (nat_eq x0 y2) (nat_eq x0 y3))
    (lane2 (nat_eq x1 y0) (nat_eq x1 y1) (nat_eq x1 y2) (nat_eq x1 y3))
    (lane3 (nat_eq x2 y0) (nat_eq x2 y1) (nat_eq x2 y2) (nat_eq x2 y3))
    (lane4 (nat_eq x3 y0) (nat_eq x3 y1) (nat_eq x3 y2) (nat_eq x3 y3))))

length_tops : (xs : List ℕ) → length xs ≡ 4 → (ys : List ℕ) → length ys ≡ 4 → length (tops xs ys) ≡ 4
length_tops =
    four_lanes (λ xs. (ys : List ℕ) → length ys ≡ 4 → length (tops xs ys) ≡ 4) (λ x0 x1 x2 x3.
    four_lanes (λ ys. length (tops (x0 ∷ x1 ∷ x2 ∷ x3 ∷ []) ys) ≡ 4) (λ y0 y1 y2 y3. refl))

pub mask_has : (xs : List ℕ) → length xs ≡ 4 → (ys : List ℕ) → length ys ≡ 4 → (t : ℕ) → t < 4
    → mask_l (tops xs ys) % 2 ^ 64 / 2 ^ t % 2 ≡ cond (has ys (slice_index xs t)) 1 0
mask_has xs h ys k t l =
    ap (λ n. n / 2 ^ t % 2) (mask_l-mod (tops xs ys) 64 (omega (arith, length_tops xs h ys k)))
    ∙ bit_mask_l (tops xs ys) t ∙ ap (λ b. cond b 1 0) (tops_has xs h ys k t l)

kept_case : (x k : ℕ) (b : Bool) → k ≡ cond b 1 0 → cond b (x ∷ []) [] ≡ take k (x ∷ [])
kept_case x k true e = rw e refl
kept_case x k false e = rw e refl

-- the four, each where its bit is 1
pub four_kept : (p : ℕ → Bool) (xs : List ℕ) → length xs ≡ 4 → (k0 k1 k2 k3 : ℕ)
    → k0 ≡ cond (p (slice_index xs 0)) 1 0 → k1 ≡ cond (p (slice_index xs 1)) 1 0 → k2 ≡ cond (p (slice_index xs 2)) 1 0 → k3 ≡ cond (p (slice_index xs 3)) 1 0
    → take k0 (slice_index xs 0 ∷ []) ++ (take k1 (slice_index xs 1 ∷ []) ++ (take k2 (slice_index xs 2 ∷ []) ++ take k3 (slice_index xs 3 ∷ []))) ≡ filter p xs
four_kept p (a ∷ b ∷ c ∷ d ∷ []) h k0 k1 k2 k3 e0 e1 e2 e3 =
    sym (filter-append p (a ∷ []) (b ∷ c ∷ d ∷ [])
    ∙ ap₂ (λ l m. l ++ m) (kept_case a k0 (p a) e0) (filter-append p (b ∷ []) (c ∷ d ∷ [])
    ∙ ap₂ (λ l m. l ++ m) (kept_case b k1 (p b) e1) (filter-append p (c ∷ []) (d ∷ [])
    ∙ ap₂ (λ l m. l ++ m) (kept_case c k2 (p c) e2) (kept_case d k3 (p d) e3))))
four_kept p [] h k0 k1 k2 k3 e0 e1 e2 e3 = absurd (omega arith)
four_kept p (a ∷ []) h k0 k1 k2 k3 e0 e1 e2 e3 = absurd (omega arith)
four_kept p (a ∷ b ∷ []) h k0 k1 k2 k3 e0 e1 e2 e3 = absurd (omega arith)
four_kept p (a ∷ b ∷ c ∷ []) h k0 k1 k2 k3 e0 e1 e2 e3 = absurd (omega arith)
four_kept p (a ∷ b ∷ c ∷ d ∷ e ∷ xs) h k0 k1 k2 k3 e0 e1 e2 e3 = absurd (omega arith)

-- the same, of four numbers in a list
pub four_met : (p : ℕ → Bool) (a : List ℕ) (i : ℕ) → i + 4 ≤ length a → (k0 k1 k2 k3 : ℕ)
    → k0 ≡ cond (p (slice_index (chunk i 4 a) 0)) 1 0 → k1 ≡ cond (p (slice_index (chunk i 4 a) 1)) 1 0
    → k2 ≡ cond (p (slice_index (chunk i 4 a) 2)) 1 0 → k3 ≡ cond (p (slice_index (chunk i 4 a) 3)) 1 0
    → take k0 (slice_index a i ∷ []) ++ (take k1 (slice_index a (i + 1) ∷ []) ++ (take k2 (slice_index a (i + 2) ∷ []) ++ take k3 (slice_index a (i + 3) ∷ []))) ≡ filter p (chunk i 4 a)
four_met p a i room k0 k1 k2 k3 e0 e1 e2 e3 =
    let here : i + 0 ≡ i = omega arith in
    let x0 : slice_index (chunk i 4 a) 0 ≡ slice_index a i = get_or-chunk i 4 a 0 0 (omega arith) ∙ ap (slice_index a) here in
    let x1 : slice_index (chunk i 4 a) 1 ≡ slice_index a (i + 1) = get_or-chunk i 4 a 1 0 (omega arith) in
    let x2 : slice_index (chunk i 4 a) 2 ≡ slice_index a (i + 2) = get_or-chunk i 4 a 2 0 (omega arith) in
    let x3 : slice_index (chunk i 4 a) 3 ≡ slice_index a (i + 3) = get_or-chunk i 4 a 3 0 (omega arith) in
    ap₂ (λ l m. l ++ m) (ap (λ x. take k0 (x ∷ [])) (sym x0))
    (ap₂ (λ l m. l ++ m) (ap (λ x. take k1 (x ∷ [])) (sym x1))
    (ap₂ (λ l m. l ++ m) (ap (λ x. take k2 (x ∷ [])) (sym x2)) (ap (λ x. take k3 (x ∷ [])) (sym x3))))
    ∙ four_kept p (chunk i 4 a) (length-chunk i 4 a room) k0 k1 k2 k3 e0 e1 e2 e3

pub regroup : (t a b c d : List ℕ) → (((t ++ a) ++ b) ++ c) ++ d ≡ t ++ (a ++ (b ++ (c ++ d)))
regroup t a b c d = simp append_assoc

pub lowest : (n : ℕ) → bit_and n 1 ≡ n % 2
lowest n = and_mask n 1

double_zero : (m : ℕ) → nat_eq (0 + 2 * m) 0 ≡ nat_eq m 0
double_zero m = grind (arith, nat_tests)

odd_not_zero : (m : ℕ) → nat_eq (1 + 2 * m) 0 ≡ false
odd_not_zero m = grind (arith, nat_tests)

any_case : (ms : List Bool) (b rest : Bool) → not (nat_eq (mask_l ms) 0) ≡ rest → not (nat_eq (cond b 1 0 + 2 * mask_l ms) 0) ≡ (b || rest)
any_case ms true rest e = ap not (odd_not_zero (mask_l ms))
any_case ms false rest e = ap not (double_zero (mask_l ms)) ∙ e

any_mask : (p : ℕ → Bool) (ys : List ℕ) → not (nat_eq (mask_l (map p ys)) 0) ≡ list_any p ys
any_mask p [] = refl
any_mask p (y ∷ ys) = any_case (map p ys) (p y) (list_any p ys) (any_mask p ys)

pub among_has : (x : ℕ) (ys : List ℕ) → length ys ≡ 32 → not (nat_eq (mask_l (map (top 31) (zip2 equals (replicate 32 x) ys)) % 2 ^ 64) 0) ≡ has ys x
among_has x ys h =
    ap (λ ms. not (nat_eq (mask_l ms % 2 ^ 64) 0)) (tops_compared w32 nat_eq (replicate 32 x) ys ∙ zip2_splat_left nat_eq x 32 ys h)
    ∙ ap (λ n. not (nat_eq n 0)) (mask_l-mod (map (λ y. nat_eq x y) ys) 64 (simp length-map (omega arith)))
    ∙ any_mask (λ y. nat_eq x y) ys
