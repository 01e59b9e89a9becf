-- One vector more of a block of differences, or of the numbers that they give.
use Rattle.std.proofs.Common.{◌≡◌, ℕ, ◌<◌, ◌+◌, ◌-◌, ◌*◌, ◌%◌, ◌^◌, List, ◌++◌, length, slice_index, arith, sym, ap, ap₂, ◌∙◌, inl, inr}
use Rattle.std.proofs.lemmas.Bool.{cases_lt}
use Rattle.std.proofs.lemmas.List.{get_or_append_left, get_or-append_right}
use Rattle.pk_lanes.specs.Progress.{RestoresTo}
use Rattle.std.proofs.Common.{[], ◌∷◌}
use Rattle.std.specs.Simd.Lanes.{zip2}
use Rattle.pk_lanes.proofs.LaneLemmas.{four_lanes, below_four}
use Rattle.pk_lanes.proofs.UnpackingLemmas.{written, written_before, written_here}

-- four places before i, below place a + 4, lists that agree below a give one number
four_before : (seed xs ys : List ℕ) (a i : ℕ) → length seed ≡ 4 → i < a + 4 → ((k : ℕ) → k < a → slice_index ys k ≡ slice_index xs k)
    → slice_index (seed ++ xs) i ≡ slice_index (seed ++ ys) i
four_before seed xs ys a i four h same = elim (cases_lt i 4) [
  | inl l ↦ get_or_append_left seed xs 0 i (omega arith) ∙ sym (get_or_append_left seed ys 0 i (omega arith))
  | inr r ↦ get_or-append_right seed xs 4 i 0 four r ∙ sym (same (i - 4) (omega arith)) ∙ sym (get_or-append_right seed ys 4 i 0 four r)
]

pub restores_none : (seed ds xs : List ℕ) → length seed ≡ 4 → RestoresTo 0 seed ds xs seed
restores_none seed ds xs four = record {
  step = λ i h. absurd (omega arith);
  carried = λ c h. (let z : c ≡ 4 * 0 + c = omega arith in sym (get_or_append_left seed xs 0 c (omega arith)) ∙ ap (slice_index (seed ++ xs)) z);
}

pub restores_more : (k : ℕ) (seed ds xs last x new : List ℕ) → k < 32 → length seed ≡ 4 → length xs ≡ 128 → length new ≡ 4
    → RestoresTo k seed ds xs last
    → ((c : ℕ) → c < 4 → slice_index x c ≡ slice_index ds (4 * k + c))
    → ((c : ℕ) → c < 4 → slice_index new c ≡ (slice_index x c + slice_index last c) % 2 ^ 32)
    → RestoresTo (k + 1) seed ds (written (4 * k) (128 - 4 * k) xs new) new
restores_more k seed ds xs last x new hk four hx hn old value sums =
    let ys = written (4 * k) (128 - 4 * k) xs new in
    let here : (c : ℕ) → c < 4 → slice_index ys (4 * k + c) ≡ slice_index new c =
    λ c h. written_here (4 * k) (128 - 4 * k) xs new c (omega arith) (omega arith) (omega arith) in
    let before : (i : ℕ) → i < 4 * k → slice_index ys i ≡ slice_index xs i =
    λ i h. written_before (4 * k) (128 - 4 * k) xs new i h (omega arith) in
    let agree : (i : ℕ) → i < 4 * k + 4 → slice_index (seed ++ xs) i ≡ slice_index (seed ++ ys) i =
    λ i h. four_before seed xs ys (4 * k) i four h before in
    let found : (c : ℕ) → c < 4 → slice_index ys (4 * k + c) ≡ (slice_index ds (4 * k + c) + slice_index (seed ++ ys) (4 * k + c)) % 2 ^ 32 =
    λ c h. here c h ∙ sums c h ∙ ap₂ (λ m n. (m + n) % 2 ^ 32) (value c h) (old.carried c h ∙ agree (4 * k + c) (omega arith)) in
    record {
      step = λ i h. elim (cases_lt i (4 * k)) [
        | inl l ↦ before i l ∙ old.step i l ∙ ap (λ n. (slice_index ds i + n) % 2 ^ 32) (agree i (omega arith))
        | inr r ↦ (let e : 4 * k + (i - 4 * k) ≡ i = omega arith in rw e at (found (i - 4 * k) (omega arith)))
      ];
      carried = λ c h. (let e : 4 * (k + 1) + c - 4 ≡ 4 * k + c = omega arith in
          sym (here c h) ∙ ap (slice_index ys) (sym e) ∙ sym (get_or-append_right seed ys 4 (4 * (k + 1) + c) 0 four (omega arith)));
    }

pub differs_none : (seed ds xs : List ℕ) → length seed ≡ 4 → RestoresTo 0 seed ds xs seed
differs_none seed ds xs four = record {
  step = λ i h. absurd (omega arith);
  carried = λ c h. (let z : c ≡ 4 * 0 + c = omega arith in sym (get_or_append_left seed xs 0 c (omega arith)) ∙ ap (slice_index (seed ++ xs)) z);
}

pub differs_more : (k : ℕ) (seed ds xs last x new : List ℕ) → k < 32 → length seed ≡ 4 → length ds ≡ 128 → length new ≡ 4
    → RestoresTo k seed ds xs last
    → ((c : ℕ) → c < 4 → slice_index x c ≡ slice_index xs (4 * k + c))
    → ((c : ℕ) → c < 4 → slice_index x c ≡ (slice_index new c + slice_index last c) % 2 ^ 32)
    → RestoresTo (k + 1) seed (written (4 * k) (128 - 4 * k) ds new) xs x
differs_more k seed ds xs last x new hk four hd hn old value sums =
    let ys = written (4 * k) (128 - 4 * k) ds new in
    let here : (c : ℕ) → c < 4 → slice_index ys (4 * k + c) ≡ slice_index new c =
    λ c h. written_here (4 * k) (128 - 4 * k) ds new c (omega arith) (omega arith) (omega arith) in
    let before : (i : ℕ) → i < 4 * k → slice_index ys i ≡ slice_index ds i =
    λ i h. written_before (4 * k) (128 - 4 * k) ds new i h (omega arith) in
    let found : (c : ℕ) → c < 4 → slice_index xs (4 * k + c) ≡ (slice_index ys (4 * k + c) + slice_index (seed ++ xs) (4 * k + c)) % 2 ^ 32 =
    λ c h. sym (value c h) ∙ sums c h ∙ ap₂ (λ m n. (m + n) % 2 ^ 32) (sym (here c h)) (old.carried c h) in
    record {
      step = λ i h. elim (cases_lt i (4 * k)) [
        | inl l ↦ old.step i l ∙ ap (λ n. (n + slice_index (seed ++ xs) i) % 2 ^ 32) (sym (before i l))
        | inr r ↦ (let e : 4 * k + (i - 4 * k) ≡ i = omega arith in rw e at (found (i - 4 * k) (omega arith)))
      ];
      carried = λ c h. (let e : 4 * (k + 1) + c - 4 ≡ 4 * k + c = omega arith in
          value c h ∙ ap (slice_index xs) (sym e) ∙ sym (get_or-append_right seed xs 4 (4 * (k + 1) + c) 0 four (omega arith)));
    }

sub_one : (x y : ℕ) → x < 2 ^ 32 → y < 2 ^ 32 → x ≡ ((x + (2 ^ 32 - y)) % 2 ^ 32 + y) % 2 ^ 32
sub_one x y h k = omega arith

abbrev pub sub_lanes : List ℕ → List ℕ → List ℕ
sub_lanes a b = zip2 (λ x y. (x + (2 ^ 32 - y)) % 2 ^ 32) a b

pub sub_sums : (a : List ℕ) → length a ≡ 4 → ((c : ℕ) → c < 4 → slice_index a c < 2 ^ 32) → (b : List ℕ) → length b ≡ 4 → ((c : ℕ) → c < 4 → slice_index b c < 2 ^ 32)
    → (c : ℕ) → c < 4 → slice_index a c ≡ (slice_index (sub_lanes a b) c + slice_index b c) % 2 ^ 32
sub_sums = four_lanes (λ a. ((c : ℕ) → c < 4 → slice_index a c < 2 ^ 32) → (b : List ℕ) → length b ≡ 4 → ((c : ℕ) → c < 4 → slice_index b c < 2 ^ 32)
    → (c : ℕ) → c < 4 → slice_index a c ≡ (slice_index (sub_lanes a b) c + slice_index b c) % 2 ^ 32) (λ x0 x1 x2 x3 f.
    four_lanes (λ b. ((c : ℕ) → c < 4 → slice_index b c < 2 ^ 32)
    → (c : ℕ) → c < 4 → slice_index (x0 ∷ x1 ∷ x2 ∷ x3 ∷ []) c ≡ (slice_index (sub_lanes (x0 ∷ x1 ∷ x2 ∷ x3 ∷ []) b) c + slice_index b c) % 2 ^ 32) (λ y0 y1 y2 y3 g.
    below_four (λ c. slice_index (x0 ∷ x1 ∷ x2 ∷ x3 ∷ []) c ≡ (slice_index (sub_lanes (x0 ∷ x1 ∷ x2 ∷ x3 ∷ []) (y0 ∷ y1 ∷ y2 ∷ y3 ∷ [])) c + slice_index (y0 ∷ y1 ∷ y2 ∷ y3 ∷ []) c) % 2 ^ 32)
    (sub_one x0 y0 (f 0 (omega arith)) (g 0 (omega arith))) (sub_one x1 y1 (f 1 (omega arith)) (g 1 (omega arith)))
    (sub_one x2 y2 (f 2 (omega arith)) (g 2 (omega arith))) (sub_one x3 y3 (f 3 (omega arith)) (g 3 (omega arith)))))
