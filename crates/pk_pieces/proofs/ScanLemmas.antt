-- What the lanes of two vectors show, and that a word's first and last byte are shown where it stands.
use Rattle.std.proofs.Common.{◌≡◌, ℕ, ◌+◌, ◌-◌, ◌%◌, ◌<◌, ◌≤◌, inl, inr, leb, Bool, true, false, not, ◌&&◌, ◌||◌, ◌==◌, cond, IsAscii, w8, Fits, List, [], ◌∷◌, map, length, drop, get_or, slice_index, slice_range, bit_and, bit_or, refl, sym, ap, ap₂, subst, ◌∙◌, arith}
use Rattle.std.specs.List.{prefix_len}
use Rattle.std.specs.Char.{is_ascii_alphanumeric, to_ascii_lowercase}
use Rattle.std.proofs.lemmas.Bool.{agree_below_at, and_from, both_ways, cases_lt, or_cases}
use Rattle.std.proofs.lemmas.List.{get_or-map, get_or-take, get_or-drop, get_or_past, length-map, length-drop, length-take}
use Rattle.std.proofs.lemmas.List.Sums.{prefix_len_passes, prefix_len-le-length}
use Rattle.std.proofs.lemmas.Simd.{trailing_mask_l, leading_from_mask_l, get_or-zip2, get_or-chunk, length-chunk, length-zip2}
use lib.Count.{count_trailing_zeros}
use lib.Lanes.{Each1, chunk, mask_l, top, zip2}
use Rattle.ucd_breaks.specs.WordBreak.{word_break}
use Rattle.pk_pieces.specs.Pieces.{is_word_byte, is_word_value, joins_at}
use Rattle.pk_pieces.specs.Scan.{StandsApart, StandsAt, is_no_letter, shows, shows_pair, shows_single}
use Rattle.pk_pieces.proofs.ValueLemmas.{is_word_ascii, joins_words}

-- ---- the lanes

lane : (x y : Bool) → top 7 (bit_and (cond x 255 0) (cond y 255 0)) ≡ (x && y)
lane true true = refl
lane true false = refl
lane false true = refl
lane false false = refl

pub lanes : (p q : ℕ → Bool) (v w : List ℕ) → map (top 7) (zip2 bit_and (map (λ a. cond (p a) 255 0) v) (map (λ b. cond (q b) 255 0) w)) ≡ zip2 (λ a b. p a && q b) v w
lanes p q [] w = refl
lanes p q (a ∷ v) [] = refl
lanes p q (a ∷ v) (b ∷ w) = ap₂ (λ x xs. x ∷ xs) (lane (p a) (q b)) (lanes p q v w)

same_lanes : (ms : List Bool) → map (λ b. b) ms ≡ ms
same_lanes [] = refl
same_lanes (m ∷ ms) = ap (λ xs. m ∷ xs) (same_lanes ms)

not_is : (b : Bool) → not b ≡ true → b ≡ false
not_is true e = sym e
not_is false e = refl

passed_fails : (ms : List Bool) (k : ℕ) → k < prefix_len (λ b. not b) ms → get_or ms k false ≡ false
passed_fails ms k lt = not_is (get_or ms k false) (prefix_len_passes (λ b. not b) ms k false lt)

-- where no bit is set, no lane is
pub none_set : (ms : List Bool) → mask_l ms ≡ 0 → (k : ℕ) → k < length ms → get_or ms k false ≡ false
none_set ms e k lt =
    let all : prefix_len (λ b. not b) ms ≡ length ms = leading_from_mask_l (λ b. b) ms (ap mask_l (same_lanes ms) ∙ e) in
    passed_fails ms k (omega (arith, lt, all))

lowest : (ms : List Bool) → length ms ≤ 64 → 0 < mask_l ms → count_trailing_zeros 64 (mask_l ms) ≡ prefix_len (λ b. not b) ms
lowest ms short some =
    subst (λ xs. count_trailing_zeros 64 (mask_l xs) ≡ prefix_len (λ b. not b) ms) (same_lanes ms)
    (trailing_mask_l (λ b. b) 64 ms short (subst (λ xs. 0 < mask_l xs) (sym (same_lanes ms)) some))

-- below the lowest bit that is set no lane is
pub none_below : (ms : List Bool) → length ms ≤ 64 → 0 < mask_l ms → (k : ℕ) → k < count_trailing_zeros 64 (mask_l ms) → get_or ms k false ≡ false
none_below ms short some k lt = passed_fails ms k (omega (arith, lt, lowest ms short some))

pub lowest_within : (ms : List Bool) → length ms ≤ 64 → 0 < mask_l ms → count_trailing_zeros 64 (mask_l ms) ≤ length ms
lowest_within ms short some = omega (arith, lowest ms short some, prefix_len-le-length (λ b. not b) ms)

-- ---- sixteen places of a text

module _ (p q : ℕ → Bool) (bytes : List ℕ) (gap at : ℕ) (room : at + gap + 16 ≤ length bytes) where
  abbrev pub window : List Bool
  window = zip2 (λ a b. p a && q b) (chunk at 16 bytes) (chunk (at + gap) 16 bytes)

  pub window_len : length window ≡ 16
  window_len =
      let a : length (chunk at 16 bytes) ≡ 16 = length-chunk at 16 bytes (omega (arith, room)) in
      let b : length (chunk (at + gap) 16 bytes) ≡ 16 = length-chunk (at + gap) 16 bytes room in
      length-zip2 (λ x y. p x && q y) (chunk at 16 bytes) (chunk (at + gap) 16 bytes) (a ∙ sym b) ∙ a

  pub window_at : (k : ℕ) → at ≤ k → k < at + 16 → get_or window (k - at) false ≡ (p (slice_index bytes k) && q (slice_index bytes (k + gap)))
  window_at k low high =
      let a : length (chunk at 16 bytes) ≡ 16 = length-chunk at 16 bytes (omega (arith, room)) in
      let b : length (chunk (at + gap) 16 bytes) ≡ 16 = length-chunk (at + gap) 16 bytes room in
      let here : at + (k - at) ≡ k = omega (arith, low) in
      let there : at + gap + (k - at) ≡ k + gap = omega (arith, low) in
      get_or-zip2 (λ x y. p x && q y) (chunk at 16 bytes) (chunk (at + gap) 16 bytes) (k - at) 0 0 false (omega (arith, a, low, high)) (omega (arith, b, low, high))
      ∙ ap₂ (λ x y. p x && q y)
      (get_or-chunk at 16 bytes (k - at) 0 (omega (arith, low, high)) ∙ ap (λ n. slice_index bytes n) here)
      (get_or-chunk (at + gap) 16 bytes (k - at) 0 (omega (arith, low, high)) ∙ ap (λ n. slice_index bytes n) there)

-- a test that says the same of each byte
pub same_tests : (p q r : ℕ → Bool) (v w : List ℕ) → Each1 (Fits w8) w → ((b : ℕ) → b < 256 → q b ≡ r b) → zip2 (λ a b. p a && q b) v w ≡ zip2 (λ a b. p a && r b) v w
same_tests p q r [] w fits same = refl
same_tests p q r (a ∷ v) [] fits same = refl
same_tests p q r (a ∷ v) (b ∷ w) fits same = ap₂ (λ x xs. (p a && x) ∷ xs) (same b fits.0.fits) (same_tests p q r v w fits.1 same)

-- counted from the small a on, no letter is below 26
pub far_from_letters : (b : ℕ) → b < 256 → leb 26 ((bit_or b 32 + (256 - 97)) % 256) ≡ is_no_letter b
far_from_letters b below = agree_below_at (λ x. leb 26 ((bit_or x 32 + (256 - 97)) % 256)) is_no_letter 256 b refl below

-- ---- a word's first and last byte

pub shows_letter : (b : ℕ) → b < 256 → shows (to_ascii_lowercase b) b ≡ true
shows_letter b below = agree_below_at (λ x. shows (to_ascii_lowercase x) x) (λ x. true) 256 b refl below

module _ (bytes word : List ℕ) (k : ℕ) (stands : StandsAt bytes word k) where
  stands_len : length (slice_range bytes k (k + length word)) ≡ length word
  stands_len = sym (length-map (slice_range bytes k (k + length word)) to_ascii_lowercase) ∙ ap length stands

  -- there are as many bytes as the word has
  pub stands_within : 0 < length word → k + length word ≤ length bytes
  stands_within some =
      omega (arith, length-take (k + length word - k) (drop k bytes), stands_len, length-drop k bytes, some)

  stands_byte : (i : ℕ) → i < length word → to_ascii_lowercase (slice_index bytes (k + i)) ≡ slice_index word i
  stands_byte i lt =
      let wide : i < k + length word - k = omega (arith, lt) in
      sym (ap to_ascii_lowercase (get_or-take (k + length word - k) (drop k bytes) i 0 wide ∙ get_or-drop k bytes i 0))
      ∙ sym (get_or-map to_ascii_lowercase (slice_range bytes k (k + length word)) i 0 0 (omega (arith, lt, stands_len))) ∙ ap (λ t. slice_index t i) stands

  pub pair_shown : ((i : ℕ) → slice_index bytes i < 256) → 0 < length word → shows_pair bytes (length word - 1) (slice_index word 0) (slice_index word (length word - 1)) k ≡ true
  pair_shown fits some =
      let gap = length word - 1 in
      let here : k + 0 ≡ k = omega arith in
      let front : to_ascii_lowercase (slice_index bytes k) ≡ slice_index word 0 = ap (λ n. to_ascii_lowercase (slice_index bytes n)) (sym here) ∙ stands_byte 0 some in
      let back : to_ascii_lowercase (slice_index bytes (k + gap)) ≡ slice_index word gap = stands_byte gap (omega (arith, some)) in
      and_from _ _
      (subst (λ s. shows s (slice_index bytes k) ≡ true) front (shows_letter (slice_index bytes k) (fits k)))
      (subst (λ s. shows s (slice_index bytes (k + gap)) ≡ true) back (shows_letter (slice_index bytes (k + gap)) (fits (k + gap))))

-- ---- a word of one letter or digit

keeps_word : (b : ℕ) → b < 256 → is_word_byte (to_ascii_lowercase b) ≡ is_word_byte b
keeps_word b below = agree_below_at (λ x. is_word_byte (to_ascii_lowercase x)) is_word_byte 256 b refl below

letters_are : (b : ℕ) → b < 256 → (is_no_letter b || is_word_byte b) ≡ true
letters_are b below = agree_below_at (λ x. is_no_letter x || is_word_byte x) (λ x. true) 256 b refl below

word_from_alphanumeric : (b : ℕ) → is_ascii_alphanumeric b ≡ true → is_word_byte b ≡ true
word_from_alphanumeric b e = ap (λ x. x || (b == 95)) e

-- a letter behind it would be joined
no_letter_behind : (s : List ℕ) (k : ℕ) → IsAscii s → is_word_byte (slice_index s k) ≡ true → (k + 1 < length s → joins_at s (k + 1) ≡ false) → is_no_letter (slice_index s (k + 1)) ≡ true
no_letter_behind s k ascii word apart =
    elim (cases_lt (k + 1) (length s)) [
      | inr end ↦ ap is_no_letter (get_or_past s (k + 1) 0 end)
      | inl inside ↦
          elim (or_cases _ _ (letters_are (slice_index s (k + 1)) (omega (arith, ascii (k + 1))))) [
            | inl none ↦ none
            | inr some ↦
                let back : k ≡ k + 1 - 1 = omega arith in
                let left : is_word_value (word_break (slice_index s (k + 1 - 1))) ≡ true =
                is_word_ascii _ (ascii (k + 1 - 1)) ∙ ap (λ n. is_word_byte (slice_index s n)) (sym back) ∙ word in
                let right : is_word_value (word_break (slice_index s (k + 1))) ≡ true = is_word_ascii _ (ascii (k + 1)) ∙ some in
                absurd (both_ways _ (apart inside) (joins_words _ _ _ _ left right))
          ]
    ]

pub single_shown : (s word : List ℕ) (k : ℕ) → IsAscii s → length word ≡ 1 → is_ascii_alphanumeric (slice_index word 0) ≡ true → StandsApart s word k → shows_single s (slice_index word 0) k ≡ true
single_shown s word k ascii one alphanumeric h =
    let some : 0 < length word = omega (arith, one) in
    let here : k + 0 ≡ k = omega arith in
    let below : (i : ℕ) → slice_index s i < 256 = λ i. omega (arith, ascii i) in
    let front : to_ascii_lowercase (slice_index s k) ≡ slice_index word 0 = ap (λ n. to_ascii_lowercase (slice_index s n)) (sym here) ∙ stands_byte s word k h.stands 0 some in
    let is : is_word_byte (slice_index s k) ≡ true =
    sym (keeps_word (slice_index s k) (below k)) ∙ ap is_word_byte front ∙ word_from_alphanumeric (slice_index word 0) alphanumeric in
    let apart : k + 1 < length s → joins_at s (k + 1) ≡ false = subst (λ n. k + n < length s → joins_at s (k + n) ≡ false) one h.apart in
    and_from _ _
    (subst (λ b. shows b (slice_index s k) ≡ true) front (shows_letter (slice_index s k) (below k)))
    (no_letter_behind s k ascii is apart)
