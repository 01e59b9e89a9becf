-- The words between two places, where a word stands at none of the places that may begin one.
use Rattle.std.proofs.Common.{◌≡◌, ℕ, zero, suc, ◌+◌, ◌-◌, ◌<◌, ◌≤◌, ◌⊎◌, inl, inr, Bool, true, false, not, List, [], ◌∷◌, ◌++◌, map, filter, length, get_or, drop, slice_index, slice_range, IsAscii, refl, sym, ap, ap₂, subst, ◌∙◌, arith, append_assoc, length-append}
use Rattle.std.specs.Char.{to_ascii_lowercase}
use Rattle.std.proofs.lemmas.Bool.{both_ways, cases_lt, cond_both}
use Rattle.std.proofs.lemmas.List.{get_or_append_left, length-map}
use Rattle.std.proofs.lemmas.List.Elements.{filter-append}
use Rattle.std.proofs.lemmas.Str.{IsUtf8-from_ascii, IsCharBoundary-from_ascii, IsAscii-take, IsAscii-drop}
use Rattle.unicode_segmentation.specs.Segments.{breaks_at, has_alphanumeric, segments_between}
use Rattle.unicode_segmentation.specs.Word.{is_word_break}
use Rattle.unicode_segmentation.proofs.SegmentsLemmas.{IsWalk-start, attach, segments_between-same}
use Rattle.unicode_segmentation.proofs.TextLemmas.{slice_range_split, length-slice_range}
use Rattle.pk_model.specs.Words.{folded}
use Rattle.pk_pieces.specs.Pieces.{joins_at, words_from}
use Rattle.pk_pieces.specs.Scan.{AreOthers, HasWords, IsApart, PassesOthers, PassesWithout, StandsApart, StandsNowhere}
use Rattle.pk_pieces.proofs.BreakLemmas.{breaks_ascii, char_at}
use Rattle.pk_pieces.proofs.CallerLemmas.{folded_ascii}

kept_others : (word : List ℕ) (pieces : List (List ℕ)) → AreOthers word pieces → AreOthers word (filter has_alphanumeric pieces)
kept_others word [] h = tt
kept_others word (p ∷ ps) h =
    cond_both (has_alphanumeric p) (p ∷ filter has_alphanumeric ps) (filter has_alphanumeric ps) (AreOthers word) (λ _. (h.0, kept_others word ps h.1)) (λ _. kept_others word ps h.1)

not_joined : (b : Bool) → not b ≡ true → b ≡ false
not_joined true h = sym h
not_joined false h = refl

module _ (s : List ℕ) (ascii : IsAscii s) (word : List ℕ) (to : ℕ) (within : to ≤ length s) where
  abbrev pieces_from : ℕ → List (List ℕ)
  pieces_from from = segments_between is_word_break s from (length s)

  -- the pieces up to the place `to`: the first begins at `from`, and those behind it are not the word
  abbrev AreFrom : ℕ → List (List ℕ) → Type 0
  AreFrom from [] = from ≡ to
  AreFrom from (piece ∷ pieces) = (end : ℕ) × (from < end) × (end ≤ to) × (piece ≡ slice_range s from end) × IsApart s end × AreOthers word pieces

  abbrev IsCut : ℕ → Type 0
  IsCut from = (pieces : List (List ℕ)) × (pieces_from from ≡ pieces ++ pieces_from to) × AreFrom from pieces

  cut_at : (from : ℕ) → from < length s → pieces_from from ≡ attach (breaks_at is_word_break s (from + 1)) (slice_range s from (from + 1)) (pieces_from (from + 1))
  cut_at from lt =
      (IsWalk-start is_word_break s (IsUtf8-from_ascii s ascii) from (length s) (slice_index s from) (from + 1) (char_at s from ascii lt) (omega (arith, lt))
      (IsCharBoundary-from_ascii s (length s) ascii (omega arith))).so_far

  -- a piece that is the word stands where it begins
  piece_stands : (from end : ℕ) → from < end → end ≤ to → IsApart s end → folded (slice_range s from end) ≡ word → StandsApart s word from
  piece_stands from end some most apart e =
      let piece = slice_range s from end in
      let low : map to_ascii_lowercase piece ≡ word = sym (folded_ascii piece (IsAscii-take (drop from s) (end - from) (IsAscii-drop s from ascii))) ∙ e in
      let len = length-slice_range s from end (omega (arith, most, within)) in
      let same : from + length word ≡ end = omega (arith, ap length low, length-map piece to_ascii_lowercase, len, some) in
      record { stands = ap (λ n. map to_ascii_lowercase (slice_range s from n)) same ∙ low; apart = subst (IsApart s) (sym same) apart }

  all_others : (from : ℕ) → (from < to → StandsApart s word from → ⊥) → (pieces : List (List ℕ)) → AreFrom from pieces → AreOthers word pieces
  all_others from never [] h = tt
  all_others from never (p ∷ ps) h = (
    λ e. never (omega (arith, h.1, h.2)) (piece_stands from h.0 h.1 h.2 h.4 (ap folded (sym h.3) ∙ e)),
    h.5,
  )

  module _ (cut : (to ≡ length s) ⊎ (breaks_at is_word_break s to ≡ true)) where
    none_left : (from : ℕ) → from ≡ to → breaks_at is_word_break s from ≡ false → pieces_from to ≡ []
    none_left from e joined =
        elim cut [
          | inl end ↦ ap pieces_from end ∙ segments_between-same is_word_break s (IsUtf8-from_ascii s ascii) (length s)
          | inr broken ↦ absurd (both_ways _ (subst (λ k. breaks_at is_word_break s k ≡ false) e joined) broken)
        ]

    ends_there : (from : ℕ) → from ≡ to → breaks_at is_word_break s from ≡ false → IsApart s from
    ends_there from e joined =
        elim cut [
          | inl end ↦ λ l. absurd (omega (arith, l, e, end))
          | inr broken ↦ absurd (both_ways _ (subst (λ k. breaks_at is_word_break s k ≡ false) e joined) broken)
        ]

    joined_on : (from : ℕ) → from < to → breaks_at is_word_break s (from + 1) ≡ false → (ps : List (List ℕ)) → pieces_from (from + 1) ≡ ps ++ pieces_from to → AreFrom (from + 1) ps → IsCut from
    joined_on from lt e [] same are =
        let x = slice_range s from (from + 1) in
        let none = none_left (from + 1) are e in (
          x ∷ [],
          cut_at from (omega (arith, lt, within)) ∙ ap₂ (λ b ps. attach b x ps) e (same ∙ none) ∙ ap (λ ps. x ∷ ps) (sym none),
          (from + 1, omega arith, omega (arith, lt), refl, ends_there (from + 1) are e, tt),
        )
    joined_on from lt e (p ∷ ps) same are =
        let x = slice_range s from (from + 1) in (
          (x ++ p) ∷ ps,
          cut_at from (omega (arith, lt, within)) ∙ ap₂ (λ b qs. attach b x qs) e same,
          (
            are.0,
            omega (arith, are.1),
            are.2,
            ap (λ q. x ++ q) are.3 ∙ sym (slice_range_split s from (from + 1) are.0 (omega arith) (omega (arith, are.1))),
            are.4,
            are.5,
          ),
        )

    step : (from : ℕ) → from < to → (b : Bool) → breaks_at is_word_break s (from + 1) ≡ b → (from + 1 < to → b ≡ true → StandsApart s word (from + 1) → ⊥) → IsCut (from + 1) → IsCut from
    step from lt true e never rest =
        let x = slice_range s from (from + 1) in
        let apart : IsApart s (from + 1) = λ l. not_joined (joins_at s (from + 1)) (sym (breaks_ascii s (from + 1) ascii (omega arith) l) ∙ e) in (
          x ∷ rest.0,
          cut_at from (omega (arith, lt, within)) ∙ ap₂ (λ b ps. attach b x ps) e rest.1,
          (from + 1, omega arith, omega (arith, lt), refl, apart, all_others (from + 1) (λ l. never l refl) rest.0 rest.2),
        )
    step from lt false e never rest = joined_on from lt e rest.0 rest.1 rest.2

    between : (n from : ℕ) → from + n ≡ to → ((k : ℕ) → from < k → k < to → breaks_at is_word_break s k ≡ true → StandsApart s word k → ⊥) → IsCut from
    between zero from e never = let here : from ≡ to = omega (arith, e) in ([], ap pieces_from here, here)
    between (suc n) from e never =
        step from (omega (arith, e)) (breaks_at is_word_break s (from + 1)) refl (never (from + 1) (omega arith))
        (between n (from + 1) (omega (arith, e)) (λ k low. never k (omega (arith, low))))

    -- no more words are left from the place on than from one before it
    fewer : (from : ℕ) → from ≤ to → ((k : ℕ) → from < k → k < to → joins_at s k ≡ false → StandsApart s word k → ⊥) → length (words_from s to) ≤ length (words_from s from)
    fewer from le never =
        let c = between (to - from) from (omega (arith, le)) (λ k low high broken. never k low high (not_joined (joins_at s k) (sym (breaks_ascii s k ascii (omega (arith, low)) (omega (arith, high, within))) ∙ broken))) in
        let kept = ap length (ap (filter has_alphanumeric) c.1 ∙ filter-append has_alphanumeric c.0 (pieces_from to)) in
        omega (arith, kept, length-append (filter has_alphanumeric c.0) (words_from s to))

    passes : (from : ℕ) → from ≤ to → StandsNowhere s word from to → PassesOthers s word from to
    passes from le never =
        let inner : (k : ℕ) → from < k → k < to → breaks_at is_word_break s k ≡ true → StandsApart s word k → ⊥ =
        λ k low high broken. never k (omega (arith, low)) high (inr (not_joined (joins_at s k) (sym (breaks_ascii s k ascii (omega (arith, low)) (omega (arith, high, within))) ∙ broken))) in
        let c = between (to - from) from (omega (arith, le)) inner in
        let others = all_others from (λ l. never from (omega arith) l (inl refl)) c.0 c.2 in
        record {
          passed = filter has_alphanumeric c.0;
          split = ap (filter has_alphanumeric) c.1 ∙ filter-append has_alphanumeric c.0 (pieces_from to);
          others = kept_others word c.0 others;
        }

  -- a piece begins at the place, or the text ends there
  cut_there : 0 < to → IsApart s to → (to ≡ length s) ⊎ (breaks_at is_word_break s to ≡ true)
  cut_there some apart =
      elim (cases_lt to (length s)) [
        | inl l ↦ inr (breaks_ascii s to ascii some l ∙ ap not (apart l))
        | inr l ↦ inl (omega (arith, l, within))
      ]

-- the words before a place before which this one stands nowhere are others
pub others_passed : (s : List ℕ) → IsAscii s → (word : List ℕ) (from to : ℕ) → to ≤ length s → from ≤ to → (from < to → IsApart s to) → StandsNowhere s word from to → PassesOthers s word from to
others_passed s ascii word from to within le apart never =
    elim (cases_lt from to) [
      | inl l ↦ passes s ascii word to within (cut_there s ascii word to within (omega (arith, l)) (apart l)) from le never
      | inr l ↦ let here : from ≡ to = omega (arith, l, le) in record { passed = []; split = ap (words_from s) here; others = tt }
    ]

-- ---- words that have so many words behind them before this one may stand
both_others : (word : List ℕ) (xs ys : List (List ℕ)) → AreOthers word xs → AreOthers word ys → AreOthers word (xs ++ ys)
both_others word [] ys h k = k
both_others word (x ∷ xs) ys h k = (h.0, both_others word xs ys h.1 k)

other_at : (word : List ℕ) (pieces : List (List ℕ)) (k : ℕ) → k < length pieces → AreOthers word pieces → folded (get_or pieces k []) ≡ word → ⊥
other_at word [] k l h = absurd (omega (arith, l))
other_at word (p ∷ ps) zero l h = h.0
other_at word (p ∷ ps) (suc k) l h = other_at word ps k (omega (arith, l)) h.1

pub passed_without : (s : List ℕ) → IsAscii s → (word : List ℕ) (ahead from back to : ℕ) → to ≤ length s → from ≤ back → back < to → joins_at s back ≡ false → IsApart s to → StandsNowhere s word from to → HasWords s ahead back to → PassesWithout s word ahead from back
passed_without s ascii word ahead from back to within low high apart begins never has =
    let p = others_passed s ascii word from back (omega (arith, high, within)) low (λ _ _. apart) (λ k l h b. never k l (omega (arith, h, high)) b) in
    let begun : (k : ℕ) → (k ≡ back) ⊎ (joins_at s k ≡ false) → joins_at s k ≡ false =
    λ k b. elim b [
      | inl e ↦ subst (λ n. joins_at s n ≡ false) (sym e) apart
      | inr j ↦ j
    ] in
    let q = others_passed s ascii word back to within (omega (arith, high)) (λ _. begins) (λ k l h b. never k (omega (arith, l, low)) h (inr (begun k b))) in
    let few = fewer s ascii word to within (cut_there s ascii word to within (omega (arith, high)) begins) has.end has.high (λ k l h b. never k (omega (arith, l, low, has.low)) h (inr b)) in
    let rest = words_from s to in
    let near = ap length q.split ∙ length-append q.passed rest in
    let whole : words_from s from ≡ (p.passed ++ q.passed) ++ rest = p.split ∙ ap (λ ws. p.passed ++ ws) q.split ∙ sym (append_assoc p.passed q.passed rest) in
    let long = length-append p.passed q.passed in
    let all = ap length whole ∙ length-append (p.passed ++ q.passed) rest in
    record {
      passed = p.passed;
      split = p.split;
      within = λ i l. omega (arith, l, near, few, has.many, all, long);
      others = λ i l e.
          let here : i + ahead < length (p.passed ++ q.passed) = omega (arith, l, near, few, has.many, long) in
          let same = ap (λ ws. get_or ws (i + ahead) []) whole ∙ get_or_append_left (p.passed ++ q.passed) rest [] (i + ahead) here in
          other_at word (p.passed ++ q.passed) (i + ahead) here (both_others word p.passed q.passed p.others q.others) (sym (ap folded same) ∙ e);
    }
