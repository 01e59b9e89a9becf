-- What is written, what is left, and which of four are met already.
use Rattle.std.proofs.Common.{arith, ◌∙◌, ◌≡◌, ℕ, ◌<◌, ◌≤◌, ◌+◌, length, slice_index, take, bit_or, false, inl, inr}
use Rattle.std.specs.Simd.Lanes.{chunk}
use Rattle.std.proofs.lemmas.Bool.{cases_lt}
use Rattle.pk_sets.specs.Sets.{difference, has}
use Rattle.pk_sets.proofs.PartLemmas.{below}
use Rattle.pk_sets.proofs.HitLemmas.{left_over, none_through, not_picked, past_a, past_b, picked, still_there, through}
use Rattle.pk_sets.proofs.excluding.exclude_even.Goals as goal

pub fours-preserved : goal.fours-preserved
fours-preserved c =
    let a = c.args.a.now in
    let b = c.args.b.now in
    let i = c.fours.i in
    let j = c.fours.j in
    let x = slice_index a (i + 3) in
    let y = slice_index b (j + 3) in
    let room : i + 4 ≤ length a = omega arith in
    let room_b : j + 4 ≤ length b = omega arith in
    let hits = bit_or c.fours.seen c.shared.result in
    let new_n = c.select_unpredictable-n.result in
    let new_i = c.select_unpredictable-i.result in
    let new_j = c.select_unpredictable-j.result in
    let later : (k : ℕ) → y < slice_index a k → has (take (j + 4) b) (slice_index a k) ≡ false =
    λ k l. none_through b c.requires.rising_b (j + 4) (j + 3) (slice_index a k) (omega arith) (omega arith) l in
    elim (cases_lt y x) [
      | inl l ↦ (let n_is : new_n ≡ c.fours.n = not_picked x y _ _ _ c.select_unpredictable-n.ensures l in
          let i_is : new_i ≡ 0 = not_picked x y _ _ _ c.select_unpredictable-i.ensures l in
          let j_is : new_j ≡ 4 = picked y x _ _ _ c.select_unpredictable-j.ensures (omega arith) in
          let seen_is : c.select_unpredictable-seen.result ≡ hits = not_picked x y _ _ _ c.select_unpredictable-seen.ensures l in
          let start_is : c.select_unpredictable-start.result ≡ c.fours.start = not_picked x y _ _ _ c.select_unpredictable-start.ensures l in
          let stay : i + 0 ≡ i = omega arith in
          let met = through c.fours.invariant c.requires.rising_a c.requires.rising_b c.shared.result room room_b c.shared.ensures in
          let same : take c.fours.n c.exclude_hits-kept.new.out ≡ take c.fours.n c.fours.out =
          still_there c.fours.n c.exclude_hits-kept.result c.fours.out c.exclude_hits-kept.new.out (difference (chunk i 4 a) (take (j + 4) b))
          c.exclude_hits-kept.ensures.at_least (omega arith) (c.exclude_hits-kept.ensures.found (take (j + 4) b) met) in
          rw (n_is, i_is, j_is, seen_is, start_is, stay)
          (past_b c.fours.invariant c.requires.rising_a c.requires.rising_b c.shared.result room room_b c.shared.ensures c.exclude_hits-kept.new.out l same))
      | inr r ↦ (let done : x ≤ y = omega arith in
          let n_is : new_n ≡ c.exclude_hits-kept.result = picked x y _ _ _ c.select_unpredictable-n.ensures done in
          let i_is : new_i ≡ 4 = picked x y _ _ _ c.select_unpredictable-i.ensures done in
          let seen_is : c.select_unpredictable-seen.result ≡ 0 = picked x y _ _ _ c.select_unpredictable-seen.ensures done in
          let start_is : c.select_unpredictable-start.result ≡ j = picked x y _ _ _ c.select_unpredictable-start.ensures done in
          let passed : (k : ℕ) → i + 4 ≤ k → k < length a → has (take (j + new_j) b) (slice_index a k) ≡ false =
          λ k h m. elim (cases_lt x y) [
            | inl s ↦ (let j_is : new_j ≡ 0 = not_picked y x _ _ _ c.select_unpredictable-j.ensures s in
                let stay : j + 0 ≡ j = omega arith in
                rw (j_is, stay) (c.fours.invariant.ahead k h m))
            | inr s ↦ (let j_is : new_j ≡ 4 = picked y x _ _ _ c.select_unpredictable-j.ensures (omega arith) in
                rw j_is (later k (omega (arith, s, below a c.requires.rising_a (i + 3) k (omega arith) m))))
          ] in
          let in_b : j + new_j ≤ length b = elim (cases_lt x y) [
            | inl s ↦ omega (arith, not_picked y x _ _ _ c.select_unpredictable-j.ensures s)
            | inr s ↦ omega (arith, picked y x _ _ _ c.select_unpredictable-j.ensures (omega arith))
          ] in
          rw (n_is, i_is, seen_is, start_is)
          (past_a c.fours.invariant c.requires.rising_a c.requires.rising_b c.shared.result room room_b c.shared.ensures
          c.exclude_hits-kept.new.out c.exclude_hits-kept.result (j + new_j) done c.exclude_hits-kept.ensures.at_most c.exclude_hits-kept.ensures.found in_b passed))
    ]

pub returns-clause-found : goal.returns-clause-found
returns-clause-found c = c.exclude_fours.ensures.found ∙ left_over c.fours.invariant
