-- A window that shows nothing is passed; the lowest lane that shows both is the place.
use Rattle.std.proofs.Common.{◌≡◌, ◌∙◌, ◌+◌, ◌-◌, ◌<◌, ◌≤◌, inl, inr, ap, sym, length, arith}
use Rattle.std.proofs.lemmas.Bool.{cases_lt}
use lib.Count.{count_trailing_zeros}
use lib.Lanes.{mask_l}
use Rattle.pk_pieces.specs.Scan.{is_no_letter, shows}
use Rattle.pk_pieces.proofs.ScanLemmas.{lowest_within, none_below, none_set, window, window_at, window_len}
use Rattle.pk_pieces.proofs.single.next_single.Goals as goal

pub returns-then-found-ne0-clause-high : goal.returns-then-found-ne0-clause-high
returns-then-found-ne0-clause-high c =
    let bytes = c.args.bytes.now in
    let at = c.vectors.at in
    let room : at + 1 + 16 ≤ length bytes = omega arith in
    let ms = window (shows c.args.sought) is_no_letter bytes 1 at room in
    let len = window_len (shows c.args.sought) is_no_letter bytes 1 at room in
    let some : 0 < mask_l ms = omega (arith, c.singles-found.ensures) in
    let low = lowest_within ms (omega (arith, len)) some in
    let same = ap (count_trailing_zeros 64) c.singles-found.ensures in
    omega (arith, low, same, len)

pub returns-then-found-ne0-clause-none : goal.returns-then-found-ne0-clause-none
returns-then-found-ne0-clause-none c = λ k low high.
    let bytes = c.args.bytes.now in
    let at = c.vectors.at in
    let room : at + 1 + 16 ≤ length bytes = omega arith in
    let ms = window (shows c.args.sought) is_no_letter bytes 1 at room in
    let len = window_len (shows c.args.sought) is_no_letter bytes 1 at room in
    let some : 0 < mask_l ms = omega (arith, c.singles-found.ensures) in
    let same = ap (count_trailing_zeros 64) c.singles-found.ensures in
    elim (cases_lt k at) [
      | inl before ↦ c.vectors.invariant.none k low before
      | inr here ↦
          let within = lowest_within ms (omega (arith, len)) some in
          sym (window_at (shows c.args.sought) is_no_letter bytes 1 at room k here (omega (arith, high, within, same, len)))
          ∙ none_below ms (omega (arith, len)) some (k - at) (omega (arith, high, here, same))
    ]

pub vectors-preserved : goal.vectors-preserved
vectors-preserved c =
    let bytes = c.args.bytes.now in
    let at = c.vectors.at in
    let room : at + 1 + 16 ≤ length bytes = omega arith in
    let ms = window (shows c.args.sought) is_no_letter bytes 1 at room in
    let len = window_len (shows c.args.sought) is_no_letter bytes 1 at room in
    let none : mask_l ms ≡ 0 = sym c.singles-found.ensures ∙ c.if-found-ne0.false in
    record {
      low = omega (arith, c.vectors.invariant.low);
      high = omega (arith, room);
      none = λ k low high.
          elim (cases_lt k at) [
            | inl before ↦ c.vectors.invariant.none k low before
            | inr here ↦
                sym (window_at (shows c.args.sought) is_no_letter bytes 1 at room k here high)
                ∙ none_set ms none (k - at) (omega (arith, high, here, len))
          ];
    }
