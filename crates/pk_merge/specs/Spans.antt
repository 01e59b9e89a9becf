-- Which texts of a merge are read at once.
use Rattle.std.specs.Prelude.{◌≡◌, ◌≤◌, ◌<◌, ◌+◌, ℕ, List, length, take, slice_index_or, All}
use Rattle.pk_merge.specs.declared.kept.Kept.{Kept}
use Rattle.pk_merge.specs.declared.texts.Span.{Span}
use Rattle.pk_merge.specs.declared.texts.TheConstants.{SPAN_BYTES}

-- the text of a kept document stands between two places
abbrev pub StandsIn : ℕ → ℕ → Kept → Type 0
StandsIn from to k = (from ≤ k.at) × (k.at + k.len ≤ to)

-- A span is of the first of these documents, of one at least, and begins where the first text does.
-- Where it has more than one, their texts stand in its bytes, which end by some place. It is the
-- longest: where it has the first text, the one behind it would pass the most bytes, or stands before
-- the first.
pub record IsSpanOf (end : ℕ) (ks : List Kept) (s : Span) : Type 0 where
  pub some : 0 < s.count
  pub most : s.count ≤ length ks
  pub begins : (e : Kept) → s.from ≡ (slice_index_or ks 0 e).at
  pub short : s.bytes ≤ SPAN_BYTES
  pub inside : s.from + s.bytes ≤ end
  pub near : 1 < s.count → All (StandsIn s.from (s.from + s.bytes)) (take s.count ks)
  pub longest : (e : Kept) → s.count < length ks
      → StandsIn s.from (s.from + SPAN_BYTES) (slice_index_or ks 0 e)
      → StandsIn s.from (s.from + SPAN_BYTES) (slice_index_or ks s.count e) → ⊥
