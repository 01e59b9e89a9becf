-- Bytes of a segment that are lent at once.
use Rattle.std.specs.Prelude.{◌≡◌, ℕ, List, length, take, drop}
use Rattle.pk_phrase.specs.declared.span.Span.{Span}

-- they stand there in these bytes
pub record IsSpanOf (bytes : List ℕ) (s : Span) : Type 0 where
  pub value : s.bytes.now ≡ take (length s.bytes.now) (drop s.start bytes)
