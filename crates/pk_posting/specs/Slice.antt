-- What a slice as a source shows.
use Rattle.std.specs.Prelude.{ℕ, List}
use Rattle.pk_posting.specs.declared.source.SliceSource.{SliceSource}

-- the slice's bytes
abbrev pub slice_bytes : SliceSource → List ℕ
slice_bytes s = s.bytes.now

-- how often its bytes were asked for
abbrev pub slice_asked : SliceSource → ℕ
slice_asked s = s.asked
