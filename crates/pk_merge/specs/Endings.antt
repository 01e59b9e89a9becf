-- What stands at the end of bytes.
use Rattle.std.specs.Prelude.{◌≡◌, ◌++◌, ℕ, List}

-- the bytes end with these
abbrev pub EndsWith : List ℕ → List ℕ → Type 0
EndsWith back bytes = (front : List ℕ) × (bytes ≡ front ++ back)
