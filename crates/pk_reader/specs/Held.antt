-- The bytes of the file that a reader holds, below a store or alone.
use Rattle.std.specs.Prelude.{ℕ, List, [], Option, None, Some, Result, Ok, Err}

-- of a store, or of the file
abbrev pub held_bytes : {S F : Type 0} → Result S F → (F → List ℕ) → (S → List ℕ) → List ℕ
held_bytes (Ok shown) alone below = below shown
held_bytes (Err file) alone below = alone file

-- how many calls failed or were interrupted of the file that is held, below a store or alone
abbrev pub held_count : {S F : Type 0} → Result S F → (F → ℕ) → (S → ℕ) → ℕ
held_count (Ok shown) alone below = below shown
held_count (Err file) alone below = alone file

-- of a reader
abbrev pub file_bytes : {S F : Type 0} → Option S → Option F → (F → List ℕ) → (S → List ℕ) → List ℕ
file_bytes (Some shown) file alone below = below shown
file_bytes None (Some file) alone below = alone file
file_bytes None None alone below = []

-- how many calls of it failed or were interrupted
abbrev pub file_count : {S F : Type 0} → Option S → Option F → (F → ℕ) → (S → ℕ) → ℕ
file_count (Some shown) file alone below = below shown
file_count None (Some file) alone below = alone file
file_count None None alone below = 0
