-- A number as variable bytes: groups of seven bits, the last one marked.
use Rattle.std.specs.Prelude.{◌≡◌, ◌≢◌, ◌+◌, ◌*◌, ◌-◌, ◌/◌, ◌%◌, ◌^◌, ◌<◌, ◌≤◌, ◌⊎◌, ◌∷◌, ◌++◌}
use Rattle.std.specs.Prelude.{if◌then◌else◌}
use Rattle.std.specs.Prelude.{ℕ, List, [], length, take, slice_index, zero, suc, Result, Ok, Err}
use Rattle.std.specs.Prelude.{nat_lt, nat_eq}
use Rattle.std.specs.Int.Digits.{digits_of, number_from_digits}
use Rattle.pk_vbyte.specs.declared.variable.VFault.{VFault}
use Rattle.pk_vbyte.specs.declared.variable.VFault.TheVariants.{Padded, Short, TooLarge}

-- the digits of n in base 128, highest first and without a leading zero, 128 added to the last;
-- 0 has one digit
unfoldable pub vbyte : ℕ → List ℕ
vbyte n = digits_of 128 (n / 128) ++ ((n % 128 + 128) ∷ [])

-- the first k bytes spell v
pub record Takes (bytes : List ℕ) (v k : ℕ) : Type 0 where
  pub below : v < 2 ^ 32
  pub spelled : take k bytes ≡ vbyte v
  pub long : k ≡ length (vbyte v)
  pub within : k ≤ length bytes

-- none of the first k bytes is a last one, and the first is not 00
pub record Runs (bytes : List ℕ) (k : ℕ) : Type 0 where
  pub proper : 0 < length bytes → slice_index bytes 0 ≢ 0
  pub within : k ≤ length bytes
  pub none : (i : ℕ) → i < k → slice_index bytes i < 128

-- the byte k is the first last one, and the value is too large
pub record Exceeds (bytes : List ℕ) : Type 0 where
  pub k : ℕ
  pub before : Runs bytes k
  pub few : k < 5
  pub there : k < length bytes
  pub last : 128 ≤ slice_index bytes k
  pub value : 2 ^ 32 ≤ number_from_digits 128 (take k bytes) * 128 + (slice_index bytes k - 128)

-- why bytes begin with no number
abbrev pub Refuses : List ℕ → VFault → Type 0
Refuses bytes Padded = (0 < length bytes) × (slice_index bytes 0 ≡ 0)
Refuses bytes Short = (length bytes < 5) × Runs bytes (length bytes)
Refuses bytes TooLarge = Runs bytes 5 ⊎ Exceeds bytes

-- what a value gives with its last byte, the k-th
unfoldable pub ended : ℕ → ℕ → Result (ℕ × ℕ) VFault
ended v k = if nat_lt v (2 ^ 32) then Ok (v, k) else Err TooLarge

-- what the bytes after the first k give, where those give n and at most `left` more belong to it
unfoldable pub taken_on : ℕ → ℕ → ℕ → List ℕ → Result (ℕ × ℕ) VFault
taken_on zero n k bytes = Err TooLarge
taken_on (suc left) n k [] = Err Short
taken_on (suc left) n k (b ∷ bytes) =
    if nat_lt b 128 then taken_on left (n * 128 + b) (k + 1) bytes
    else ended (n * 128 + (b - 128)) (k + 1)

-- the number at the front and how many bytes it has, or why there is none: what `take` answers
unfoldable pub taken : List ℕ → Result (ℕ × ℕ) VFault
taken [] = Err Short
taken (b ∷ bytes) = if nat_eq b 0 then Err Padded else taken_on 5 0 0 (b ∷ bytes)
