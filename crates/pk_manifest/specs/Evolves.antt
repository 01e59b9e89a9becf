-- How the bytes of a file may change while another program writes it by the rule of gates and bodies.
use Rattle.std.specs.Prelude.{◌≡◌, ◌⊎◌, ◌<◌, ◌≤◌, ◌+◌, ◌==◌, ◌||◌, Bool, true, false, ℕ, List}
use Rattle.std.specs.Prelude.{◌∷◌}
use Rattle.std.specs.Prelude.{length, slice_index, nat_lt, if◌then◌else◌}
use Rattle.std.specs.List.{list_any}
use Rattle.pk_disk.specs.declared.units.Extent.{Extent}
use Rattle.pk_disk.specs.Disk.{in_range}
use Rattle.pk_disk.specs.Units.{extent_bytes, start_of}
use Rattle.pk_manifest.specs.declared.half.Half.{Half}
use Rattle.pk_manifest.specs.declared.half.Half.TheVariants.{A, B}
use Rattle.pk_manifest.specs.Bodies.{body_of, body_place, body_size, gate_place}
use Rattle.pk_manifest.specs.Bodies.{generation_of, has_open_gate, other}
use Rattle.pk_manifest.specs.Fields.{body_at, table_at}
use Rattle.pk_manifest.specs.Sound.{named}
use Rattle.pk_manifest.specs.Spelling.{Body}

-- the generation that a half's body says, whatever its gate is
abbrev pub stamp : List ℕ → Half → ℕ
stamp bytes half = generation_of (body_of bytes half)

abbrev pub force_of : Bool → Bool → ℕ → ℕ → ℕ
force_of true true a b = if nat_lt a b then b else a
force_of true false a b = a
force_of false true a b = b
force_of false false a b = 0

-- the generation in force: the greatest behind an open gate, and 0 where none is open
unfoldable pub in_force : List ℕ → ℕ
in_force bytes =
    force_of (has_open_gate bytes A) (has_open_gate bytes B) (stamp bytes A) (stamp bytes B)

abbrev pub is_in : ℕ → Extent → Bool
is_in p e = in_range (start_of e) e.bytes p

-- the position is of one of these extents
abbrev pub covers : List Extent → ℕ → Bool
covers extents p = list_any (is_in p) extents

-- where the body of a half says that its table is
abbrev pub table_in : List ℕ → Half → Extent
table_in bytes half = table_at (body_of bytes half)

-- what the body of a half and its table say, whatever the bytes are
abbrev pub body_in : List ℕ → Half → Body
body_in bytes half = body_at (body_of bytes half) (extent_bytes bytes (table_in bytes half))

-- the position is of the body of a half, or of an extent that this names
unfoldable pub is_claimed : List ℕ → Half → ℕ → Bool
is_claimed bytes half p =
    in_range (body_place half) body_size p
    || covers (table_in bytes half ∷ named (body_in bytes half)) p

-- the position is of the gate of a half, or of what this claims
abbrev pub is_of : List ℕ → Half → ℕ → Bool
is_of bytes half p = (p == gate_place half) || is_claimed bytes half p

-- what a half claims is the same
abbrev pub Keeps : List ℕ → List ℕ → Half → Type 0
Keeps old new half =
    (p : ℕ) → is_claimed old half p ≡ true → slice_index new p ≡ slice_index old p

-- the gate was open, and what the half claims is the same: its body, its table, and each position
pub record WasOpen (old new : List ℕ) (half : Half) : Type 0 where
  pub gate : has_open_gate old half ≡ true
  pub body : body_of new half ≡ body_of old half
  pub table : extent_bytes new (table_in old half) ≡ extent_bytes old (table_in old half)
  pub keeps : Keeps old new half

-- a body was written: its generation is greater than that in force was, and at most the next one
abbrev pub IsNextStamp : List ℕ → List ℕ → ℕ → Type 0
IsNextStamp old new g = (in_force old < g) × (g ≤ in_force new + 1)

-- the two gates are not both open over one generation
abbrev pub AreTold : List ℕ → Type 0
AreTold bytes = (half : Half) → has_open_gate bytes half ≡ true
    → has_open_gate bytes (other half) ≡ true → stamp bytes half ≡ stamp bytes (other half) → ⊥

-- HOW A FILE EVOLVES. It gets no shorter. The generation in force never falls. A body's generation stays, or is one that
-- follows. Where a gate is open behind a generation no greater than that in force was, it was open,
-- and what its half claims is the same: so a gate that was shut opens again behind a greater one. The
-- two gates don't come to be open over one generation.
pub record Evolves (old new : List ℕ) : Type 0 where
  pub size : length old ≤ length new
  pub rises : in_force old ≤ in_force new
  pub stamps : (half : Half) → (stamp new half ≡ stamp old half)
      ⊎ IsNextStamp old new (stamp new half)
  pub gates : (half : Half) → has_open_gate new half ≡ true → stamp new half ≤ in_force old
      → WasOpen old new half
  pub told : AreTold old → AreTold new
