-- What a replacement leaves of the rule by which others read beside it.
use Rattle.std.specs.Prelude.{◌≡◌, ◌⊎◌, ◌+◌, Bool, true, false, ℕ, List, Result, Ok, Err}
use Rattle.pk_manifest.specs.declared.half.Half.{Half}
use Rattle.pk_manifest.specs.Bodies.{generation_of, other}
use Rattle.pk_manifest.specs.Evolves.{Evolves, is_claimed, stamp}
use Rattle.pk_replace.specs.declared.stream.StreamFault.{StreamFault}
use Rattle.pk_replace.specs.declared.stream.StreamFault.TheVariants.{Read, Write, Damaged}
use Rattle.pk_replace.specs.Course.{touched_by}

-- The body is of the next generation, and nothing that is written is claimed by the half in force.
pub record IsBeside (bytes : List ℕ) (spare : Half) (touched : ℕ → Bool) (body : List ℕ)
    : Type 0 where
  pub generation : generation_of body ≡ stamp bytes (other spare) + 1
  pub apart : (p : ℕ) → touched_by spare touched p ≡ true → is_claimed bytes (other spare) p ≡ false

-- the generation behind the spare gate is the old one or the new one, and no mixture
abbrev pub HasWholeStamp : List ℕ → List ℕ → Half → List ℕ → Type 0
HasWholeStamp old new spare body =
    (stamp new spare ≡ stamp old spare) ⊎ (stamp new spare ≡ generation_of body)

-- The bytes evolve; after a write that failed they do where the generation was written whole or not
-- at all.
abbrev pub EvolvesBy : {T : Type 0} → Result T StreamFault → List ℕ → List ℕ → Half → List ℕ
    → Type 0
EvolvesBy (Ok v) old new spare body = Evolves old new
EvolvesBy (Err Read) old new spare body = Evolves old new
EvolvesBy (Err Write) old new spare body = HasWholeStamp old new spare body → Evolves old new
EvolvesBy (Err Damaged) old new spare body = Evolves old new
