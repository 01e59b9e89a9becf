-- The units that a body says are read where it has them.
use Rattle.std.proofs.Common.{◌≡◌, ℕ, ◌+◌, ◌<◌, ◌^◌, List, take, drop, Some, sym, ap, ◌∙◌, arith}
use Rattle.std.specs.Prelude.{slice_range}
use Rattle.std.specs.Int.{w32, from_le_bytes}
use Rattle.std.proofs.lemmas.List.{take-take}
use Rattle.pk_manifest.specs.declared.half.Half.{Half}
use Rattle.pk_manifest.specs.Said.{said_by, said_units, units_said_in}
use Rattle.std.proofs.lemmas.Nat.{from_le_bytes-to_le_bytes_4}
use Rattle.pk_manifest.specs.Current.{HasBody, units_of_disk}
use Rattle.pk_manifest.specs.Spelling.{Body, front, le32, le64, numbers, spelling}
use Rattle.pk_manifest.proofs.Sound.{says_sound}
use Rattle.pk_manifest.proofs.Windows.{range_is, window}

pub units_read : (content : List ℕ) (at : ℕ) (field : List ℕ) → field ≡ slice_range content (at + 16) (at + 16 + 4) → from_le_bytes w32 (take 4 (drop 0 field)) ≡ units_said_in (take 8192 (drop at content))
unfolding units_said_in
units_read content at field is =
    let a : field ≡ take 4 (drop (at + 16) content) = is ∙ range_is 4 (at + 16) (at + 16 + 4) content (omega arith) in
    let b : take 4 field ≡ take 4 (drop (at + 16) content) = ap (take 4) a ∙ take-take 4 4 (drop (at + 16) content) (omega arith) in
    let w : take 4 field ≡ take 4 (drop 16 (take 8192 (drop at content))) = b ∙ sym (window 4 16 8192 at content (omega arith)) in
    ap (from_le_bytes w32) w

-- a body says its units
pub said_spelled : (b : Body) → b.units < 2 ^ 32 → units_said_in (spelling b) ≡ b.units
unfolding units_said_in spelling front numbers le32 le64
said_spelled b lt = from_le_bytes-to_le_bytes_4 b.units lt

-- so a sound body in force says the units of its disk
pub said_sound : (bytes : List ℕ) (half : Half) (b : Body) → HasBody bytes half b → said_units bytes ≡ Some (units_of_disk bytes)
said_sound bytes half b has =
    ap (said_by bytes) has.in_force ∙ ap (λ (n : ℕ). Some n) (ap units_said_in has.spelled ∙ said_spelled b has.sound.units ∙ (says_sound (units_of_disk bytes) b has.sound.sound).of_disk)
