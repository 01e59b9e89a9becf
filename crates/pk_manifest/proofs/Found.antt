-- A body behind a gate that stays open stays there, with all that it names.
use Rattle.std.proofs.Common.{◌≡◌, ◌⊎◌, inl, inr, ℕ, zero, suc, ◌+◌, ◌*◌, ◌<◌, ◌≤◌, ◌||◌, ◌∷◌, [], Bool, true, false, List, length, get_or, refl, sym, ◌∙◌, ap, subst, arith}
use Rattle.std.specs.Prelude.{All}
use Rattle.pk_disk.specs.declared.units.Extent.{Extent}
use Rattle.pk_disk.specs.Disk.{in_range}
use Rattle.pk_disk.specs.Units.{extent_bytes, start_of, units_in}
use Rattle.pk_manifest.specs.declared.half.Half.{Half}
use Rattle.pk_manifest.specs.declared.half.Half.TheVariants.{A, B}
use Rattle.pk_manifest.specs.Bodies.{body_of, body_place, has_open_gate}
use Rattle.pk_manifest.specs.Current.{units_of_disk}
use Rattle.pk_manifest.specs.Evolves.{WasOpen, body_in, covers, is_claimed, is_in, table_in}
use Rattle.pk_manifest.specs.Fields.{body_at, table_at}
use Rattle.pk_manifest.specs.Found.{IsFound}
use Rattle.pk_manifest.specs.Sound.{IsBody, named}
use Rattle.pk_manifest.specs.Spelling.{Body, spelling, table_of}
use Rattle.pk_manifest.proofs.Ends.{covered_within, in_end, named_end, same_range, table_end}
use Rattle.pk_manifest.proofs.Evolving.{inside_range, kept_stamp}
use Rattle.pk_manifest.proofs.Fields.{body_of_spelling, table_of_spelling}

left_true : (a b : Bool) → a ≡ true → (a || b) ≡ true
left_true a b is = rw is refl

right_true : (a b : Bool) → b ≡ true → (a || b) ≡ true
right_true true b is = refl
right_true false b is = is

-- an extent of these covers its positions
pub covers_at : (es : List Extent) (k p : ℕ) (d : Extent) → k < length es → is_in p (get_or es k d) ≡ true → covers es p ≡ true
covers_at [] k p d lt is = absurd (omega (arith, lt))
covers_at (e ∷ es) zero p d lt is = left_true (is_in p e) (covers es p) is
covers_at (e ∷ es) (suc k) p d lt is = right_true (is_in p e) (covers es p) (covers_at es k p d (omega (arith, lt)) is)

-- what a half says, of a body that was found there
pub found_body : (bytes : List ℕ) (half : Half) (g : ℕ) (b : Body) → IsFound bytes half g b → body_in bytes half ≡ b
found_body bytes half g b found =
    let place : table_in bytes half ≡ b.table = ap table_at found.spelled ∙ table_of_spelling b.units b found.sound in
    let table : extent_bytes bytes (table_in bytes half) ≡ table_of b = ap (extent_bytes bytes) place ∙ found.tabled in
    (λ i. body_at (found.spelled i) (table i)) ∙ body_of_spelling b.units b found.sound

-- an extent that it names is claimed
named_claimed : (bytes : List ℕ) (half : Half) (g : ℕ) (b : Body) → IsFound bytes half g b → (p : ℕ) → covers (named b) p ≡ true → is_claimed bytes half p ≡ true
unfolding is_claimed
named_claimed bytes half g b found p is =
    let there : covers (named (body_in bytes half)) p ≡ true = ap (λ (x : Body). covers (named x) p) (found_body bytes half g b found) ∙ is in
    right_true (in_range (body_place half) 8192 p) (covers (table_in bytes half ∷ named (body_in bytes half)) p)
    (right_true (is_in p (table_in bytes half)) (covers (named (body_in bytes half)) p) there)

-- its units are of the file
pub found_within : (bytes : List ℕ) (half : Half) (g : ℕ) (b : Body) → IsFound bytes half g b → 512 * b.units ≤ length bytes
found_within bytes half g b found = omega (arith, found.within, units_room (length bytes))
  where
    units_room : (size : ℕ) → 512 * units_in size ≤ size
    units_room size = grind arith

-- and what it claims lies within them
body_low : (half : Half) → body_place half + 8192 ≤ 17408
body_low A = omega arith
body_low B = omega arith

pub claimed_within : (bytes : List ℕ) (half : Half) (g : ℕ) (b : Body) → IsFound bytes half g b → (p : ℕ) → is_claimed bytes half p ≡ true → p < length bytes
unfolding is_claimed
claimed_within bytes half g b found p is =
    let room = found_within bytes half g b found in
    elim (one_of (in_range (body_place half) 8192 p) (covers (table_in bytes half ∷ named (body_in bytes half)) p) is) [
      | inl own ↦ let below : p < body_place half + 8192 = in_end (body_place half) 8192 p own in omega (arith, below, body_low half, found.least, room)
      | inr beside ↦ elim (one_of (is_in p (table_in bytes half)) (covers (named (body_in bytes half)) p) beside) [
        | inl table ↦
            let place : table_in bytes half ≡ b.table = ap table_at found.spelled ∙ table_of_spelling b.units b found.sound in
            let below : p < start_of b.table + b.table.bytes = in_end (start_of b.table) b.table.bytes p (ap (is_in p) (sym place) ∙ table) in
            let end : start_of b.table + b.table.bytes ≤ 512 * b.units = table_end b.units b found.sound in
            omega (arith, below, end, room)
        | inr name ↦
            let below : p < 512 * b.units = covered_within (512 * b.units) p (named b) (named_end b.units b found.sound) (ap (λ (x : Body). covers (named x) p) (sym (found_body bytes half g b found)) ∙ name) in
            omega (arith, below, room)
      ]
    ]
  where
    one_of : (a b : Bool) → (a || b) ≡ true → (a ≡ true) ⊎ (b ≡ true)
    one_of true b is = inl refl
    one_of false b is = inr is

module _ (old new : List ℕ) (half : Half) (was : WasOpen old new half) (longer : length old ≤ length new) (g : ℕ) (b : Body) where
  table_of_old : body_of old half ≡ spelling b → IsBody b.units b → extent_bytes new b.table ≡ extent_bytes old b.table
  table_of_old spelled sound =
      let place : table_in old half ≡ b.table = ap table_at spelled ∙ table_of_spelling b.units b sound in
      subst (λ (e : Extent). extent_bytes new e ≡ extent_bytes old e) place was.table

  -- a body that is there was there, if the file had its units
  pub found_back : b.units ≤ units_of_disk old → IsFound new half g b → IsFound old half g b
  found_back within found =
      let spelled : body_of old half ≡ spelling b = sym was.body ∙ found.spelled in
      record {
        gate = was.gate;
        stamp_is = sym (kept_stamp old new half was) ∙ found.stamp_is;
        spelled = spelled;
        tabled = sym (table_of_old spelled found.sound) ∙ found.tabled;
        sound = found.sound;
        least = found.least;
        within = within;
      }

  pub found_on : has_open_gate new half ≡ true → IsFound old half g b → IsFound new half g b
  found_on gate found = record {
    gate = gate;
    stamp_is = kept_stamp old new half was ∙ found.stamp_is;
    spelled = was.body ∙ found.spelled;
    tabled = table_of_old found.spelled found.sound ∙ found.tabled;
    sound = found.sound;
    least = found.least;
    within = more_units b.units (length old) (length new) longer found.within;
  }
    where
      more_units : (u m n : ℕ) → m ≤ n → u ≤ units_in m → u ≤ units_in n
      more_units u m n le within = grind arith

  pub named_same : IsFound old half g b → All (λ e. extent_bytes new e ≡ extent_bytes old e) (named b)
  named_same found k d lt =
      let e = get_or (named b) k d in
      let end : start_of e + e.bytes ≤ 512 * b.units = named_end b.units b found.sound k d lt in
      let room : start_of e + e.bytes ≤ length old = omega (arith, end, found_within old half g b found) in
      same_range new old (start_of e) e.bytes (omega (arith, room, longer)) room
      (λ p low high. was.keeps p (named_claimed old half g b found p (covers_at (named b) k p d lt (inside_range (start_of e) e.bytes p low high))))
