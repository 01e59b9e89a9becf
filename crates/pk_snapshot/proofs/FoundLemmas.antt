-- The body and the table that were read and confirmed are those that stood there.
use Rattle.std.proofs.Common.{◌≡◌, ℕ, ◌+◌, ◌*◌, ◌<◌, ◌≤◌, true, List, length, get_or, take, drop, refl, sym, ◌∙◌, ap, subst, arith, length-drop}
use Rattle.std.specs.Prelude.{IfNone, IfSome, None, Option, Some, ◌++◌}
use Rattle.std.proofs.lemmas.List.{ext_get_or, get_or-drop, get_or-take, length-take-le, take_at}
use Rattle.pk_disk.specs.declared.units.Extent.{Extent}
use Rattle.pk_disk.specs.Units.{extent_bytes, start_of, units_in}
use Rattle.pk_manifest.specs.declared.half.Half.{Half}
use Rattle.pk_manifest.specs.declared.half.Half.TheVariants.{A, B}
use Rattle.pk_manifest.specs.Bodies.{body_of, body_place}
use Rattle.pk_manifest.specs.Current.{units_of_disk}
use Rattle.pk_manifest.specs.Fields.{is_placed, size_at, table_at}
use Rattle.pk_manifest.specs.Sound.{IsBody}
use Rattle.pk_manifest.specs.Spelling.{Body, spelling, table_of}
use Rattle.pk_manifest.specs.Said.{units_said_in}
use Rattle.pk_manifest.proofs.Ends.{table_end_by}
use Rattle.pk_manifest.proofs.Fields.{placed_says, placed_of_spelling, table_of_spelling, zero_or_not}
use Rattle.pk_manifest.proofs.Said.{said_spelled}
use Rattle.pk_manifest.proofs.Sound.{says_sound}
use Rattle.pk_manifest.specs.Evolves.{Evolves, in_force, is_claimed, table_in}
use Rattle.pk_manifest.specs.Found.{IsFound}
use Rattle.pk_snapshot.specs.Found.{SaysPlace}
use Rattle.pk_snapshot.specs.Shared.{AreSeen, Confirms}
use Rattle.pk_snapshot.specs.Shown.{IsBegun}
use Rattle.pk_snapshot.proofs.SeenLemmas.{seen_wider}
use Rattle.pk_manifest.proofs.Evolving.{evolves_here, evolves_then, of_body, of_table}
use Rattle.pk_snapshot.proofs.ConfirmLemmas.{begun, seen_claim}

units_room : (size : ℕ) → 512 * units_in size ≤ size
units_room size = grind arith

pub half_room : (half : Half) → body_place half + 8192 ≤ 17408
half_room A = omega arith
half_room B = omega arith

-- a range of what the half claims
pub seen_range : (start old mid new : List ℕ) (half : Half) (g : ℕ) → IsBegun start half g → Evolves start old → Confirms mid new half g
    → (at n : ℕ) (out : List ℕ) → AreSeen old mid at n out → length out ≡ n → at + n ≤ length start
    → ((p : ℕ) → at ≤ p → p < at + n → is_claimed start half p ≡ true) → out ≡ take n (drop at start)
seen_range start old mid new half g from before last at n out seen long room claimed =
    let size : length (take n (drop at start)) ≡ n = length-take-le n (drop at start) (omega (arith, room, length-drop at start)) in
    ext_get_or 0 out (take n (drop at start)) (long ∙ sym size)
    (λ i lt.
    let below : i < n = omega (arith, lt, long) in
    seen_claim start old mid new half g (at + i) (get_or out i 0) from.gate from.stamp_is before (seen i below) last (claimed (at + i) (omega arith) (omega (arith, below)))
    ∙ sym (get_or-take n (drop at start) i 0 below ∙ get_or-drop at start i 0))

-- it is sound for the units that it says
pub sound_own : (units : ℕ) (b : Body) → IsBody units b → IsBody b.units b
sound_own units b sound = subst (λ (u : ℕ). IsBody u b) (sym (says_sound units b sound.sound).of_disk) sound

-- a body, and then its table
module _ (start one two new : List ℕ) (half : Half) (g : ℕ) (low : g ≤ in_force start) (first : Evolves start one) (second : Evolves one two) (last : Confirms two new half g)
    (fits : 17408 ≤ length start) (most : ℕ) (same_most : most ≡ units_of_disk start) (place : ℕ) (is_place : place ≡ body_place half) (out entries : List ℕ) (long : length out ≡ 8192)
    (seen : AreSeen start one place 8192 out) (units : ℕ) (e : Extent) (says : SaysPlace most out units e) (count : length entries ≡ e.bytes) (seen_too : AreSeen one two (start_of e) e.bytes entries) where
  from : IsBegun start half g
  from = begun start two new half g low (evolves_then start one two first second) last

  body_place_room : place + 8192 ≤ length start
  body_place_room = omega (arith, half_room half, is_place, fits)

  wider : AreSeen start two place 8192 out
  wider i lt = seen_wider start start one two (place + i) (get_or out i 0) (evolves_here start) (seen i lt) second

  body_is : out ≡ body_of start half
  body_is =
      seen_range start start two new half g from (evolves_here start) last place 8192 out wider long body_place_room
      (λ p above below. of_body start half p (omega (arith, above, is_place)) (omega (arith, below, is_place)))
      ∙ ap (λ (k : ℕ). take 8192 (drop k start)) is_place

  table_is : e ≡ table_in start half
  table_is = says.table_is ∙ ap table_at body_is

  table_room : start_of e + e.bytes ≤ length start
  table_room =
      let end : start_of (table_at out) + (table_at out).bytes ≤ 512 * units = table_end_by units (size_at out) (table_at out) (zero_or_not (size_at out)) (placed_says units out says.placed).table in
      let first_is : start_of e ≡ start_of (table_at out) = ap start_of says.table_is in
      let bytes_are : e.bytes ≡ (table_at out).bytes = ap (λ (x : Extent). x.bytes) says.table_is in
      omega (arith, end, first_is, bytes_are, says.within, same_most, units_room (length start))

  entries_are : entries ≡ extent_bytes start e
  entries_are = seen_range start one two new half g from first last (start_of e) e.bytes entries seen_too count table_room
      (λ p above below. of_table start half p (let l : start_of (table_in start half) ≤ p = subst (λ (x : Extent). start_of x ≤ p) table_is above in l)
      (let l : p < start_of (table_in start half) + (table_in start half).bytes = subst (λ (x : Extent). p < start_of x + x.bytes) table_is below in l))

  pub found : (b : Body) → IsBody units b → out ≡ spelling b → entries ≡ table_of b → IsFound start half g b
  found b sound spelled tabled =
      let place_is : table_at out ≡ b.table = ap table_at spelled ∙ table_of_spelling units b sound in
      let own : b.units ≡ units = (says_sound units b sound.sound).of_disk in
      record {
        gate = from.gate;
        stamp_is = from.stamp_is;
        spelled = sym body_is ∙ spelled;
        tabled = ap (extent_bytes start) (sym (says.table_is ∙ place_is)) ∙ sym entries_are ∙ tabled;
        sound = sound_own units b sound;
        least = omega (arith, own, says.least);
        within = omega (arith, own, says.within, same_most);
      }

  -- or no sound body stood there
  pub undecoded : ((b : Body) → IsBody units b → out ≡ spelling b → entries ≡ table_of b → ⊥) → IsBegun start half g × ((b : Body) → IsFound start half g b → ⊥)
  undecoded none = (
    from,
    λ b is.
        let spelled : out ≡ spelling b = body_is ∙ is.spelled in
        let own : b.units ≡ units = sym (said_spelled b is.sound.units) ∙ ap units_said_in (sym spelled) ∙ says.says in
        let sound : IsBody units b = subst (λ (u : ℕ). IsBody u b) own is.sound in
        let place_is : e ≡ b.table = says.table_is ∙ ap table_at spelled ∙ table_of_spelling units b sound in
        none b sound spelled (entries_are ∙ ap (extent_bytes start) place_is ∙ is.tabled),
  )

-- a body that names no place for a table
module _ (start one new : List ℕ) (half : Half) (g : ℕ) (low : g ≤ in_force start) (first : Evolves start one) (last : Confirms one new half g) (fits : 17408 ≤ length start) (most : ℕ)
    (same_most : most ≡ units_of_disk start) (place : ℕ) (is_place : place ≡ body_place half) (out : List ℕ) (long : length out ≡ 8192) (seen : AreSeen start one place 8192 out) where
  alone : IsBegun start half g
  alone = begun start one new half g low first last

  body_alone : out ≡ body_of start half
  body_alone =
      seen_range start start one new half g alone (evolves_here start) last place 8192 out seen long (omega (arith, half_room half, is_place, fits))
      (λ p above below. of_body start half p (omega (arith, above, is_place)) (omega (arith, below, is_place)))
      ∙ ap (λ (k : ℕ). take 8192 (drop k start)) is_place

  pub misplaced_body : ((units : ℕ) (table : Extent) → SaysPlace most out units table → ⊥) → IsBegun start half g × ((b : Body) → IsFound start half g b → ⊥)
  misplaced_body isnt = (
    alone,
    λ b is.
        let spelled : out ≡ spelling b = body_alone ∙ is.spelled in
        isnt b.units (table_at out) (record {
          says = ap units_said_in spelled ∙ said_spelled b is.sound.units;
          least = is.least;
          within = omega (arith, is.within, same_most);
          placed = ap (is_placed b.units) spelled ∙ placed_of_spelling b.units b is.sound;
          table_is = refl;
        }),
  )

pub of_none : {X : Type 0} (P : Type 0) (o : Option X) → o ≡ None → IfNone o P → P
of_none {X} P o is given = subst (λ (m : Option X). IfNone m P) is given

-- what is known of the value in a Some
pub of_some : {X : Type 0} (P : X → Type 0) (o : Option X) (x : X) → o ≡ Some x → IfSome o P → P x
of_some {X} P o x is given = subst (λ (m : Option X). IfSome m P) is given

-- a vector that was filled through a slice
pub filled_vec : (n : ℕ) (out rest : List ℕ) → length out ≡ n → take n (out ++ rest) ≡ out
filled_vec n out rest long = take_at out rest n long

pub seen_at : (old new : List ℕ) (at at' n n' : ℕ) (out : List ℕ) → at ≡ at' → n ≡ n' → AreSeen old new at n out → AreSeen old new at' n' out
seen_at old new at at' n n' out place count seen = subst (λ (a : ℕ). AreSeen old new a n' out) place (subst (λ (k : ℕ). AreSeen old new at k out) count seen)
