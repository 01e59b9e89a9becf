-- The first units of a disk as a store: what they have the disk has, and how many they are.
use Rattle.std.proofs.Common.{◌≡◌, Result, Ok, Err, IfErr, IfOk, ◌⊎◌, inl, inr, ℕ, ◌+◌, ◌*◌, ◌<◌, ◌≤◌, ◌^◌, ◌&&◌, ◌==◌, Bool, true, false, leb, List, length, take, drop, Option, Some, None, sym, ◌∙◌, ap, subst, arith, refl}
use Rattle.std.specs.Prelude.{if◌then◌else◌}
use Rattle.std.proofs.lemmas.Bool.{and_from, and_parts, leb-true, le-leb}
use Rattle.std.proofs.lemmas.Bool.Decides.{nat_tests}
use Rattle.std.proofs.lemmas.List.{drop-take, length-take-le, get_or-take, take-take}
use Rattle.pk_disk.specs.Units.{start_of, units_in}
use Rattle.pk_disk.specs.declared.units.Extent.{Extent}
use Rattle.pk_manifest.specs.declared.fault.ManifestFault.{ManifestFault}
use Rattle.pk_manifest.specs.declared.fault.ManifestFault.TheVariants.{NotAStore, Damaged, Disk, UsedUp, Memory}
use Rattle.pk_manifest.specs.declared.half.Half.{Half}
use Rattle.pk_manifest.specs.declared.half.Half.TheVariants.{A, B}
use Rattle.pk_manifest.specs.declared.manifest.Manifest.{Manifest}
use Rattle.pk_manifest.specs.Bodies.{IsCurrent, bodies_end, body_of, body_place, gate_place, generation_of, half_in_force, half_of, has_open_gate, other}
use Rattle.pk_manifest.specs.Current.{AnswersOf, HasBody, HasBodyOf, units_of_disk}
use Rattle.pk_manifest.specs.Said.{said_by, said_units, store_units, units_said_in}
use Rattle.pk_manifest.specs.Sound.{IsBody, is_extent, is_table}
use Rattle.pk_manifest.specs.Spelling.{Body, table_size}
use Rattle.pk_manifest.proofs.Fields.{no_table, table_extent, zero_or_not}
use Rattle.pk_manifest.proofs.Firm.{other_other}
use Rattle.pk_manifest.proofs.Said.{said_sound}
use Rattle.pk_manifest.proofs.Sound.{says_sound}
use Rattle.pk_model.specs.Collection.{Collection}
use Rattle.pk_state.specs.Holds.{Holds}
use Rattle.pk_state.proofs.HoldsLemmas.{units_room}
use Rattle.pk_grow.specs.Growth.{HoldsStore, IsSoundFault, session_units, store_bytes}

-- ---- the first bytes of a disk

-- a part that ends among them is the same
pub first_part : (size at n : ℕ) (bytes : List ℕ) → at + n ≤ size → take n (drop at (take size bytes)) ≡ take n (drop at bytes)
first_part size at n bytes le = sym (drop-take at n (take size bytes)) ∙ ap (drop at) (take-take (at + n) size bytes le) ∙ drop-take at n bytes

gate_in : (h : Half) → gate_place h < bodies_end
gate_in A = omega arith
gate_in B = omega arith

body_in : (h : Half) → body_place h + 8192 ≤ bodies_end
body_in A = omega arith
body_in B = omega arith

module _ (size : ℕ) (bytes : List ℕ) (room : bodies_end ≤ size) where
  first_gate : (h : Half) → has_open_gate (take size bytes) h ≡ has_open_gate bytes h
  first_gate h = ap (λ (b : ℕ). b == 167) (get_or-take size bytes (gate_place h) 0 (omega (arith, gate_in h, room)))

  first_body : (h : Half) → body_of (take size bytes) h ≡ body_of bytes h
  first_body h = first_part size (body_place h) 8192 bytes (omega (arith, body_in h, room))

  first_in_force : half_in_force (take size bytes) ≡ half_in_force bytes
  first_in_force = λ i. half_of (first_gate A i) (first_gate B i) (generation_of (first_body A i)) (generation_of (first_body B i))

  pub first_current : (h : Half) (body : List ℕ) → IsCurrent (take size bytes) h body → IsCurrent bytes h body
  first_current h body is = record { in_force = sym first_in_force ∙ is.in_force; has_body = sym (first_body h) ∙ is.has_body }

  pub current_first : (h : Half) (body : List ℕ) → IsCurrent bytes h body → IsCurrent (take size bytes) h body
  current_first h body is = record { in_force = first_in_force ∙ is.in_force; has_body = first_body h ∙ is.has_body }

-- ---- how many units

pub units_again : (u size : ℕ) → u ≤ units_in size → units_in (512 * u) ≡ u
units_again u size le = grind arith

pub few_units : (size : ℕ) → units_in size < 2 ^ 32
few_units size = grind arith

pub most : (size : ℕ) → units_in size ≤ 2 ^ 31
most size = grind arith

few_of : (size u : ℕ) → 512 * u ≤ size → u ≤ 2 ^ 31 → u ≤ units_in size
few_of size u fits few = grind arith

pub room_of : (size : ℕ) → 64 ≤ units_in size → bodies_end ≤ size
room_of size le = omega (arith, le, units_room size)

-- a sound body says the units that it is sound for
pub units_of_sound : (u : ℕ) (b : Body) → IsBody u b → b.units ≡ u
units_of_sound u b is = (says_sound u b is.sound).of_disk

fits_disk_by : (t : Bool) (all said : ℕ) → (leb 64 said && leb said all) ≡ t → (if t then said else all) ≤ all
fits_disk_by true all said is = leb-true _ _ (and_parts (leb 64 said) (leb said all) is).1
fits_disk_by false all said is = omega arith

pub fits_disk : (all : ℕ) (said : Option ℕ) → store_units all said ≤ all
fits_disk all None = omega arith
fits_disk all (Some said) = fits_disk_by (leb 64 said && leb said all) all said refl

pub store_fits : (size : ℕ) (said : Option ℕ) → 512 * store_units (units_in size) said ≤ size
store_fits size said = omega (arith, fits_disk (units_in size) said, units_room size)

least_by : (t : Bool) (all said : ℕ) → (leb 64 said && leb said all) ≡ t → 64 ≤ all → 64 ≤ (if t then said else all)
least_by true all said is le = leb-true _ _ (and_parts (leb 64 said) (leb said all) is).0
least_by false all said is le = le

pub least_store : (all : ℕ) (said : Option ℕ) → 64 ≤ all → 64 ≤ store_units all said
least_store all None le = le
least_store all (Some said) le = least_by (leb 64 said && leb said all) all said refl le

takes_said : (t : Bool) (all said : ℕ) → t ≡ true → (if t then said else all) ≡ said
takes_said true all said is = refl
takes_said false all said is = cc

-- ---- a body of fewer units than the disk has

pub fits_in : (units : ℕ) (e : Extent) → is_extent units 1 e ≡ true → (34 ≤ e.first) × (512 * e.first + e.bytes ≤ 512 * units)
fits_in units e h = grind (arith, nat_tests)

abbrev Ends : ℕ → Extent → Type 0
Ends u e = start_of e + e.bytes ≤ 512 * u

table_ends : (u size : ℕ) (e : Extent) → is_table u size e ≡ true → (size ≡ 0) ⊎ (size ≡ 0 → ⊥) → Ends u e
table_ends u size e h (inl none) =
    let nothing = no_table u size e h none in
    let first : e.first ≡ 0 = ap (λ (x : Extent). x.first) nothing in
    let bytes : e.bytes ≡ 0 = ap (λ (x : Extent). x.bytes) nothing in
    omega (arith, first, bytes)
table_ends u size e h (inr some) = (fits_in u e (table_extent u size e h some)).1

pub has_first : (bytes : List ℕ) (u : ℕ) (half : Half) (b : Body) → bodies_end ≤ 512 * u → u ≤ units_of_disk bytes → HasBodyOf u bytes half b → HasBody (store_bytes u bytes) half b
has_first bytes u half b room le has =
    let fits : 512 * u ≤ length bytes = omega (arith, le, units_room (length bytes)) in
    let ends = table_ends u (table_size b) b.table (says_sound u b has.sound.sound).table (zero_or_not (table_size b)) in
    record {
      in_force = first_in_force (512 * u) bytes room ∙ has.in_force;
      spelled = first_body (512 * u) bytes room half ∙ has.spelled;
      tabled = first_part (512 * u) (start_of b.table) b.table.bytes bytes ends ∙ has.tabled;
      sound = subst (λ (n : ℕ). IsBody n b) (sym (ap units_in (length-take-le (512 * u) bytes fits) ∙ units_again u (length bytes) le)) has.sound;
    }

pub first_has : (bytes : List ℕ) (u : ℕ) (half : Half) (b : Body) → bodies_end ≤ 512 * u → u ≤ units_of_disk bytes → HasBody (store_bytes u bytes) half b → HasBodyOf u bytes half b
first_has bytes u half b room le has =
    let fits : 512 * u ≤ length bytes = omega (arith, le, units_room (length bytes)) in
    let sound : IsBody u b = subst (λ (n : ℕ). IsBody n b) (ap units_in (length-take-le (512 * u) bytes fits) ∙ units_again u (length bytes) le) has.sound in
    let ends = table_ends u (table_size b) b.table (says_sound u b sound.sound).table (zero_or_not (table_size b)) in
    record {
      in_force = sym (first_in_force (512 * u) bytes room) ∙ has.in_force;
      spelled = sym (first_body (512 * u) bytes room half) ∙ has.spelled;
      tabled = sym (first_part (512 * u) (start_of b.table) b.table.bytes bytes ends) ∙ has.tabled;
      sound = sound;
    }

-- ---- the store in a disk

-- where first units of the disk hold a collection, they are the store
pub opened_holds : (bytes : List ℕ) (u : ℕ) (c : Collection) → 64 ≤ u → u ≤ 2 ^ 31 → 512 * u ≤ length bytes → Holds (store_bytes u bytes) c → Holds (store_bytes (session_units bytes) bytes) c
opened_holds bytes u c least few fits holds =
    let room : bodies_end ≤ 512 * u = omega (arith, least) in
    let long : length (store_bytes u bytes) ≡ 512 * u = length-take-le (512 * u) bytes fits in
    let all = few_of (length bytes) u fits few in
    let said : said_units bytes ≡ Some (units_of_disk (store_bytes u bytes)) =
    ap (said_by bytes) (sym (first_in_force (512 * u) bytes room)) ∙ same_said (512 * u) bytes room (half_in_force (store_bytes u bytes)) ∙ said_sound (store_bytes u bytes) holds.half holds.committed.body holds.current in
    let one : session_units bytes ≡ u =
    ap (store_units (units_of_disk bytes)) (said ∙ ap (λ (k : ℕ). Some k) (ap units_in long ∙ units_again u (length bytes) all))
    ∙ takes_said (leb 64 u && leb u (units_of_disk bytes)) (units_of_disk bytes) u (and_from (leb 64 u) (leb u (units_of_disk bytes)) (le-leb _ _ least) (le-leb _ _ all)) in
    subst (λ (k : ℕ). Holds (store_bytes k bytes) c) (sym one) holds
  where
    same_said : (size : ℕ) (bytes : List ℕ) (room : bodies_end ≤ size) (h : Option Half) → said_by bytes h ≡ said_by (take size bytes) h
    same_said size bytes room None = refl
    same_said size bytes room (Some h) = ap (λ (b : List ℕ). Some (units_said_in b)) (sym (first_body size bytes room h))

pub opened_by : {S E : Type 0} (r : Result S E) (content : S → List ℕ) (bytes : List ℕ) → IfOk r (λ s. content s ≡ store_bytes (session_units bytes) bytes)
    → IfOk r (λ s. (units : ℕ) (c : Collection) → 64 ≤ units → units ≤ 2 ^ 31 → 512 * units ≤ length bytes → Holds (store_bytes units bytes) c → Holds (content s) c)
opened_by (Ok s) content bytes is = λ units c least few fits holds. subst (λ (b : List ℕ). Holds b c) (sym is) (opened_holds bytes units c least few fits holds)
opened_by (Err e) content bytes is = is

-- ---- a store that holds a collection is not damaged

of_half : (b : Body) (bytes : List ℕ) (u : ℕ) (h h' : Half) → half_in_force bytes ≡ Some h → HasBodyOf u bytes h' b → HasBodyOf u bytes h b
of_half b bytes u h h' force has = subst (λ (x : Half). HasBodyOf u bytes x b) (one_half h' h (sym has.in_force ∙ force)) has
  where
    one_half : (x y : Half) → Some x ≡ Some y → x ≡ y
    one_half x y is = cc

pub undamaged : (bytes : List ℕ) (u : ℕ) (c : Collection) (r : Result (Manifest × Half) ManifestFault) → 64 ≤ u → u ≤ units_of_disk bytes → Holds (store_bytes u bytes) c → AnswersOf u bytes r → IfErr r IsSoundFault
undamaged bytes u c (Ok found) least le holds answer = tt
undamaged bytes u c (Err NotAStore) least le holds answer =
    let has = first_has bytes u holds.half holds.committed.body (omega (arith, least)) le holds.current in
    (let no : Some holds.half ≡ None = sym has.in_force ∙ answer in cc)
undamaged bytes u c (Err Damaged) least le holds answer =
    let has = first_has bytes u holds.half holds.committed.body (omega (arith, least)) le holds.current in
    answer.unsound holds.committed.body (of_half holds.committed.body bytes u answer.half holds.half answer.in_force has)
undamaged bytes u c (Err Disk) least le holds answer = tt
undamaged bytes u c (Err UsedUp) least le holds answer = tt
undamaged bytes u c (Err Memory) least le holds answer = tt

-- what was read of the bytes and of their units, by what these were
pub undamaged_read : (bytes now : List ℕ) (said_now : ℕ) (c : Collection) (r : Result (Manifest × Half) ManifestFault) → now ≡ bytes → said_now ≡ session_units bytes → 64 ≤ units_of_disk bytes
    → HoldsStore bytes c → AnswersOf said_now now r → IfErr r IsSoundFault
undamaged_read bytes now said_now c r same units least holds answer =
    undamaged bytes (session_units bytes) c r (least_store (units_of_disk bytes) (said_units bytes) least) (fits_disk (units_of_disk bytes) (said_units bytes)) holds
    (subst (λ (n : ℕ). AnswersOf n bytes r) units (subst (λ (b : List ℕ). AnswersOf said_now b r) same answer))

-- ---- a disk that begins with these bytes

module _ (bytes more : List ℕ) (start : take (length bytes) more ≡ bytes) where
  -- what lies in the first bytes
  pub first_same : (size : ℕ) → size ≤ length bytes → take size bytes ≡ take size more
  first_same size le = ap (take size) (sym start) ∙ take-take size (length bytes) more le

-- the body in force of a store is that of the same units of what begins with it
module _ (bytes more : List ℕ) (start : take (length bytes) more ≡ bytes) (b : Body) (half : Half) (least : 64 ≤ b.units) (has : HasBodyOf (session_units bytes) bytes half b) where
  same_units : b.units ≡ session_units bytes
  same_units = units_of_sound (session_units bytes) b has.sound

  pub has_room : b.units ≤ units_of_disk bytes
  has_room = subst (λ (m : ℕ). m ≤ units_of_disk bytes) (sym same_units) (fits_disk (units_of_disk bytes) (said_units bytes))

  first_units : store_bytes b.units bytes ≡ store_bytes b.units more
  first_units = first_same bytes more start (512 * b.units) (omega (arith, has_room, units_room (length bytes)))

  pub has_longer : (s : Half) → s ≡ other half → HasBody (store_bytes b.units more) (other s) b
  has_longer s is =
      subst (λ (first : List ℕ). HasBody first (other s) b) first_units
      (subst (λ (h : Half). HasBody (store_bytes b.units bytes) h b) (sym (ap other is ∙ other_other half))
      (has_first bytes b.units half b (omega (arith, least)) has_room (subst (λ (m : ℕ). HasBodyOf m bytes half b) (sym same_units) has)))

  pub holds_longer : (c : Collection) → HoldsStore bytes c → Holds (store_bytes b.units more) c
  holds_longer c holds = subst (λ (first : List ℕ). Holds first c) first_units (subst (λ (m : ℕ). Holds (store_bytes m bytes) c) (sym same_units) holds)
