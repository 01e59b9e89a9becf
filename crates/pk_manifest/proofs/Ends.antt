-- The extents that a sound body names end within its units.
use Rattle.std.proofs.Common.{◌≡◌, ◌⊎◌, inl, inr, ℕ, ◌+◌, ◌*◌, ◌<◌, ◌≤◌, ◌==◌, ◌||◌, ◌&&◌, ◌∷◌, [], Bool, true, false, leb, ltb, List, length, get_or, take, drop, Option, Some, None, refl, subst, sym, ◌∙◌, ap, arith, length-drop}
use Rattle.std.specs.Prelude.{All, if◌then◌else◌}
use Rattle.std.specs.List.{flat_map, list_all}
use Rattle.std.proofs.lemmas.Bool.{and_parts}
use Rattle.std.proofs.lemmas.Bool.Decides.{nat_tests}
use Rattle.std.proofs.lemmas.List.{ext_get_or, get_or-drop, get_or-take, length-take}
use Rattle.std.proofs.lemmas.List.Elements.{All-append, All-cons, All-head, All-nil, All-tail}
use Rattle.std.proofs.lemmas.List.Concat.{flat_map-cons}
use Rattle.pk_disk.specs.declared.units.Extent.{Extent}
use Rattle.pk_disk.specs.Disk.{in_range}
use Rattle.pk_disk.specs.Units.{start_of}
use Rattle.pk_manifest.specs.declared.manifest.Part.{Part}
use Rattle.pk_manifest.specs.Evolves.{covers, is_in}
use Rattle.pk_manifest.specs.Sound.{IsBody, dead_extents, extents_of, is_dead, is_extent, is_part, is_table, named, table_extents}
use Rattle.pk_manifest.specs.Spelling.{Body, table_size}
use Rattle.pk_manifest.proofs.Fields.{no_table, table_extent, zero_or_not}
use Rattle.pk_manifest.proofs.Sound.{says_sound}

-- a range is the same in two lists that both have it
pub same_range : (xs ys : List ℕ) (at n : ℕ) → at + n ≤ length xs → at + n ≤ length ys → ((p : ℕ) → at ≤ p → p < at + n → get_or xs p 0 ≡ get_or ys p 0) → take n (drop at xs) ≡ take n (drop at ys)
same_range xs ys at n in_xs in_ys same =
    ext_get_or 0 (take n (drop at xs)) (take n (drop at ys))
    (omega (arith, in_xs, in_ys, length-take n (drop at xs), length-take n (drop at ys), length-drop at xs, length-drop at ys))
    (λ i lt.
    let below : i < n = omega (arith, lt, length-take n (drop at xs)) in
    get_or-take n (drop at xs) i 0 below ∙ get_or-drop at xs i 0
    ∙ same (at + i) (omega arith) (omega (arith, below))
    ∙ sym (get_or-take n (drop at ys) i 0 below ∙ get_or-drop at ys i 0))

-- it ends within so many bytes
abbrev pub Ends : ℕ → Extent → Type 0
Ends size e = start_of e + e.bytes ≤ size

pub in_end : (at n p : ℕ) → in_range at n p ≡ true → p < at + n
in_end at n p is = grind (arith, nat_tests, is)

-- what they cover lies there
pub covered_within : (size p : ℕ) (es : List Extent) → All (Ends size) es → covers es p ≡ true → p < size
covered_within size p [] all is = absurd (let no : false ≡ true = is in cc)
covered_within size p (e ∷ es) all is = elim (one_of (is_in p e) (covers es p) is) [
  | inl here ↦ let below : p < start_of e + e.bytes = in_end (start_of e) e.bytes p here in
      let end : start_of e + e.bytes ≤ size = All-head (Ends size) e es all in
      omega (arith, below, end)
  | inr later ↦ covered_within size p es (All-tail (Ends size) e es all) later
]
  where
    one_of : (a b : Bool) → (a || b) ≡ true → (a ≡ true) ⊎ (b ≡ true)
    one_of true b is = inl refl
    one_of false b is = inr is

fits_in : (units least : ℕ) (e : Extent) → is_extent units least e ≡ true → start_of e + e.bytes ≤ 512 * units
fits_in units least e h = grind (arith, nat_tests)

-- WHAT EACH EXTENT HAS THAT A BODY MAY NAME, those have that a sound one names.
module _ (P : Extent → Type 0) (units : ℕ) (each : (least : ℕ) (e : Extent) → is_extent units least e ≡ true → P e) where
  of_dead : (d : Option Extent) → is_dead units d ≡ true → All P (dead_extents d)
  of_dead None h = All-nil P
  of_dead (Some e) h = All-cons P e [] (each 5 e h) (All-nil P)

  of_part : (next : ℕ) (p : Part) → is_part units next p ≡ true → All P (extents_of p)
  of_part next p h =
      let parts = and_parts (leb 1 p.segment && ltb p.segment next && leb 1 p.kind && leb p.kind 2 && is_extent units 1 p.extent) (is_dead units p.dead) h in
      let own = and_parts (leb 1 p.segment && ltb p.segment next && leb 1 p.kind && leb p.kind 2) (is_extent units 1 p.extent) parts.0 in
      All-cons P p.extent (dead_extents p.dead) (each 1 p.extent own.1) (of_dead p.dead parts.1)

  of_parts : (next : ℕ) (ps : List Part) → list_all (is_part units next) ps ≡ true → All P (flat_map extents_of ps)
  of_parts next [] h = All-nil P
  of_parts next (p ∷ ps) h =
      let both = and_parts (is_part units next p) (list_all (is_part units next) ps) h in
      subst (All P) (sym (flat_map-cons extents_of p ps)) (All-append P (extents_of p) (flat_map extents_of ps) (of_part next p both.0) (of_parts next ps both.1))

  one_or_none : (t : Bool) (e : Extent) → P e → All P (if t then [] else e ∷ [])
  one_or_none true e is = All-nil P
  one_or_none false e is = All-cons P e [] is (All-nil P)

  of_table : (size : ℕ) (e : Extent) → (size ≡ 0) ⊎ (size ≡ 0 → ⊥) → is_table units size e ≡ true → All P (table_extents e)
  of_table size e (inl none) h = subst (λ (x : Extent). All P (table_extents x)) (sym (no_table units size e h none)) (All-nil P)
  of_table size e (inr some) h = one_or_none (e.bytes == 0) e (each 1 e (table_extent units size e h some))

  pub each_judged : (b : Body) → is_table units (table_size b) b.table ≡ true → list_all (is_part units b.next_segment) b.entries ≡ true → All P (named b)
  each_judged b table parts =
      All-append P (table_extents b.table) (flat_map extents_of b.entries) (of_table (table_size b) b.table (zero_or_not (table_size b)) table) (of_parts b.next_segment b.entries parts)

  pub each_named : (b : Body) → IsBody units b → All P (named b)
  each_named b sound = let says = says_sound units b sound.sound in each_judged b says.table says.parts

pub table_end_by : (units size : ℕ) (e : Extent) → (size ≡ 0) ⊎ (size ≡ 0 → ⊥) → is_table units size e ≡ true → Ends (512 * units) e
table_end_by units size e (inl none) h =
    let nothing = no_table units size e h none in
    let first : e.first ≡ 0 = ap (λ (x : Extent). x.first) nothing in
    let bytes : e.bytes ≡ 0 = ap (λ (x : Extent). x.bytes) nothing in
    omega (arith, first, bytes)
table_end_by units size e (inr some) h = fits_in units 1 e (table_extent units size e h some)

pub table_end : (units : ℕ) (b : Body) → IsBody units b → Ends (512 * units) b.table
table_end units b sound = table_end_by units (table_size b) b.table (zero_or_not (table_size b)) (says_sound units b sound.sound).table

pub named_end : (units : ℕ) (b : Body) → IsBody units b → All (Ends (512 * units)) (named b)
named_end units b sound = each_named (Ends (512 * units)) units (fits_in units) b sound
