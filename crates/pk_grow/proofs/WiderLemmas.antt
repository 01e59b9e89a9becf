-- A body that is sound on a disk is sound on one of more units, but for the units that it says.
use Rattle.std.proofs.Common.{◌≡◌, ℕ, ◌+◌, ◌<◌, ◌≤◌, ◌^◌, ◌&&◌, ◌==◌, Bool, true, false, eqb, leb, ltb, List, [], ◌∷◌, Option, Some, None, refl, arith}
use Rattle.std.specs.List.{list_all}
use Rattle.std.specs.Prelude.{if◌then◌else◌}
use Rattle.std.proofs.lemmas.Bool.{and_from, and_parts}
use Rattle.std.proofs.lemmas.Bool.Decides.{nat_tests}
use Rattle.pk_disk.specs.Units.{lies_within, units_for}
use Rattle.pk_disk.specs.declared.units.Extent.{Extent}
use Rattle.pk_manifest.specs.declared.manifest.Part.{Part as Entry}
use Rattle.pk_manifest.specs.Sound.{IsBody, is_dead, is_extent, is_part, is_table, segment_limit}
use Rattle.pk_manifest.specs.Spelling.{Body, table_size}
use Rattle.pk_manifest.proofs.Sound.{is_sound_by, says_sound}
use Rattle.pk_grow.specs.Growth.{grown}

wider_within : (u n : ℕ) → u ≤ n → (e : Extent) → lies_within u e ≡ true → lies_within n e ≡ true
wider_within u n le e h = grind (arith, nat_tests)

wider_extent : (u n : ℕ) → u ≤ n → (least : ℕ) (e : Extent) → is_extent u least e ≡ true → is_extent n least e ≡ true
wider_extent u n le least e h =
    let a = and_parts (leb least e.bytes && leb e.bytes segment_limit && eqb e.units (units_for e.bytes)) (lies_within u e) h in
    and_from (leb least e.bytes && leb e.bytes segment_limit && eqb e.units (units_for e.bytes)) (lies_within n e) a.0 (wider_within u n le e a.1)

wider_dead : (u n : ℕ) → u ≤ n → (d : Option Extent) → is_dead u d ≡ true → is_dead n d ≡ true
wider_dead u n le None h = refl
wider_dead u n le (Some e) h = wider_extent u n le 5 e h

wider_part : (u n : ℕ) → u ≤ n → (next : ℕ) (p : Entry) → is_part u next p ≡ true → is_part n next p ≡ true
wider_part u n le next p h =
    let front = leb 1 p.segment && ltb p.segment next && leb 1 p.kind && leb p.kind 2 in
    let a = and_parts (front && is_extent u 1 p.extent) (is_dead u p.dead) h in
    let b = and_parts front (is_extent u 1 p.extent) a.0 in
    and_from (front && is_extent n 1 p.extent) (is_dead n p.dead) (and_from front (is_extent n 1 p.extent) b.0 (wider_extent u n le 1 p.extent b.1)) (wider_dead u n le p.dead a.1)

wider_parts : (u n : ℕ) → u ≤ n → (next : ℕ) (ps : List Entry) → list_all (is_part u next) ps ≡ true → list_all (is_part n next) ps ≡ true
wider_parts u n le next [] h = refl
wider_parts u n le next (p ∷ ps) h =
    let a = and_parts (is_part u next p) (list_all (is_part u next) ps) h in
    and_from (is_part n next p) (list_all (is_part n next) ps) (wider_part u n le next p a.0) (wider_parts u n le next ps a.1)

wider_place : (none : Bool) (u n : ℕ) → u ≤ n → (e : Extent) → (if none then (e.first == 0) && (e.units == 0) else is_extent u 1 e) ≡ true → (if none then (e.first == 0) && (e.units == 0) else is_extent n 1 e) ≡ true
wider_place true u n le e h = h
wider_place false u n le e h = wider_extent u n le 1 e h

wider_table : (u n : ℕ) → u ≤ n → (size : ℕ) (e : Extent) → is_table u size e ≡ true → is_table n size e ≡ true
wider_table u n le size e h =
    let a = and_parts (e.bytes == size) (if size == 0 then (e.first == 0) && (e.units == 0) else is_extent u 1 e) h in
    and_from (e.bytes == size) (if size == 0 then (e.first == 0) && (e.units == 0) else is_extent n 1 e) a.0 (wider_place (size == 0) u n le e a.1)

pub grown_sound : (u n : ℕ) (b : Body) → IsBody u b → u ≤ n → n < 2 ^ 32 → b.generation + 1 < 2 ^ 64 → IsBody n (grown n b)
grown_sound u n b is le few next =
    let says = says_sound u b is.sound in
    record {
      generation = next;
      units = few;
      next_number = is.next_number;
      next_segment = is.next_segment;
      sound = is_sound_by n (grown n b) (record {
        low = says.low;
        high = says.high;
        generation = omega arith;
        of_disk = refl;
        next_number = says.next_number;
        next_segment = says.next_segment;
        few = says.few;
        table = wider_table u n le (table_size b) b.table says.table;
        parts = wider_parts u n le b.next_segment b.entries says.parts;
        ids = says.ids;
        places = says.places;
      });
    }
