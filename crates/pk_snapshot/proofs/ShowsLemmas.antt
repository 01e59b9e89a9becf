-- What is shown has the body in force, with all that it names.
use Rattle.std.proofs.Common.{◌≡◌, inl, inr, ℕ, ◌+◌, ◌*◌, ◌<◌, ◌≤◌, ◌==◌, ◌++◌, ◌||◌, ◌&&◌, ◌∷◌, [], Bool, true, false, List, length, get_or, refl, sym, ◌∙◌, ap, subst, arith, leb, ltb, ne_eqb}
use Rattle.std.specs.Prelude.{All, Some, if◌then◌else◌}
use Rattle.std.specs.List.{list_all, flat_map}
use Rattle.std.proofs.lemmas.Bool.{and_parts, leb-true}
use Rattle.std.proofs.lemmas.List.{get_or_past}
use Rattle.std.proofs.lemmas.List.Folds.{list_any-append}
use Rattle.pk_disk.specs.declared.units.Extent.{Extent}
use Rattle.pk_disk.specs.Units.{extent_bytes, lies_within, start_of, units_in}
use Rattle.pk_disk.proofs.Ranges.{or_both, outside_range}
use Rattle.pk_manifest.specs.declared.half.Half.{Half}
use Rattle.pk_manifest.specs.declared.half.Half.TheVariants.{A, B}
use Rattle.pk_manifest.specs.Bodies.{body_of, body_place, gate_place, generation_of, half_in_force, has_open_gate, other}
use Rattle.pk_manifest.specs.Sound.{IsBody, extents_of, named, table_extents}
use Rattle.pk_manifest.specs.Spelling.{Body}
use Rattle.pk_manifest.proofs.Ends.{covered_within, named_end, same_range, table_end}
use Rattle.pk_manifest.proofs.Found.{covers_at, found_within}
use Rattle.pk_manifest.proofs.Fields.{extents_of_disk, generation_of_spelling}
use Rattle.pk_manifest.specs.Evolves.{covers, is_in}
use Rattle.pk_manifest.specs.Found.{IsFound}
use Rattle.pk_snapshot.specs.Order.{CoverAlike}
use Rattle.pk_snapshot.specs.Shown.{ShowsBody, body_extent, gate_extent, own_extents, shown_bytes}
use Rattle.pk_manifest.proofs.Evolving.{inside_range}
use Rattle.pk_snapshot.proofs.FoundLemmas.{half_room}
use Rattle.pk_snapshot.proofs.SeenLemmas.{below_or}
use Rattle.pk_snapshot.proofs.ShownLemmas.{get_shown, length_shown, shown_no, shown_yes}

left_true : (a b : Bool) → a ≡ true → (a || b) ≡ true
left_true a b is = rw is refl

right_true : (a b : Bool) → b ≡ true → (a || b) ≡ true
right_true true b is = refl
right_true false b is = is

-- those of a sound body lie behind the bodies
far_extents : (units : ℕ) (es : List Extent) (p : ℕ) → p < 17408 → list_all (lies_within units) es ≡ true → covers es p ≡ false
far_extents units [] p lt all = refl
far_extents units (e ∷ es) p lt all =
    let both = and_parts (lies_within units e) (list_all (lies_within units) es) all in
    let a = and_parts (leb 34 e.first && ltb 0 e.units) (leb (e.first + e.units) units) both.0 in
    let b = and_parts (leb 34 e.first) (ltb 0 e.units) a.0 in
    let low : 34 ≤ e.first = leb-true _ _ b.0 in
    or_both (is_in p e) (covers es p) (outside_range (start_of e) e.bytes p (inl (omega (arith, low, lt)))) (far_extents units es p lt both.1)

own_gate : (half : Half) → covers (own_extents half) (gate_place half) ≡ true
own_gate A = refl
own_gate B = refl

own_other : (half : Half) → covers (own_extents half) (gate_place (other half)) ≡ false
own_other A = refl
own_other B = refl

own_body : (half : Half) (p : ℕ) → body_place half ≤ p → p < body_place half + 8192 → covers (own_extents half) p ≡ true
own_body A p low high = right_true (is_in p (gate_extent A)) (is_in p (body_extent A) || false) (left_true (is_in p (body_extent A)) false (inside_range 1024 8192 p low high))
own_body B p low high = right_true (is_in p (gate_extent B)) (is_in p (body_extent B) || false) (left_true (is_in p (body_extent B)) false (inside_range 9216 8192 p low high))

gate_low : (half : Half) → gate_place half < 17408
gate_low A = omega arith
gate_low B = omega arith

force_a : (bytes : List ℕ) → has_open_gate bytes A ≡ true → has_open_gate bytes B ≡ false → half_in_force bytes ≡ Some A
force_a bytes a b = rw (a, b) refl

force_b : (bytes : List ℕ) → has_open_gate bytes B ≡ true → has_open_gate bytes A ≡ false → half_in_force bytes ≡ Some B
force_b bytes b a = rw (a, b) refl

force_one : (bytes : List ℕ) (half : Half) → has_open_gate bytes half ≡ true → has_open_gate bytes (other half) ≡ false → half_in_force bytes ≡ Some half
force_one bytes A is isnt = force_a bytes is isnt
force_one bytes B is isnt = force_b bytes is isnt

units_again : (u size : ℕ) → u ≤ units_in size → units_in (512 * u) ≡ u
units_again u size le = grind arith

covers_table : (e : Extent) (p : ℕ) → start_of e ≤ p → p < start_of e + e.bytes → covers (table_extents e) p ≡ true
covers_table e p low high =
    let some : (e.bytes == 0) ≡ false = ne_eqb e.bytes 0 (λ none. absurd (omega (arith, low, high, none))) in
    let one : table_extents e ≡ e ∷ [] = (let l : (if e.bytes == 0 then [] else e ∷ []) ≡ e ∷ [] = rw some refl in l) in
    ap (λ (l : List Extent). covers l p) one ∙ left_true (is_in p e) false (inside_range (start_of e) e.bytes p low high)

module _ (start : List ℕ) (half : Half) (g : ℕ) (b : Body) (len : ℕ) (shown : List Extent) (found : IsFound start half g b) (long : len ≡ 512 * b.units) (is : CoverAlike shown (named b ++ own_extents half)) where
  content : List ℕ
  content = shown_bytes len shown start

  size : length content ≡ 512 * b.units
  unfolding content
  size = length_shown len shown start ∙ long

  room : 512 * b.units ≤ length start
  room = found_within start half g b found

  parts : (p : ℕ) → covers shown p ≡ (covers (named b) p || covers (own_extents half) p)
  parts p = is p ∙ list_any-append (is_in p) (named b) (own_extents half)

  same_at : (p : ℕ) → p < 512 * b.units → covers shown p ≡ true → get_or content p 0 ≡ get_or start p 0
  unfolding content
  same_at p lt covered = get_shown len p shown start (omega (arith, lt, long)) ∙ shown_yes (covers shown p) (get_or start p 0) covered

  by_name : (p : ℕ) → covers (named b) p ≡ true → get_or content p 0 ≡ get_or start p 0
  by_name p covered = same_at p (covered_within (512 * b.units) p (named b) (named_end b.units b found.sound) covered) (parts p ∙ left_true (covers (named b) p) (covers (own_extents half) p) covered)

  by_own : (p : ℕ) → p < 17408 → covers (own_extents half) p ≡ true → get_or content p 0 ≡ get_or start p 0
  by_own p lt covered = same_at p (omega (arith, lt, found.least)) (parts p ∙ right_true (covers (named b) p) (covers (own_extents half) p) covered)

  gate_is : has_open_gate content half ≡ true
  gate_is = ap (λ (x : ℕ). x == 167) (by_own (gate_place half) (gate_low half) (own_gate half)) ∙ found.gate

  other_covered : covers shown (gate_place (other half)) ≡ false
  other_covered = parts (gate_place (other half)) ∙ or_both (covers (named b) (gate_place (other half))) (covers (own_extents half) (gate_place (other half)))
      (far_extents b.units (named b) (gate_place (other half)) (gate_low (other half)) (extents_of_disk b.units b found.sound).1) (own_other half)

  other_byte : get_or content (gate_place (other half)) 0 ≡ 0
  unfolding content
  other_byte = elim (below_or (gate_place (other half)) len) [
    | inl lt ↦ get_shown len (gate_place (other half)) shown start lt ∙ shown_no (covers shown (gate_place (other half))) (get_or start (gate_place (other half)) 0) other_covered
    | inr le ↦ get_or_past (shown_bytes len shown start) (gate_place (other half)) 0 (omega (arith, le, length_shown len shown start))
  ]

  other_shut : has_open_gate content (other half) ≡ false
  other_shut = ap (λ (x : ℕ). x == 167) other_byte

  body_same : body_of content half ≡ body_of start half
  body_same = same_range content start (body_place half) 8192 (omega (arith, half_room half, size, found.least)) (omega (arith, half_room half, room, found.least))
      (λ p low high. by_own p (omega (arith, high, half_room half)) (own_body half p low high))

  table_same : extent_bytes content b.table ≡ extent_bytes start b.table
  table_same = same_range content start (start_of b.table) b.table.bytes (omega (arith, table_end b.units b found.sound, size)) (omega (arith, table_end b.units b found.sound, room))
      (λ p low high. by_name p (list_any-append (is_in p) (table_extents b.table) (flat_map extents_of b.entries)
      ∙ left_true (covers (table_extents b.table) p) (covers (flat_map extents_of b.entries) p) (covers_table b.table p low high)))

  each_same : All (λ e. extent_bytes content e ≡ extent_bytes start e) (named b)
  each_same k d lt =
      let e = get_or (named b) k d in
      let end : start_of e + e.bytes ≤ 512 * b.units = named_end b.units b found.sound k d lt in
      same_range content start (start_of e) e.bytes (omega (arith, end, size)) (omega (arith, end, room)) (λ p low high. by_name p (covers_at (named b) k p d lt (inside_range (start_of e) e.bytes p low high)))

  shows_content : ShowsBody start content half g
  shows_content = record {
    body = b;
    generation_is = sym (generation_of_spelling b found.sound.generation) ∙ ap generation_of (sym found.spelled) ∙ found.stamp_is;
    found = found;
    size = size;
    has = record {
      in_force = force_one content half gate_is other_shut;
      spelled = body_same ∙ found.spelled;
      tabled = table_same ∙ found.tabled;
      sound = subst (λ (n : ℕ). IsBody n b) (sym (ap units_in size ∙ units_again b.units (length start) found.within)) found.sound;
    };
    same = each_same;
  }

  pub shows : ShowsBody start (shown_bytes len shown start) half g
  unfolding content
  shows = shows_content
