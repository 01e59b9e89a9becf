-- WHAT COMES NEXT IS PLANNED RIGHTLY: the body is sound, its plan is one, goes on with what is open, and takes what is committed over.
use Rattle.std.proofs.Common.{◌≡◌, ◌⊎◌, inl, inr, ⊎_elim, ℕ, ◌+◌, ◌*◌, ◌^◌, ◌<◌, ◌≤◌, ◌++◌, true, false, nat_lt, List, [], ◌∷◌, drop, length, length-append, map, take, refl, sym, ◌∙◌, ap, subst, arith, append_assoc, Option, Some, None}
use Rattle.std.specs.Prelude.{All}
use Rattle.std.specs.List.{AllByRecursion, flat_map, list_all, list_any}
use Rattle.std.proofs.lemmas.Bool.{and_from, and_parts, le-ltb, or_from}
use Rattle.std.proofs.lemmas.List.{get_or-map, length-map}
use Rattle.std.proofs.lemmas.List.Concat.{flat_map-cons}
use Rattle.std.proofs.lemmas.List.Elements.{All-cons, All-from_recursion, All-nil, recursion_from_All}
use Rattle.pk_disk.specs.Units.{apart, lies_within, overlap, start_of, units_in}
use Rattle.pk_disk.specs.declared.units.Extent.{Extent}
use Rattle.pk_manifest.specs.declared.manifest.Part.{Part as Entry}
use Rattle.pk_manifest.specs.Sound.{IsBody, SaysSound, extents_of, is_part, named, same_segment, segment_limit}
use Rattle.pk_manifest.specs.Spelling.{Body, table_size}
use Rattle.pk_manifest.proofs.Fields.{extents_of_disk, table_long}
use Rattle.pk_manifest.proofs.Sound.{says_sound}
use Rattle.pk_model.specs.Collection.{Doc}
use Rattle.pk_model.specs.declared.documents.Document.{Document}
use Rattle.pk_model.specs.Limits.{end_of_ids, end_of_numbers, max_segment_bytes, max_segments}
use Rattle.pk_model.specs.Views.{doc_of}
use Rattle.pk_open.specs.declared.opened.OpenSegment.{OpenSegment}
use Rattle.pk_open.specs.Opened.{AreOpenOf, IsOpenOf, entries_of}
use Rattle.pk_open.proofs.PlaceLemmas.{entries_many}
use Rattle.pk_replace.specs.Claims.{AreApart, Claim, Each, IsAmong, IsBehind, IsInside, IsUntouched, places}
use Rattle.pk_replace.proofs.ClaimLemmas.{each_weaker, of_among}
use Rattle.pk_posting.specs.Posting.{IsPosting}
use Rattle.pk_segment.specs.declared.segment.Segment.{Segment}
use Rattle.pk_segment.specs.Listing.{dictionary_place}
use Rattle.pk_segment.specs.Opened.{IsSegmentOf}
use Rattle.pk_segment.specs.Placed.{dictionary_of}
use Rattle.pk_segment.specs.Spelling.{segment_length, segment_spelling}
use Rattle.pk_segment.proofs.SegmentLemmas.{length_segment, parts_of}
use Rattle.pk_space.specs.Places.{PlacedAs}
use Rattle.pk_state.specs.Committed.{Names, Stored}
use Rattle.pk_state.specs.Kept.{AreEntries, all_claims, claims_of, table_claims}
use Rattle.pk_state.specs.Writing.{is_too_large, new_entry, new_stored, replaced, segment_writes, table_writes, written_kind}
use Rattle.pk_state.proofs.HoldsLemmas.{each_append, units_room}
use Rattle.pk_state.proofs.KindLemmas.{written_is_kind}
use Rattle.pk_state.proofs.MergeLemmas.{front_placed}
use Rattle.pk_layout.specs.Merging.{IsNewOf, IsSegmentTo, IsSized, count_merged, extents_in, lengths_in, run_of}
use Rattle.pk_layout.specs.Next.{CanFollow, lengths_next, lists_in, new_in, opened_new}
use Rattle.pk_layout.specs.Placed.{AreLaid}
use Rattle.pk_layout.specs.Change.{Fits, changed}
use Rattle.pk_layout.specs.declared.change.Change.{Change}
use Rattle.pk_layout.specs.Plan.{AreTaken, CanBeWritten, GoesOn, GoesTo, IsGrown, IsPlan, IsPlanOf, PromisesTable, PutsInForce, body_replaced, entry_in, ids_in, laid_in, lengths_with, new_segments, settled_in, table_bytes, tabled}
use Rattle.pk_layout.specs.declared.merging.NewSegment.{NewSegment}
use Rattle.pk_layout.specs.declared.next.Next.{Next}
use Rattle.pk_layout.specs.declared.next.NextSegment.{NextSegment}
use Rattle.pk_layout.specs.declared.planning.Plan.{Plan}
use Rattle.pk_layout.proofs.ApartLemmas.{apart_back, apart_front, apart_in, apart_out, apart_turned, in_by, laid_all, laid_apart, placed_all, placed_long, without_by}
use Rattle.pk_layout.proofs.BodyLemmas.{HasTable, all_laid_in, list_extent, new_id, new_part, next_sound, no_more, parts_later, places_in, segments_turned}
use Rattle.pk_layout.proofs.ExtentLemmas.{apart_parts, laid_append, laid_inside, laid_missed, next_untouched, overlap_sym}
use Rattle.pk_layout.proofs.ReplacedLemmas.{all_replaced, claims_replaced, entries_replaced, flat_three, in_three, open_replaced, replaced_entries, replaced_long, tests_replaced}
use Rattle.pk_layout.proofs.SettledLemmas.{AreFree, IsListExtent, among_back, among_front, ids_settled, parts_settled, settled_free, settled_grown, settled_long}
use Rattle.pk_layout.proofs.TableLemmas.{all_back, back_placed, has_table, laid_two, long_with, some_behind, table_among}
use Rattle.pk_layout.proofs.TakenLemmas.{taken_new, taken_replaced, taken_settled}

-- ---- documents of a buffer, in the words of those that are built
pub as_many : (documents : List Document) (buffer : List Doc) → map doc_of documents ≡ buffer → length documents ≡ length buffer
as_many documents buffer same = sym (length-map documents doc_of) ∙ ap length same

pub least_of : (documents : List Document) → All (λ (d : Doc). 1 ≤ d.number) (map doc_of documents) → All (λ (d : Document). 1 ≤ d.number.0) documents
least_of documents each k d lt = subst (λ (x : Doc). 1 ≤ x.number) (get_or-map doc_of documents k d (doc_of d) lt) (each k (doc_of d) (subst (λ n. k < n) (sym (length-map documents doc_of)) lt))

-- ---- extents

-- at the first fit they lie on the disk, and share no unit
pub lengths_here : (size : ℕ) (b : Body) → IsBody (units_in size) b → (lengths : List ℕ) → AllByRecursion (λ (n : ℕ). 1 ≤ n) lengths → (es : List Extent) → PlacedAs b.units (named b) lengths es
    → (list_all (lies_within (units_in size)) es ≡ true) × (apart overlap (named b ++ es) ≡ true)
lengths_here size b is lengths some es placed =
    let disk = extents_of_disk (units_in size) b is in
    placed_all (units_in size) (named b) lengths es disk.1 disk.2 some (subst (λ u. PlacedAs u (named b) lengths es) (says_sound (units_in size) b is.sound).of_disk placed)

-- that of the segment behind those of the lists
moved_apart : (ns xs ts : List Extent) (place : Option Extent) → apart overlap (ns ++ (extents_in place ++ (xs ++ ts))) ≡ true → apart overlap ((ns ++ xs) ++ (extents_in place ++ ts)) ≡ true
moved_apart ns xs ts None h = ap (apart overlap) (append_assoc ns xs ts) ∙ h
moved_apart ns xs ts (Some e) h =
    let out = apart_out ns (xs ++ ts) e h in
    let same = append_assoc ns xs ts in
    apart_in (ns ++ xs) ts e (ap (list_any (overlap e)) same ∙ out.0) (ap (apart overlap) same ∙ out.1)

-- those of lists
lists_lie : (units : ℕ) (taken : List Extent) (writes : List (List ℕ)) (es : List Extent) → AllByRecursion (λ (w : List ℕ). (5 ≤ length w) × (length w ≤ segment_limit)) writes → list_all (lies_within units) es ≡ true → PlacedAs units taken (map length writes) es → AllByRecursion (IsListExtent units) es
lists_lie units taken [] [] all within placed = tt
lists_lie units taken [] (e ∷ es) all within placed = absurd placed
lists_lie units taken (w ∷ ws) [] all within placed = absurd placed
lists_lie units taken (w ∷ ws) (e ∷ es) all within placed =
    let parts = and_parts (lies_within units e) (list_all (lies_within units) es) within in
    let long : e.bytes ≡ length w = placed.0.long in
    (list_extent units e (omega (arith, long, all.0.0)) (omega (arith, long, all.0.1)) placed.0.fitted parts.0, lists_lie units (e ∷ taken) ws es all.1 parts.1 placed.1)

some_bytes : (writes : List (List ℕ)) → AllByRecursion (λ (w : List ℕ). (5 ≤ length w) × (length w ≤ segment_limit)) writes → AllByRecursion (λ (n : ℕ). 1 ≤ n) (map length writes)
some_bytes [] all = tt
some_bytes (w ∷ ws) all = (omega (arith, all.0.0), some_bytes ws all.1)

pub some_front : (new : Option NewSegment) (ls : List ℕ) → IsSized new → AllByRecursion (λ (n : ℕ). 1 ≤ n) ls → AllByRecursion (λ (n : ℕ). 1 ≤ n) (lengths_in new ++ ls)
some_front None ls sized all = all
some_front (Some new) ls sized all = (sized.0, all)

-- ---- entries, of which a run gives way to that of a new segment

one_each : (b : Body) (place : Option Extent) → length (entry_in b place) ≡ length (extents_in place)
one_each b None = refl
one_each b (Some e) = refl

ids_below : (b : Body) (place : Option Extent) → b.next_segment < end_of_ids → b.next_segment + ids_in place < 2 ^ 64
ids_below b None ids = omega (arith, ids)
ids_below b (Some e) ids = omega (arith, ids)

module _ (units from n : ℕ) (b : Body) (es : List Entry) where
  abbrev front : List Entry
  front = take from es

  abbrev back : List Entry
  back = drop (from + n) es

  -- their ids
  ids_replaced : (place : Option Extent) → list_all (is_part units b.next_segment) es ≡ true → apart same_segment es ≡ true → apart same_segment (replaced from n (entry_in b place) es) ≡ true
  ids_replaced place parts own = by place
    where
      stay : apart same_segment (front ++ back) ≡ true
      stay = without_by same_segment segments_turned front (run_of from n es) back (ap (apart same_segment) (in_three from n es) ∙ own)

      by : (p : Option Extent) → apart same_segment (replaced from n (entry_in b p) es) ≡ true
      by None = stay
      by (Some e) = in_by same_segment segments_turned front back (new_entry b e) (new_id units (new_entry b e) (front ++ back) (tests_replaced from n es (is_part units b.next_segment) [] parts refl)) stay

  parts_replaced : (new : Option NewSegment) (place : Option Extent) (taken : List Extent) → 1 ≤ b.next_segment → IsSized new → PlacedAs units taken (lengths_in new) (extents_in place) → list_all (lies_within units) (extents_in place) ≡ true → list_all (is_part units b.next_segment) es ≡ true
      → list_all (is_part units (b.next_segment + ids_in place)) (replaced from n (entry_in b place) es) ≡ true
  parts_replaced new None taken least sized placed within parts =
      ap (λ k. list_all (is_part units k) (replaced from n [] es)) (no_more b.next_segment) ∙ tests_replaced from n es (is_part units b.next_segment) [] parts refl
  parts_replaced None (Some e) taken least sized placed within parts = absurd placed
  parts_replaced (Some new) (Some e) taken least sized placed within parts =
      let long : e.bytes ≡ new.bytes = placed.0.long in
      let own = new_part units b e least (omega (arith, long, sized.0)) (omega (arith, long, sized.1)) placed.0.fitted (and_parts (lies_within units e) true within).0 in
      tests_replaced from n es (is_part units (b.next_segment + 1)) (new_entry b e ∷ []) (parts_later units b.next_segment es parts) (and_from (is_part units (b.next_segment + 1) (new_entry b e)) true own refl)

  -- and their extents, beside those of a table
  apart_replaced : (place : Option Extent) (ts : List Extent) → apart overlap ((extents_in place ++ ts) ++ flat_map extents_of es) ≡ true → apart overlap (ts ++ flat_map extents_of (replaced from n (entry_in b place) es)) ≡ true
  apart_replaced place ts h = ap (λ us. apart overlap (ts ++ us)) (flat_three extents_of front (entry_in b place) back ∙ ap (λ us. before ++ (us ++ behind)) (own place)) ∙ by place stay
    where
      before : List Extent
      before = flat_map extents_of front

      run : List Extent
      run = flat_map extents_of (run_of from n es)

      behind : List Extent
      behind = flat_map extents_of back

      own : (p : Option Extent) → flat_map extents_of (entry_in b p) ≡ extents_in p
      own None = refl
      own (Some e) = flat_map-cons extents_of (new_entry b e) []

      whole : flat_map extents_of es ≡ before ++ (run ++ behind)
      whole = ap (flat_map extents_of) (sym (in_three from n es)) ∙ flat_three extents_of front (run_of from n es) back

      stay : apart overlap (((extents_in place ++ ts) ++ before) ++ behind) ≡ true
      stay = without_by overlap overlap_sym ((extents_in place ++ ts) ++ before) run behind
          (ap (apart overlap) (append_assoc (extents_in place ++ ts) before (run ++ behind)) ∙ ap (λ us. apart overlap ((extents_in place ++ ts) ++ us)) (sym whole) ∙ h)

      by : (p : Option Extent) → apart overlap (((extents_in p ++ ts) ++ before) ++ behind) ≡ true → apart overlap (ts ++ (before ++ (extents_in p ++ behind))) ≡ true
      by None k = ap (apart overlap) (sym (append_assoc ts before behind)) ∙ k
      by (Some e) k =
          let parts = apart_parts e ((ts ++ before) ++ behind) k in
          ap (apart overlap) (sym (append_assoc ts before (e ∷ behind))) ∙ apart_in (ts ++ before) behind e parts.0 parts.1

-- how many are left
pub entries_left : (b : Body) (os : List OpenSegment) (from n : ℕ) (new : Option NewSegment) (place : Option Extent) (xs : List Extent) → entries_of os ≡ b.entries → from + n ≤ length os → length (extents_in place) ≡ length (lengths_in new)
    → length (replaced from n (entry_in b place) (entries_of (settled_in os xs))) ≡ count_merged b n new
entries_left b os from n new place xs even within same =
    let kept = entries_of (settled_in os xs) in
    let long : length kept ≡ length os = entries_many (settled_in os xs) ∙ settled_long os xs in
    omega (arith, replaced_long from n kept (entry_in b place) (omega (arith, within, long)), within, long, entries_many os, ap length even, same, one_each b place)

-- ---- WHAT COMES NEXT

-- A run of what is open gives way to these segments, others get lists of these bytes; all is placed.
pub record IsNext (size : ℕ) (b : Body) (os : List OpenSegment) (from n : ℕ) (new : Option NewSegment) (lists : List (List ℕ)) (next : ℕ) (place : Option Extent) (xs ts : List Extent) (fresh : List OpenSegment) : Type 0 where
  pub is : IsBody (units_in size) b
  pub generation : b.generation < end_of_ids
  pub ids : b.next_segment < end_of_ids
  pub even : entries_of os ≡ b.entries
  pub grown : All IsGrown os
  pub within : from + n ≤ length os
  pub few : count_merged b n new ≤ max_segments
  pub some : 1 ≤ next
  pub most : next ≤ end_of_numbers
  pub sized : IsSized new
  pub can : CanBeWritten lists
  pub same : length (extents_in place) ≡ length (lengths_in new)
  pub before : length xs ≡ length lists
  pub placed : PlacedAs b.units (named b) (lengths_in new ++ lengths_with lists (count_merged b n new)) (extents_in place ++ (xs ++ ts))
  pub entries : entries_of fresh ≡ entry_in b place
  pub fresh_grown : All IsGrown fresh

module _ {size : ℕ} {b : Body} {os : List OpenSegment} {from n : ℕ} {new : Option NewSegment} {lists : List (List ℕ)} {next : ℕ} {place : Option Extent} {xs ts : List Extent} {fresh : List OpenSegment} (x : IsNext size b os from n new lists next place xs ts fresh) where
  abbrev units : ℕ
  units = units_in size

  abbrev count : ℕ
  count = count_merged b n new

  -- the entries with their new lists, and the run replaced
  abbrev kept : List Entry
  kept = entries_of (settled_in os xs)

  abbrev entries' : List Entry
  entries' = replaced from n (entry_in b place) kept

  abbrev opened : List OpenSegment
  opened = replaced from n fresh (settled_in os xs)

  abbrev body : Body
  body = tabled ts (body_replaced b next from n place kept)

  abbrev extents : List Extent
  extents = extents_in place ++ (xs ++ ts)

  says : SaysSound units b
  says = says_sound units b x.is.sound

  entries_are : entries_of opened ≡ entries'
  entries_are = replaced_entries from n fresh (settled_in os xs) ∙ ap (λ (es : List Entry). replaced from n es kept) x.entries

  many : length entries' ≡ count
  many = entries_left b os from n new place xs x.even x.within x.same

  each_list : AllByRecursion (λ (w : List ℕ). (5 ≤ length w) × (length w ≤ segment_limit)) lists
  each_list = recursion_from_All (λ (w : List ℕ). (5 ≤ length w) × (length w ≤ segment_limit)) lists x.can

  -- where all is placed
  there : (list_all (lies_within units) extents ≡ true) × (apart overlap (named b ++ extents) ≡ true)
  there = lengths_here size b x.is (lengths_in new ++ lengths_with lists count) (some_front new (lengths_with lists count) x.sized (some_behind (map length lists) count (some_bytes lists each_list))) extents x.placed

  lie : (list_all (lies_within units) (extents_in place) ≡ true) × (list_all (lies_within units) (xs ++ ts) ≡ true)
  lie = all_back units (extents_in place) (xs ++ ts) there.0

  own_apart : apart overlap extents ≡ true
  own_apart = apart_back (named b) extents there.1

  on_disk : PlacedAs units (named b) (lengths_in new ++ lengths_with lists count) extents
  on_disk = subst (λ u. PlacedAs u (named b) (lengths_in new ++ lengths_with lists count) extents) says.of_disk x.placed

  pub first_placed : PlacedAs units (named b) (lengths_in new) (extents_in place)
  first_placed = front_placed units (named b) (lengths_in new) (lengths_with lists count) (extents_in place) (xs ++ ts) x.same on_disk

  pub behind_placed : (more : List Extent) × PlacedAs units more (lengths_with lists count) (xs ++ ts)
  behind_placed = back_placed units (named b) (lengths_in new) (lengths_with lists count) (extents_in place) (xs ++ ts) x.same on_disk

  as_long : length xs ≡ length (map length lists)
  as_long = x.before ∙ sym (length-map lists length)

  pub lists_placed : PlacedAs units behind_placed.0 (map length lists) xs
  lists_placed = front_placed units behind_placed.0 (map length lists) (table_writes count) xs ts as_long behind_placed.1

  table_placed : (more : List Extent) × PlacedAs units more (table_writes count) ts
  table_placed = back_placed units behind_placed.0 (map length lists) (table_writes count) xs ts as_long behind_placed.1

  -- THE BODY IS SOUND
  parts_kept : list_all (is_part units b.next_segment) kept ≡ true
  parts_kept = parts_settled units b.next_segment os xs (ap (list_all (is_part units b.next_segment)) x.even ∙ says.parts) (lists_lie units behind_placed.0 lists xs each_list (all_back units xs ts lie.1).0 lists_placed)

  moved : apart overlap ((flat_map extents_of (entries_of os) ++ xs) ++ (extents_in place ++ ts)) ≡ true
  moved = moved_apart (flat_map extents_of (entries_of os)) xs ts place (ap (λ (es : List Entry). apart overlap (flat_map extents_of es ++ extents)) x.even ∙ places_in units b extents there.1)

  free : AreFree (entries_of os) xs kept
  free = settled_free os xs (apart_front (flat_map extents_of (entries_of os) ++ xs) (extents_in place ++ ts) moved)

  has : HasTable units (length entries') ts
  has = subst (λ k. HasTable units k ts) (sym many) (has_table units table_placed.0 count ts x.few table_placed.1 (all_back units xs ts lie.1).1)

  sound_next : IsBody units body
  sound_next = next_sound units b next (ids_in place) entries' ts x.is x.generation (ids_below b place x.ids) x.some x.most (omega (arith, many, x.few))
      (parts_replaced units from n b kept new place (named b) says.next_segment x.sized first_placed lie.0 parts_kept)
      (ids_replaced units from n b kept place parts_kept (ids_settled os xs ∙ ap (apart same_segment) x.even ∙ says.ids)) has
      (apart_replaced units from n b kept place ts (apart_turned (extents_in place ++ ts) (flat_map extents_of (entries_of os) ++ xs) (flat_map extents_of kept) moved free.missed free.apart))

  -- what is written behind the segment
  abbrev behind : List Claim
  behind = laid_in (xs ++ ts) (lists ++ table_bytes entries')

  behind_laid : AreLaid (xs ++ ts) behind
  behind_laid = laid_all units behind_placed.0 (lists ++ table_bytes entries') (xs ++ ts) (subst (λ ns. PlacedAs units behind_placed.0 ns (xs ++ ts)) (sym (long_with lists entries' count many)) behind_placed.1)

  pub behind_inside : Each (IsInside size) behind
  behind_inside = laid_inside units size (units_room size) (xs ++ ts) behind lie.1 behind_laid

  pub behind_apart : AreApart behind
  behind_apart = laid_apart (xs ++ ts) behind behind_laid (apart_back (extents_in place) (xs ++ ts) own_apart)

  pub behind_missed : (c : Claim) → AreLaid (extents_in place) (c ∷ []) → IsUntouched (places behind) c
  behind_missed c lies = (laid_missed (extents_in place) (xs ++ ts) (c ∷ []) behind lies behind_laid own_apart).0

  listed_two : behind ≡ laid_in xs lists ++ laid_in ts (table_bytes entries')
  listed_two = laid_two xs ts lists (table_bytes entries') x.before

  -- the claim of the table is among it
  table_there : Each (λ c. IsAmong c behind) (table_claims body)
  table_there = subst (λ cs. Each (λ c. IsAmong c cs) (table_claims body)) (sym listed_two)
      (each_weaker (λ c. IsAmong c (laid_in ts (table_bytes entries'))) (λ c. IsAmong c (laid_in xs lists ++ laid_in ts (table_bytes entries'))) (λ c is. among_back c (laid_in xs lists) (laid_in ts (table_bytes entries')) is) (table_claims body)
      (table_among b next (ids_in place) entries' ts units table_placed.0 (subst (λ k. PlacedAs units table_placed.0 (table_writes k) ts) (sym many) table_placed.1)))

  module _ (p : Plan) (plan : IsPlanOf body os opened p) where
    -- IT IS A PLAN
    pub next_plan : IsPlan size b os p
    next_plan = record {
      generation = x.generation;
      later = ap (λ (y : Body). y.generation) plan.manifest_is;
      version = ap (λ (y : Body). y.version) plan.manifest_is;
      sound = subst (IsBody units) (sym plan.manifest_is) sound_next;
      body_is = plan.body_is;
      table = subst (λ (y : Body). y.table.bytes ≡ 40 * length y.entries) (sym plan.manifest_is) (table_long units (table_size body) body.table (says_sound units body sound_next.sound).table);
      fits = plan.fits;
      opened = ap entries_of plan.opened_is ∙ entries_are ∙ ap (λ (y : Body). y.entries) (sym plan.manifest_is);
      grown = subst (All IsGrown) (sym plan.opened_is) (all_replaced from n (settled_in os xs) IsGrown fresh (settled_grown os xs x.grown) x.fresh_grown);
    }

    -- the table is promised by whoever promises what is behind the segment
    pub next_tabled : PromisesTable (λ c. IsAmong c behind) p
    next_tabled = subst (λ (y : Body). Each (λ c. IsAmong c behind × IsBehind c) (table_claims y)) (sym plan.manifest_is)
        (each_weaker (λ c. IsAmong c behind) (λ c. IsAmong c behind × IsBehind c) (λ c is. (is, (of_among (IsInside size) c behind is behind_inside).0)) (table_claims body) table_there)

    -- with the bytes of the segment, any of its length
    module _ (segs : List (List ℕ)) (long : map length segs ≡ lengths_in new) where
      abbrev laid : List Claim
      laid = laid_in (extents_in place) segs

      abbrev written : List Claim
      written = laid ++ behind

      all_laid : AreLaid extents written
      all_laid = laid_append (extents_in place) (xs ++ ts) laid behind (laid_all units (named b) segs (extents_in place) (subst (λ ns. PlacedAs units (named b) ns (extents_in place)) (sym long) first_placed)) behind_laid

      all_inside : Each (IsInside size) written
      all_inside = laid_inside units size (units_room size) extents written there.0 all_laid

      pub next_place : Each (IsInside size) written × AreApart written
      next_place = (all_inside, laid_apart extents written all_laid own_apart)

      -- it goes on with what is open
      pub next_goes_on : GoesOn (places written) b os p
      next_goes_on = record {
        ids = subst (λ (y : Body). b.next_segment ≤ y.next_segment) (sym plan.manifest_is) (omega arith);
        taken = subst (AreTaken b.next_segment os) (sym plan.opened_is) (taken_replaced b.next_segment os from n fresh (settled_in os xs) (taken_new b os place fresh x.entries) (taken_settled b.next_segment os xs));
        missed = λ claims are. laid_missed (named b) extents claims written are all_laid there.1;
      }

      -- IT TAKES OVER what the entries stand for, by what those with new lists and the new one do
      pub next_goes : (stored mid made : List Stored) → AreEntries b.entries stored → AreEntries kept mid → AreOpenOf (settled_in os xs) mid → Each (λ c. IsAmong c (claims_of b.entries stored) ⊎ IsAmong c (laid_in xs lists)) (claims_of kept mid)
          → AreEntries (entry_in b place) made → AreOpenOf fresh made → Each (λ c. IsAmong c laid) (claims_of (entry_in b place) made)
          → GoesTo (places written) (λ c. IsAmong c written) os p (record { body = b; stored = stored }) (record { body = body; stored = replaced from n made mid })
      next_goes stored mid made old are stand listed new_are new_open new_laid = record {
        body = sym plan.manifest_is;
        entries = entries_replaced from n (entry_in b place) made kept mid are new_are;
        opened = subst (λ us. AreOpenOf us (replaced from n made mid)) (sym plan.opened_is) (open_replaced from n (settled_in os xs) mid stand fresh made new_open);
        next = λ s. record {
          untouched = next_untouched s size (places written) claims (laid_inside units size (units_room size) (named b) claims (extents_of_disk units b x.is).1 was) (laid_missed (named b) extents claims written was all_laid there.1);
          among = each_append Goes (table_claims body) (claims_of entries' (replaced from n made mid))
              (each_weaker (λ c. IsAmong c behind) Goes (λ c is. fresh_claim c (among_back c laid behind is)) (table_claims body) table_there)
              (each_weaker (λ c. IsAmong c (claims_of kept mid) ⊎ IsAmong c laid) Goes (λ c either. ⊎_elim
              (λ there'. kept_claim c (of_among (λ k. IsAmong k (claims_of b.entries stored) ⊎ IsAmong k (laid_in xs lists)) c (claims_of kept mid) there' listed))
              (λ made'. fresh_claim c (among_front c laid behind made')) either)
              (claims_of entries' (replaced from n made mid))
              (claims_replaced from n (entry_in b place) made kept mid are new_are laid
              (each_weaker (λ c. IsAmong c laid) (λ c. IsAmong c (claims_of kept mid) ⊎ IsAmong c laid) (λ c is. inr is) (claims_of (entry_in b place) made) new_laid)));
        };
      }
        where
          claims : List Claim
          claims = all_claims (record { body = b; stored = stored })

          was : AreLaid (named b) claims
          was = all_laid_in units b stored says old

          Goes : Claim → Type 0
          Goes c = IsAmong c claims ⊎ (IsAmong c written × IsBehind c)

          fresh_claim : (c : Claim) → IsAmong c written → Goes c
          fresh_claim c is = inr (is, (of_among (IsInside size) c written is all_inside).0)

          kept_claim : (c : Claim) → IsAmong c (claims_of b.entries stored) ⊎ IsAmong c (laid_in xs lists) → Goes c
          kept_claim c (inl old') = inl (among_back c (table_claims b) (claims_of b.entries stored) old')
          kept_claim c (inr is) = fresh_claim c (among_back c laid behind (subst (IsAmong c) (sym listed_two) (among_front c (laid_in xs lists) (laid_in ts (table_bytes entries')) is)))

-- ---- the segment of documents

-- documents that fit
pub new_fits : (docs : List Doc) (new : Option NewSegment) → IsNewOf docs new → (lengths_in new ≡ segment_writes docs) × (is_too_large docs ≡ false)
new_fits docs None is = (ap segment_writes (sym is), ap is_too_large is)
new_fits [] (Some new) is = absurd (omega (arith, is.are.some))
new_fits (d ∷ docs) (Some new) is = (
  ap (λ n. n ∷ []) is.long,
  or_from (nat_lt max_segment_bytes (segment_length (d ∷ docs) written_kind)) false (le-ltb max_segment_bytes (segment_length (d ∷ docs) written_kind) (omega (arith, is.long, is.fits))) refl,
)

pub docs_long : (docs : List Doc) → map length (new_segments docs) ≡ segment_writes docs
docs_long [] = refl
docs_long (d ∷ docs) = ap (λ n. n ∷ []) (length_segment (d ∷ docs) written_kind)

-- what its entry stands for
abbrev pub stored_new : List Doc → Option Extent → List Stored
stored_new docs None = []
stored_new docs (Some e) = new_stored docs ∷ []

-- the claim of the segment of some documents, in an extent
laid_segment : (docs : List Doc) (e : Extent) → 0 < length docs → IsAmong (record { at = start_of e; bytes = segment_spelling docs written_kind }) (laid_in (e ∷ []) (new_segments docs))
laid_segment [] e some = absurd (omega (arith, some))
laid_segment (d ∷ docs) e some = inl refl

pub entries_new : (b : Body) (units : ℕ) (taken : List Extent) (docs : List Doc) (new : Option NewSegment) (place : Option Extent) → IsNewOf docs new → PlacedAs units taken (lengths_in new) (extents_in place)
    → AreEntries (entry_in b place) (stored_new docs place) × Each (λ c. IsAmong c (laid_in (extents_in place) (new_segments docs))) (claims_of (entry_in b place) (stored_new docs place))
entries_new b units taken docs None None is placed = (tt, tt)
entries_new b units taken docs None (Some e) is placed = absurd placed
entries_new b units taken docs (Some new) None is placed = absurd placed
entries_new b units taken docs (Some new) (Some e) is placed =
    ((record { segment = record { kind = written_is_kind; are = is.are; fits = omega (arith, is.long, is.fits); long = placed.0.long ∙ is.long }; list = refl }, tt), (laid_segment docs e is.are.some, tt))

-- it has some bytes, and no more than a segment may have
pub sized_of : (docs : List Doc) (new : Option NewSegment) → IsNewOf docs new → IsSized new
sized_of docs None is = tt
sized_of docs (Some new) is = (omega (arith, is.long, parts_of docs written_kind), is.fits)

pub posting_none : IsPosting []
posting_none = record { rising = λ i within. absurd (omega (arith, within)); below = λ i within. absurd (omega (arith, within)); short = omega arith }

-- open without a list, some of its documents being deleted
pub open_new : (docs : List Doc) (new : NewSegment) (o : OpenSegment) → IsSegmentTo docs new → o.segment ≡ new.segment → o.dead ≡ [] → Names o.deleted docs → IsPosting o.deleted → IsOpenOf o (new_stored docs)
open_new docs new o is same none names posting = record {
  segment = subst (λ (s : Segment). IsSegmentOf s docs) (sym same) is.opened.segment;
  dictionary = λ two. subst (λ (s : Segment). dictionary_of s ≡ dictionary_place docs) (sym same) is.opened.dictionary;
  dead = none;
  kept = λ n h. absurd (let no : false ≡ true = h in cc);
  names = names;
  posting = posting;
  was = subst IsPosting (sym none) posting_none;
}

-- ---- as it is planned

pub opened_entries : (b : Body) (s : Option NextSegment) (place : Option Extent) → length (extents_in place) ≡ length (lengths_in (new_in s)) → entries_of (opened_new b s place) ≡ entry_in b place
opened_entries b None None same = refl
opened_entries b None (Some e) same = absurd (omega (arith, same))
opened_entries b (Some s) None same = absurd (omega (arith, same))
opened_entries b (Some s) (Some e) same = refl

pub opened_grown : (b : Body) (s : Option NextSegment) (place : Option Extent) → All IsGrown (opened_new b s place)
opened_grown b None place = All-nil IsGrown
opened_grown b (Some s) None = All-nil IsGrown
opened_grown b (Some s) (Some e) = All-cons IsGrown (record { entry = new_entry b e; segment = s.new.segment; dead = []; deleted = s.deleted }) [] (omega arith) (All-nil IsGrown)

pub plan_made : (b b' : Body) (os next : List OpenSegment) (c : Change) (p : Plan) → b ≡ b' → Fits c (length os) → changed c os ≡ next → PutsInForce b c p → IsPlanOf b' os next p
plan_made b b' os next c p body fits opened is = record {
  manifest_is = is.manifest_is ∙ body;
  opened_is = ap (λ x. changed x os) is.change_is ∙ opened;
  fits = subst (λ x. Fits x (length os)) (sym is.change_is) fits;
  body_is = is.body_is;
}

-- as many extents as lengths
pub next_many : (b : Body) (x : Next) (es : List Extent) → PlacedAs b.units (named b) (lengths_next b x) es → length es ≡ length (lengths_in (new_in x.segment)) + (length (lists_in x) + length (table_writes (count_merged b x.run.count (new_in x.segment))))
next_many b x es placed =
    let tables = table_writes (count_merged b x.run.count (new_in x.segment)) in
    omega (arith, placed_long b.units (named b) (lengths_next b x) es placed, length-append (lengths_in (new_in x.segment)) (map length (lists_in x) ++ tables), length-append (map length (lists_in x)) tables, length-map (lists_in x) length)

-- each is at least 1
pub next_some : (b : Body) (x : Next) → CanFollow b x → All (λ (n : ℕ). 1 ≤ n) (lengths_next b x)
next_some b x follows = All-from_recursion (λ (n : ℕ). 1 ≤ n) (lengths_next b x)
    (some_front (new_in x.segment) (lengths_with (lists_in x) (count_merged b x.run.count (new_in x.segment))) follows.sized
    (some_behind (map length (lists_in x)) (count_merged b x.run.count (new_in x.segment)) (some_bytes (lists_in x) (recursion_from_All (λ (w : List ℕ). (5 ≤ length w) × (length w ≤ segment_limit)) (lists_in x) follows.lists))))
