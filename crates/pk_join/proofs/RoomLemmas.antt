-- The memory of cursors: none is refused where there is room for each word.
use Rattle.std.proofs.Common.{◌≡◌, ◌∙◌, inl, inr, ◌<◌, ◌≤◌, ℕ, zero, suc, Bool, true, false, List, [], ◌∷◌, Result, Ok, Err, length, Some, ◌*◌, get_or, slice_index, refl, sym, ap, subst, arith}
use Rattle.std.specs.Prelude.{All, OnOk, vec_capacity}
use Rattle.std.proofs.lemmas.Bool.{cases_lt}
use Rattle.std.proofs.lemmas.List.{length-map}
use Rattle.pk_posting.specs.declared.source.SourceFault.{SourceFault}
use Rattle.pk_posting.specs.declared.source.SourceFault.TheVariants as sources
use Rattle.pk_dict.specs.declared.cursor.TermCursor.{TermCursor}
use Rattle.pk_dict.specs.declared.entry.DictPlace.{DictPlace}
use Rattle.pk_dict.specs.declared.entry.Entry.{Entry}
use Rattle.pk_dict.specs.Cursor.{word_after}
use Rattle.pk_dict.specs.Dictionary.{DictSpells, Item, group_count}
use Rattle.pk_dict.specs.Memory.{HasRoom}
use Rattle.pk_dict.specs.Place.{bytes_at}
use Rattle.pk_dict.specs.Said.{IsSaid, no_entry, nth_word}
use Rattle.pk_dict.proofs.SaidLaw.{item_said, said_before, said_then}
use Rattle.pk_disk.specs.Units.{extent_bytes}
use Rattle.pk_disk.specs.declared.units.Extent.{Extent}
use Rattle.pk_posting.specs.declared.fault.ReadFault.{ReadFault}
use Rattle.pk_posting.specs.declared.fault.ReadFault.TheVariants as read
use Rattle.pk_segment.specs.Reading.{read_of}
use Rattle.pk_join.specs.declared.lists.InputLists.{InputLists}
use Rattle.pk_join.specs.declared.lists.InputLists.TheVariants.{Stored, Indexed}
use Rattle.pk_join.specs.declared.input.MergeInput.{MergeInput}
use Rattle.pk_join.specs.Inputs.{SpellsInputs}
use Rattle.pk_model.specs.Collection.{Doc}
use Rattle.pk_segment.specs.Indexed.{items_of}
use Rattle.pk_segment.specs.Spelling.{SegmentSpells}
use Rattle.pk_segment.proofs.ListingLemmas.{index_of, is_there}
use Rattle.pk_state.specs.Committed.{Stored as Kept}
use Rattle.pk_join.proofs.StandLemmas.{given_at}
use Rattle.pk_join.specs.declared.walk_input.Input.{Input}
use Rattle.pk_join.specs.Counted.{passed_by}
use Rattle.pk_join.specs.Listed.{AreListsOf, ListSource, source_of}
use Rattle.pk_join.specs.Rooms.{HasEnded, HasRoomFor, HaveRoomFor, IsNoRefusal, IsRoomy, IsShort}
use Rattle.pk_join.specs.WalkInput.{HaveExtentsOf, lists_of, passed_of}
use Rattle.pk_join.specs.Walking.{AreListed, stored_at, to_come, total_at}

-- ---- one cursor

-- the word of it is short
abbrev ShortIn : ℕ → Result (List ℕ × Entry × ℕ) SourceFault → Type 0
ShortIn most (Ok t) = length t.0 ≤ most
ShortIn most (Err f) = ⊥

-- where there is room for each word, memory is not refused for the next
pub none_refused : (bytes : List ℕ) (c : TermCursor) → HasRoomFor bytes c → IsSaid bytes c → c.read < c.place.terms
    → ((n : ℕ) → HasRoom n c → length c.word.items ≤ n → (t : List ℕ × Entry × ℕ) → word_after bytes c ≡ Ok t
    → n < length t.0) → ⊥
none_refused bytes c fit is lt full =
    let now = fit.short c.read (omega (arith, lt)) in
    let next = fit.short (suc c.read) lt in
    let short : length c.word.items ≤ fit.most = subst (ShortIn fit.most) (sym now.said ∙ is.said) now.short in
    let after : word_after bytes c ≡ Ok next.item =
    sym (said_then bytes (group_count c.place.terms) c.read (c.word.items, c.entry, c.at) (word_after bytes c) is.said refl)
    ∙ next.said in
    let more = full fit.most fit.room short next.item after in
    absurd (omega (arith, more, next.short))

-- so the fault is another one
pub no_refusal : (f : ReadFault) → (f ≡ read.Memory → ⊥) → IsNoRefusal f
no_refusal read.Damaged h = tt
no_refusal read.Disk h = tt
no_refusal read.Memory h = absurd (h refl)

-- it keeps its room
pub roomy_on : (bytes : List ℕ) (old new : TermCursor) → HasRoomFor bytes old → new.place ≡ old.place
    → ((n : ℕ) → HasRoom n old → HasRoom n new) → HasRoomFor bytes new
roomy_on bytes old new fit place keeps = record {
  most = fit.most;
  room = keeps fit.most fit.room;
  short = subst (λ (p : DictPlace). (n : ℕ) → n ≤ p.terms → IsShort bytes (group_count p.terms) fit.most n)
      (sym place) fit.short;
}

-- behind its last word, with room for the longest, it has room for each
pub roomy_again : (bytes : List ℕ) (old new : TermCursor) → IsSaid bytes old → old.place.terms ≤ old.read
    → new.place ≡ old.place → HasRoom (vec_capacity old.word) new → HasRoomFor bytes new
roomy_again bytes old new is ended place room = record {
  most = vec_capacity old.word;
  room = room;
  short = subst (λ (p : DictPlace). (n : ℕ) → n ≤ p.terms → IsShort bytes (group_count p.terms) (vec_capacity old.word) n)
      (sym place) (λ n le.
      let G = group_count old.place.terms in
      let one = said_before bytes G n old.read (old.word.items, old.entry, old.at) (omega (arith, le, ended)) is.said in
      record { item = one.0; said = one.1; short = is.room n one.0 (omega (arith, le, ended)) one.1 });
}

-- if memory was not refused
pub roomy_result : {E : Type 0} (old new : TermCursor) (bytes : List ℕ) (r : Result (Unit {0}) E)
    → IsSaid (bytes_at bytes old.place) old → old.place.terms ≤ old.read → new.place ≡ old.place
    → OnOk r (HasRoom (vec_capacity old.word) new) → OnOk r (HasRoomFor (bytes_at bytes new.place) new)
roomy_result {E} old new bytes (Ok u) is ended place room =
    subst (λ (p : DictPlace). HasRoomFor (bytes_at bytes p) new) (sym place)
    (roomy_again (bytes_at bytes old.place) old new is ended place room)
roomy_result {E} old new bytes (Err e) is ended place room = tt

-- ---- inputs

-- a fault of a list is another one, too
pub source_refusal : (f : SourceFault) → IsNoRefusal (read_of f)
source_refusal sources.Damaged = tt
source_refusal sources.Disk = tt

-- room is kept where the words are the same
pub roomy_as : (bytes : List ℕ) (x y : Input) → y.extent ≡ x.extent → y.lists ≡ x.lists → IsRoomy bytes x
    → IsRoomy bytes y
roomy_as bytes x y extent lists roomy =
    subst (λ (e : Extent). HaveRoomFor (extent_bytes bytes e) y.lists) (sym extent)
    (subst (λ (l : InputLists). HaveRoomFor (extent_bytes bytes x.extent) l) (sym lists) roomy)

passed_within : (stands : Bool) (read : ℕ) → passed_by stands read ≤ read
passed_within false read = omega arith
passed_within true read = omega arith

-- an input that has passed all has come to all
pub ended_read : (stands : Bool) (read total : ℕ) → total ≤ passed_by stands read → total ≤ read
ended_read stands read total le = omega (arith, le, passed_within stands read)

none_at : (ls : List ListSource) (counts : List ℕ) (n i : ℕ) → to_come ls counts n ≡ 0 → i < n
    → total_at ls i ≤ slice_index counts i
none_at ls counts zero i none lt = absurd (omega (arith, lt))
none_at ls counts (suc n) i none lt = elim (cases_lt i n) [
  | inl less ↦ none_at ls counts n i (omega (arith, none)) less
  | inr more ↦ (
      let same : n ≡ i = omega (arith, lt, more) in
      subst (λ (m : ℕ). total_at ls m ≤ slice_index counts m) same (omega (arith, none)))
]

ends_at : (is : List Input) (k : ℕ) (d : Input) → k < length is
    → total_at (lists_of is) k ≤ slice_index (passed_of is) k → HasEnded (get_or is k d)
ends_at [] k d lt le = absurd (omega (arith, lt))
ends_at (x ∷ is) zero d lt le = le
ends_at (x ∷ is) (suc k) d lt le = ends_at is k d (omega (arith, lt)) le

-- where none is to come, each has passed all
pub all_ended : (is : List Input) → to_come (lists_of is) (passed_of is) (length (lists_of is)) ≡ 0 → All HasEnded is
all_ended is none k d lt =
    let long = length-map is (λ (i : Input). source_of i.lists) in
    ends_at is k d lt (none_at (lists_of is) (passed_of is) (length (lists_of is)) k none (omega (arith, lt, long)))

-- ---- other bytes that spell the same

some_same : (x y : Item) → Some x ≡ Some y → x ≡ y
some_same x y is = cc

zero_said : (bytes : List ℕ) (groups most : ℕ) → IsShort bytes groups most 0
unfolding nth_word
zero_said bytes groups most = record { item = ([], no_entry, 4 * groups); said = refl; short = omega (arith) }

-- the words of a dictionary are those of its items, whatever bytes spell them
word_short : (a b : List ℕ) (es : List Item) (groups most n : ℕ) → DictSpells a es → DictSpells b es
    → group_count (length es) ≡ groups → n ≤ length es → IsShort a groups most n → IsShort b groups most n
word_short a b es groups most zero one other count le is = zero_said b groups most
word_short a b es groups most (suc n) one other count le is =
    let lt : n < length es = omega (arith, le) in
    let i = item_said a es n one lt in
    let j = item_said b es n other lt in
    let said_i : nth_word a groups (suc n) ≡ Ok (i.item.term, i.item.entry, i.at) =
    subst (λ (g : ℕ). nth_word a g (suc n) ≡ Ok (i.item.term, i.item.entry, i.at)) count i.said in
    let said_j : nth_word b groups (suc n) ≡ Ok (j.item.term, j.item.entry, j.at) =
    subst (λ (g : ℕ). nth_word b g (suc n) ≡ Ok (j.item.term, j.item.entry, j.at)) count j.said in
    let short : length i.item.term ≤ most = subst (ShortIn most) (sym is.said ∙ said_i) is.short in
    let same = some_same i.item j.item (sym i.got ∙ j.got) in
    record {
      item = (j.item.term, j.item.entry, j.at);
      said = said_j;
      short = subst (λ (e : Item). length e.term ≤ most) same short;
    }

one_roomy : (a b : List ℕ) (l : InputLists) (docs : List Doc) (dead : List ℕ) (kind kind' : ℕ) → SegmentSpells a docs kind
    → SegmentSpells b docs kind' → AreListsOf (source_of l) kind docs dead → AreListsOf (source_of l) kind' docs dead
    → HaveRoomFor a l → HaveRoomFor b l
one_roomy a b (Indexed words marks) docs dead kind kind' one other are also roomy = tt
one_roomy a b (Stored words postings marks) docs dead kind kind' one other are also roomy =
    let there = is_there a docs words.place (index_of a docs (subst (SegmentSpells a docs) are.0 one)) are.1.dictionary in
    let now = is_there b docs words.place (index_of b docs (subst (SegmentSpells b docs) also.0 other)) are.1.dictionary in
    record {
      most = roomy.most;
      room = roomy.room;
      short = λ n le. word_short (bytes_at a words.place) (bytes_at b words.place) (items_of docs)
          (group_count words.place.terms) roomy.most n there.spelled now.spelled (ap group_count there.count)
          (omega (arith, le, there.count)) (roomy.short n le);
    }

-- on each disk where the inputs spell what is stored there is room, if there is on one
pub roomy_there : (a b : List ℕ) (inputs : List MergeInput) (is : List Input) (stored : List Kept) → HaveExtentsOf inputs is
    → AreListed inputs (lists_of is) stored → SpellsInputs a inputs stored → SpellsInputs b inputs stored
    → All (IsRoomy a) is → All (IsRoomy b) is
roomy_there a b inputs is stored extents are one other roomy k d lt =
    let x = get_or is k d in
    let here = given_at a inputs is is stored k d one are extents refl refl lt in
    let there = given_at b inputs is is stored k d other are extents refl refl lt in
    one_roomy (extent_bytes a x.extent) (extent_bytes b x.extent) x.lists (stored_at stored k).documents
    (stored_at stored k).dead here.kind there.kind here.segment there.segment here.lists there.lists (roomy k d lt)
