-- Where a walk through the words of inputs has come.
use Rattle.std.proofs.Common.{◌≡◌, ◌∙◌, ◌+◌, ◌≤◌, ◌++◌, ℕ, zero, suc, List, [], ◌∷◌, Some, refl, sym, ap, subst, arith}
use Rattle.std.specs.Prelude.{All, slice_get}
use Rattle.std.proofs.lemmas.List.Elements.{All-cons, All-head, All-tail}
use Rattle.pk_disk.specs.Units.{start_of}
use Rattle.pk_disk.specs.declared.units.Extent.{Extent}
use Rattle.pk_model.specs.Terms.{terms_of}
use Rattle.pk_state.specs.Committed.{Stored, live_in}
use Rattle.pk_join.specs.declared.input.MergeInput.{MergeInput}
use Rattle.pk_join.specs.declared.walk.Walk.{Walk}
use Rattle.pk_join.specs.Inputs.{HasSameBytes, LiesInside, SpellsInputs}
use Rattle.pk_join.specs.Walk.{GoesTo, HasCome, IsAtStart, IsSameWalk, WalksWithin, walk_lists, walk_numbers, walk_room, walk_word}
use Rattle.pk_join.specs.WalkInput.{HaveExtentsOf, Holds, IsWithin, extents_of, lists_of, passed_of, word_in, words_of}
use Rattle.pk_join.specs.Walking.{AreListed, CanHold, HasPassedAt, Walks}
use Rattle.pk_join.specs.declared.walk_input.Input.{Input}
use Rattle.pk_segment.specs.Indexed.{list_with}
use Rattle.pk_join.proofs.AheadLemmas.{hold_same, hold_start, passed_zero}
use Rattle.pk_join.proofs.StandLemmas.{all_stay}
use Rattle.pk_join.proofs.TermWalkLemmas.{walks_start}
use Rattle.pk_segment.specs.Spelling.{SegmentSpells}

-- before the first word all terms are to come
pub come_start : (bytes : List ℕ) (inputs : List MergeInput) (stored : List Stored) (walk : Walk)
    → HaveExtentsOf inputs walk.inputs.items → SpellsInputs bytes inputs stored
    → AreListed inputs (walk_lists walk) stored
    → CanHold stored (walk_room walk) → IsAtStart walk
    → HasCome bytes inputs stored walk [] (terms_of (live_in stored))
come_start bytes inputs stored walk extents spells listed can start = record {
  extents = extents;
  spells = spells;
  listed = listed;
  can = can;
  walks = walks_start (passed_of walk.inputs.items) stored (passed_zero walk.inputs.items start);
  hold = hold_start bytes walk.inputs.items start;
}

-- what has the same bytes spells the same
pub spells_same : (bytes bytes' : List ℕ) (inputs : List MergeInput) (stored : List Stored)
    → All (HasSameBytes bytes bytes') inputs → SpellsInputs bytes inputs stored
    → SpellsInputs bytes' inputs stored
spells_same bytes bytes' [] [] same spells = tt
spells_same bytes bytes' [] (s ∷ stored) same spells = absurd spells
spells_same bytes bytes' (i ∷ is) [] same spells = absurd spells
spells_same bytes bytes' (i ∷ is) (s ∷ stored) same spells = (
  record {
    segment = subst (λ (l : List ℕ). SegmentSpells l s.documents i.kind)
        (sym (All-head (HasSameBytes bytes bytes') i is same)) spells.0.segment;
    dead = spells.0.dead;
  },
  spells_same bytes bytes' is stored (All-tail (HasSameBytes bytes bytes') i is same) spells.1,
)

-- on a disk where the inputs have the same bytes it has come as far
pub come_stays : (bytes bytes' : List ℕ) (inputs : List MergeInput) (stored : List Stored) (walk : Walk)
    (xs ys : List (List ℕ)) → All (HasSameBytes bytes bytes') inputs → HasCome bytes inputs stored walk xs ys
    → HasCome bytes' inputs stored walk xs ys
come_stays bytes bytes' inputs stored walk xs ys same come = record {
  extents = come.extents;
  spells = spells_same bytes bytes' inputs stored same come.spells;
  listed = come.listed;
  can = come.can;
  walks = come.walks;
  hold = hold_same bytes bytes' inputs walk.inputs.items come.extents same come.hold;
}

-- ---- the walk is through the same inputs

pub same_walk_none : (walk : Walk) → IsSameWalk walk walk
same_walk_none walk = record { lists = refl; extents = refl; room = refl }

pub same_walk_then : (a b c : Walk) → IsSameWalk a b → IsSameWalk b c → IsSameWalk a c
same_walk_then a b c one two = record {
  lists = two.lists ∙ one.lists;
  extents = two.extents ∙ one.extents;
  room = two.room ∙ one.room;
}

-- they lie where those lie that are given
pub within_given : (size : ℕ) (given : List MergeInput) (is : List Input) → HaveExtentsOf given is
    → All (LiesInside size) given → All (IsWithin size) is
within_given size [] [] extents inside = λ k d lt. absurd (omega (arith, lt))
within_given size [] (x ∷ is) extents inside = absurd (cc)
within_given size (m ∷ given) [] extents inside = absurd (cc)
within_given size (m ∷ given) (x ∷ is) extents inside =
    let first : m.extent ≡ x.extent = cc in
    let rest : HaveExtentsOf given is = cc in
    let here = subst (λ (e : Extent). start_of e + e.bytes ≤ size) first
    (All-head (LiesInside size) m given inside) in
    All-cons (IsWithin size) x is here
    (within_given size given is rest (All-tail (LiesInside size) m given inside))

-- and stay there
pub within_same : (size : ℕ) (old new : Walk) → IsSameWalk old new → WalksWithin size old
    → WalksWithin size new
within_same size old new same =
    all_stay (λ (i : Input). i.extent) (λ (e : Extent). start_of e + e.bytes ≤ size) old.inputs.items
    new.inputs.items same.extents

-- ---- the walk has gone to a word

word_is : (is : List Input) (i : ℕ) (w : List ℕ) → slice_get (words_of is) i ≡ Some w → word_in (slice_get is i) ≡ w
word_is [] i w there = absurd (cc)
word_is (x ∷ is) zero w there = cc
word_is (x ∷ is) (suc i) w there = word_is is i w there

pub gone : (bytes : List ℕ) (inputs : List MergeInput) (stored : List Stored) (walk : Walk) (js : List Input)
    (xs ys : List (List ℕ)) → walk.inputs.items ≡ js → HaveExtentsOf inputs js
    → SpellsInputs bytes inputs stored
    → AreListed inputs (lists_of js) stored → CanHold stored (walk_room walk) → All (Holds bytes) js
    → HasPassedAt (words_of js) (passed_of js) stored xs ys (walk_numbers walk) walk.at
    → GoesTo bytes inputs stored walk xs ys
gone bytes inputs stored walk js xs ys same extents spells listed can hold passed =
    let is = passed.passed in
    let e : walk_word walk ≡ passed.word = ap (λ (l : List Input). word_in (slice_get l walk.at)) same
    ∙ word_is js walk.at passed.word passed.there in
    let walks =
    subst (λ (l : List Input). Walks (passed_of l) stored (xs ++ passed.word ∷ []) is.rest)
    (sym same) is.walks in
    record {
      rest = is.rest;
      first = is.first ∙ ap (λ (u : List ℕ). u ∷ is.rest) (sym e);
      numbers = is.numbers_are ∙ ap (λ (u : List ℕ). list_with u (live_in stored)) (sym e);
      come = record {
        extents = extents ∙ ap extents_of (sym same);
        spells = spells;
        listed = subst (λ (l : List Input). AreListed inputs (lists_of l) stored) (sym same) listed;
        can = can;
        walks =
            subst (λ (u : List ℕ). Walks (passed_of walk.inputs.items) stored (xs ++ u ∷ [])
            is.rest) (sym e) walks;
        hold = subst (All (Holds bytes)) (sym same) hold;
      };
    }
