-- The walk stands before the first word, and all are planned.
use Rattle.std.proofs.Common.{◌≡◌, ◌∙◌, List, ℕ, [], length, sym, ap, subst, arith}
use Rattle.std.specs.Prelude.{All}
use Rattle.std.specs.Global.{Vec}
use Rattle.pk_join.specs.declared.input.MergeInput.{MergeInput}
use Rattle.pk_join.specs.Listed.{ListSource}
use Rattle.pk_join.specs.declared.walk.Walk.{Walk}
use Rattle.pk_join.specs.declared.walk_input.Input.{Input}
use Rattle.pk_join.specs.Inputs.{SpellsInputs}
use Rattle.pk_join.specs.WalkInput.{HaveExtentsOf, Holds, IsBefore, IsWithin, extents_of, lists_of}
use Rattle.pk_join.specs.Walk.{HasCome, IsSameWalk, walk_room}
use Rattle.pk_join.specs.Walking.{AreListed, CanHold}
use Rattle.pk_join.specs.Whole.{PassWhole}
use Rattle.pk_join.proofs.ComeLemmas.{come_start}
use Rattle.pk_model.specs.Terms.{terms_of}
use Rattle.pk_segment.specs.Spelling.{AreDocuments}
use Rattle.pk_state.specs.Committed.{Stored, live_in}
use Rattle.pk_merge.specs.declared.left.Left.{Left}
use Rattle.pk_merge.specs.Keeping.{AreKept}
use Rattle.pk_merge.specs.Lists.{HasGone}
use Rattle.pk_merge.specs.Left.{kept_in}
use Rattle.pk_merge.specs.Prepared.{PreparesOneAs}
use Rattle.pk_merge.proofs.FaultLemmas.{passed_on}
use Rattle.pk_merge.proofs.KeepLemmas.{kept_long, kept_size}
use Rattle.pk_merge.proofs.WholeLemmas.{all_whole}
use Rattle.pk_merge.proofs.preparing.prepare_left.Goals as goal

-- a walk through inputs that were read stands before the first word that they leave
comes : (bytes : List ℕ) (inputs : List MergeInput) (stored : List Stored) (read : Vec Input) (left : Left)
    (walk : Walk) → walk.inputs ≡ read → walk_room walk ≡ length (kept_in left) → All IsBefore read.items
    → SpellsInputs bytes inputs stored → HaveExtentsOf inputs read.items
    → AreListed inputs (lists_of read.items) stored → AreKept bytes (kept_in left) (live_in stored)
    → AreDocuments (live_in stored)
    → HasCome bytes inputs stored walk [] (terms_of (live_in stored))
comes bytes inputs stored read left walk is room before spells extents listed kept are =
    come_start bytes inputs stored walk
    (subst (λ (v : Vec Input). HaveExtentsOf inputs v.items) (sym is) extents) spells
    (subst (λ (v : Vec Input). AreListed inputs (lists_of v.items) stored) (sym is) listed)
    (record {
      are = are;
      fits = omega (arith, kept_size bytes (kept_in left) (live_in stored) kept, left.size, left.fits);
      few = omega (arith, kept_long bytes (kept_in left) (live_in stored) kept, room);
    })
    (subst (λ (v : Vec Input). All IsBefore v.items) (sym is) before)

-- and one that went through them has passed all
gone : (bytes : List ℕ) (inputs : List MergeInput) (stored : List Stored) (old new : Walk) → IsSameWalk old new
    → HasCome bytes inputs stored old [] (terms_of (live_in stored)) → All (Holds bytes) new.inputs.items
    → HasGone bytes inputs stored new
gone bytes inputs stored old new same come hold = record {
  extents = come.extents ∙ sym same.extents;
  spells = come.spells;
  listed = subst (λ (ls : List ListSource). AreListed inputs ls stored) (sym same.lists) come.listed;
  can = subst (CanHold stored) (sym same.room) come.can;
  hold = hold;
}

pub plan_words-requires : goal.plan_words-requires
plan_words-requires g c =
    subst (λ (v : Vec Input). All (IsWithin (length (g.D.Disk.content c.args.disk.now))) v.items)
    (sym c.in_ok-walk.ensures.inputs) c.requires.within

pub returns-in_err-index-clause-prepared : goal.returns-in_err-index-clause-prepared
returns-in_err-index-clause-prepared g c = λ honest inputs stored spells extents listed kept are.
    let walk = c.in_ok-walk.walk in
    let room : walk_room walk ≡ length (kept_in c.args.left) =
    omega (arith, c.args.left.documents.ok, c.len.ensures, c.in_ok-walk.ensures.room) in
    let fault = c.in_err-index.ensures.planned honest inputs stored
    (comes _ inputs stored c.args.read c.args.left walk c.in_ok-walk.ensures.inputs room c.requires.before spells
    extents listed kept are) in
    passed_on (PreparesOneAs (g.D.Disk.content c.args.disk.now) inputs stored)
    c.from_residual-in_err-index.result c.from_residual-in_err-index.ensures.1 fault

pub returns-in_err-prepared-clause-prepared : goal.returns-in_err-prepared-clause-prepared
returns-in_err-prepared-clause-prepared g c = λ honest inputs stored spells extents listed kept are.
    let walk = c.in_ok-walk.walk in
    let room : walk_room walk ≡ length (kept_in c.args.left) =
    omega (arith, c.args.left.documents.ok, c.len.ensures, c.in_ok-walk.ensures.room) in
    let come = comes _ inputs stored c.args.read c.args.left walk c.in_ok-walk.ensures.inputs room
    c.requires.before spells extents listed kept are in
    let same = c.plan_words.ensures.same in
    let fault = c.in_err-prepared.ensures.prepared (g.D.Disk.content c.args.disk.now) inputs stored
    (gone _ inputs stored walk c.plan_words.new.walk same come (c.in_ok-index.ensures.whole.hold honest come.hold)) kept
    (c.in_ok-index.ensures.planned honest inputs stored come) in
    passed_on (PreparesOneAs (g.D.Disk.content c.args.disk.now) inputs stored)
    c.from_residual-in_err-prepared.result c.from_residual-in_err-prepared.ensures.1 fault

pub returns-clause-prepared : goal.returns-clause-prepared
returns-clause-prepared g c = λ honest inputs stored spells extents listed kept are.
    let walk = c.in_ok-walk.walk in
    let room : walk_room walk ≡ length (kept_in c.args.left) =
    omega (arith, c.args.left.documents.ok, c.len.ensures, c.in_ok-walk.ensures.room) in
    let come = comes _ inputs stored c.args.read c.args.left walk c.in_ok-walk.ensures.inputs room
    c.requires.before spells extents listed kept are in
    let same = c.plan_words.ensures.same in
    c.in_ok-prepared.ensures.prepared (g.D.Disk.content c.args.disk.now) inputs stored
    (gone _ inputs stored walk c.plan_words.new.walk same come (c.in_ok-index.ensures.whole.hold honest come.hold)) kept
    (c.in_ok-index.ensures.planned honest inputs stored come)

pub returns-clause-inputs : goal.returns-clause-inputs
returns-clause-inputs g c = λ inputs extents. c.in_ok-prepared.ensures.inputs inputs
    (extents ∙ sym (ap (λ (v : Vec Input). extents_of v.items) c.in_ok-walk.ensures.inputs)
    ∙ sym c.plan_words.ensures.same.extents)

pub returns-clause-whole : goal.returns-clause-whole
returns-clause-whole g c =
    let read = c.args.read in
    let K = g.D.Disk.honest in
    let bytes = g.D.Disk.content c.args.disk.now in
    let is = c.in_ok-walk.ensures.inputs in
    let new = c.plan_words.new.walk.inputs.items in
    let same = c.plan_words.ensures.same in
    all_whole K bytes read.items new c.requires.before (same.lists ∙ ap (λ (v : Vec Input). lists_of v.items) is)
    (same.extents ∙ ap (λ (v : Vec Input). extents_of v.items) is) c.in_ok-index.ensures.ended
    (subst (λ (v : Vec Input). PassWhole K bytes v.items new) is c.in_ok-index.ensures.whole)
